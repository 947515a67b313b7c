-- Each expression is an operand with operators behind it.
use Rattle.std.proofs.Common.{◌≡◌, ◌<◌, ◌≤◌, ◌+◌, ℕ, zero, suc, Bool, true, false, List, [], ◌∷◌, ◌++◌, ap, sym, refl, ◌∙◌, subst, append_assoc, arith}
use Rattle.std.proofs.lemmas.List.{append-nil}
use Rattle.kernel_grammar.specs.declared.step.Infix.{Infix}
use Rattle.kernel_grammar.specs.declared.step.Infix.TheVariants as infixed
use Rattle.kernel_grammar.specs.declared.step.Prefix.{Prefix}
use Rattle.kernel_grammar.specs.declared.step.Prefix.TheVariants as prefix
use Rattle.kernel_grammar.specs.Lexicals.{Lexical, number, key, mark}
use Rattle.kernel_grammar.specs.Trees.{Or, or_of, or, And, and_of, and, Not, not_of, not, Cmp, cmp_of, related, unequal, Bor, bor_of, bor, Bxor, bxor_of, bxor, Band, band_of, band, Shift, shift_of, left, right, Sum, sum_of, plus, minus, Prod, prod_of, times, quotient, remainder, Unary, unary_of, negated, inverted, Atom}
use Rattle.kernel_grammar.specs.Spelling.{rel_text, or_text, and_text, not_text, cmp_text, bor_text, bxor_text, band_text, shift_text as shift_production, sum_text, prod_text, unary_text, atom_text}
use Rattle.kernel_grammar.specs.Steps.{relation_of}
use Rattle.kernel_expressions.specs.Levels.{level, first_level, prefix_level, IsInfix}
use Rattle.kernel_expressions.specs.Turns.{shift_text}
use Rattle.kernel_expressions.proofs.Trees.{prefix_text}
use Rattle.kernel_expressions.specs.Tails.{IsText, Link, applied, shifted, tail_text, Extends}

-- links one after the other
pub tail-append : (links more : List Link) → tail_text (links ++ more) ≡ tail_text links ++ tail_text more
tail-append [] more = refl
tail-append (applied op x operand ∷ links) more = ap (λ xs. x ∷ operand ++ xs) (tail-append links more) ∙ sym (append_assoc (x ∷ operand) (tail_text links) (tail_text more))
tail-append (shifted is_left digits ∷ links) more = ap (λ xs. shift_text is_left ∷ number digits ∷ xs) (tail-append links more)

-- a tighter operand has the same links
raise : (from high to : ℕ) (links : List Link) → from ≤ high → Extends from to links → Extends high to links
raise from high to [] h e = omega (arith, h, e)
raise from high to (applied op x operand ∷ links) h e = (e.0, omega (arith, h, e.1), e.2, e.3)
raise from high to (shifted is_left digits ∷ links) h e = (omega (arith, h, e.0), e.1)

pub extends-append : (from mid to : ℕ) (links more : List Link) → Extends from mid links → Extends mid to more → Extends from to (links ++ more)
extends-append from mid to [] more h k = raise mid from to more h k
extends-append from mid to (applied op x operand ∷ links) more h k = (h.0, h.1, h.2, extends-append (level op) mid to links more h.3 k)
extends-append from mid to (shifted is_left digits ∷ links) more h k = (h.0, extends-append 8 mid to links more h.1 k)

-- what an expression begins with
pub data HeadOf : ℕ → List Lexical → Type 0 where
  of_atom : {l : ℕ} (a : Atom) (links : List Link) → Extends 11 l links → HeadOf l (atom_text a ++ tail_text links)
  of_prefix : {l : ℕ} (op : Prefix) (operand : List Lexical) (links : List Link) → IsText (prefix_level op) operand → Extends (prefix_level op) l links → HeadOf l (prefix_text op ∷ operand ++ tail_text links)

-- a head with links behind it
more_links : (l m : ℕ) (more : List Link) (t : List Lexical) → Extends l m more → HeadOf l t → HeadOf m (t ++ tail_text more)
more_links l m more _ e (of_atom a links h) = subst (HeadOf m) (ap (λ xs. atom_text a ++ xs) (tail-append links more) ∙ sym (append_assoc (atom_text a) (tail_text links) (tail_text more))) (of_atom a (links ++ more) (extends-append 11 l m links more h e))
more_links l m more _ e (of_prefix op operand links is h) = subst (HeadOf m) (ap (λ xs. prefix_text op ∷ operand ++ xs) (tail-append links more) ∙ sym (append_assoc (prefix_text op ∷ operand) (tail_text links) (tail_text more)))
    (of_prefix op operand (links ++ more) is (extends-append (prefix_level op) l m links more h e))

looser_head : (l m : ℕ) (t : List Lexical) → m ≤ l → HeadOf l t → HeadOf m t
looser_head l m t h head = subst (HeadOf m) (append-nil t) (more_links l m [] t h head)

with_infix : (l m : ℕ) (op : Infix) (x : Lexical) (t u : List Lexical) → IsInfix op x → first_level op ≤ l → m ≤ level op → IsText (level op + 1) u → HeadOf l t → HeadOf m (t ++ x ∷ u)
with_infix l m op x t u is tight loose operand head = subst (λ xs. HeadOf m (t ++ x ∷ xs)) (append-nil u) (more_links l m (applied op x u ∷ []) t (is, tight, operand, loose) head)

with_shift : (is_left : Bool) (d : List ℕ) (t : List Lexical) → HeadOf 8 t → HeadOf 8 (t ++ shift_text is_left ∷ number d ∷ [])
with_shift is_left d t head = more_links 8 8 (shifted is_left d ∷ []) t (omega arith, omega arith) head

unary_head : (x : Unary) → HeadOf 11 (unary_text x)
unary_head (unary_of a) = subst (HeadOf 11) (append-nil (atom_text a)) (of_atom a [] (omega arith))
unary_head (negated a) = subst (λ xs. HeadOf 11 (mark "-" ∷ xs)) (append-nil (unary_text a)) (of_prefix prefix.Negate (unary_text a) [] (record { tree = a; spelled = refl; means = λ s. absurd s }) (omega arith))
unary_head (inverted a) = subst (λ xs. HeadOf 11 (mark "~" ∷ xs)) (append-nil (unary_text a)) (of_prefix prefix.Invert (unary_text a) [] (record { tree = a; spelled = refl; means = λ s. absurd s }) (omega arith))

prod_head : (x : Prod) → HeadOf 10 (prod_text x)
prod_head (prod_of a) = looser_head 11 10 _ (omega arith) (unary_head a)
prod_head (times a b) = with_infix 10 10 infixed.Multiply (mark "*") _ _ refl (omega arith) (omega arith) (record { tree = b; spelled = refl; means = λ s. absurd s }) (prod_head a)
prod_head (quotient a b) = with_infix 10 10 infixed.Divide (mark "//") _ _ refl (omega arith) (omega arith) (record { tree = b; spelled = refl; means = λ s. absurd s }) (prod_head a)
prod_head (remainder a b) = with_infix 10 10 infixed.Remainder (mark "%") _ _ refl (omega arith) (omega arith) (record { tree = b; spelled = refl; means = λ s. absurd s }) (prod_head a)

sum_head : (x : Sum) → HeadOf 9 (sum_text x)
sum_head (sum_of a) = looser_head 10 9 _ (omega arith) (prod_head a)
sum_head (plus a b) = with_infix 9 9 infixed.Add (mark "+") _ _ refl (omega arith) (omega arith) (record { tree = b; spelled = refl; means = λ s. absurd s }) (sum_head a)
sum_head (minus a b) = with_infix 9 9 infixed.Subtract (mark "-") _ _ refl (omega arith) (omega arith) (record { tree = b; spelled = refl; means = λ s. absurd s }) (sum_head a)

shift_head : (x : Shift) → HeadOf 8 (shift_production x)
shift_head (shift_of a) = looser_head 9 8 _ (omega arith) (sum_head a)
shift_head (left a d) = with_shift true d _ (shift_head a)
shift_head (right a d) = with_shift false d _ (shift_head a)

band_head : (x : Band) → HeadOf 7 (band_text x)
band_head (band_of a) = looser_head 8 7 _ (omega arith) (shift_head a)
band_head (band a b) = with_infix 7 7 infixed.BitAnd (mark "&") _ _ refl (omega arith) (omega arith) (record { tree = b; spelled = refl; means = λ s. absurd s }) (band_head a)

bxor_head : (x : Bxor) → HeadOf 6 (bxor_text x)
bxor_head (bxor_of a) = looser_head 7 6 _ (omega arith) (band_head a)
bxor_head (bxor a b) = with_infix 6 6 infixed.BitXor (mark "^") _ _ refl (omega arith) (omega arith) (record { tree = b; spelled = refl; means = λ s. absurd s }) (bxor_head a)

bor_head : (x : Bor) → HeadOf 5 (bor_text x)
bor_head (bor_of a) = looser_head 6 5 _ (omega arith) (bxor_head a)
bor_head (bor a b) = with_infix 5 5 infixed.BitOr (mark "|") _ _ refl (omega arith) (omega arith) (record { tree = b; spelled = refl; means = λ s. absurd s }) (bor_head a)

cmp_head : (x : Cmp) → HeadOf 4 (cmp_text x)
cmp_head (cmp_of a) = looser_head 5 4 _ (omega arith) (bor_head a)
cmp_head (related a rel b) = with_infix 5 4 (infixed.Compare (relation_of rel)) (rel_text rel) _ _ (record { rel = rel; spelled = refl; means = refl }) (omega arith) (omega arith) (record { tree = b; spelled = refl; means = λ s. absurd s }) (bor_head a)
cmp_head (unequal a b) = with_infix 5 4 infixed.NotEqual (mark "!=") _ _ refl (omega arith) (omega arith) (record { tree = b; spelled = refl; means = λ s. absurd s }) (bor_head a)

not_head : (x : Not) → HeadOf 3 (not_text x)
not_head (not_of a) = looser_head 4 3 _ (omega arith) (cmp_head a)
not_head (not a) = subst (λ xs. HeadOf 3 (key "not" ∷ xs)) (append-nil (not_text a)) (of_prefix prefix.Not (not_text a) [] (record { tree = a; spelled = refl; means = λ s. absurd s }) (omega arith))

and_head : (x : And) → HeadOf 2 (and_text x)
and_head (and_of a) = looser_head 3 2 _ (omega arith) (not_head a)
and_head (and a b) = with_infix 2 2 infixed.And (key "and") _ _ refl (omega arith) (omega arith) (record { tree = b; spelled = refl; means = λ s. absurd s }) (and_head a)

or_head : (x : Or) → HeadOf 1 (or_text x)
or_head (or_of a) = looser_head 2 1 _ (omega arith) (and_head a)
or_head (or a b) = with_infix 1 1 infixed.Or (key "or") _ _ refl (omega arith) (omega arith) (record { tree = b; spelled = refl; means = λ s. absurd s }) (or_head a)

-- an expression of each level begins with an operand
pub head_of : (l : ℕ) (t : List Lexical) → 0 < l → l ≤ 11 → IsText l t → HeadOf l t
head_of zero t some within h = absurd (omega (arith, some))
head_of (suc zero) t some within h = subst (HeadOf 1) h.spelled (or_head h.tree)
head_of (suc (suc zero)) t some within h = subst (HeadOf 2) h.spelled (and_head h.tree)
head_of (suc (suc (suc zero))) t some within h = subst (HeadOf 3) h.spelled (not_head h.tree)
head_of (suc (suc (suc (suc zero)))) t some within h = subst (HeadOf 4) h.spelled (cmp_head h.tree)
head_of (suc (suc (suc (suc (suc zero))))) t some within h = subst (HeadOf 5) h.spelled (bor_head h.tree)
head_of (suc (suc (suc (suc (suc (suc zero)))))) t some within h = subst (HeadOf 6) h.spelled (bxor_head h.tree)
head_of (suc (suc (suc (suc (suc (suc (suc zero))))))) t some within h = subst (HeadOf 7) h.spelled (band_head h.tree)
head_of (suc (suc (suc (suc (suc (suc (suc (suc zero)))))))) t some within h = subst (HeadOf 8) h.spelled (shift_head h.tree)
head_of (suc (suc (suc (suc (suc (suc (suc (suc (suc zero))))))))) t some within h = subst (HeadOf 9) h.spelled (sum_head h.tree)
head_of (suc (suc (suc (suc (suc (suc (suc (suc (suc (suc zero)))))))))) t some within h = subst (HeadOf 10) h.spelled (prod_head h.tree)
head_of (suc (suc (suc (suc (suc (suc (suc (suc (suc (suc (suc zero))))))))))) t some within h = subst (HeadOf 11) h.spelled (unary_head h.tree)
head_of (suc (suc (suc (suc (suc (suc (suc (suc (suc (suc (suc (suc n)))))))))))) t some within h = absurd (omega (arith, within))
