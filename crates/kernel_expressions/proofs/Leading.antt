-- All that is open can be ended.
use Rattle.std.proofs.Common.{◌≡◌, ◌≤◌, ◌+◌, ℕ, zero, suc, List, [], ◌∷◌, ◌++◌, drop, take, length, codes, ap, sym, refl, ◌∙◌, subst, append_assoc, arith}
use Rattle.std.proofs.lemmas.List.{append-nil, append_cancel_right, take-append-drop}
use Rattle.kernel_grammar.specs.declared.step.Step.{Step}
use Rattle.kernel_grammar.specs.declared.step.Step.TheVariants as step
use Rattle.kernel_grammar.specs.Lexicals.{Lexical, word, mark}
use Rattle.kernel_grammar.specs.Words.{Name}
use Rattle.kernel_grammar.specs.Trees.{Or, or_of, and_of, not_of, cmp_of, bor_of, bxor_of, band_of, shift_of, sum_of, prod_of, unary_of, one, named, extreme}
use Rattle.kernel_grammar.specs.Spelling.{or_text, and_text, not_text, cmp_text, bor_text, bxor_text, band_text, shift_text, sum_text, prod_text, unary_text, extreme_text, in_parentheses}
use Rattle.kernel_grammar.specs.Steps.{joined, sums_steps, or_steps, and_steps, not_steps, cmp_steps, bor_steps, bxor_steps, band_steps, shift_steps, sum_steps, prod_steps, unary_steps}
use Rattle.kernel_expressions.specs.declared.frame.Frame.{Frame}
use Rattle.kernel_expressions.specs.declared.frame.Frame.TheVariants as frame
use Rattle.kernel_expressions.specs.Reads.{Reads, IsItem}
use Rattle.kernel_expressions.specs.Levels.{level, prefix_level, Tree}
use Rattle.kernel_expressions.specs.Frames.{inner_level, made_level, wanted_level, closing, Part}
use Rattle.kernel_expressions.specs.Turns.{IsOpen, IsBehind}
use Rattle.kernel_expressions.specs.Tails.{IsText}
use Rattle.kernel_expressions.specs.Settled.{Begins}
use Rattle.kernel_expressions.specs.Leads.{Begun, Leads}
use Rattle.kernel_expressions.proofs.Join.{behind, nothing}
use Rattle.kernel_expressions.proofs.Trees.{looser, an_atom}

-- a text begins itself, and what begins with a text begins as it does
pub whole : (P : List Lexical → Type 0) (t : List Lexical) → P t → Begins P t
whole P t h = record { more = []; is = subst P (sym (append-nil t)) h }

pub front : (P : List Lexical → Type 0) (t u : List Lexical) → Begins P (t ++ u) → Begins P t
front P t u h = record { more = u ++ h.more; is = subst P (append_assoc t u h.more) h.is }

-- an expression of a level, with its steps and without
of_item : (R S : Type 0) {X : Type 0} (spell : X → List Lexical) (mean : X → List Step) (steps : List Step) (t : List Lexical) → IsItem R spell mean steps t → IsItem ⊥ spell mean [] t × (made : List Step) × IsItem S spell mean made t
of_item R S spell mean steps t h = (record { tree = h.tree; spelled = h.spelled; means = λ s. absurd s }, mean h.tree, record { tree = h.tree; spelled = h.spelled; means = λ s. refl })

pub of_tree : (R S : Type 0) (l : ℕ) (steps : List Step) (t : List Lexical) → Tree R l steps t → IsText l t × (made : List Step) × Tree S l made t
of_tree R S zero steps t h = of_item R S or_text or_steps steps t h
of_tree R S (suc zero) steps t h = of_item R S or_text or_steps steps t h
of_tree R S (suc (suc zero)) steps t h = of_item R S and_text and_steps steps t h
of_tree R S (suc (suc (suc zero))) steps t h = of_item R S not_text not_steps steps t h
of_tree R S (suc (suc (suc (suc zero)))) steps t h = of_item R S cmp_text cmp_steps steps t h
of_tree R S (suc (suc (suc (suc (suc zero))))) steps t h = of_item R S bor_text bor_steps steps t h
of_tree R S (suc (suc (suc (suc (suc (suc zero)))))) steps t h = of_item R S bxor_text bxor_steps steps t h
of_tree R S (suc (suc (suc (suc (suc (suc (suc zero))))))) steps t h = of_item R S band_text band_steps steps t h
of_tree R S (suc (suc (suc (suc (suc (suc (suc (suc zero)))))))) steps t h = of_item R S shift_text shift_steps steps t h
of_tree R S (suc (suc (suc (suc (suc (suc (suc (suc (suc zero))))))))) steps t h = of_item R S sum_text sum_steps steps t h
of_tree R S (suc (suc (suc (suc (suc (suc (suc (suc (suc (suc zero)))))))))) steps t h = of_item R S prod_text prod_steps steps t h
of_tree R S (suc (suc (suc (suc (suc (suc (suc (suc (suc (suc (suc n))))))))))) steps t h = of_item R S unary_text unary_steps steps t h

pub as_text : (S : Type 0) (l : ℕ) (steps : List Step) (t : List Lexical) → Tree S l steps t → IsText l t
as_text S l steps t h = (of_tree S S l steps t h).0

-- a name, which is an expression of each level
abbrev pub some_name : Name
some_name = record { word = codes "x"; free = refl }

abbrev pub some_text : List Lexical
some_text = word (codes "x") ∷ []

abbrev pub some_steps : List Step
some_steps = step.Name (codes "x") ∷ []

-- that name as an expression
abbrev pub some_or : Or
some_or = or_of (and_of (not_of (cmp_of (bor_of (bxor_of (band_of (shift_of (sum_of (prod_of (unary_of (named some_name)))))))))))

pub some_operand : (S : Type 0) → Tree S 11 some_steps some_text
some_operand S = an_atom S (named some_name) some_steps some_text refl (λ s. refl)

pub some_expression : (S : Type 0) → Tree S 1 some_steps some_text
some_expression S = looser S 11 1 some_steps some_text (omega arith) (some_operand S)

-- each open part ends behind its operand
test_ends : (t u : List Lexical) (c d x y : Lexical) → ((((t ++ u ++ c ∷ []) ++ x ∷ []) ++ c ∷ []) ++ x ∷ []) ++ d ∷ [] ≡ (t ++ u) ++ c ∷ x ∷ c ∷ x ∷ d ∷ []
test_ends t u c d x y = simp append_assoc

then_ends : (t : List Lexical) (c d x : Lexical) → ((t ++ c ∷ []) ++ x ∷ []) ++ d ∷ [] ≡ t ++ c ∷ x ∷ d ∷ []
then_ends t c d x = simp append_assoc

first_ends : (k o c d x : Lexical) (t : List Lexical) → k ∷ o ∷ (t ++ c ∷ x ∷ []) ++ d ∷ [] ≡ ((k ∷ o ∷ []) ++ t) ++ c ∷ x ∷ d ∷ []
first_ends k o c d x t = simp append_assoc

pub part_ends : (S : Type 0) (f : Frame) (made : List Step) (t u : List Lexical) → Part S f made t → IsText (inner_level f) u → Begins (IsText (made_level f)) (t ++ u)
part_ends S (frame.Infix op) made t u p h = let k = of_tree ⊥ S (level op + 1) [] u h in whole (IsText (level op)) (t ++ u) (as_text S (level op) _ (t ++ u) (p.ends k.1 u k.2))
part_ends S (frame.Prefix op) made t u p h = let k = of_tree ⊥ S (prefix_level op) [] u h in whole (IsText (prefix_level op)) (t ++ u) (as_text S (prefix_level op) _ (t ++ u) (p.ends k.1 u k.2))
part_ends S frame.Group made t u p h = let k = of_tree ⊥ S 1 [] u h in record { more = mark ")" ∷ []; is = as_text S 11 _ _ (p.ends k.1 u k.2) }
part_ends S (frame.Body last) made t u p h = let k = of_tree ⊥ S 1 [] u h in record { more = mark ")" ∷ []; is = as_text S 11 _ _ (p.ends k.1 u k.2) }
part_ends S (frame.Places name b count) made t u p h = record {
  more = closing b ∷ [];
  is = subst (λ (xs : List Lexical). IsText 11 (t ++ xs ++ closing b ∷ [])) h.spelled (as_text S 11 _ _ (p.ends (one h.tree) (joined (sums_steps (one h.tree))) (λ s. refl)));
}
part_ends S (frame.First which start) made t u p h = record {
  more = mark "," ∷ word (codes "x") ∷ mark ")" ∷ [];
  is = subst (λ (xs : List Lexical). IsText 11 (xs ++ u ++ mark "," ∷ word (codes "x") ∷ mark ")" ∷ [])) (sym p.begins)
      (an_atom ⊥ (extreme which h.tree some_or) [] _ (ap (λ xs. extreme_text which ∷ in_parentheses (xs ++ mark "," ∷ some_text)) h.spelled ∙ first_ends (extreme_text which) (mark "(") (mark ",") (mark ")") (word (codes "x")) u) (λ s. absurd s));
}
part_ends S frame.Test made t u p h = let k = of_tree ⊥ S 1 [] u h in record {
  more = mark "," ∷ word (codes "x") ∷ mark "," ∷ word (codes "x") ∷ mark ")" ∷ [];
  is = subst (IsText 11) (test_ends t u (mark ",") (mark ")") (word (codes "x")) (word (codes "x")))
      (as_text S 11 _ _ (((p.on k.1 u k.2).on some_steps some_text (some_expression S)).ends some_steps some_text (some_expression S)));
}
part_ends S frame.Then made t u p h = let k = of_tree ⊥ S 1 [] u h in record {
  more = mark "," ∷ word (codes "x") ∷ mark ")" ∷ [];
  is = subst (IsText 11) (then_ends (t ++ u) (mark ",") (mark ")") (word (codes "x"))) (as_text S 11 _ _ ((p.on k.1 u k.2).ends some_steps some_text (some_expression S)));
}

all_ends : (t u v more last : List Lexical) → (t ++ ((u ++ v) ++ more)) ++ last ≡ ((t ++ u) ++ v) ++ (more ++ last)
all_ends t u v more last = simp append_assoc

-- With an operand of the level behind it the text begins an expression of the least level.
abbrev pub Awaits : (least wanted : ℕ) → List Lexical → Type 0
Awaits least wanted t = (u : List Lexical) → IsText wanted u → Begins (IsText least) (t ++ u)

awaits_in : (S : Type 0) (least wanted : ℕ) (f : Frame) (made : List Step) (t u : List Lexical) → wanted ≤ made_level f → Awaits least wanted t → Part S f made u → Awaits least (inner_level f) (t ++ u)
awaits_in S least wanted f made t u fits a p = λ v h.
    let k = part_ends S f made u v p h in
    let b = a ((u ++ v) ++ k.more) (looser ⊥ (made_level f) wanted [] ((u ++ v) ++ k.more) fits k.is) in
    record { more = k.more ++ b.more; is = subst (IsText least) (all_ends t u v k.more b.more) b.is }

-- where an operand is wanted
pub awaits : (S : Type 0) (all : List Lexical) (least from : ℕ) (frames : List Frame) (done : List Step) (at : ℕ) → from ≤ length all → IsOpen S all least from frames done at → Reads all from at (Awaits least (wanted_level least frames))
awaits S all least from [] done at within h = subst (λ (m : ℕ). Reads all from m (Awaits least least)) (sym h.at_front) (nothing all from (Awaits least least) within (λ u k. whole (IsText least) u k))
awaits S all least from (f ∷ frames) done at within h = behind all from h.mid at (Awaits least (wanted_level least frames)) (Part S f h.made) (Awaits least (inner_level f))
    (awaits S all least from frames h.before h.mid within h.under) h.part (λ t u a p. awaits_in S least (wanted_level least frames) f h.made t u h.fits a p)

-- where a text behind what is open begins an operand
pub operand_leads : (S : Type 0) (all : List Lexical) (least from l : ℕ) (frames : List Frame) (done : List Step) (at last : ℕ) → from ≤ length all → wanted_level least frames ≤ l → IsOpen S all least from frames done at → Leads all (IsText l) at last
    → Leads all (IsText least) from last
operand_leads S all least from l frames done at last within fits h k = behind all from at last (Awaits least (wanted_level least frames)) (Begins (IsText l)) (Begins (IsText least)) (awaits S all least from frames done at within h) k
    (λ t u a b. front (IsText least) (t ++ u) b.more (subst (Begins (IsText least)) (sym (append_assoc t u b.more)) (a (u ++ b.more) (looser ⊥ l (wanted_level least frames) [] (u ++ b.more) fits b.is))))

-- where an operand is read, and what stands behind it leads on from it
pub behind_leads : (S : Type 0) (all : List Lexical) (least from l m : ℕ) (frames : List Frame) (done : List Step) (at last : ℕ) (Q : List Lexical → Type 0) → from ≤ length all → wanted_level least frames ≤ m → IsBehind S all least from frames l done at
    → Reads all at last Q → ((t u : List Lexical) → IsText l t → Q u → Begins (IsText m) (t ++ u)) → Leads all (IsText least) from last
behind_leads S all least from l m frames done at last Q within fits h k made = operand_leads S all least from m frames h.before h.mid last within fits h.under
    (behind all h.mid at last (Tree S l h.made) Q (Begins (IsText m)) h.operand k (λ t u p q. made t u (as_text S l h.made t p) q))

-- where nothing stands behind the operand
pub here_leads : (S : Type 0) (all : List Lexical) (least from l : ℕ) (frames : List Frame) (done : List Step) (at : ℕ) → from ≤ length all → IsBehind S all least from frames l done at → Leads all (IsText least) from at
here_leads S all least from l frames done at within h = behind_leads S all least from l l frames done at at (λ u. u ≡ []) within h.fits h (nothing all at (λ u. u ≡ []) h.operand.within refl)
    (λ t u p e. subst (λ (xs : List Lexical). Begins (IsText l) (t ++ xs)) (sym e) (subst (Begins (IsText l)) (sym (append-nil t)) (whole (IsText l) t p)))

-- the tokens between two places
cut : (all : List Lexical) (at last : ℕ) → at ≤ last → drop at all ≡ drop at (take last all) ++ drop last all
cut all zero last h = sym (take-append-drop last all)
cut [] (suc at) (suc last) h = refl
cut (x ∷ all) (suc at) (suc last) h = cut all at last (omega (arith, h))
cut all (suc at) zero h = absurd (omega (arith, h))

pub begun_of : (all : List Lexical) (P : List Lexical → Type 0) (at last : ℕ) → Leads all P at last → Begun all P at last
begun_of all P at last h = record {
  on = h.on;
  within = h.within;
  begun = subst (Begins P) (append_cancel_right h.text (drop at (take last all)) (drop last all) (sym h.ahead ∙ cut all at last h.on)) h.is;
}

pub leads_of : (all : List Lexical) (P : List Lexical → Type 0) (at last : ℕ) → Begun all P at last → Leads all P at last
leads_of all P at last h = record { text = drop at (take last all); ahead = cut all at last h.on; on = h.on; within = h.within; is = h.begun }
