-- Expressions of levels, and what is open in them.
use Rattle.std.proofs.Common.{◌≡◌, ◌≤◌, ◌+◌, ◌-◌, ℕ, Option, zero, suc, List, [], ◌∷◌, ◌++◌, ap, sym, refl, ◌∙◌, subst, append_assoc, arith}
use Rattle.std.proofs.lemmas.List.{append-nil}
use Rattle.kernel_grammar.specs.declared.item.Relation.{Relation}
use Rattle.kernel_grammar.specs.declared.step.Infix.{Infix}
use Rattle.kernel_grammar.specs.declared.step.Infix.TheVariants as infixed
use Rattle.kernel_grammar.specs.declared.step.Prefix.{Prefix}
use Rattle.kernel_grammar.specs.declared.step.Prefix.TheVariants as prefix
use Rattle.kernel_grammar.specs.declared.step.Step.{Step}
use Rattle.kernel_grammar.specs.declared.step.Step.TheVariants as step
use Rattle.kernel_grammar.specs.Lexicals.{Lexical, number, number_in, key, mark}
use Rattle.kernel_grammar.specs.Trees.{or_of, or, and_of, and, not_of, not, cmp_of, related, unequal, bor_of, bor, bxor_of, bxor, band_of, band, Shift, shift_of, left, right, sum_of, plus, minus, prod_of, times, quotient, remainder, unary_of, negated, inverted, Atom, grouped}
use Rattle.kernel_grammar.specs.Spelling.{rel_text, or_text, and_text, not_text, cmp_text, bor_text, bxor_text, band_text, shift_text, sum_text, prod_text, unary_text, atom_text}
use Rattle.kernel_grammar.specs.Steps.{relation_of, or_steps, and_steps, not_steps, cmp_steps, bor_steps, bxor_steps, band_steps, shift_steps, sum_steps, prod_steps, unary_steps, atom_steps}
use Rattle.kernel_expressions.specs.Reads.{IsItem}
use Rattle.kernel_expressions.specs.Levels.{level, first_level, prefix_level, IsRelation, IsInfix, Tree}
use Rattle.kernel_expressions.specs.Frames.{Operates, Closes}

-- a tree as one of a looser production
as_one : (S : Type 0) {X Y : Type 0} (spell : X → List Lexical) (mean : X → List Step) (spell_on : Y → List Lexical) (mean_on : Y → List Step) (make : X → Y)
    → ((x : X) → spell_on (make x) ≡ spell x) → ((x : X) → mean_on (make x) ≡ mean x) → (steps : List Step) (t : List Lexical) → IsItem S spell mean steps t → IsItem S spell_on mean_on steps t
as_one S spell mean spell_on mean_on make same equal steps t h = record {
  tree = make h.tree;
  spelled = same h.tree ∙ h.spelled;
  means = λ s. equal h.tree ∙ h.means s;
}

loosen : (S : Type 0) (l : ℕ) (steps : List Step) (t : List Lexical) → Tree S (suc l) steps t → Tree S l steps t
loosen S zero steps t h = h
loosen S (suc zero) steps t h = as_one S and_text and_steps or_text or_steps or_of (λ x. refl) (λ x. refl) steps t h
loosen S (suc (suc zero)) steps t h = as_one S not_text not_steps and_text and_steps and_of (λ x. refl) (λ x. refl) steps t h
loosen S (suc (suc (suc zero))) steps t h = as_one S cmp_text cmp_steps not_text not_steps not_of (λ x. refl) (λ x. refl) steps t h
loosen S (suc (suc (suc (suc zero)))) steps t h = as_one S bor_text bor_steps cmp_text cmp_steps cmp_of (λ x. refl) (λ x. refl) steps t h
loosen S (suc (suc (suc (suc (suc zero))))) steps t h = as_one S bxor_text bxor_steps bor_text bor_steps bor_of (λ x. refl) (λ x. refl) steps t h
loosen S (suc (suc (suc (suc (suc (suc zero)))))) steps t h = as_one S band_text band_steps bxor_text bxor_steps bxor_of (λ x. refl) (λ x. refl) steps t h
loosen S (suc (suc (suc (suc (suc (suc (suc zero))))))) steps t h = as_one S shift_text shift_steps band_text band_steps band_of (λ x. refl) (λ x. refl) steps t h
loosen S (suc (suc (suc (suc (suc (suc (suc (suc zero)))))))) steps t h = as_one S sum_text sum_steps shift_text shift_steps shift_of (λ x. refl) (λ x. refl) steps t h
loosen S (suc (suc (suc (suc (suc (suc (suc (suc (suc zero))))))))) steps t h = as_one S prod_text prod_steps sum_text sum_steps sum_of (λ x. refl) (λ x. refl) steps t h
loosen S (suc (suc (suc (suc (suc (suc (suc (suc (suc (suc zero)))))))))) steps t h = as_one S unary_text unary_steps prod_text prod_steps prod_of (λ x. refl) (λ x. refl) steps t h
loosen S (suc (suc (suc (suc (suc (suc (suc (suc (suc (suc (suc l))))))))))) steps t h = h

looser_by : (S : Type 0) (n l : ℕ) (steps : List Step) (t : List Lexical) → Tree S (n + l) steps t → Tree S l steps t
looser_by S zero l steps t h = subst (λ (m : ℕ). Tree S m steps t) (omega arith) h
looser_by S (suc n) l steps t h = looser_by S n l steps t (loosen S (n + l) steps t (let e : suc n + l ≡ suc (n + l) = omega arith in subst (λ (m : ℕ). Tree S m steps t) e h))

-- an expression of a level is one of any looser level
pub looser : (S : Type 0) (m l : ℕ) (steps : List Step) (t : List Lexical) → l ≤ m → Tree S m steps t → Tree S l steps t
looser S m l steps t h tree = looser_by S (m - l) l steps t (let e : m ≡ (m - l) + l = omega arith in subst (λ (k : ℕ). Tree S k steps t) e tree)

atom_unary : (S : Type 0) (steps : List Step) (t : List Lexical) → IsItem S atom_text atom_steps steps t → Tree S 11 steps t
atom_unary S steps t h = as_one S atom_text atom_steps unary_text unary_steps unary_of (λ x. refl) (λ x. refl) steps t h

-- an atom by its tree
pub an_atom : (S : Type 0) (x : Atom) (steps : List Step) (t : List Lexical) → atom_text x ≡ t → (S → atom_steps x ≡ steps) → Tree S 11 steps t
an_atom S x steps t spelled means = atom_unary S steps t (record { tree = x; spelled = spelled; means = means })

around_text : (a b t u : List Lexical) (k y : Lexical) → a ≡ t → k ≡ y → b ≡ u → a ++ k ∷ b ≡ (t ++ y ∷ []) ++ u
around_text a b t u k y ea ek eb = ap (λ xs. xs ++ k ∷ b) ea ∙ ap (λ z. t ++ z ∷ b) ek ∙ ap (λ xs. t ++ y ∷ xs) eb ∙ sym (append_assoc t (y ∷ []) u)

of_two : (S : Type 0) {X Y Z : Type 0} (spell_x : X → List Lexical) (mean_x : X → List Step) (spell_y : Y → List Lexical) (mean_y : Y → List Step) (spell_z : Z → List Lexical) (mean_z : Z → List Step)
    (make : X → Y → Z) (k y : Lexical) (last : List Step)
    → ((a : X) (b : Y) → spell_z (make a b) ≡ spell_x a ++ k ∷ spell_y b) → ((a : X) (b : Y) → mean_z (make a b) ≡ mean_x a ++ mean_y b ++ last) → k ≡ y
    → (made : List Step) (t : List Lexical) → IsItem S spell_x mean_x made t → (steps : List Step) (u : List Lexical) → IsItem S spell_y mean_y steps u
    → IsItem S spell_z mean_z (made ++ steps ++ last) ((t ++ y ∷ []) ++ u)
of_two S spell_x mean_x spell_y mean_y spell_z mean_z make k y last spells means e made t a steps u b = record {
  tree = make a.tree b.tree;
  spelled = spells a.tree b.tree ∙ around_text _ _ t u k y a.spelled e b.spelled;
  means = λ s. means a.tree b.tree ∙ ap (λ xs. xs ++ mean_y b.tree ++ last) (a.means s) ∙ ap (λ xs. made ++ xs ++ last) (b.means s);
}

compared : (S : Type 0) (relation : Relation) (y : Lexical) → IsRelation relation y → (made : List Step) (t : List Lexical) → Tree S 5 made t → (steps : List Step) (u : List Lexical) → Tree S 5 steps u
    → Tree S 4 (made ++ steps ++ step.Infix (infixed.Compare relation) ∷ []) ((t ++ y ∷ []) ++ u)
compared S relation y h made t a steps u b = subst (λ (r : Relation). Tree S 4 (made ++ steps ++ step.Infix (infixed.Compare r) ∷ []) ((t ++ y ∷ []) ++ u)) h.means
    (of_two S bor_text bor_steps bor_text bor_steps cmp_text cmp_steps (λ c d. related c h.rel d) (rel_text h.rel) y (step.Infix (infixed.Compare (relation_of h.rel)) ∷ []) (λ c d. refl) (λ c d. refl) h.spelled made t a steps u b)

-- an operator behind its first operand
pub operates : (S : Type 0) (op : Infix) (y : Lexical) → IsInfix op y → (made : List Step) (t : List Lexical) → Tree S (first_level op) made t → Operates S (level op + 1) (level op) (step.Infix op ∷ []) made (t ++ y ∷ [])
operates S infixed.Or y h made t a = record { ends = λ steps u b. of_two S or_text or_steps and_text and_steps or_text or_steps or (key "or") y _ (λ c d. refl) (λ c d. refl) h made t a steps u b }
operates S infixed.And y h made t a = record { ends = λ steps u b. of_two S and_text and_steps not_text not_steps and_text and_steps and (key "and") y _ (λ c d. refl) (λ c d. refl) h made t a steps u b }
operates S (infixed.Compare relation) y h made t a = record { ends = λ steps u b. compared S relation y h made t a steps u b }
operates S infixed.NotEqual y h made t a = record { ends = λ steps u b. of_two S bor_text bor_steps bor_text bor_steps cmp_text cmp_steps unequal (mark "!=") y _ (λ c d. refl) (λ c d. refl) h made t a steps u b }
operates S infixed.BitOr y h made t a = record { ends = λ steps u b. of_two S bor_text bor_steps bxor_text bxor_steps bor_text bor_steps bor (mark "|") y _ (λ c d. refl) (λ c d. refl) h made t a steps u b }
operates S infixed.BitXor y h made t a = record { ends = λ steps u b. of_two S bxor_text bxor_steps band_text band_steps bxor_text bxor_steps bxor (mark "^") y _ (λ c d. refl) (λ c d. refl) h made t a steps u b }
operates S infixed.BitAnd y h made t a = record { ends = λ steps u b. of_two S band_text band_steps shift_text shift_steps band_text band_steps band (mark "&") y _ (λ c d. refl) (λ c d. refl) h made t a steps u b }
operates S infixed.Add y h made t a = record { ends = λ steps u b. of_two S sum_text sum_steps prod_text prod_steps sum_text sum_steps plus (mark "+") y _ (λ c d. refl) (λ c d. refl) h made t a steps u b }
operates S infixed.Subtract y h made t a = record { ends = λ steps u b. of_two S sum_text sum_steps prod_text prod_steps sum_text sum_steps minus (mark "-") y _ (λ c d. refl) (λ c d. refl) h made t a steps u b }
operates S infixed.Multiply y h made t a = record { ends = λ steps u b. of_two S prod_text prod_steps unary_text unary_steps prod_text prod_steps times (mark "*") y _ (λ c d. refl) (λ c d. refl) h made t a steps u b }
operates S infixed.Divide y h made t a = record { ends = λ steps u b. of_two S prod_text prod_steps unary_text unary_steps prod_text prod_steps quotient (mark "//") y _ (λ c d. refl) (λ c d. refl) h made t a steps u b }
operates S infixed.Remainder y h made t a = record { ends = λ steps u b. of_two S prod_text prod_steps unary_text unary_steps prod_text prod_steps remainder (mark "%") y _ (λ c d. refl) (λ c d. refl) h made t a steps u b }
operates S (infixed.Extreme which) y h made t a = absurd h

-- the sign or word of an operator before its operand
abbrev pub prefix_text : Prefix → Lexical
prefix_text prefix.Not = key "not"
prefix_text prefix.Negate = mark "-"
prefix_text prefix.Invert = mark "~"

of_one : (S : Type 0) {X : Type 0} (spell : X → List Lexical) (mean : X → List Step) (make : X → X) (k : Lexical) (last : Step)
    → ((x : X) → spell (make x) ≡ k ∷ spell x) → ((x : X) → mean (make x) ≡ mean x ++ last ∷ []) → (steps : List Step) (t : List Lexical) → IsItem S spell mean steps t
    → IsItem S spell mean ([] ++ steps ++ last ∷ []) ((k ∷ []) ++ t)
of_one S spell mean make k last spells means steps t h = record {
  tree = make h.tree;
  spelled = spells h.tree ∙ ap (λ xs. k ∷ xs) h.spelled;
  means = λ s. means h.tree ∙ ap (λ xs. xs ++ last ∷ []) (h.means s);
}

pub operates_before : (S : Type 0) (op : Prefix) → Operates S (prefix_level op) (prefix_level op) (step.Prefix op ∷ []) [] (prefix_text op ∷ [])
operates_before S prefix.Not = record { ends = λ steps t h. of_one S not_text not_steps not (key "not") (step.Prefix prefix.Not) (λ x. refl) (λ x. refl) steps t h }
operates_before S prefix.Negate = record { ends = λ steps t h. of_one S unary_text unary_steps negated (mark "-") (step.Prefix prefix.Negate) (λ x. refl) (λ x. refl) steps t h }
operates_before S prefix.Invert = record { ends = λ steps t h. of_one S unary_text unary_steps inverted (mark "~") (step.Prefix prefix.Invert) (λ x. refl) (λ x. refl) steps t h }

-- a parenthesis
pub groups : (S : Type 0) → Closes S [] [] (mark "(" ∷ [])
groups S = record { ends = λ steps t h. an_atom S (grouped h.tree) _ _ (ap (λ xs. mark "(" ∷ xs ++ mark ")" ∷ []) h.spelled) (λ s. h.means s ∙ sym (append-nil steps)) }

-- a shift
shifted_by : (S : Type 0) (made : List Step) (t : List Lexical) (d : List ℕ) (k : Lexical) (last : Step) (make : Shift → List ℕ → Shift)
    → ((x : Shift) → shift_text (make x d) ≡ shift_text x ++ k ∷ number d ∷ []) → ((x : Shift) → S → shift_steps (make x d) ≡ shift_steps x ++ last ∷ []) → Tree S 8 made t → Tree S 8 (made ++ last ∷ []) (t ++ k ∷ number d ∷ [])
shifted_by S made t d k last make spells means h = record {
  tree = make h.tree d;
  spelled = spells h.tree ∙ ap (λ xs. xs ++ k ∷ number d ∷ []) h.spelled;
  means = λ s. means h.tree s ∙ ap (λ xs. xs ++ last ∷ []) (h.means s);
}

pub shifted_left : (S : Type 0) (made : List Step) (t : List Lexical) (d : List ℕ) (n : Option ℕ) → n ≡ number_in d → Tree S 8 made t → Tree S 8 (made ++ step.ShiftLeft n ∷ []) (t ++ mark "<<" ∷ number d ∷ [])
shifted_left S made t d n e h = shifted_by S made t d (mark "<<") (step.ShiftLeft n) left (λ x. refl) (λ x s. ap (λ (v : Option ℕ). shift_steps x ++ step.ShiftLeft v ∷ []) (sym e)) h

pub shifted_right : (S : Type 0) (made : List Step) (t : List Lexical) (d : List ℕ) (n : Option ℕ) → n ≡ number_in d → Tree S 8 made t → Tree S 8 (made ++ step.ShiftRight n ∷ []) (t ++ mark ">>" ∷ number d ∷ [])
shifted_right S made t d n e h = shifted_by S made t d (mark ">>") (step.ShiftRight n) right (λ x. refl) (λ x s. ap (λ (v : Option ℕ). shift_steps x ++ step.ShiftRight v ∷ []) (sym e)) h
