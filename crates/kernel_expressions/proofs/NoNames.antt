-- No expression begins with a parenthesis, a name and a comma.
use Rattle.std.proofs.Common.{◌≡◌, ◌≤◌, ◌<◌, ℕ, Bool, true, false, List, [], ◌∷◌, ◌++◌, ap, sym, refl, ◌∙◌, append_assoc, arith, bytes_eq, codes}
use Rattle.std.proofs.lemmas.Bool.{false≢true}
use Rattle.kernel_grammar.specs.declared.step.Extreme.TheVariants.{Min, Max}
use Rattle.kernel_grammar.specs.declared.step.Prefix.TheVariants as prefix
use Rattle.kernel_grammar.specs.Lexicals.{Lexical, word, number, sign, line_end, key, mark}
use Rattle.kernel_grammar.specs.Words.{Name}
use Rattle.kernel_grammar.specs.Trees.{Atom, digits, multiple, named, indexed, called, called_at, sum, product, extreme, extreme_over, cast, choice, grouped}
use Rattle.kernel_grammar.specs.Spelling.{atom_text, or_text}
use Rattle.kernel_expressions.specs.Tails.{IsText, Link, applied, shifted, tail_text, Extends}
use Rattle.kernel_expressions.proofs.Tails.{HeadOf, of_atom, of_prefix, head_of}
use Rattle.kernel_expressions.proofs.Closings.{no_close}
use Rattle.kernel_expressions.proofs.Starts.{name_start}
use Rattle.kernel_expressions.specs.Follows.{start}

same_start : (x y : Lexical) (xs ys : List Lexical) → x ∷ xs ≡ y ∷ ys → start x ≡ start y
same_start x y xs ys e = let same : x ≡ y = cc in ap start same

same_rest : (x y : Lexical) (xs ys : List Lexical) → x ∷ xs ≡ y ∷ ys → xs ≡ ys
same_rest x y xs ys e = cc

apart : (x : Lexical) (n m : ℕ) (xs ys : List Lexical) (y : Lexical) → x ∷ xs ≡ y ∷ ys → start x ≡ n → start y ≡ m → (n ≡ m → ⊥) → ⊥
apart x n m xs ys y e h k none = none (sym h ∙ same_start x y xs ys e ∙ k)

comma : Lexical → Bool
comma (word w) = false
comma (number d) = false
comma (sign s) = bytes_eq s (codes ",")
comma line_end = false

no_comma : (x : Lexical) (xs ys : List Lexical) → comma x ≡ false → x ∷ xs ≡ mark "," ∷ ys → ⊥
unfolding comma
no_comma x xs ys h e = let same : x ≡ mark "," = cc in false≢true (sym h ∙ ap comma same)

links_comma : (from to : ℕ) (links : List Link) (u rest : List Lexical) → Extends from to links → tail_text links ++ mark ")" ∷ u ≡ mark "," ∷ rest → ⊥
unfolding comma
links_comma from to [] u rest e k = no_comma (mark ")") u rest refl k
links_comma from to (applied op x v ∷ links) u rest e k = no_close op x (mark ",") e.0 refl (cc)
links_comma from to (shifted true d ∷ links) u rest e k = no_comma (mark "<<") _ rest refl k
links_comma from to (shifted false d ∷ links) u rest e k = no_comma (mark ">>") _ rest refl k

atom_comma : (a : Atom) (from to : ℕ) (links : List Link) (w : Name) (u rest : List Lexical) → Extends from to links → (atom_text a ++ tail_text links) ++ mark ")" ∷ u ≡ word w.word ∷ mark "," ∷ rest → ⊥
unfolding comma
atom_comma (digits d) from to links w u rest e k = cc
atom_comma (multiple d name) from to links w u rest e k = cc
atom_comma (named name) from to links w u rest e k = links_comma from to links u rest e (same_rest _ _ _ _ k)
atom_comma (indexed name places) from to links w u rest e k = no_comma (mark "[") _ rest refl (same_rest _ _ _ _ k)
atom_comma (called name) from to links w u rest e k = no_comma (mark "(") _ rest refl (same_rest _ _ _ _ k)
atom_comma (called_at name places) from to links w u rest e k = no_comma (mark "(") _ rest refl (same_rest _ _ _ _ k)
atom_comma (sum over a) from to links w u rest e k = apart (key "sum") 7 2 _ _ _ k refl (name_start w) (λ z. cc)
atom_comma (product over a) from to links w u rest e k = apart (key "product") 8 2 _ _ _ k refl (name_start w) (λ z. cc)
atom_comma (extreme Min a b) from to links w u rest e k = apart (key "min") 9 2 _ _ _ k refl (name_start w) (λ z. cc)
atom_comma (extreme Max a b) from to links w u rest e k = apart (key "max") 10 2 _ _ _ k refl (name_start w) (λ z. cc)
atom_comma (extreme_over Min name other list a) from to links w u rest e k = apart (key "min") 9 2 _ _ _ k refl (name_start w) (λ z. cc)
atom_comma (extreme_over Max name other list a) from to links w u rest e k = apart (key "max") 10 2 _ _ _ k refl (name_start w) (λ z. cc)
atom_comma (cast kind a) from to links w u rest e k = apart (key "cast") 11 2 _ _ _ k refl (name_start w) (λ z. cc)
atom_comma (choice a b c) from to links w u rest e k = apart (key "if") 12 2 _ _ _ k refl (name_start w) (λ z. cc)
atom_comma (grouped a) from to links w u rest e k = cc

inner_comma : (l : ℕ) (t : List Lexical) (w : Name) (u rest : List Lexical) → HeadOf l t → t ++ mark ")" ∷ u ≡ word w.word ∷ mark "," ∷ rest → ⊥
inner_comma l _ w u rest (of_atom a links e) k = atom_comma a 11 l links w u rest e k
inner_comma l _ w u rest (of_prefix prefix.Not operand links is e) k = apart (key "not") 6 2 _ _ _ k refl (name_start w) (λ z. cc)
inner_comma l _ w u rest (of_prefix prefix.Negate operand links is e) k = cc
inner_comma l _ w u rest (of_prefix prefix.Invert operand links is e) k = cc

group_comma : (a : Atom) (links : List Link) (w : Name) (v rest : List Lexical) → (atom_text a ++ tail_text links) ++ v ≡ mark "(" ∷ word w.word ∷ mark "," ∷ rest → ⊥
group_comma (digits d) links w v rest k = cc
group_comma (multiple d name) links w v rest k = cc
group_comma (named name) links w v rest k = cc
group_comma (indexed name places) links w v rest k = cc
group_comma (called name) links w v rest k = cc
group_comma (called_at name places) links w v rest k = cc
group_comma (sum over a) links w v rest k = cc
group_comma (product over a) links w v rest k = cc
group_comma (extreme Min a b) links w v rest k = cc
group_comma (extreme Max a b) links w v rest k = cc
group_comma (extreme_over Min name other list a) links w v rest k = cc
group_comma (extreme_over Max name other list a) links w v rest k = cc
group_comma (cast kind a) links w v rest k = cc
group_comma (choice a b c) links w v rest k = cc
group_comma (grouped a) links w v rest k = inner_comma 1 (or_text a) w (tail_text links ++ v) rest (head_of 1 (or_text a) (omega arith) (omega arith) (record { tree = a; spelled = refl; means = λ s. absurd s }))
    (sym (append_assoc (or_text a) (mark ")" ∷ tail_text links) v) ∙ ap (λ xs. xs ++ v) (sym (append_assoc (or_text a) (mark ")" ∷ []) (tail_text links))) ∙ same_rest _ _ _ _ k)

head_comma : (l : ℕ) (t : List Lexical) (w : Name) (v rest : List Lexical) → HeadOf l t → t ++ v ≡ mark "(" ∷ word w.word ∷ mark "," ∷ rest → ⊥
head_comma l _ w v rest (of_atom a links e) k = group_comma a links w v rest k
head_comma l _ w v rest (of_prefix prefix.Not operand links is e) k = cc
head_comma l _ w v rest (of_prefix prefix.Negate operand links is e) k = apart (mark "-") 3 5 _ _ _ k refl refl (λ z. cc)
head_comma l _ w v rest (of_prefix prefix.Invert operand links is e) k = apart (mark "~") 4 5 _ _ _ k refl refl (λ z. cc)

-- two names or more in parentheses begin no expression
pub no_names : (l : ℕ) (t : List Lexical) (w : Name) (v rest : List Lexical) → 0 < l → l ≤ 11 → IsText l t → t ++ v ≡ mark "(" ∷ word w.word ∷ mark "," ∷ rest → ⊥
no_names l t w v rest some within h k = head_comma l t w v rest (head_of l t some within h) k
