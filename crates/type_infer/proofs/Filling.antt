-- Tables that are filled in an order in which each rule stands behind those that it uses.
use Rattle.std.proofs.Common.{◌≡◌, ◌≢◌, ℕ, zero, suc, ◌+◌, ◌<◌, ◌≤◌, true, List, [], ◌∷◌, length, take, get_or, refl, sym, ap, subst, ◌∙◌, ⊎_elim, arith}
use Rattle.std.proofs.lemmas.List.{take_more}
use Rattle.expr_tree.specs.Scenes.{is_among}
use Rattle.type_infer.specs.Orders.{used_by, IsCallOrder}
use Rattle.type_infer.proofs.Walks.{same_or_not, among_cases, among_single}

-- the first rules of the order are at all greater depths as they are kept
abbrev pub Settled : {A : Type 0} → (ℕ → ℕ → A) → List ℕ → ℕ → (ℕ → A) → Type 0
Settled to order i kept = (r : ℕ) → is_among (take i order) r ≡ true → (n : ℕ) → i ≤ n → to n r ≡ kept r

pub take_all : (us : List ℕ) → take (length us) us ≡ us
take_all [] = refl
take_all (u ∷ us) = ap (λ zs. u ∷ zs) (take_all us)

pub take_whole : (us : List ℕ) (i : ℕ) → i ≡ length us → take i us ≡ us
take_whole us i e = subst (λ z. take z us ≡ us) (sym e) (take_all us)

module _ {A : Type 0} (uses : List (List ℕ)) (order : List ℕ) (is : IsCallOrder uses order) (to : ℕ → ℕ → A) (one : (ℕ → A) → ℕ → A)
    (deeper : (n r : ℕ) → to (suc n) r ≡ one (to n) r)
    (by_used : (c d : ℕ → A) (r : ℕ) → ((u : ℕ) → is_among (used_by uses r) u ≡ true → c u ≡ d u) → one c r ≡ one d r) where
  at_depth : (kept : ℕ → A) (i d r : ℕ) → i < length order → get_or order i d ≡ r → Settled to order i kept → (n : ℕ) → i + 1 ≤ n → to n r ≡ one kept r
  at_depth kept i d r h e s zero le = absurd (omega arith)
  at_depth kept i d r h e s (suc n) le =
      deeper n r ∙ by_used (to n) kept r (λ u used. s u (is.behind i d u h (subst (λ z. is_among (used_by uses z) u ≡ true) (sym e) used)) n (omega (arith, le)))

  -- the next rule is kept, the others stay
  pub settled_more : (kept new : ℕ → A) (i d r : ℕ) → i < length order → get_or order i d ≡ r → Settled to order i kept → new r ≡ one kept r
      → ((q : ℕ) → q ≢ r → new q ≡ kept q) → Settled to order (i + 1) new
  settled_more kept new i d r h e s here others q among n le = ⊎_elim
      (λ same. subst (λ z. to n z ≡ new z) (sym same) (at_depth kept i d r h e s n le ∙ sym here))
      (λ other. ⊎_elim (λ before. s q before n (omega (arith, le)) ∙ sym (others q other))
      (λ last. absurd (other (sym (sym e ∙ among_single (get_or order i d) q last))))
      (among_cases (take i order) (get_or order i d ∷ []) q (subst (λ z. is_among z q ≡ true) (take_more order i d h) among)))
      (same_or_not q r)

  pub settled_all : (kept : ℕ → A) (i : ℕ) → i ≡ length order → Settled to order i kept → (r : ℕ) → r < length uses → to (length uses) r ≡ kept r
  settled_all kept i last s r h =
      s r (subst (λ z. is_among z r ≡ true) (sym (take_whole order i last)) (is.each r h)) (length uses) (omega (arith, is.few, last))
