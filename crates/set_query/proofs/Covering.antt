-- The cases cover the points at which the variables of some pair differ.
use Rattle.std.specs.Prelude.{◌≡◌, ◌≢◌, ◌↔◌, ℕ, ◌⊎◌, ℤ, pos, ◌+ℤ◌, ◌<ℤ◌, neg_ℤ, List, [], ◌∷◌, ◌++◌, Bool, false, true, cond, nat_lt}
use Rattle.std.proofs.Common.{inl, inr, arith}
use Rattle.std.proofs.lemmas.Int.{ints, by_lt_z}
use Rattle.affine_rows.specs.declared.row.Row.{Row}
use Rattle.affine_rows.specs.declared.row.System.{System}
use Rattle.affine_rows.specs.Rows.{Env, Holds, terms_at}
use Rattle.elimination.specs.Shadows.{Each}
use Rattle.set_query.specs.declared.pair.Differ.TheVariants.{Free, Among}
use Rattle.set_query.specs.Cases.{AreCovered, IsIntegerPoint, HasSome, cases_among, difference, equal_row, less_row, with_row}

-- ---- rows of the cases

difference_by : (test : Bool) (at : Env) (x y : ℕ) → terms_at at (cond test ((x, neg_ℤ (pos 1)) ∷ (y, pos 1) ∷ []) ((y, pos 1) ∷ (x, neg_ℤ (pos 1)) ∷ [])) ≡ at y +ℤ neg_ℤ (at x)
difference_by true at x y = omega (arith, ints)
difference_by false at x y = omega (arith, ints)

pub difference_value : (at : Env) (x y : ℕ) → terms_at at (difference x y) ≡ at y +ℤ neg_ℤ (at x)
difference_value at x y = difference_by (nat_lt x y) at x y

pub less_holds : (at : Env) (x y : ℕ) → Holds at (less_row x y) ↔ (at x <ℤ at y)
unfolding less_row
less_holds at x y = let e = difference_value at x y in ((λ h. omega (arith, ints, e, h)), (λ h. omega (arith, ints, e, h)))

pub equal_holds : (at : Env) (x y : ℕ) → Holds at (equal_row x y) ↔ (at x ≡ at y)
unfolding equal_row
equal_holds at x y = let e = difference_value at y x in ((λ h. omega (arith, ints, e, h)), (λ h. omega (arith, ints, e, h)))

-- ---- a row behind the others

pub Each-behind : (at : Env) (rows : List Row) (r : Row) → Each (Holds at) (rows ++ r ∷ []) ↔ (Each (Holds at) rows × Holds at r)
Each-behind at [] r = ((λ h. (tt, h.0)), (λ h. (h.1, tt)))
Each-behind at (x ∷ rows) r = let k = Each-behind at rows r in ((λ h. ((h.0, (k.0 h.1).0), (k.0 h.1).1)), (λ h. (h.0.0, k.1 (h.0.1, h.1))))

-- ---- the theorem

order : (a b : ℤ) → (a ≡ b) ⊎ ((a <ℤ b) ⊎ (b <ℤ a))
order a b =
    by_lt_z a b
    (λ less. inr (inl less))
    (λ above. by_lt_z b a (λ more. inr (inr more)) (λ below. inl (omega (arith, ints, above, below))))

-- the variables of a pair differ, or those of a later one
abbrev Apart : Env → ℕ × ℕ → List (ℕ × ℕ) → Type 0
Apart at p ps = (at p.0 ≢ at p.1) ⊎ HasSome (λ q. at q.0 ≢ at q.1) ps

later : (at : Env) (p : ℕ × ℕ) (ps : List (ℕ × ℕ)) → at p.0 ≡ at p.1 → Apart at p ps → HasSome (λ q. at q.0 ≢ at q.1) ps
later at p ps same (inl other) = absurd (other same)
later at p ps same (inr rest) = rest

below_differs : (a b : ℤ) → a <ℤ b → a ≢ b
below_differs a b less same = omega (arith, ints, less, same)

above_differs : (a b : ℤ) → b <ℤ a → a ≢ b
above_differs a b more same = omega (arith, ints, more, same)

-- the cases of the first pair, and those of the others
abbrev HasCase : Env → System → ℕ × ℕ → List (ℕ × ℕ) → Type 0
HasCase at s p ps = IsIntegerPoint at (with_row s (less_row p.0 p.1)) ⊎ (IsIntegerPoint at (with_row s (less_row p.1 p.0)) ⊎ HasSome (IsIntegerPoint at) (cases_among (with_row s (equal_row p.0 p.1)) ps))

abbrev Covers : Env → System → List (ℕ × ℕ) → Type 0
Covers at s ps = HasSome (IsIntegerPoint at) (cases_among s ps) ↔ (IsIntegerPoint at s × HasSome (λ p. at p.0 ≢ at p.1) ps)

case_differs : (at : Env) (s : System) (p : ℕ × ℕ) (ps : List (ℕ × ℕ)) → Covers at (with_row s (equal_row p.0 p.1)) ps → HasCase at s p ps → IsIntegerPoint at s × Apart at p ps
case_differs at s p ps rest (inl h) =
    let k = (Each-behind at s.rows (less_row p.0 p.1)).0 h in
    (k.0, inl (below_differs (at p.0) (at p.1) ((less_holds at p.0 p.1).0 k.1)))
case_differs at s p ps rest (inr (inl h)) =
    let k = (Each-behind at s.rows (less_row p.1 p.0)).0 h in
    (k.0, inl (above_differs (at p.0) (at p.1) ((less_holds at p.1 p.0).0 k.1)))
case_differs at s p ps rest (inr (inr h)) =
    let k = rest.0 h in
    (((Each-behind at s.rows (equal_row p.0 p.1)).0 k.0).0, inr k.1)

has_case : (at : Env) (s : System) (p : ℕ × ℕ) (ps : List (ℕ × ℕ)) → Covers at (with_row s (equal_row p.0 p.1)) ps → (at p.0 ≡ at p.1) ⊎ ((at p.0 <ℤ at p.1) ⊎ (at p.1 <ℤ at p.0)) → IsIntegerPoint at s → Apart at p ps → HasCase at s p ps
has_case at s p ps rest (inl same) h apart = inr (inr (rest.1 ((Each-behind at s.rows (equal_row p.0 p.1)).1 (h, (equal_holds at p.0 p.1).1 same), later at p ps same apart)))
has_case at s p ps rest (inr (inl less)) h apart = inl ((Each-behind at s.rows (less_row p.0 p.1)).1 (h, (less_holds at p.0 p.1).1 less))
has_case at s p ps rest (inr (inr more)) h apart = inr (inl ((Each-behind at s.rows (less_row p.1 p.0)).1 (h, (less_holds at p.1 p.0).1 more)))

among_covers : (s : System) (ps : List (ℕ × ℕ)) (at : Env) → Covers at s ps
among_covers s [] at = ((λ h. absurd h), (λ h. absurd h.1))
among_covers s (p ∷ ps) at =
    let rest = among_covers (with_row s (equal_row p.0 p.1)) ps at in (
      (λ h. case_differs at s p ps rest h),
      (λ h. has_case at s p ps rest (order (at p.0) (at p.1)) h.0 h.1),
    )

one_system : (P : System → Type 0) (s : System) → P s ⊎ ⊥ → P s
one_system P s (inl h) = h
one_system P s (inr h) = absurd h

pub are_covered : AreCovered
are_covered s Free at = ((λ h. (one_system (IsIntegerPoint at) s h, tt)), (λ h. inl h.0))
are_covered s (Among pairs) at = among_covers s pairs at
