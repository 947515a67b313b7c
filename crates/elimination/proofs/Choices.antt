-- The numbers that a variable may be are those between the bounds that the rows set.
use Rattle.std.specs.Prelude.{◌≡◌, ◌↔◌, ℕ, zero, suc, ◌*◌, ◌<◌, ℤ, pos, negsuc, ◌+ℤ◌, ◌*ℤ◌, neg_ℤ, List, [], ◌∷◌, Bool, true, false, cond, ◌&&◌, ◌||◌, int_lt, Option, unsigned_abs}
use Rattle.std.proofs.Common.{inl, inr, refl, sym, ap, ◌∙◌, subst, arith}
use Rattle.std.proofs.lemmas.Int.{ints}
use Rattle.wrap_words.proofs.Ring.{neg_right}
use Rattle.affine_rows.specs.declared.point.Point.{Point}
use Rattle.affine_rows.specs.declared.row.Row.{Row}
use Rattle.affine_rows.specs.Rows.{Env, env_of}
use Rattle.affine_rows.specs.Reduced.{value_over, IsMet, HoldsOver, factor_of}
use Rattle.affine_rows.proofs.Division.{met_scaled}
use Rattle.elimination.specs.declared.fractions.Fraction.{Fraction}
use Rattle.elimination.specs.declared.bounding.Side.{Side}
use Rattle.elimination.specs.declared.bounding.Side.TheVariants.{Below, Above}
use Rattle.elimination.specs.Shadows.{Each, AllHold, HasPoint, moved}
use Rattle.elimination.specs.Points.{IsPick, Values, over_of}
use Rattle.elimination.specs.Fractions.{HasBetween, IsPicked, IsWithin, Multiples, Respects, RespectsRow, bound_of, bounds_on}
use Rattle.elimination.specs.Finding.{IsChoice}
use Rattle.elimination.proofs.Bounds.{Each-map}
use Rattle.elimination.proofs.Points.{rest_at, value_moved, value_split}
use Rattle.elimination.proofs.Quotients.{product_above}
use Rattle.elimination.proofs.Tightening.{RespectsRows}

-- ---- one row

abbrev bound_at : ℤ → ℤ → Fraction
bound_at f r = record { number = cond (int_lt (pos 0) f) (neg_ℤ r) r; by = unsigned_abs f }

abbrev Sided : Side → Bool → ℤ → ℤ → ℕ → ℤ → Type 0
Sided side e f r k y = bounds_on side e f ≡ true → Respects side (bound_at f r) k y

positive_test : (n : ℕ) → int_lt (pos 0) (pos (suc n)) ≡ true
positive_test n = grind (arith, ints)

opposite_test : (n : ℕ) → int_lt (pos (suc n)) (pos 0) ≡ false
opposite_test n = grind (arith, ints)

at_positive : (n : ℕ) (r : ℤ) → bound_at (pos (suc n)) r ≡ record { number = neg_ℤ r; by = suc n }
at_positive n r = ap (λ (b : Bool). let f : Fraction = record { number = cond b (neg_ℤ r) r; by = suc n } in f) (positive_test n)

below_positive : (e : Bool) (n : ℕ) → bounds_on Below e (pos (suc n)) ≡ true
below_positive e n = ap (λ (b : Bool). b || (e && int_lt (pos (suc n)) (pos 0))) (positive_test n)

above_positive : (n : ℕ) → bounds_on Above true (pos (suc n)) ≡ true
above_positive n = ap (λ (b : Bool). b || (true && int_lt (pos 0) (pos (suc n)))) (opposite_test n) ∙ ap (λ (b : Bool). false || (true && b)) (positive_test n)

no_case : (A : Type 0) → false ≡ true → A
no_case A h = absurd (let no : false ≡ true = h in cc)

sides_of : (side : Side) (e : Bool) (f r : ℤ) (k : ℕ) (y : ℤ) → IsMet e (f *ℤ y +ℤ pos k *ℤ r) → Sided side e f r k y
sides_of Below true (pos zero) r k y met h = no_case _ h
sides_of Below true (pos (suc n)) r k y met h = subst (λ (b : Fraction). Respects Below b k y) (sym (at_positive n r)) (let e = neg_right (pos k) r in omega (arith, ints, met, e))
sides_of Below true (negsuc n) r k y met h = omega (arith, ints, met)
sides_of Below false (pos zero) r k y met h = no_case _ h
sides_of Below false (pos (suc n)) r k y met h = subst (λ (b : Fraction). Respects Below b k y) (sym (at_positive n r)) (let e = neg_right (pos k) r in omega (arith, ints, met, e))
sides_of Below false (negsuc n) r k y met h = no_case _ h
sides_of Above true (pos zero) r k y met h = no_case _ h
sides_of Above true (pos (suc n)) r k y met h = subst (λ (b : Fraction). Respects Above b k y) (sym (at_positive n r)) (let e = neg_right (pos k) r in omega (arith, ints, met, e))
sides_of Above true (negsuc n) r k y met h = omega (arith, ints, met)
sides_of Above false (pos zero) r k y met h = no_case _ h
sides_of Above false (pos (suc n)) r k y met h = no_case _ (sym (ap (λ (b : Bool). b || (false && int_lt (pos 0) (pos (suc n)))) (opposite_test n)) ∙ h)
sides_of Above false (negsuc n) r k y met h = omega (arith, ints, met)

met_from : (e : Bool) (f r : ℤ) (k j : ℕ) (y x : ℤ) → 0 < k → 0 < j → IsMet e (f *ℤ x +ℤ pos j *ℤ r) → Sided Below e f r k y → Sided Above e f r k y → IsMet e (f *ℤ y +ℤ pos k *ℤ r)
met_from e (pos zero) r k j y x positive some met below above =
    let one : pos j *ℤ r ≡ pos zero *ℤ x +ℤ pos j *ℤ r = omega (arith, ints) in
    let two : pos k *ℤ r ≡ pos zero *ℤ y +ℤ pos k *ℤ r = omega (arith, ints) in
    (met_scaled k e r (pos zero *ℤ y +ℤ pos k *ℤ r) positive two).0 ((met_scaled j e r (pos zero *ℤ x +ℤ pos j *ℤ r) some one).1 met)
met_from true (pos (suc n)) r k j y x positive some met below above =
    let e = neg_right (pos k) r in
    let b = subst (λ (b : Fraction). Respects Below b k y) (at_positive n r) (below (below_positive true n)) in
    let a = subst (λ (b : Fraction). Respects Above b k y) (at_positive n r) (above (above_positive n)) in
    omega (arith, ints, a, b, e)
met_from true (negsuc n) r k j y x positive some met below above = let b = below refl in let a = above refl in omega (arith, ints, a, b)
met_from false (pos (suc n)) r k j y x positive some met below above =
    let e = neg_right (pos k) r in
    let b = subst (λ (b : Fraction). Respects Below b k y) (at_positive n r) (below (below_positive false n)) in
    omega (arith, ints, b, e)
met_from false (negsuc n) r k j y x positive some met below above = let a = above refl in omega (arith, ints, a)

-- ---- a row at a point where the variable's number is 0

rest_free : (row : Row) (over var : ℕ) (at : Env) → at var ≡ pos 0 → rest_at over at var row ≡ value_over over at row
rest_free row over var at free = omega (arith, ints, value_split row over var at, ap (λ (z : ℤ). factor_of var row.terms *ℤ z) free)

moved_value : (row : Row) (k over var : ℕ) (y : ℤ) (at : Env) → at var ≡ pos 0 → value_over (k * over) (moved k var y at) row ≡ factor_of var row.terms *ℤ y +ℤ pos k *ℤ value_over over at row
moved_value row k over var y at free = value_moved row k over var y at ∙ ap (λ (z : ℤ). factor_of var row.terms *ℤ y +ℤ pos k *ℤ z) (rest_free row over var at free)

bound_is : (var : ℕ) (p : Point) (row : Row) → bound_of var p row ≡ bound_at (factor_of var row.terms) (value_over (over_of p) (env_of p.at) row)
unfolding bound_of
bound_is var p row = refl

row_sides : (side : Side) (var : ℕ) (p : Point) (k : ℕ) (y : ℤ) (row : Row) → env_of p.at var ≡ pos 0 → HoldsOver (k * over_of p) (moved k var y (env_of p.at)) row → RespectsRow side var p k y row
row_sides side var p k y row free holds passes =
    subst (λ (b : Fraction). Respects side b k y) (sym (bound_is var p row))
    (sides_of side row.equal (factor_of var row.terms) (value_over (over_of p) (env_of p.at) row) k y (subst (IsMet row.equal) (moved_value row k (over_of p) var y (env_of p.at) free) holds) passes)

row_holds : (var : ℕ) (p : Point) (k j : ℕ) (y x : ℤ) (row : Row) → env_of p.at var ≡ pos 0 → 0 < k → 0 < j → HoldsOver (j * over_of p) (moved j var x (env_of p.at)) row → RespectsRow Below var p k y row → RespectsRow Above var p k y row → HoldsOver (k * over_of p) (moved k var y (env_of p.at)) row
row_holds var p k j y x row free positive some holds below above =
    let at = env_of p.at in
    let f = factor_of var row.terms in
    let r = value_over (over_of p) (env_of p.at) row in
    let same = bound_is var p row in
    subst (IsMet row.equal) (sym (moved_value row k (over_of p) var y at free))
    (met_from row.equal f r k j y x positive some (subst (IsMet row.equal) (moved_value row j (over_of p) var x at free) holds)
    (λ h. subst (λ (b : Fraction). Respects Below b k y) same (below h))
    (λ h. subst (λ (b : Fraction). Respects Above b k y) same (above h)))

-- ---- all rows

rows_hold : (var : ℕ) (p : Point) (k j : ℕ) (y x : ℤ) (rows : List Row) → env_of p.at var ≡ pos 0 → 0 < k → 0 < j → AllHold (j * over_of p) (moved j var x (env_of p.at)) rows → Each (RespectsRow Below var p k y) rows → Each (RespectsRow Above var p k y) rows → AllHold (k * over_of p) (moved k var y (env_of p.at)) rows
rows_hold var p k j y x [] free positive some holds below above = tt
rows_hold var p k j y x (row ∷ rows) free positive some holds below above =
    (row_holds var p k j y x row free positive some holds.0 below.0 above.0, rows_hold var p k j y x rows free positive some holds.1 below.1 above.1)

pub record AreBounds (rows : List Row) (var : ℕ) (p : Point) (lower upper : Option Fraction) : Type 0 where
  pub below : RespectsRows Below var p rows lower
  pub above : RespectsRows Above var p rows upper

pub within_holds : (rows : List Row) (var : ℕ) (p : Point) (lower upper : Option Fraction) → AreBounds rows var p lower upper → env_of p.at var ≡ pos 0 → HasPoint var rows (over_of p) (env_of p.at) →
    (k : ℕ) (y : ℤ) → 0 < k → AllHold (k * over_of p) (moved k var y (env_of p.at)) rows ↔ IsWithin lower upper k y
within_holds rows var p lower upper are free some k y positive = (
  (λ holds.
      let below = Each-map (HoldsOver (k * over_of p) (moved k var y (env_of p.at))) (RespectsRow Below var p k y) rows (λ row h. row_sides Below var p k y row free h) holds in
      let above = Each-map (HoldsOver (k * over_of p) (moved k var y (env_of p.at))) (RespectsRow Above var p k y) rows (λ row h. row_sides Above var p k y row free h) holds in
      ((are.below k y).1 below, (are.above k y).1 above)),
  (λ within. rows_hold var p k some.0 y some.1 rows free positive some.2 some.3 ((are.below k y).0 within.0) ((are.above k y).0 within.1)),
)

pub has_between : (rows : List Row) (var : ℕ) (p : Point) (lower upper : Option Fraction) → AreBounds rows var p lower upper → env_of p.at var ≡ pos 0 → HasPoint var rows (over_of p) (env_of p.at) → HasBetween lower upper
has_between rows var p lower upper are free some = (some.0, some.1, some.2, (within_holds rows var p lower upper are free some some.0 some.1 some.2).0 some.3)

-- ---- the same set, the same choice

abbrev Same : (ℤ → ℕ → Type 0) → (ℤ → ℕ → Type 0) → Type 0
Same S T = (n : ℤ) (d : ℕ) → 0 < d → S n d ↔ T n d

pick_same : (S T : ℤ → ℕ → Type 0) (n : ℤ) (d : ℕ) → 0 < d → Same S T → IsPick S n d → IsPick T n d
pick_same S T n d positive same (inl h) = inl (h.0, h.1, (same h.0 1 (omega arith)).0 h.2, (λ w t. h.3 w ((same w 1 (omega arith)).1 t)))
pick_same S T n d positive same (inr (inl h)) = inr (inl ((λ w t. h.0 w ((same w 1 (omega arith)).1 t)), (same n d positive).0 h.1, (λ m e some t. h.2 m e some ((same m e some).1 t))))
pick_same S T n d positive same (inr (inr (inl h))) = inr (inr (inl (h.0, h.1, (λ w. ((λ t. (h.2 w).0 ((same w 1 (omega arith)).1 t)), (λ le. (same w 1 (omega arith)).0 ((h.2 w).1 le)))))))
pick_same S T n d positive same (inr (inr (inr h))) = inr (inr (inr (h.0, (λ w. (same w 1 (omega arith)).0 (h.1 w)))))

pub choice_from : (rows : List Row) (var : ℕ) (p : Point) (over : ℕ) (lower upper : Option Fraction) (f : Fraction) → over ≡ over_of p → 0 < over → AreBounds rows var p lower upper → env_of p.at var ≡ pos 0 → HasPoint var rows (over_of p) (env_of p.at) → IsPicked lower upper over f → IsChoice rows var p f
choice_from rows var p over lower upper f is some_over are free some picked =
    let here : IsPicked lower upper (over_of p) f = subst (λ (n : ℕ). IsPicked lower upper n f) is picked in
    let positive : 0 < over_of p = subst (λ (n : ℕ). 0 < n) is some_over in
    record {
      pick = pick_same (Multiples lower upper (over_of p)) (Values rows var (over_of p) (env_of p.at)) f.number (f.by * over_of p) (product_above f.by (over_of p) here.positive positive)
          (λ n d some_d. let both = within_holds rows var p lower upper are free some d (pos (over_of p) *ℤ n) some_d in (both.1, both.0))
          here.pick;
      holds = (within_holds rows var p lower upper are free some f.by f.number here.positive).1 here.within;
      reduced = here.reduced;
      positive = here.positive;
      by = here.by;
      number = here.number;
    }
