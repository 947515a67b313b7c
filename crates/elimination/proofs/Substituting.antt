-- With an equality that has the variable, the rows that it is cancelled in are a shadow.
use Rattle.std.specs.Prelude.{◌≡◌, ◌≢◌, ℕ, zero, suc, ◌*◌, ◌<◌, ℤ, pos, negsuc, ◌+ℤ◌, ◌*ℤ◌, ◌≤ℤ◌, ◌<ℤ◌, neg_ℤ, List, [], ◌∷◌, ◌++◌, Bool, true, false, cond, ◌&&◌, int_lt, map, unsigned_abs, if◌then◌else◌}
use Rattle.std.proofs.Common.{refl, sym, ap, ◌∙◌, subst, arith}
use Rattle.std.proofs.lemmas.Int.{ints}
use Rattle.affine_rows.specs.declared.row.Row.{Row}
use Rattle.affine_rows.specs.Reduced.{value_over, IsMet, HoldsOver, factor_of, mixed_row, reduced_row}
use Rattle.affine_rows.proofs.Division.{reduced_holds, met_scaled}
use Rattle.affine_rows.proofs.Combining.{mixed_value, equal-mixed}
use Rattle.wrap_words.proofs.Ring.{distrib, distrib_right, assoc, swap, comm, neg_right}
use Rattle.elimination.specs.Stages.{substituted}
use Rattle.elimination.specs.Shadows.{Each, IsShadow, moved}
use Rattle.elimination.proofs.Bounds.{Each-map}
use Rattle.elimination.proofs.Points.{rest_at, value_moved, value_split}
use Rattle.elimination.proofs.Pairing.{Each-append, Each-parts}

-- what the equality's factor multiplies the row's factor by
abbrev pub turned : ℤ → ℤ → ℤ
turned f g = if int_lt (pos 0) f then neg_ℤ g else g

negative_times : (n : ℕ) (g : ℤ) → negsuc n *ℤ g ≡ neg_ℤ (pos (suc n) *ℤ g)
negative_times n g = comm (negsuc n) g ∙ (neg_right g (pos (suc n)) ∙ ap neg_ℤ (comm g (pos (suc n))))

turned_test : (f g : ℤ) (test : Bool) (P : ℤ → Type 0) → int_lt (pos 0) f ≡ test → (pos 0 <ℤ f → P (neg_ℤ g)) → (f ≤ℤ pos 0 → P g) → P (cond test (neg_ℤ g) g)
turned_test f g true P e low high = low (grind (arith, ints, e))
turned_test f g false P e low high = high (grind (arith, ints, e))

low_case : (f g : ℤ) → pos 0 <ℤ f → pos (unsigned_abs f) *ℤ g +ℤ neg_ℤ g *ℤ f ≡ pos 0
low_case (pos n) g h = omega (arith, ints, comm (neg_ℤ g) (pos n), neg_right (pos n) g)
low_case (negsuc n) g h = absurd (omega (arith, ints))

high_case : (f g : ℤ) → f ≤ℤ pos 0 → f ≢ pos 0 → pos (unsigned_abs f) *ℤ g +ℤ g *ℤ f ≡ pos 0
high_case (pos zero) g h apart = absurd (apart refl)
high_case (pos (suc n)) g h apart = absurd (omega (arith, ints))
high_case (negsuc n) g h apart = omega (arith, ints, comm g (negsuc n), negative_times n g)

cancel_terms : (f g : ℤ) → f ≢ pos 0 → pos (unsigned_abs f) *ℤ g +ℤ turned f g *ℤ f ≡ pos 0
cancel_terms f g apart = turned_test f g (int_lt (pos 0) f) (λ q. pos (unsigned_abs f) *ℤ g +ℤ q *ℤ f ≡ pos 0) refl (λ h. low_case f g h) (λ h. high_case f g h apart)

-- the value of the sum, without the variable
sum_value : (var : ℕ) (e r : Row) (over : ℕ) (at : ℕ → ℤ) → factor_of var e.terms ≢ pos 0 →
    value_over over at (substituted var e r) ≡ pos (unsigned_abs (factor_of var e.terms)) *ℤ rest_at over at var r +ℤ turned (factor_of var e.terms) (factor_of var r.terms) *ℤ rest_at over at var e
unfolding substituted
sum_value var e r over at apart =
    let f = factor_of var e.terms in
    let g = factor_of var r.terms in
    let p = pos (unsigned_abs f) in
    let q = turned f g in
    let x = at var in
    mixed_value over at p r q e
    ∙ omega (
      arith,
      ints,
      ap (λ (z : ℤ). p *ℤ z) (value_split r over var at),
      ap (λ (z : ℤ). q *ℤ z) (value_split e over var at),
      distrib p (g *ℤ x) (rest_at over at var r),
      distrib q (f *ℤ x) (rest_at over at var e),
      assoc p g x,
      assoc q f x,
      distrib_right (p *ℤ g) (q *ℤ f) x,
      ap (λ (z : ℤ). z *ℤ x) (cancel_terms f g apart),
    )

and_true : (a b : Bool) → b ≡ true → (a && b) ≡ a
and_true true b e = e
and_true false b e = refl

equal-substituted : (var : ℕ) (e r : Row) → e.equal ≡ true → (substituted var e r).equal ≡ r.equal
unfolding substituted
equal-substituted var e r is = equal-mixed (pos (unsigned_abs (factor_of var e.terms))) r (turned (factor_of var e.terms) (factor_of var r.terms)) e ∙ and_true r.equal e.equal is

met_true : (b : Bool) (v : ℤ) → b ≡ true → IsMet b v → v ≡ pos 0
met_true true v e h = h
met_true false v e h = absurd (let no : false ≡ true = e in cc)

met_from : (b : Bool) (v : ℤ) → b ≡ true → v ≡ pos 0 → IsMet b v
met_from true v e h = h
met_from false v e h = absurd (let no : false ≡ true = e in cc)

-- what the sum says of the rests, where the equality holds at the moved point
onto : (f g y x z : ℤ) (k : ℕ) → f ≢ pos 0 → f *ℤ y +ℤ pos k *ℤ x ≡ pos 0 →
    pos k *ℤ (pos (unsigned_abs f) *ℤ z +ℤ turned f g *ℤ x) ≡ pos (unsigned_abs f) *ℤ (g *ℤ y +ℤ pos k *ℤ z)
onto f g y x z k apart on =
    let p = pos (unsigned_abs f) in
    let q = turned f g in
    omega (
      arith,
      ints,
      distrib (pos k) (p *ℤ z) (q *ℤ x),
      swap (pos k) p z,
      swap (pos k) q x,
      distrib p (g *ℤ y) (pos k *ℤ z),
      assoc p g y,
      assoc q f y,
      distrib_right (p *ℤ g) (q *ℤ f) y,
      ap (λ (w : ℤ). w *ℤ y) (cancel_terms f g apart),
      distrib q (f *ℤ y) (pos k *ℤ x),
      ap (λ (w : ℤ). q *ℤ w) on,
    )

-- the equality's number of the variable over the absolute value of its factor
abbrev pub root : ℤ → ℤ → ℤ
root f x = turned f x

root_is : (f x : ℤ) → f ≢ pos 0 → f *ℤ root f x +ℤ pos (unsigned_abs f) *ℤ x ≡ pos 0
root_is f x apart = omega (arith, ints, comm f (turned f x), cancel_terms f x apart)

above_zero : (f : ℤ) → f ≢ pos 0 → 0 < unsigned_abs f
above_zero (pos zero) apart = absurd (apart refl)
above_zero (pos (suc n)) apart = omega arith
above_zero (negsuc n) apart = omega arith

-- one row
one_to : (var : ℕ) (e r : Row) (over k : ℕ) (y : ℤ) (at : ℕ → ℤ) → factor_of var e.terms ≢ pos 0 → e.equal ≡ true → 0 < k → HoldsOver (k * over) (moved k var y at) e → HoldsOver (k * over) (moved k var y at) r → HoldsOver over at (reduced_row (substituted var e r))
one_to var e r over k y at apart equality positive on holds =
    let f = factor_of var e.terms in
    let g = factor_of var r.terms in
    let zero : f *ℤ y +ℤ pos k *ℤ rest_at over at var e ≡ pos 0 = sym (value_moved e k over var y at) ∙ met_true e.equal (value_over (k * over) (moved k var y at) e) equality on in
    let same = onto f g y (rest_at over at var e) (rest_at over at var r) k apart zero in
    let scaled = met_scaled (unsigned_abs f) r.equal (value_over (k * over) (moved k var y at) r) (pos k *ℤ value_over over at (substituted var e r)) (above_zero f apart)
    (ap (λ (z : ℤ). pos (unsigned_abs f) *ℤ z) (value_moved r k over var y at) ∙ (sym same ∙ ap (λ (z : ℤ). pos k *ℤ z) (sym (sum_value var e r over at apart)))) in
    let met = (met_scaled k r.equal (value_over over at (substituted var e r)) (pos k *ℤ value_over over at (substituted var e r)) positive refl).1 (scaled.0 holds) in
    (reduced_holds (substituted var e r) over at).1 (subst (λ (b : Bool). IsMet b (value_over over at (substituted var e r))) (sym (equal-substituted var e r equality)) met)

one_back : (var : ℕ) (e r : Row) (over : ℕ) (at : ℕ → ℤ) → factor_of var e.terms ≢ pos 0 → e.equal ≡ true → HoldsOver over at (reduced_row (substituted var e r)) →
    HoldsOver (unsigned_abs (factor_of var e.terms) * over) (moved (unsigned_abs (factor_of var e.terms)) var (root (factor_of var e.terms) (rest_at over at var e)) at) r
one_back var e r over at apart equality holds =
    let f = factor_of var e.terms in
    let g = factor_of var r.terms in
    let k = unsigned_abs f in
    let y = root f (rest_at over at var e) in
    let met = subst (λ (b : Bool). IsMet b (value_over over at (substituted var e r))) (equal-substituted var e r equality) ((reduced_holds (substituted var e r) over at).0 holds) in
    let same = onto f g y (rest_at over at var e) (rest_at over at var r) k apart (root_is f (rest_at over at var e) apart) in
    let positive = above_zero f apart in
    let value : pos k *ℤ value_over (k * over) (moved k var y at) r ≡ pos k *ℤ value_over over at (substituted var e r) =
    ap (λ (z : ℤ). pos k *ℤ z) (value_moved r k over var y at) ∙ (sym same ∙ ap (λ (z : ℤ). pos k *ℤ z) (sym (sum_value var e r over at apart))) in
    (met_scaled k r.equal (value_over (k * over) (moved k var y at) r) (pos k *ℤ value_over over at (substituted var e r)) positive value).1
    ((met_scaled k r.equal (value_over over at (substituted var e r)) (pos k *ℤ value_over over at (substituted var e r)) positive refl).0 met)

-- the equality itself
self_back : (var : ℕ) (e : Row) (over : ℕ) (at : ℕ → ℤ) → factor_of var e.terms ≢ pos 0 → e.equal ≡ true →
    HoldsOver (unsigned_abs (factor_of var e.terms) * over) (moved (unsigned_abs (factor_of var e.terms)) var (root (factor_of var e.terms) (rest_at over at var e)) at) e
self_back var e over at apart equality =
    let f = factor_of var e.terms in
    met_from e.equal _ equality (value_moved e (unsigned_abs f) over var (root f (rest_at over at var e)) at ∙ root_is f (rest_at over at var e) apart)

pub Each-mapped : {A B : Type 0} (P : B → Type 0) (f : A → B) (xs : List A) → Each (λ x. P (f x)) xs → Each P (map f xs)
Each-mapped P f [] h = tt
Each-mapped P f (x ∷ xs) h = (h.0, Each-mapped P f xs h.1)

pub Each-unmapped : {A B : Type 0} (P : B → Type 0) (f : A → B) (xs : List A) → Each P (map f xs) → Each (λ x. P (f x)) xs
Each-unmapped P f [] h = tt
Each-unmapped P f (x ∷ xs) h = (h.0, Each-unmapped P f xs h.1)

-- an equality between two lists of rows
pub substituted_IsShadow : (var : ℕ) (before after : List Row) (e : Row) → factor_of var e.terms ≢ pos 0 → e.equal ≡ true → IsShadow var (before ++ e ∷ after) (map (λ r. reduced_row (substituted var e r)) (before ++ after))
substituted_IsShadow var before after e apart equality over at positive = (
  (λ has.
      let parts = Each-parts (HoldsOver (has.0 * over) (moved has.0 var has.1 at)) before (e ∷ after) has.3 in
      Each-mapped (HoldsOver over at) (λ r. reduced_row (substituted var e r)) (before ++ after)
      (Each-map (HoldsOver (has.0 * over) (moved has.0 var has.1 at)) (λ r. HoldsOver over at (reduced_row (substituted var e r))) (before ++ after)
      (λ r h. one_to var e r over has.0 has.1 at apart equality has.2 parts.1.0 h)
      (Each-append (HoldsOver (has.0 * over) (moved has.0 var has.1 at)) before after parts.0 parts.1.1))),
  (λ holds.
      let f = factor_of var e.terms in
      let k = unsigned_abs f in
      let y = root f (rest_at over at var e) in
      let all = Each-map (λ r. HoldsOver over at (reduced_row (substituted var e r))) (HoldsOver (k * over) (moved k var y at)) (before ++ after) (λ r h. one_back var e r over at apart equality h)
      (Each-unmapped (HoldsOver over at) (λ r. reduced_row (substituted var e r)) (before ++ after) holds) in
      let parts = Each-parts (HoldsOver (k * over) (moved k var y at)) before after all in
      (k, y, above_zero f apart, Each-append (HoldsOver (k * over) (moved k var y at)) before (e ∷ after) parts.0 (self_back var e over at apart equality, parts.1))),
)

-- as the code makes it
pub substituted-is : (var : ℕ) (e r : Row) (f g p q : ℤ) → f ≡ factor_of var e.terms → g ≡ factor_of var r.terms → p ≡ pos (unsigned_abs f) → q ≡ turned f g → mixed_row p r q e ≡ substituted var e r
unfolding substituted
substituted-is var e r f g p q hf hg hp hq =
    ap (λ (z : ℤ). mixed_row z r q e) (hp ∙ ap (λ (z : ℤ). pos (unsigned_abs z)) hf)
    ∙ ap (λ (z : ℤ). mixed_row (pos (unsigned_abs (factor_of var e.terms))) r z e) (hq ∙ (ap (λ (z : ℤ). turned z g) hf ∙ ap (turned (factor_of var e.terms)) hg))
