-- The number that is chosen between two bounds.
use Rattle.std.specs.Prelude.{◌≡◌, ◌↔◌, ℕ, ◌+◌, ◌*◌, ◌^◌, ◌<◌, ◌≤◌, ℤ, pos, ◌+ℤ◌, ◌-ℤ◌, ◌*ℤ◌, ◌≤ℤ◌, ◌<ℤ◌, Option, Some, None, unsigned_abs}
use Rattle.std.specs.Int.{◌∣◌}
use Rattle.std.proofs.Common.{inl, inr, sym, ap, ◌∙◌, subst, arith}
use Rattle.std.proofs.Math.Nat.{one-dvd}
use Rattle.std.proofs.lemmas.Int.{ints, by_lt_z}
use Rattle.wrap_words.proofs.Ring.{cross_trans, pos_assoc, scaled_le, swap}
use Rattle.elimination.specs.declared.fractions.Fraction.{Fraction}
use Rattle.elimination.specs.declared.bounding.Side.{Side}
use Rattle.elimination.specs.declared.bounding.Side.TheVariants.{Below, Above}
use Rattle.elimination.specs.Points.{IsPick}
use Rattle.elimination.specs.Fractions.{HasBetween, IsBound, IsPicked, IsReduced, IsSame, IsWithin, Multiples, Respects, RespectsAny}

-- ---- whole numbers, multiplied by `over`, and a bound

times_by : (b : Fraction) (over : ℕ) (w : ℤ) → pos b.by *ℤ (pos over *ℤ w) ≡ pos (b.by * over) *ℤ w
times_by b over w = pos_assoc b.by over w

pub above_from : (b : Fraction) (over : ℕ) (z w : ℤ) → (pos (b.by * over) *ℤ (z -ℤ pos 1)) <ℤ b.number → b.number ≤ℤ (pos (b.by * over) *ℤ z) → Respects Below b 1 (pos over *ℤ w) ↔ (z ≤ℤ w)
above_from b over z w low high = (
  (λ h.
      by_lt_z w z
      (λ less. absurd (let f = scaled_le (b.by * over) w (z -ℤ pos 1) (omega (arith, ints, less)) in omega (arith, ints, f, h, low, times_by b over w)))
      (λ more. more)),
  (λ le. let f = scaled_le (b.by * over) z w le in omega (arith, ints, f, high, times_by b over w)),
)

pub below_up_to : (b : Fraction) (over : ℕ) (z w : ℤ) → (pos (b.by * over) *ℤ z) ≤ℤ b.number → b.number <ℤ (pos (b.by * over) *ℤ (z +ℤ pos 1)) → Respects Above b 1 (pos over *ℤ w) ↔ (w ≤ℤ z)
below_up_to b over z w low high = (
  (λ h.
      by_lt_z z w
      (λ less. absurd (let f = scaled_le (b.by * over) (z +ℤ pos 1) w (omega (arith, ints, less)) in omega (arith, ints, f, h, high, times_by b over w)))
      (λ more. more)),
  (λ le. let f = scaled_le (b.by * over) w z le in omega (arith, ints, f, low, times_by b over w)),
)

-- a lesser whole number respects the upper bound too
less_reaches : (upper : Option Fraction) (over : ℕ) (z w : ℤ) → z ≤ℤ w → RespectsAny Above upper 1 (pos over *ℤ w) → RespectsAny Above upper 1 (pos over *ℤ z)
less_reaches None over z w le h = tt
less_reaches (Some b) over z w le h = let f = scaled_le (b.by * over) z w le in omega (arith, ints, f, h, times_by b over w, times_by b over z)

-- ---- a whole number

whole_is : (over by : ℕ) (n z : ℤ) → n ≡ pos over *ℤ z → by ≡ 1 → n ≡ pos (by * over) *ℤ z
whole_is over by n z hn hb = hn ∙ ap (λ (k : ℕ). pos k *ℤ z) (let e : over ≡ by * over = omega (arith, ap (λ (k : ℕ). k * over) hb) in e)

whole_within : (lower upper : Option Fraction) (f : Fraction) (over : ℕ) (z : ℤ) → f.number ≡ pos over *ℤ z → f.by ≡ 1 → Multiples lower upper over z 1 → IsWithin lower upper f.by f.number
whole_within lower upper f over z hn hb h = subst (λ (k : ℕ). IsWithin lower upper k f.number) (sym hb) (subst (λ (y : ℤ). IsWithin lower upper 1 y) (sym hn) h)

whole_reduced : (f : Fraction) → f.by ≡ 1 → IsReduced f
whole_reduced f hb t q h = subst (λ (n : ℕ). n ∣ t) (sym hb) (one-dvd t)

-- as a number that is picked
whole_picked : (lower upper : Option Fraction) (over : ℕ) (f : Fraction) (z : ℤ) → f.number ≡ pos over *ℤ z → f.by ≡ 1 → unsigned_abs f.number ≤ 2 ^ 126 + 2 ^ 56 → Multiples lower upper over z 1 → IsPick (Multiples lower upper over) f.number (f.by * over) → IsPicked lower upper over f
whole_picked lower upper over f z hn hb small h pick = record {
  pick = pick;
  within = whole_within lower upper f over z hn hb h;
  reduced = whole_reduced f hb;
  positive = omega (arith, hb);
  by = omega (arith, hb);
  number = small;
}

pub least_picked : (lower : Fraction) (upper : Option Fraction) (over : ℕ) (f : Fraction) (z : ℤ) → (pos (lower.by * over) *ℤ (z -ℤ pos 1)) <ℤ lower.number → lower.number ≤ℤ (pos (lower.by * over) *ℤ z) → RespectsAny Above upper 1 (pos over *ℤ z) →
    f.number ≡ pos over *ℤ z → f.by ≡ 1 → unsigned_abs f.number ≤ 2 ^ 126 + 2 ^ 56 → IsPicked (Some lower) upper over f
least_picked lower upper over f z low high reach hn hb small =
    let within : Multiples (Some lower) upper over z 1 = ((above_from lower over z z low high).1 (omega (arith, ints)), reach) in
    whole_picked (Some lower) upper over f z hn hb small within
    (inl (z, whole_is over f.by f.number z hn hb, within, (λ w h. (above_from lower over z w low high).0 h.0)))

pub greatest_picked : (any : Option Fraction) (upper : Fraction) (over : ℕ) (f : Fraction) (z : ℤ) → any ≡ Some upper → (pos (upper.by * over) *ℤ z) ≤ℤ upper.number → upper.number <ℤ (pos (upper.by * over) *ℤ (z +ℤ pos 1)) →
    f.number ≡ pos over *ℤ z → f.by ≡ 1 → unsigned_abs f.number ≤ 2 ^ 126 + 2 ^ 56 → IsPicked None any over f
greatest_picked any upper over f z is low high hn hb small =
    subst (λ (o : Option Fraction). IsPicked None o over f) (sym is)
    (whole_picked None (Some upper) over f z hn hb small (tt, (below_up_to upper over z z low high).1 (omega (arith, ints)))
    (inr (inr (inl (z, whole_is over f.by f.number z hn hb, (λ w. ((λ h. (below_up_to upper over z w low high).0 h.1), (λ le. (tt, (below_up_to upper over z w low high).1 le)))))))))

pub free_picked : (any : Option Fraction) (over : ℕ) (f : Fraction) → any ≡ None → f.number ≡ pos over *ℤ pos 0 → f.by ≡ 1 → IsPicked None any over f
free_picked any over f is hn hb =
    let none : f.number ≡ pos 0 = omega (arith, ints, hn) in
    subst (λ (o : Option Fraction). IsPicked None o over f) (sym is)
    (whole_picked None None over f (pos 0) hn hb (rw none (omega arith)) (tt, tt) (inr (inr (inr (none, (λ w. (tt, tt)))))))

-- ---- the lower bound itself

-- scaled numbers respect a bound where the others do
scaled_bound : (side : Side) (b : Fraction) (over k : ℕ) (y : ℤ) → Respects side b k y → Respects side b (k * over) (pos over *ℤ y)
scaled_bound Below b over k y h =
    let f = scaled_le over (pos k *ℤ b.number) (pos b.by *ℤ y) h in
    let same : over * k ≡ k * over = omega arith in
    omega (arith, ints, f, pos_assoc over k b.number, ap (λ (n : ℕ). pos n *ℤ b.number) same, swap (pos over) (pos b.by) y)
scaled_bound Above b over k y h =
    let f = scaled_le over (pos b.by *ℤ y) (pos k *ℤ b.number) h in
    let same : over * k ≡ k * over = omega arith in
    omega (arith, ints, f, pos_assoc over k b.number, ap (λ (n : ℕ). pos n *ℤ b.number) same, swap (pos over) (pos b.by) y)

scaled_any : (side : Side) (any : Option Fraction) (over k : ℕ) (y : ℤ) → RespectsAny side any k y → RespectsAny side any (k * over) (pos over *ℤ y)
scaled_any side None over k y h = tt
scaled_any side (Some b) over k y h = scaled_bound side b over k y h

-- the lower bound is not above the upper one
lower_below : (lower r : Fraction) (upper : Option Fraction) → IsBound lower → IsSame lower r → HasBetween (Some lower) upper → RespectsAny Above upper r.by r.number
lower_below lower r None is same some = tt
lower_below lower r (Some upper) is same some =
    let meet : (pos upper.by *ℤ lower.number) ≤ℤ (pos lower.by *ℤ upper.number) = cross_trans lower.by some.0 upper.by lower.number some.1 upper.number some.2 some.3.0 some.3.1 in
    cross_trans r.by lower.by upper.by r.number lower.number upper.number is.positive (omega (arith, ints, same)) meet

pub bound_picked : (lower : Fraction) (upper : Option Fraction) (over : ℕ) (r : Fraction) (z : ℤ) → IsBound lower → 0 < over → HasBetween (Some lower) upper → (pos (lower.by * over) *ℤ (z -ℤ pos 1)) <ℤ lower.number → lower.number ≤ℤ (pos (lower.by * over) *ℤ z) → (RespectsAny Above upper 1 (pos over *ℤ z) → ⊥) →
    IsSame lower r → IsReduced r → IsBound r → IsPicked (Some lower) upper over r
bound_picked lower upper over r z is positive some low high past same reduced bound =
    let within : IsWithin (Some lower) upper r.by r.number = (let e = same in omega (arith, ints, e), lower_below lower r upper is same some) in
    record {
      pick = inr (inl (
        (λ w h. past (less_reaches upper over z w ((above_from lower over z w low high).0 h.0) h.1)),
        (scaled_bound Below lower over r.by r.number within.0, scaled_any Above upper over r.by r.number within.1),
        (λ m e some_part h.
            let le = cross_trans r.by lower.by e r.number lower.number (pos over *ℤ m) is.positive (omega (arith, ints, same)) h.0 in
            omega (arith, ints, le, pos_assoc r.by over m)),
      ));
      within = within;
      reduced = reduced;
      positive = bound.positive;
      by = bound.by;
      number = omega (arith, bound.number);
    }

-- ---- as the code tests

pub reach_some : (any : Option Fraction) (upper : Fraction) (over : ℕ) (z w : ℤ) → any ≡ Some upper → (pos (upper.by * over) *ℤ z) ≤ℤ upper.number → upper.number <ℤ (pos (upper.by * over) *ℤ (z +ℤ pos 1)) → (w ≤ℤ z) ↔ RespectsAny Above any 1 (pos over *ℤ w)
reach_some any upper over z w is low high =
    subst (λ (o : Option Fraction). (w ≤ℤ z) ↔ RespectsAny Above o 1 (pos over *ℤ w)) (sym is) ((below_up_to upper over z w low high).1, (below_up_to upper over z w low high).0)

pub reach_none : (any : Option Fraction) (y : ℤ) → any ≡ None → RespectsAny Above any 1 y
reach_none any y is = subst (λ (o : Option Fraction). RespectsAny Above o 1 y) (sym is) tt

pub picked_some : (any upper : Option Fraction) (lower f : Fraction) (over : ℕ) → any ≡ Some lower → IsPicked (Some lower) upper over f → IsPicked any upper over f
picked_some any upper lower f over is h = subst (λ (o : Option Fraction). IsPicked o upper over f) (sym is) h

pub picked_none : (any upper : Option Fraction) (f : Fraction) (over : ℕ) → any ≡ None → IsPicked None upper over f → IsPicked any upper over f
picked_none any upper f over is h = subst (λ (o : Option Fraction). IsPicked o upper over f) (sym is) h

pub between_some : (any upper : Option Fraction) (lower : Fraction) → any ≡ Some lower → HasBetween any upper → HasBetween (Some lower) upper
between_some any upper lower is h = subst (λ (o : Option Fraction). HasBetween o upper) is h
