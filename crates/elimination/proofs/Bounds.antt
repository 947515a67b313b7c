-- Bounds on one number by fractions, and a number between them.
use Rattle.std.specs.Prelude.{ℕ, ◌<◌, ℤ, pos, ◌+ℤ◌, ◌*ℤ◌, ◌≤ℤ◌, neg_ℤ, List, [], ◌∷◌}
use Rattle.std.proofs.Common.{arith}
use Rattle.std.proofs.lemmas.Int.{ints, by_lt_z}
use Rattle.elimination.specs.Shadows.{Each}
use Rattle.wrap_words.proofs.Ring.{cross_trans, neg_right, nonneg, nonneg-cancel, distrib, swap}

-- a positive multiplier a and a number l: a lower bound says 0 ≤ a * y + l, and so y is at least -l / a
abbrev pub Bound : Type 0
Bound = ℕ × ℤ

-- the first bound is at least as tight
pub record Tighter (b x : Bound) : Type 0 where
  pub is : (pos x.0 *ℤ b.1) ≤ℤ (pos b.0 *ℤ x.1)

pub Each-map : {A : Type 0} (P Q : A → Type 0) (xs : List A) → ((x : A) → P x → Q x) → Each P xs → Each Q xs
Each-map P Q [] f e = tt
Each-map P Q (x ∷ xs) f e = (f x e.0, Each-map P Q xs f e.1)

pub record Best (Q : Bound → Type 0) (bounds : List Bound) : Type 0 where
  pub bound : Bound
  pub kept : Q bound
  pub positive : 0 < bound.0
  pub tightest : Each (Tighter bound) bounds

better : (x b y : Bound) → 0 < b.0 → Tighter x b → Tighter b y → Tighter x y
better x b y positive first second = record { is = cross_trans x.0 b.0 y.0 x.1 b.1 y.1 positive first.is second.is }

-- of bounds that are not none, one is the tightest
pub best_of : (Q : Bound → Type 0) (first : Bound) (bounds : List Bound) → Each Q (first ∷ bounds) → Each (λ b. 0 < b.0) (first ∷ bounds) → Best Q (first ∷ bounds)
best_of Q first [] kept positive = record { bound = first; kept = kept.0; positive = positive.0; tightest = (record { is = omega (arith, ints) }, tt) }
best_of Q first (second ∷ bounds) kept positive =
    let rest : Best Q (second ∷ bounds) = best_of Q second bounds kept.1 positive.1 in
    by_lt_z (pos first.0 *ℤ rest.bound.1) (pos rest.bound.0 *ℤ first.1)
    (λ less. record { bound = rest.bound; kept = rest.kept; positive = rest.positive; tightest = (record { is = omega (arith, ints) }, rest.tightest) })
    (λ more. record {
      bound = first;
      kept = kept.0;
      positive = positive.0;
      tightest = (record { is = omega (arith, ints) }, Each-map (Tighter rest.bound) (Tighter first) (second ∷ bounds) (λ y. better first rest.bound y rest.positive (record { is = more })) rest.tightest);
    })

abbrev pub LowerAt : ℕ → ℤ → Bound → Type 0
LowerAt k y b = pos 0 ≤ℤ (pos b.0 *ℤ y +ℤ pos k *ℤ b.1)

abbrev pub UpperAt : ℕ → ℤ → Bound → Type 0
UpperAt k y b = (pos b.0 *ℤ y) ≤ℤ (pos k *ℤ b.1)

-- the lower bound is not above the upper one
abbrev pub Meets : Bound → Bound → Type 0
Meets lower upper = pos 0 ≤ℤ (pos upper.0 *ℤ lower.1 +ℤ pos lower.0 *ℤ upper.1)

pub record Between (lowers uppers : List Bound) : Type 0 where
  pub over : ℕ
  pub number : ℤ
  pub positive : 0 < over
  pub above : Each (LowerAt over number) lowers
  pub below : Each (UpperAt over number) uppers

lower_at_best : (best x : Bound) → Tighter best x → LowerAt best.0 (neg_ℤ best.1) x
lower_at_best best x tighter = let e = neg_right (pos x.0) best.1 in let t = tighter.is in omega (arith, ints)

upper_at_best : (best x : Bound) → Meets best x → UpperAt best.0 (neg_ℤ best.1) x
upper_at_best best x meets = let e = neg_right (pos x.0) best.1 in omega (arith, ints)

pub between : (lowers uppers : List Bound) → Each (λ b. 0 < b.0) lowers → Each (λ b. 0 < b.0) uppers → Each (λ lower. Each (Meets lower) uppers) lowers → Between lowers uppers
between [] [] pl pu meet = record { over = 1; number = pos 0; positive = omega arith; above = tt; below = tt }
between [] (first ∷ uppers) pl pu meet =
    let best : Best (λ b. 0 < b.0) (first ∷ uppers) = best_of (λ b. 0 < b.0) first uppers pu pu in
    record { over = best.bound.0; number = best.bound.1; positive = best.positive; above = tt; below = Each-map (Tighter best.bound) (UpperAt best.bound.0 best.bound.1) (first ∷ uppers) (λ x t. t.is) best.tightest }
between (first ∷ lowers) uppers pl pu meet =
    let best : Best (λ b. Each (Meets b) uppers) (first ∷ lowers) = best_of (λ b. Each (Meets b) uppers) first lowers meet pl in
    record {
      over = best.bound.0;
      number = neg_ℤ best.bound.1;
      positive = best.positive;
      above = Each-map (Tighter best.bound) (LowerAt best.bound.0 (neg_ℤ best.bound.1)) (first ∷ lowers) (lower_at_best best.bound) best.tightest;
      below = Each-map (Meets best.bound) (UpperAt best.bound.0 (neg_ℤ best.bound.1)) uppers (upper_at_best best.bound) best.kept;
    }

-- a number between any two bounds shows that they meet
pub meets : (over : ℕ) (number : ℤ) (lower upper : Bound) → 0 < over → LowerAt over number lower → UpperAt over number upper → Meets lower upper
meets over number lower upper positive above below =
    let f : pos 0 ≤ℤ (pos upper.0 *ℤ (pos lower.0 *ℤ number +ℤ pos over *ℤ lower.1)) = nonneg upper.0 (pos lower.0 *ℤ number +ℤ pos over *ℤ lower.1) above in
    let gap : pos 0 ≤ℤ (pos over *ℤ upper.1 +ℤ neg_ℤ (pos upper.0 *ℤ number)) = omega (arith, ints) in
    let s : pos 0 ≤ℤ (pos lower.0 *ℤ (pos over *ℤ upper.1 +ℤ neg_ℤ (pos upper.0 *ℤ number))) = nonneg lower.0 (pos over *ℤ upper.1 +ℤ neg_ℤ (pos upper.0 *ℤ number)) gap in
    nonneg-cancel over (pos upper.0 *ℤ lower.1 +ℤ pos lower.0 *ℤ upper.1) positive
    (rw (distrib (pos over) (pos upper.0 *ℤ lower.1) (pos lower.0 *ℤ upper.1), swap (pos over) (pos upper.0) lower.1, swap (pos over) (pos lower.0) upper.1)
    (omega (
      arith,
      ints,
      f,
      s,
      distrib (pos upper.0) (pos lower.0 *ℤ number) (pos over *ℤ lower.1),
      distrib (pos lower.0) (pos over *ℤ upper.1) (neg_ℤ (pos upper.0 *ℤ number)),
      neg_right (pos lower.0) (pos upper.0 *ℤ number),
      swap (pos lower.0) (pos upper.0) number,
    )))
