-- The numbers of a range at which a test holds, and the points of a reduction over `0 <= v < u`.
use Rattle.std.specs.Prelude.{◌≡◌, ℕ, zero, suc, ◌+◌, ◌-◌, ◌^◌, ◌<◌, ℤ, pos, negsuc, neg_ℤ, ◌+ℤ◌, ◌≤ℤ◌, ◌<ℤ◌, List, [], ◌∷◌, ◌++◌, map, filter, cond, Bool, true, false}
use Rattle.std.proofs.Common.{refl, ap, ap₂, ◌∙◌, arith, suc-add, zero-add, append-nil}
use Rattle.std.proofs.lemmas.Int.{ints}
use Rattle.expr_tree.specs.declared.row.QuasiRow.{QuasiRow}
use Rattle.expr_tree.specs.Scenes.{Scene, given, rows_hold, numbers_from, every_number, choices, widened, rows_over, points_among}
use Rattle.worked_rows.specs.Parts.{below}
use Rattle.worked_rows.proofs.Domains.{below_of, below_holds}

filter_one : {X : Type 0} (test : X → Bool) (x : X) (xs ys : List X) (p : Bool) → filter test (xs ++ ys) ≡ filter test xs ++ filter test ys → cond p (x ∷ filter test (xs ++ ys)) (filter test (xs ++ ys)) ≡ cond p (x ∷ filter test xs) (filter test xs) ++ filter test ys
filter_one test x xs ys true e = ap (λ zs. x ∷ zs) e
filter_one test x xs ys false e = e

filter_append : {X : Type 0} (test : X → Bool) (xs ys : List X) → filter test (xs ++ ys) ≡ filter test xs ++ filter test ys
filter_append test [] ys = refl
filter_append test (x ∷ xs) ys = filter_one test x xs ys (test x) (filter_append test xs ys)

numbers_append : (a : ℤ) (p q : ℕ) → numbers_from a (p + q) ≡ numbers_from a p ++ numbers_from (a +ℤ pos p) q
numbers_append a zero q = ap₂ (λ (b : ℤ) (n : ℕ). numbers_from b n) (omega (arith, ints)) (zero-add q)
numbers_append a (suc p) q =
    ap (λ (n : ℕ). numbers_from a n) (suc-add p q)
    ∙ ap (λ zs. a ∷ zs) (numbers_append (a +ℤ pos 1) p q ∙ ap (λ (b : ℤ). numbers_from (a +ℤ pos 1) p ++ numbers_from b q) (omega (arith, ints)))

filter_none : (test : ℤ → Bool) (a : ℤ) (n : ℕ) → ((z : ℤ) → a ≤ℤ z → z <ℤ (a +ℤ pos n) → test z ≡ false) → filter test (numbers_from a n) ≡ []
filter_none test a zero out = refl
filter_none test a (suc n) out =
    ap (λ p. cond p (a ∷ filter test (numbers_from (a +ℤ pos 1) n)) (filter test (numbers_from (a +ℤ pos 1) n))) (out a (omega (arith, ints)) (omega (arith, ints)))
    ∙ filter_none test (a +ℤ pos 1) n (λ z h g. out z (omega (arith, ints)) (omega (arith, ints)))

filter_every : (test : ℤ → Bool) (a : ℤ) (n : ℕ) → ((z : ℤ) → a ≤ℤ z → z <ℤ (a +ℤ pos n) → test z ≡ true) → filter test (numbers_from a n) ≡ numbers_from a n
filter_every test a zero within = refl
filter_every test a (suc n) within =
    ap (λ p. cond p (a ∷ filter test (numbers_from (a +ℤ pos 1) n)) (filter test (numbers_from (a +ℤ pos 1) n))) (within a (omega (arith, ints)) (omega (arith, ints)))
    ∙ ap (λ zs. a ∷ zs) (filter_every test (a +ℤ pos 1) n (λ z h g. within z (omega (arith, ints)) (omega (arith, ints))))

-- a range from below 0, at which a test holds exactly from 0 on for q numbers
pub from_zero : (test : ℤ → Bool) (a : ℤ) (p q r all : ℕ) → a +ℤ pos p ≡ pos 0 → all ≡ p + (q + r)
    → ((z : ℤ) → z <ℤ pos 0 → test z ≡ false)
    → ((z : ℤ) → pos 0 ≤ℤ z → z <ℤ pos q → test z ≡ true)
    → ((z : ℤ) → pos q ≤ℤ z → test z ≡ false)
    → filter test (numbers_from a all) ≡ numbers_from (pos 0) q
from_zero test a p q r all start size low mid high =
    ap (λ (n : ℕ). filter test (numbers_from a n)) size
    ∙ ap (filter test) (numbers_append a p (q + r) ∙ ap (λ (b : ℤ). numbers_from a p ++ numbers_from b (q + r)) start ∙ ap (λ zs. numbers_from a p ++ zs) (numbers_append (pos 0) q r))
    ∙ filter_append test (numbers_from a p) (numbers_from (pos 0) q ++ numbers_from (pos 0 +ℤ pos q) r)
    ∙ ap₂ (λ (xs ys : List ℤ). xs ++ ys) (filter_none test a p (λ z h g. low z (omega (arith, ints, start, g))))
    (filter_append test (numbers_from (pos 0) q) (numbers_from (pos 0 +ℤ pos q) r)
    ∙ ap₂ (λ (xs ys : List ℤ). xs ++ ys) (filter_every test (pos 0) q (λ z h g. mid z h (omega (arith, ints, g)))) (filter_none test (pos 0 +ℤ pos q) r (λ z h g. high z (omega (arith, ints, h)))))
    ∙ append-nil (numbers_from (pos 0) q)

one_single : (test : List ℤ → Bool) (z : ℤ) (p : Bool) (xss : List (List ℤ)) (zs : List ℤ) → xss ≡ map (λ y. y ∷ []) zs → cond p ((z ∷ []) ∷ xss) xss ≡ map (λ y. y ∷ []) (cond p (z ∷ zs) zs)
one_single test z true xss zs e = ap (λ yss. (z ∷ []) ∷ yss) e
one_single test z false xss zs e = e

-- the choices for one iname
singles : (test : List ℤ → Bool) (v : ℕ) (numbers : List ℤ) → filter test (choices numbers (v ∷ [])) ≡ map (λ z. z ∷ []) (filter (λ z. test (z ∷ [])) numbers)
singles test v [] = refl
singles test v (z ∷ zs) = one_single test z (test (z ∷ [])) (filter test (choices zs (v ∷ []))) (filter (λ y. test (y ∷ [])) zs) (singles test v zs)

never : (b : Bool) → (b ≡ true → ⊥) → b ≡ false
never true other = absurd (other refl)
never false other = refl

module _ (params : List ℕ) (rows : List QuasiRow) (v u n : ℕ) (there : Scene) (small : n < 2 ^ 31)
    (count : (z : ℤ) → given (v ∷ []) (z ∷ []) there.env u ≡ pos n) (here : (z : ℤ) → given (v ∷ []) (z ∷ []) there.env v ≡ z) where
  abbrev test : ℤ → Bool
  test z = rows_hold (given (v ∷ []) (z ∷ []) there.env) (below v u)

  low : (z : ℤ) → z <ℤ pos 0 → test z ≡ false
  low z h = never (test z) (λ t. let b = below_of (given (v ∷ []) (z ∷ []) there.env) v u n z (count z) (here z) t in omega (arith, ints, h, b.is))

  high : (z : ℤ) → pos n ≤ℤ z → test z ≡ false
  high z h = never (test z) (λ t. let b = below_of (given (v ∷ []) (z ∷ []) there.env) v u n z (count z) (here z) t in omega (arith, ints, h, b.is, b.less))

  mid : (z : ℤ) → pos 0 ≤ℤ z → z <ℤ pos n → test z ≡ true
  mid (pos k) h g = below_holds (given (v ∷ []) (pos k ∷ []) there.env) v u n (pos k) (count (pos k)) (here (pos k)) k refl (omega (arith, ints, g))
  mid (negsuc k) h g = absurd (omega (arith, ints, h))

  numbers_part : filter test (numbers_from (neg_ℤ (pos (2 ^ 31))) (2 ^ 32)) ≡ numbers_from (pos 0) n
  numbers_part = from_zero test (neg_ℤ (pos (2 ^ 31))) (2 ^ 31) n (2 ^ 31 - n) (2 ^ 32) (omega (arith, ints)) (omega (arith, small)) low mid high

  numbers_are : filter test every_number ≡ numbers_from (pos 0) n
  unfolding every_number
  numbers_are = numbers_part

  -- The points of a reduction of which these are the rows: one for each number below n.
  pub points_below : rows_over params rows there.scope (v ∷ []) ≡ below v u → points_among every_number params rows (v ∷ []) there ≡ map (widened there (v ∷ [])) (map (λ z. z ∷ []) (numbers_from (pos 0) n))
  points_below e =
      ap (λ (rs : List QuasiRow). map (widened there (v ∷ [])) (filter (λ zs. rows_hold (widened there (v ∷ []) zs).env rs) (choices every_number (v ∷ [])))) e
      ∙ ap (map (widened there (v ∷ []))) (singles (λ zs. rows_hold (widened there (v ∷ []) zs).env (below v u)) v every_number ∙ ap (map (λ z. z ∷ [])) numbers_are)
