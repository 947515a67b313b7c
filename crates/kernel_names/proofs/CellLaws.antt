-- Products that are capped.
use Rattle.std.proofs.Common.{◌≡◌, ℕ, zero, suc, ◌+◌, ◌*◌, arith, min, Bool, true, false, nat_lt, refl, ap, ◌∙◌}
use Rattle.std.proofs.lemmas.Bool.{lt-ltb, ltb-true, le-ltb, ltb-false}

-- a product that is capped on the way is capped at the end
capped_test : (over : Bool) (a e p : ℕ) → nat_lt 4097 (a * e) ≡ over → min (min (a * e) 4097 * p) 4097 ≡ min (a * (e * p)) 4097
capped_test false a e p h =
    let small = ltb-false 4097 (a * e) h in
    let same : min (a * e) 4097 ≡ a * e = omega (arith, small) in
    ap (λ (n : ℕ). min (n * p) 4097) same ∙ ap (λ (n : ℕ). min n 4097) (omega arith)
capped_test true a e zero h = omega arith
capped_test true a e (suc q) h =
    let large = ltb-true 4097 (a * e) h in
    let same : min (a * e) 4097 ≡ 4097 = omega (arith, large) in
    let grown : a * (e * suc q) ≡ a * e + a * e * q = omega arith in
    ap (λ (n : ℕ). min (n * suc q) 4097) same ∙ omega (arith, large, grown)

pub capped : (a e p result all : ℕ) → result ≡ min (a * e) 4097 → min (a * (e * p)) 4097 ≡ all → min (result * p) 4097 ≡ all
capped a e p result all is h = ap (λ (n : ℕ). min (n * p) 4097) is ∙ (capped_test (nat_lt 4097 (a * e)) a e p refl ∙ h)

limit_test : (over : Bool) (n : ℕ) → nat_lt 4096 n ≡ over → nat_lt 4096 (min n 4097) ≡ over
limit_test true n h = let large = ltb-true 4096 n h in lt-ltb 4096 (min n 4097) (omega (arith, large))
limit_test false n h = let small = ltb-false 4096 n h in le-ltb 4096 (min n 4097) (omega (arith, small))

pub over_limit : (n : ℕ) → nat_lt 4096 (min n 4097) ≡ nat_lt 4096 n
over_limit n = limit_test (nat_lt 4096 n) n refl
