-- Greatest common divisors.
use Rattle.std.proofs.Common.{◌≡◌, ℕ, zero, suc, ◌+◌, ◌%◌, ◌<◌, ◌≤◌, max, ℤ, List, [], ◌∷◌, Bool, true, false, cond, ◌&&◌, nat_eq, arith, refl, sym, subst, unsigned_abs, fold}
use Rattle.std.specs.Int.{IsGcd, ◌∣◌}
use Rattle.std.proofs.lemmas.Nat.Gcd.{dvd_refl, dvd-zero, dvd_trans, le_of_dvd, dvd_of_mod-eq-zero, mod-eq-zero_of_dvd}
use Rattle.std.proofs.Math.Nat.{one-dvd, eq-zero_of_zero-dvd}
use Rattle.std.proofs.lemmas.Bool.Decides.{nat_tests}
use Rattle.affine_rows.specs.Reduced.{greatest_to, greatest_divisor, common_divisor}

-- a number that divides both
abbrev Both : ℕ → ℕ → ℕ → Type 0
Both d a b = (d ∣ a) × (d ∣ b)

both_of_test : (d a b : ℕ) → (nat_eq (a % d) 0 && nat_eq (b % d) 0) ≡ true → Both d a b
both_of_test d a b h = (dvd_of_mod-eq-zero d (grind (arith, nat_tests, h)), dvd_of_mod-eq-zero d (grind (arith, nat_tests, h)))

test_of_both : (d a b : ℕ) → Both d a b → (nat_eq (a % d) 0 && nat_eq (b % d) 0) ≡ true
test_of_both d a b h = let e = mod-eq-zero_of_dvd d h.0 in let f = mod-eq-zero_of_dvd d h.1 in rw (e, f)

-- one step of the search
divides_step : (n a b rest : ℕ) (test : Bool) → (nat_eq (a % suc n) 0 && nat_eq (b % suc n) 0) ≡ test → (test ≡ false → Both rest a b) → Both (cond test (suc n) rest) a b
divides_step n a b rest true e f = both_of_test (suc n) a b e
divides_step n a b rest false e f = f refl

greatest_to-divides : (n a b : ℕ) → 0 < n → Both (greatest_to n a b) a b
unfolding greatest_to
greatest_to-divides zero a b h = absurd (omega arith)
greatest_to-divides (suc zero) a b h = divides_step zero a b 0 _ refl (λ no. absurd (let yes = test_of_both 1 a b (one-dvd a, one-dvd b) in cc))
greatest_to-divides (suc (suc n)) a b h = divides_step (suc n) a b (greatest_to (suc n) a b) _ refl (λ no. greatest_to-divides (suc n) a b (omega arith))

-- a common divisor that all others divide is the greatest
found_step : (n a b rest g : ℕ) (test : Bool) → (nat_eq (a % suc n) 0 && nat_eq (b % suc n) 0) ≡ test → IsGcd a b g → 0 < g → g ≤ suc n → (g ≤ n → rest ≡ g) → cond test (suc n) rest ≡ g
found_step n a b rest g true e is positive le f =
    let both = both_of_test (suc n) a b e in
    let most : suc n ≤ g = le_of_dvd positive (is.2 (suc n) both.0 both.1) in
    omega arith
found_step n a b rest g false e is positive le f =
    f (elim (nat_eq g (suc n)) as (λ t. nat_eq g (suc n) ≡ t → g ≤ n) [
      | true ↦ (λ same. absurd (let yes = test_of_both (suc n) a b (subst (λ d. d ∣ a) (grind (arith, nat_tests, same)) is.0, subst (λ d. d ∣ b) (grind (arith, nat_tests, same)) is.1) in cc))
      | false ↦ (λ apart. grind (arith, nat_tests, apart))
    ] refl)

greatest_to-is : (n a b g : ℕ) → IsGcd a b g → 0 < g → g ≤ n → greatest_to n a b ≡ g
unfolding greatest_to
greatest_to-is zero a b g is positive le = absurd (omega arith)
greatest_to-is (suc n) a b g is positive le = found_step n a b (greatest_to n a b) g _ refl is positive le (λ h. greatest_to-is n a b g is positive h)

-- a divisor is at most a number, where one of two is above 0
within : (a b g : ℕ) → IsGcd a b g → 0 < a + b → g ≤ a + b
within zero zero g is h = absurd (omega arith)
within zero (suc b) g is h = let le : g ≤ suc b = le_of_dvd (omega arith) is.1 in omega arith
within (suc a) b g is h = let le : g ≤ suc a = le_of_dvd (omega arith) is.0 in omega arith

-- no greatest divisor of zeros but 0
zeros : (g : ℕ) → IsGcd 0 0 g → g ≡ 0
zeros zero is = refl
zeros (suc g) is = absurd (let le : suc (suc g) ≤ suc g = le_of_dvd (omega arith) (is.2 (suc (suc g)) (dvd-zero _) (dvd-zero _)) in omega arith)

some : (a b g : ℕ) → IsGcd a b g → 0 < a + b → 0 < g
some a b zero is h = absurd (let e : a ≡ 0 = eq-zero_of_zero-dvd is.0 in let f : b ≡ 0 = eq-zero_of_zero-dvd is.1 in omega arith)
some a b (suc g) is h = omega arith

pub greatest_divisor-is : (a b g : ℕ) → IsGcd a b g → g ≡ greatest_divisor a b
unfolding greatest_divisor greatest_to
greatest_divisor-is zero zero g is = zeros g is
greatest_divisor-is zero (suc b) g is = sym (greatest_to-is (0 + suc b) zero (suc b) g is (some zero (suc b) g is (omega arith)) (within zero (suc b) g is (omega arith)))
greatest_divisor-is (suc a) b g is = sym (greatest_to-is (suc a + b) (suc a) b g is (some (suc a) b g is (omega arith)) (within (suc a) b g is (omega arith)))

pub greatest_divisor-divides : (a b : ℕ) → Both (greatest_divisor a b) a b
unfolding greatest_divisor
greatest_divisor-divides zero zero = (dvd-zero _, dvd-zero _)
greatest_divisor-divides zero (suc b) = greatest_to-divides (0 + suc b) zero (suc b) (omega arith)
greatest_divisor-divides (suc a) b = greatest_to-divides (suc a + b) (suc a) b (omega arith)

greatest_divisor-zeros : greatest_divisor 0 0 ≡ 0
unfolding greatest_divisor greatest_to
greatest_divisor-zeros = refl

pub greatest_divisor-small : (a b most : ℕ) → a ≤ most → b ≤ most → greatest_divisor a b ≤ most
greatest_divisor-small zero zero most h k = rw greatest_divisor-zeros (omega arith)
greatest_divisor-small zero (suc b) most h k = let le : greatest_divisor zero (suc b) ≤ suc b = le_of_dvd (omega arith) (greatest_divisor-divides zero (suc b)).1 in omega arith
greatest_divisor-small (suc a) b most h k = let le : greatest_divisor (suc a) b ≤ suc a = le_of_dvd (omega arith) (greatest_divisor-divides (suc a) b).0 in omega arith

-- ---- of a number and all factors

abbrev pub step : ℕ → ℕ × ℤ → ℕ
step g t = greatest_divisor g (unsigned_abs t.1)

-- a number divides each factor
abbrev pub DividesFactors : ℕ → List (ℕ × ℤ) → Type 0
DividesFactors d [] = Unit {0}
DividesFactors d (t ∷ ts) = (d ∣ unsigned_abs t.1) × DividesFactors d ts

fold-divides : (g : ℕ) (ts : List (ℕ × ℤ)) → (fold step g ts ∣ g) × DividesFactors (fold step g ts) ts
fold-divides g [] = (dvd_refl g, tt)
fold-divides g (t ∷ ts) =
    let rest = fold-divides (step g t) ts in
    let both = greatest_divisor-divides g (unsigned_abs t.1) in
    (dvd_trans _ rest.0 both.0, (dvd_trans _ rest.0 both.1, rest.1))

one_divides : (ts : List (ℕ × ℤ)) → DividesFactors 1 ts
one_divides [] = tt
one_divides (t ∷ ts) = (one-dvd _, one_divides ts)

zero_divides : (ts : List (ℕ × ℤ)) → DividesFactors 0 ts → DividesFactors 1 ts
zero_divides ts h = one_divides ts

at_least_one : (g : ℕ) (start : ℕ) (ts : List (ℕ × ℤ)) → (g ∣ start) × DividesFactors g ts → (0 < max 1 g) × (max 1 g ∣ start) × DividesFactors (max 1 g) ts
at_least_one zero start ts h = (omega arith, one-dvd _, one_divides ts)
at_least_one (suc g) start ts h = let e : max 1 (suc g) ≡ suc g = omega arith in rw e (omega arith, h.0, h.1)

pub common_divisor-divides : (start : ℕ) (ts : List (ℕ × ℤ)) → (0 < common_divisor start ts) × (common_divisor start ts ∣ start) × DividesFactors (common_divisor start ts) ts
unfolding common_divisor
common_divisor-divides start ts = at_least_one (fold step start ts) start ts (fold-divides start ts)
