-- Quotients of whole numbers, fractions that are compared, and greatest common divisors.
use Rattle.std.proofs.Common.{◌≡◌, ℕ, zero, suc, ◌+◌, ◌*◌, ◌/◌, ◌%◌, ◌<◌, ◌≤◌, ℤ, pos, negsuc, neg_ℤ, ◌+ℤ◌, ◌-ℤ◌, ◌*ℤ◌, ◌≤ℤ◌, arith, sym, ap, ◌∙◌, subst, unsigned_abs}
use Rattle.std.specs.Prelude.{◌↔◌, ◌<ℤ◌, ◌≢◌}
use Rattle.std.specs.Int.{int_div_euclid, ◌∣◌}
use Rattle.std.proofs.Math.Nat.{eq-zero_of_zero-dvd, mul-le-mul_left, dvd-mod_iff, dvd-add_iff_right, dvd-mul_right_of_dvd, dvd_of_mul-dvd-mul_right, mul-div_cancel', mod-add-div, dvd-mul_left, dvd-mul_right}
use Rattle.std.proofs.lemmas.Int.{ints, by_lt_z, unsigned_abs-mul}
use Rattle.affine_rows.proofs.Division.{exact_quotient, floor_low, floor_high}
use Rattle.wrap_words.proofs.Ring.{distrib, swap, pos_assoc, scaled_le, neg_right}
use Rattle.elimination.specs.declared.fractions.Fraction.{Fraction}
use Rattle.elimination.specs.Fractions.{IsSame, IsReduced}

-- ---- fractions with a whole number and a part

scaled_parts : (d e p : ℕ) (n w : ℤ) → n ≡ pos d *ℤ w +ℤ pos p → pos e *ℤ n ≡ pos (e * d) *ℤ w +ℤ pos (e * p)
scaled_parts d e p n w is =
    let product : pos e *ℤ pos p ≡ pos (e * p) = omega (arith, ints) in
    ap (λ (z : ℤ). pos e *ℤ z) is ∙ omega (arith, ints, distrib (pos e) (pos d *ℤ w) (pos p), pos_assoc e d w, product)

-- the whole number decides
whole_less : (d e p q : ℕ) (n m w x : ℤ) → n ≡ pos d *ℤ w +ℤ pos p → p < d → m ≡ pos e *ℤ x +ℤ pos q → q < e → w <ℤ x → (pos e *ℤ n) <ℤ (pos d *ℤ m)
whole_less d e p q n m w x hn hp hm hq less =
    let left = scaled_parts d e p n w hn in
    let right = scaled_parts e d q m x hm in
    let same : d * e ≡ e * d = omega arith in
    let right_too : pos d *ℤ m ≡ pos (e * d) *ℤ x +ℤ pos (d * q) = right ∙ ap (λ (k : ℕ). pos k *ℤ x +ℤ pos (d * q)) same in
    let gap = scaled_le (e * d) (w +ℤ pos 1) x (omega (arith, ints, less)) in
    let part : e * p + e ≤ e * d = omega (arith, mul-le-mul_left e (let s : p + 1 ≤ d = omega arith in s)) in
    omega (arith, ints, left, right_too, gap, distrib (pos (e * d)) w (pos 1), part)

whole_same : (d e p q : ℕ) (n m w : ℤ) → n ≡ pos d *ℤ w +ℤ pos p → m ≡ pos e *ℤ w +ℤ pos q → ((pos e *ℤ n) ≤ℤ (pos d *ℤ m)) ↔ (p * e ≤ q * d)
whole_same d e p q n m w hn hm =
    let left = scaled_parts d e p n w hn in
    let right = scaled_parts e d q m w hm in
    let same : d * e ≡ e * d = omega arith in
    let right_too : pos d *ℤ m ≡ pos (e * d) *ℤ w +ℤ pos (d * q) = right ∙ ap (λ (k : ℕ). pos k *ℤ w +ℤ pos (d * q)) same in
    ((λ h. omega (arith, ints, left, right_too, h)), (λ h. omega (arith, ints, left, right_too, h)))

pub whole_decides : (d e p q : ℕ) (n m w x : ℤ) → n ≡ pos d *ℤ w +ℤ pos p → p < d → m ≡ pos e *ℤ x +ℤ pos q → q < e → w ≢ x → ((pos e *ℤ n) ≤ℤ (pos d *ℤ m)) ↔ (w <ℤ x)
whole_decides d e p q n m w x hn hp hm hq apart = (
  (λ h.
      by_lt_z w x
      (λ less. omega (arith, ints, less))
      (λ more.
      by_lt_z x w
      (λ above. absurd (let f = whole_less e d q p m n x w hm hq hn hp (omega (arith, ints, above)) in omega (arith, ints, f, h)))
      (λ below. absurd (apart (omega (arith, ints, more, below)))))),
  (λ less. let f = whole_less d e p q n m w x hn hp hm hq less in omega (arith, ints, f)),
)

pub part_decides : (d e p q : ℕ) (n m w x : ℤ) → n ≡ pos d *ℤ w +ℤ pos p → m ≡ pos e *ℤ x +ℤ pos q → w ≡ x → ((pos e *ℤ n) ≤ℤ (pos d *ℤ m)) ↔ (p * e ≤ q * d)
part_decides d e p q n m w x hn hm same = whole_same d e p q n m w hn (hm ∙ ap (λ (z : ℤ). pos e *ℤ z +ℤ pos q) (sym same))

-- ---- greatest common divisors

-- a divisor of two numbers, scaled by t, divides the rest
pub divides_rest : (m t a b : ℕ) → m ∣ t * a → m ∣ t * b → m ∣ t * (a % b)
divides_rest m t a b h k =
    let split : t * a ≡ (t * b) * (a / b) + t * (a % b) = omega (arith, ap (λ (n : ℕ). t * n) (mod-add-div a b)) in
    (dvd-add_iff_right m (dvd-mul_right_of_dvd m k (a / b))).1 (subst (λ (n : ℕ). m ∣ n) split h)

pub divides_first : (d a b : ℕ) → d ∣ b → d ∣ a % b → d ∣ a
divides_first d a b h k = (dvd-mod_iff d h).0 k

-- ---- a fraction in lowest terms

natural_part : (a b : ℕ) (q : ℤ) → pos a ≡ pos b *ℤ q → b ∣ a
natural_part a b q h =
    let e : a ≡ b * unsigned_abs q = omega (arith, ap unsigned_abs h, unsigned_abs-mul (pos b) q) in
    subst (λ (n : ℕ). b ∣ n) (sym e) (dvd-mul_right b (unsigned_abs q))

pub same_reduced : (f r : Fraction) (g : ℕ) → pos g *ℤ r.number ≡ f.number → g * r.by ≡ f.by → IsSame f r
same_reduced f r g hn hb =
    ap (λ (z : ℤ). pos r.by *ℤ z) (sym hn)
    ∙ (swap (pos r.by) (pos g) r.number ∙ (pos_assoc g r.by r.number ∙ ap (λ (n : ℕ). pos n *ℤ r.number) hb))

pub is_reduced : (f r : Fraction) (g : ℕ) → 0 < g → pos g *ℤ r.number ≡ f.number → g * r.by ≡ f.by → ((m t : ℕ) → m ∣ t * unsigned_abs f.number → m ∣ t * f.by → m ∣ t * g) → IsReduced r
is_reduced f r g positive hn hb greatest t q h =
    let scaled : pos t *ℤ f.number ≡ pos f.by *ℤ q =
    ap (λ (z : ℤ). pos t *ℤ z) (sym hn) ∙ (swap (pos t) (pos g) r.number ∙ (ap (λ (z : ℤ). pos g *ℤ z) h ∙ (pos_assoc g r.by q ∙ ap (λ (n : ℕ). pos n *ℤ q) hb))) in
    let size : t * unsigned_abs f.number ≡ f.by * unsigned_abs q = omega (arith, ap unsigned_abs scaled, unsigned_abs-mul (pos t) f.number, unsigned_abs-mul (pos f.by) q) in
    let first : f.by ∣ t * unsigned_abs f.number = subst (λ (n : ℕ). f.by ∣ n) (sym size) (dvd-mul_right f.by (unsigned_abs q)) in
    let all : f.by ∣ t * g = greatest f.by t first (dvd-mul_left f.by t) in
    let same : f.by ≡ r.by * g = omega (arith, hb) in
    dvd_of_mul-dvd-mul_right r.by positive (subst (λ (n : ℕ). n ∣ t * g) same all)

pub exact : (a g q : ℕ) → g ∣ a → q ≡ a / g → g * q ≡ a
exact a g q h is = ap (λ (n : ℕ). g * n) is ∙ mul-div_cancel' g h

pub exact_whole : (g : ℕ) (z q : ℤ) → 0 < g → g ∣ unsigned_abs z → q ≡ int_div_euclid z (pos g) → pos g *ℤ q ≡ z
exact_whole g z q positive h is = ap (λ (x : ℤ). pos g *ℤ x) is ∙ exact_quotient g z positive h

-- ---- whole numbers on the other side

pub opposite_low : (d : ℕ) (n w : ℤ) → neg_ℤ n <ℤ (pos d *ℤ (w +ℤ pos 1)) → (pos d *ℤ (neg_ℤ w -ℤ pos 1)) <ℤ n
opposite_low d n w h =
    let same : neg_ℤ w -ℤ pos 1 ≡ neg_ℤ (w +ℤ pos 1) = omega (arith, ints) in
    rw (same, neg_right (pos d) (w +ℤ pos 1)) (omega (arith, ints, h))

pub opposite_high : (d : ℕ) (n w : ℤ) → (pos d *ℤ w) ≤ℤ neg_ℤ n → n ≤ℤ (pos d *ℤ neg_ℤ w)
opposite_high d n w h = rw (neg_right (pos d) w) (omega (arith, ints, h))

-- ---- divisors of numbers above 0

pub divisor_positive : (d b : ℕ) → 0 < b → d ∣ b → 0 < d
divisor_positive zero b positive h = absurd (let e : b ≡ 0 = eq-zero_of_zero-dvd h in omega arith)
divisor_positive (suc d) b positive h = omega arith

pub product_above : (a b : ℕ) → 0 < a → 0 < b → 0 < a * b
product_above zero b h k = absurd (omega arith)
product_above (suc a) b h k = omega arith

pub part_positive : (g q b : ℕ) → 0 < b → g * q ≡ b → 0 < q
part_positive g zero b positive is = absurd (omega arith)
part_positive g (suc q) b positive is = omega arith

-- ---- whole numbers below a fraction that is divided

pub quotient_low : (by over d : ℕ) (n q : ℤ) → d ≡ by * over → 0 < by → 0 < over → q ≡ int_div_euclid n (pos d) → (pos (by * over) *ℤ q) ≤ℤ n
quotient_low by over d n q is positive some value =
    let above : 0 < by * over = omega (arith, mul-le-mul_left by some) in
    rw value (subst (λ (k : ℕ). (pos (by * over) *ℤ int_div_euclid n (pos k)) ≤ℤ n) (sym is) (floor_low (by * over) n above))

pub quotient_high : (by over d : ℕ) (n q : ℤ) → d ≡ by * over → 0 < by → 0 < over → q ≡ int_div_euclid n (pos d) → n <ℤ (pos (by * over) *ℤ (q +ℤ pos 1))
quotient_high by over d n q is positive some value =
    let above : 0 < by * over = omega (arith, mul-le-mul_left by some) in
    rw value
    (subst (λ (k : ℕ). n <ℤ (pos (by * over) *ℤ (int_div_euclid n (pos k) +ℤ pos 1))) (sym is)
    (omega (arith, ints, floor_high (by * over) n above, distrib (pos (by * over)) (int_div_euclid n (pos (by * over))) (pos 1))))

-- ---- the reduced fraction, as the code makes it

pub record IsLowest (f r : Fraction) : Type 0 where
  pub same : IsSame f r
  pub reduced : IsReduced r

pub lowest : (f : Fraction) (a b g : ℕ) (q : ℤ) → a ≡ unsigned_abs f.number → b ≡ f.by → 0 < g → g ∣ a → g ∣ b → ((m t : ℕ) → m ∣ t * a → m ∣ t * b → m ∣ t * g) → q ≡ int_div_euclid f.number (pos g) → IsLowest f (record { number = q; by = b / g })
lowest f a b g q ha hb positive first second greatest value =
    let number : pos g *ℤ q ≡ f.number = exact_whole g f.number q positive (subst (λ (n : ℕ). g ∣ n) ha first) value in
    let by : g * (b / g) ≡ f.by = mul-div_cancel' g second ∙ hb in
    record {
      same = same_reduced f (record { number = q; by = b / g }) g number by;
      reduced = is_reduced f (record { number = q; by = b / g }) g positive number by (λ m t h k. greatest m t (subst (λ (n : ℕ). m ∣ t * n) (sym ha) h) (subst (λ (n : ℕ). m ∣ t * n) (sym hb) k));
    }

-- ---- how large such a whole number gets, multiplied by the divisor of the fraction

times_low : (by over n : ℕ) (q : ℤ) (a : ℕ) → 0 < by → by * over * a ≤ n → a * over ≤ n
times_low by over n q a positive h = omega (arith, h, mul-le-mul_left (a * over) (let s : 1 ≤ by = omega arith in s))

up_to_times : (by over : ℕ) (n q : ℤ) → 0 < by → (pos (by * over) *ℤ q) ≤ℤ n → n <ℤ (pos (by * over) *ℤ (q +ℤ pos 1)) → unsigned_abs q * over ≤ unsigned_abs n + over
up_to_times by over n (pos a) positive low high =
    let product : pos (by * over) *ℤ pos a ≡ pos (by * over * a) = omega (arith, ints) in
    let le : by * over * a ≤ unsigned_abs n = omega (arith, ints, low, product) in
    omega (arith, times_low by over (unsigned_abs n) n a positive le)
up_to_times by over n (negsuc a) positive low high =
    let next : negsuc a +ℤ pos 1 ≡ neg_ℤ (pos a) = omega (arith, ints) in
    let product : pos (by * over) *ℤ pos a ≡ pos (by * over * a) = omega (arith, ints) in
    let scaled : pos (by * over) *ℤ (negsuc a +ℤ pos 1) ≡ neg_ℤ (pos (by * over * a)) = ap (λ (z : ℤ). pos (by * over) *ℤ z) next ∙ (neg_right (pos (by * over)) (pos a) ∙ ap neg_ℤ product) in
    let le : by * over * a ≤ unsigned_abs n = omega (arith, ints, high, scaled) in
    omega (arith, times_low by over (unsigned_abs n) n a positive le)

pub quotient_times : (by over d : ℕ) (n q : ℤ) → d ≡ by * over → 0 < by → 0 < over → q ≡ int_div_euclid n (pos d) → unsigned_abs q * over ≤ unsigned_abs n + over
quotient_times by over d n q is positive some value = up_to_times by over n q positive (quotient_low by over d n q is positive some value) (quotient_high by over d n q is positive some value)
