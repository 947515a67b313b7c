-- Forms that are small.
use Rattle.std.proofs.Common.{◌≡◌, ℕ, ◌+◌, ◌^◌, ◌≤◌, ℤ, List, [], sum_by, unsigned_abs, arith, refl}
use Rattle.affine_rows.specs.declared.quasi.Quasi.{roll-Quasi, out-roll-Quasi, fold-roll-Quasi, every_made-Quasi}
use Rattle.affine_rows.specs.Forms.{affine, sum_count, constant_count, IsSmall, IsQuotient, IsForm}

pub sum_count-affine : (c : ℤ) (ts : List (ℕ × ℤ)) → sum_count (affine c ts) ≡ sum_by (λ t. unsigned_abs t.1) ts + 0
sum_count-affine c ts = simp fold-roll-Quasi refl

pub constant_count-affine : (c : ℤ) (ts : List (ℕ × ℤ)) → constant_count (affine c ts) ≡ unsigned_abs c + 0
constant_count-affine c ts = simp fold-roll-Quasi refl

pub affine-IsSmall : (c : ℤ) (ts : List (ℕ × ℤ)) → unsigned_abs c ≤ 2 ^ 62 → sum_by (λ t. unsigned_abs t.1) ts ≤ 2 ^ 62 → IsSmall (affine c ts)
affine-IsSmall c ts small few = record { sum = omega (arith, sum_count-affine c ts, few); constant = omega (arith, constant_count-affine c ts, small); factors = simp out-roll-Quasi (omega arith) }

pub affine-IsForm : (c : ℤ) (ts : List (ℕ × ℤ)) → unsigned_abs c ≤ 2 ^ 62 → sum_by (λ t. unsigned_abs t.1) ts ≤ 2 ^ 62 → IsForm (affine c ts)
affine-IsForm c ts small few = record { layers = every_made-Quasi (λ f. IsQuotient f.times f.by) (λ layer. IsSmall (roll-Quasi layer)) (record { constant = c; terms = ts; floors = [] }) (record { constant = c; terms = ts; floors = [] }) refl (affine-IsSmall c ts small few) }
