-- What is counted beside the parts of a form.
use Rattle.std.specs.Prelude.{◌≡◌, ℕ, ◌+◌, ◌^◌, ◌≤◌, ℤ, List, sum_by, unsigned_abs, All}
use Rattle.affine_rows.specs.declared.quasi.Floor.{Floor, out-Floor}
use Rattle.affine_rows.specs.Forms.{IsFloor}
use Rattle.affine_rows.specs.Reach.{floor_sum, floor_constant}

-- the sum of the form, what its floors count in its constant, and the sum of their factors; all within the limits
pub record IsCounted (constant : ℤ) (terms : List (ℕ × ℤ)) (floors : List Floor) (size rest factors : ℕ) : Type 0 where
  pub each : All IsFloor floors
  pub size_is : size ≡ sum_by (λ t. unsigned_abs t.1) terms + sum_by floor_sum floors
  pub rest_is : rest ≡ sum_by floor_constant floors
  pub factors_is : factors ≡ sum_by (λ f. unsigned_abs (out-Floor f).times) floors
  pub size_small : size ≤ 2 ^ 62
  pub constant_small : unsigned_abs constant + rest ≤ 2 ^ 62
  pub factors_small : factors ≤ 2 ^ 63
