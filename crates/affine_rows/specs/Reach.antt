-- A bound on the value of a form whose variables have 64 bits.
use Rattle.std.specs.Prelude.{ℕ, ◌+◌, ◌*◌, ◌^◌}
use Rattle.affine_rows.specs.declared.quasi.Quasi.{Quasi}
use Rattle.affine_rows.specs.declared.quasi.Floor.{Floor, fold-Floor}
use Rattle.affine_rows.specs.Forms.{floor_count, sum_step, constant_step, sum_count, constant_count}

-- the count of one floor in the sum, and in the constant
abbrev pub floor_sum : Floor → ℕ
floor_sum = fold-Floor ℕ ℕ floor_count sum_step

abbrev pub floor_constant : Floor → ℕ
floor_constant = fold-Floor ℕ ℕ floor_count constant_step

-- the constant and 2^63 times the sum
abbrev pub reach : Quasi → ℕ
reach q = constant_count q + 2 ^ 63 * sum_count q

abbrev pub reach_of_floor : Floor → ℕ
reach_of_floor f = floor_constant f + 2 ^ 63 * floor_sum f
