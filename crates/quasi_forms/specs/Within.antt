-- The limits of a form as a test.
use Rattle.std.specs.Prelude.{◌^◌, pos, int_le, nat_le, Bool, ◌&&◌, sum_by, unsigned_abs}
use Rattle.std.specs.List.{list_all}
use Rattle.affine_rows.specs.declared.quasi.Quasi.{Quasi, out-Quasi}
use Rattle.affine_rows.specs.declared.quasi.Floor.{Floor, out-Floor}
use Rattle.affine_rows.specs.Forms.{sum_count, constant_count}
use Rattle.quasi_forms.specs.Limits.{floors_in, floor_count}

-- neither the sum nor the constant passes 2^62, and the factors of the floors together do not pass 2^63
unfoldable pub is_small : Quasi → Bool
is_small q =
    nat_le (sum_count q) (2 ^ 62)
    && (nat_le (constant_count q) (2 ^ 62) && nat_le (sum_by (λ f. unsigned_abs (out-Floor f).times) (out-Quasi q).floors) (2 ^ 63))

-- the divisor is at least 1, the factor does not pass 2^62, and the form under the floor is small
unfoldable pub is_fine : Floor → Bool
is_fine f = int_le (pos 1) (out-Floor f).by && (nat_le (unsigned_abs (out-Floor f).times) (2 ^ 62) && is_small (out-Floor f).inner)

-- it and each form under its floors is small, and there are at most 32 different floors
unfoldable pub is_within : Quasi → Bool
is_within q = (is_small q && list_all is_fine (floors_in q)) && nat_le (floor_count q) 32
