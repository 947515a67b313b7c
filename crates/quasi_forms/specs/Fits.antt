-- The limits of forms as tests.
use Rattle.std.specs.Prelude.{ℕ, ◌^◌, pos, int_le, Bool, ◌&&◌, nat_le, List, sum_by, unsigned_abs}
use Rattle.std.specs.List.{list_all}
use Rattle.affine_rows.specs.declared.quasi.Quasi.{Quasi, out-Quasi}
use Rattle.affine_rows.specs.declared.quasi.Floor.{Floor, out-Floor}
use Rattle.affine_rows.specs.Forms.{sum_count, constant_count}
use Rattle.quasi_forms.specs.Collected.{put_form}
use Rattle.quasi_forms.specs.Limits.{floors_in, floor_count}

-- neither sum nor constant passes 2^62, and the factors of the floors together do not pass 2^63
abbrev pub is_small : Quasi → Bool
is_small q = nat_le (sum_count q) (2 ^ 62) && (nat_le (constant_count q) (2 ^ 62) && nat_le (sum_by (λ f. unsigned_abs (out-Floor f).times) (out-Quasi q).floors) (2 ^ 63))

-- divisor and factor are within the limits, and the form under the floor is small
abbrev pub is_small_floor : Floor → Bool
is_small_floor f = int_le (pos 1) (out-Floor f).by && (nat_le (unsigned_abs (out-Floor f).times) (2 ^ 62) && is_small (out-Floor f).inner)

-- the form is small, and so is each in it
abbrev pub fits_form : Quasi → Bool
fits_form q = is_small q && list_all is_small_floor (floors_in q)

-- and there are at most 32 different floors
abbrev pub fits_within : Quasi → Bool
fits_within q = fits_form q && nat_le (floor_count q) 32

-- the form with the others in the places of the variables is within the limits, and so is each under its floors
abbrev pub fits : List ℕ → List Quasi → Quasi → Bool
fits vs fs q = fits_within (put_form vs fs q) && list_all (λ f. fits_within (put_form vs fs (out-Floor f).inner)) (floors_in q)
