-- The row that says that the product of shape entries is at most 2^31-1.
use Rattle.std.specs.Prelude.{◌-◌, ◌^◌, pos, neg_ℤ, Bool, true, false, List, Option, Some, None}
use Rattle.affine_rows.specs.declared.quasi.Quasi.{Quasi}
use Rattle.quasi_forms.specs.Affine.{Part}
use Rattle.quasi_forms.specs.Collected.{constant_form, sum_form}
use Rattle.kernel_ir.specs.Limits.{size_part}
use Rattle.kernel_limits.specs.Asked.{fits_size}

-- the number less the product, where at most one entry has variables
abbrev pub size_form : Option Part → Option Quasi
size_form None = None
size_form (Some p) = Some (sum_form (constant_form (pos (2 ^ 31 - 1))) (neg_ℤ (pos 1)) p.form)

abbrev pub form_where : Bool → Option Quasi → Option Quasi
form_where true form = form
form_where false form = None

-- the row of a shape, where each form on the way is within its limits
abbrev pub small_size_form : List Quasi → Option Quasi
small_size_form shape = form_where (fits_size shape) (size_form (size_part shape))
