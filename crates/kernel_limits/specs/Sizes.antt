-- Products of shape entries.
use Rattle.std.specs.Prelude.{◌≡◌, ℤ, Bool, true, false, ◌&&◌, ◌||◌, List, [], ◌∷◌, Option, MatchOption}
use Rattle.std.specs.List.{AllByRecursion}
use Rattle.affine_rows.specs.declared.quasi.Quasi.{Quasi}
use Rattle.affine_rows.specs.Forms.{IsForm}
use Rattle.quasi_forms.specs.Affine.{Part, is_constant, times_form}
use Rattle.quasi_forms.specs.Collected.{constant_form, sum_form}
use Rattle.quasi_forms.specs.Fits.{fits_form}

-- at most one of the entries, and of what stands before them, has variables
abbrev pub joins : Bool → List Quasi → Bool
joins constant [] = true
joins constant (q ∷ qs) = (constant || is_constant q) && joins (constant && is_constant q) qs

-- a number plus a multiple of a form
abbrev pub moved : ℤ → ℤ → Quasi → Quasi
moved constant times q = sum_form (constant_form constant) times q

-- the product so far is this form, and each form on the way to it is within its limits
pub record IsSize (p : Part) (f : Quasi) (constant : Bool) : Type 0 where
  pub form : p.form ≡ f
  pub written : p.constant ≡ constant
  pub steps : AllByRecursion IsForm p.steps

-- the multiple of the one by the number of the other
abbrev pub product_form : Bool → Quasi → Quasi → Quasi
product_form true size entry = times_form size entry
product_form false size entry = times_form entry size

-- the product, if it is within the limits
abbrev pub Multiplies : Quasi → Bool → Quasi → Option Quasi → Type 0
Multiplies size constant entry made = MatchOption made (fits_form (product_form constant size entry) ≡ false) (λ f. (f ≡ product_form constant size entry) × IsForm f)
