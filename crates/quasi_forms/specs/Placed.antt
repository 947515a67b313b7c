-- When a form with others in the places of variables is within the limits.
use Rattle.std.specs.Prelude.{ℕ, Bool, true, false, ◌&&◌, if◌then◌else◌, nat_eq, List, [], ◌∷◌}
use Rattle.std.specs.List.{list_all, AllByRecursion}
use Rattle.affine_rows.specs.declared.quasi.Quasi.{Quasi}
use Rattle.affine_rows.specs.declared.quasi.Floor.{Floor, out-Floor, fold-Floor}
use Rattle.quasi_forms.specs.Collected.{put_form, put_floor_step, put_step}
use Rattle.quasi_forms.specs.Limits.{floors_in, IsWithin}

-- no variable is there twice
abbrev pub vars_differ : List ℕ → Bool
vars_differ [] = true
vars_differ (v ∷ vs) = list_all (λ u. if nat_eq v u then false else true) vs && vars_differ vs

-- the floor with other forms in the places of the variables under it
unfoldable pub put_floor : List ℕ → List Quasi → Floor → Floor
put_floor vs bs = fold-Floor Floor Quasi put_floor_step (put_step vs bs)

-- the form under the floor is within the limits, once the others are put in
abbrev pub PutsInner : List ℕ → List Quasi → Floor → Type 0
PutsInner vs bs f = IsWithin (put_form vs bs (out-Floor f).inner)

-- the form with the others put in is within the limits, and so is the form under each of its floors
pub record PutsWithin (vs : List ℕ) (bs : List Quasi) (q : Quasi) : Type 0 where
  pub form : IsWithin (put_form vs bs q)
  pub parts : AllByRecursion (PutsInner vs bs) (floors_in q)
