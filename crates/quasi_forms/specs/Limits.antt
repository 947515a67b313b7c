-- The limits of a form.
use Rattle.std.specs.Prelude.{ℕ, ◌≤◌, List, [], ◌∷◌, ◌++◌, map, flat_map, length}
use Rattle.affine_rows.specs.declared.quasi.Quasi.{Quasi, Quasi-F, roll-Quasi, fold-Quasi}
use Rattle.affine_rows.specs.declared.quasi.Floor.{Floor, Floor-F, roll-Floor, fold-Floor}
use Rattle.affine_rows.specs.Forms.{IsForm}
use Rattle.quasi_forms.specs.Alike.{same_floor, distinct}

-- a form, and the floors in it
pub record Inside : Type 0 where
  pub form : Quasi
  pub floors : List Floor

-- a floor, and the floors in it with itself
pub record FloorInside : Type 0 where
  pub floor : Floor
  pub floors : List Floor

-- one floor, or one form, with what is inside each part in its place; an inner floor comes before the floor round it
abbrev pub floor_inside : Floor-F FloorInside Inside → FloorInside
floor_inside f =
    let floor = roll-Floor (record { times = f.times; inner = f.inner.form; by = f.by }) in
    record { floor = floor; floors = f.inner.floors ++ floor ∷ [] }

abbrev pub form_inside : Quasi-F FloorInside Inside → Inside
form_inside q = record {
  form = roll-Quasi (record { constant = q.constant; terms = q.terms; floors = map (λ f. f.floor) q.floors });
  floors = flat_map (λ f. f.floors) q.floors;
}

-- the floors of a form, those under floors among them
unfoldable pub floors_in : Quasi → List Floor
floors_in q = (fold-Quasi FloorInside Inside floor_inside form_inside q).floors

-- a floor with the floors under it, itself the last
unfoldable pub floors_within : Floor → List Floor
floors_within f = (fold-Floor FloorInside Inside floor_inside form_inside f).floors

-- the different floors of a form, in the order in which they first occur
abbrev pub floors_of : Quasi → List Floor
floors_of q = distinct same_floor (floors_in q)

abbrev pub floor_count : Quasi → ℕ
floor_count q = length (floors_of q)

-- it and each form under its floors is small, and there are at most 32 different floors
pub record IsWithin (q : Quasi) : Type 0 where
  pub form : IsForm q
  pub floors : floor_count q ≤ 32
