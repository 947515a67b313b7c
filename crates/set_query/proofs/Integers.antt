-- Integer points are rational points over 1.
use Rattle.std.specs.Prelude.{◌≡◌, ℤ, pos, ◌+ℤ◌, ◌*ℤ◌, List, [], ◌∷◌}
use Rattle.std.proofs.Common.{inl, inr, sym, subst, arith}
use Rattle.std.proofs.lemmas.Int.{ints}
use Rattle.affine_rows.specs.declared.row.Row.{Row}
use Rattle.affine_rows.specs.declared.row.System.{System}
use Rattle.affine_rows.specs.Rows.{Env, Holds, terms_at}
use Rattle.affine_rows.specs.Reduced.{HoldsOver, IsMet}
use Rattle.elimination.specs.Shadows.{AllHold, Each}
use Rattle.elimination.specs.Points.{HasNone}
use Rattle.elimination.proofs.Bounds.{Each-map}
use Rattle.set_query.specs.Cases.{HasSome, IsIntegerPoint}

one_times : (c t : ℤ) → c +ℤ t ≡ pos 1 *ℤ c +ℤ t
one_times c t = omega (arith, ints)

pub over_one : (at : Env) (r : Row) → Holds at r → HoldsOver 1 at r
over_one at r h = subst (λ (v : ℤ). IsMet r.equal v) (one_times r.constant (terms_at at r.terms)) h

pub from_one : (at : Env) (r : Row) → HoldsOver 1 at r → Holds at r
from_one at r h = subst (λ (v : ℤ). IsMet r.equal v) (sym (one_times r.constant (terms_at at r.terms))) h

pub rational_point : (at : Env) (rows : List Row) → Each (Holds at) rows → AllHold 1 at rows
rational_point at rows h = Each-map (Holds at) (HoldsOver 1 at) rows (λ r k. over_one at r k) h

pub no_integer_point : (at : Env) (rows : List Row) → HasNone rows → Each (Holds at) rows → ⊥
no_integer_point at rows none h = none 1 at (omega arith) (rational_point at rows h)

pub none_of : (at : Env) (systems : List System) → Each (λ s. HasNone s.rows) systems → HasSome (IsIntegerPoint at) systems → ⊥
none_of at [] none h = absurd h
none_of at (s ∷ systems) none (inl here) = no_integer_point at s.rows none.0 here
none_of at (s ∷ systems) none (inr rest) = none_of at systems none.1 rest
