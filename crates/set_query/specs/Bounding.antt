-- The rows that bound a variable, where others are cancelled.
use Rattle.std.specs.Prelude.{ℕ, ℤ, neg_ℤ, List, [], ◌∷◌, Bool, false, if◌then◌else◌, filter, flat_map, map}
use Rattle.affine_rows.specs.declared.row.Row.{Row}
use Rattle.affine_rows.specs.declared.row.System.{System}
use Rattle.affine_rows.specs.Reduced.{reduced_row, tightened_row}
use Rattle.affine_rows.specs.Rows.{Env, Holds}
use Rattle.elimination.specs.Shadows.{Each}
use Rattle.elimination.specs.Stages.{bounds_above, bounds_below, cancelled_from, shadow_rows}
use Rattle.set_query.specs.declared.bounding.Side.{Side}
use Rattle.set_query.specs.declared.bounding.Side.TheVariants.{Below, Above}

-- a term's factor negated
abbrev pub negated_term : ℕ × ℤ → ℕ × ℤ
negated_term t = (t.0, neg_ℤ t.1)

-- the row is at least 0
abbrev pub inequality : Row → Row
inequality r = record { constant = r.constant; terms = r.terms; equal = false }

-- the row is at most 0
abbrev pub opposite : Row → Row
opposite r = record { constant = neg_ℤ r.constant; terms = map negated_term r.terms; equal = false }

-- the row as inequalities, an equality as two
abbrev pub halves : Row → List Row
halves r = if r.equal then (inequality r ∷ opposite r ∷ []) else (inequality r ∷ [])

-- the row bounds the variable on that side
abbrev pub bounds_on : Side → ℕ → Row → Bool
bounds_on Below var r = bounds_below var r
bounds_on Above var r = bounds_above var r

-- the rows that bound the variable on that side, tightened
unfoldable pub tight_rows : Side → ℕ → List Row → List Row
tight_rows side var rows = map tightened_row (filter (bounds_on side var) rows)

-- those of the halves of the rows
unfoldable pub bound_rows : Side → ℕ → List Row → List Row
bound_rows side var rows = flat_map (λ r. tight_rows side var (halves r)) rows

-- the rows that are left where all variables but these are cancelled
abbrev pub last_rows : List ℕ → System → List Row
last_rows keep s = shadow_rows (cancelled_from keep 0 s.width) (map reduced_row s.rows)

-- the second rows hold at each integer point of the first
abbrev pub HoldThere : List Row → List Row → Type 0
HoldThere rows bounds = (at : Env) → Each (Holds at) rows → Each (Holds at) bounds
