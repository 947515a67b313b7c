use Rattle.std.proofs.Common.{◌≡◌, ℕ, ◌<◌, false}
use Rattle.std.specs.Prelude.{slice_index_or}
use Rattle.affine_rows.specs.declared.row.Row.{Row}
use Rattle.elimination.specs.Stages.{determines}
use Rattle.elimination.proofs.rows.first_equality.Given as goal

abbrev pub invariant-loop-at : goal.invariant-loop-at
invariant-loop-at l = (k : ℕ) (d : Row) → k < l.at → determines l.var (slice_index_or l.rows k d) ≡ false
