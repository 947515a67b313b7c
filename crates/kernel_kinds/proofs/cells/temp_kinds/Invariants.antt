use Rattle.std.proofs.Common.{◌≡◌, ℕ, ◌<◌, length}
use Rattle.kind_faults.specs.Leads.{leading_at}
use Rattle.type_infer.specs.Inferred.{kind_by}
use Rattle.kernel_kinds.specs.Tables.{kind_at}
use Rattle.kernel_kinds.proofs.cells.temp_kinds.Given as goal

abbrev pub invariant-loop-temp : goal.invariant-loop-temp
invariant-loop-temp l = record {
  each : length l.kinds ≡ l.temp;
  same : (t : ℕ) → t < l.temp → kind_at l.kinds t ≡ kind_by l.kernel (leading_at l.stored) t;
}
