use Rattle.std.proofs.Common.{◌≡◌, length}
use Rattle.type_infer.proofs.Filling.{Settled}
use Rattle.kernel_kinds.specs.Asked.{asked_to}
use Rattle.kernel_kinds.specs.Tables.{asked_at, cells_in}
use Rattle.kernel_kinds.proofs.kept.kept_rules.Given as goal

abbrev pub invariant-loop-rule : goal.invariant-loop-rule
invariant-loop-rule l = record {
  each : length l.table.items ≡ length l.rules;
  settled : Settled (asked_to (cells_in l.cells) l.rules) l.order l.rule-index (asked_at l.table.items);
}
