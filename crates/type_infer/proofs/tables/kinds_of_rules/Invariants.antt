use Rattle.std.proofs.Common.{◌≡◌, length}
use Rattle.type_infer.specs.Judged.{judged_to}
use Rattle.type_infer.specs.Tables.{judged_at}
use Rattle.type_infer.proofs.Filling.{Settled}
use Rattle.type_infer.proofs.tables.kinds_of_rules.Given as goal

abbrev pub invariant-loop-rule : goal.invariant-loop-rule
invariant-loop-rule l = record {
  each : length l.table.items ≡ length l.kernel.rules;
  settled : Settled (judged_to l.kernel) l.order l.rule-index (judged_at l.table.items);
}
