use Rattle.std.proofs.Common.{◌≡◌, length}
use Rattle.kind_faults.specs.Leads.{leading_at}
use Rattle.type_infer.proofs.Filling.{Settled}
use Rattle.kernel_kinds.specs.Leads.{leading_to}
use Rattle.kernel_kinds.proofs.leads.rule_leads.Given as goal

abbrev pub invariant-loop-rule : goal.invariant-loop-rule
invariant-loop-rule l = record {
  each : length l.table.items ≡ length l.rules;
  settled : Settled (leading_to l.rules) l.order l.rule-index (leading_at l.table.items);
}
