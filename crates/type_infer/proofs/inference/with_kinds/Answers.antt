use Rattle.std.proofs.Common.{ap, length, ◌∙◌}
use Rattle.type_infer.specs.Leads.{leading_to}
use Rattle.kind_faults.specs.Leads.{leading_at}
use Rattle.type_infer.proofs.inference.with_kinds.Goals as goal

pub inferred_temps-requires : goal.inferred_temps-requires
inferred_temps-requires c = ap leading_at c.as_slice-3.ensures.value ∙ (c.in_ok-leads.ensures ∙ ap (λ rules. leading_to rules (length rules)) c.as_slice.ensures)
