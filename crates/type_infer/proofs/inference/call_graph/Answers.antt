use Rattle.std.proofs.Common.{sym, subst, ap, ◌∙◌}
use Rattle.type_infer.specs.Orders.{UsesRules, HasNoCycle}
use Rattle.type_infer.proofs.LeadTables.{uses_in}
use Rattle.type_infer.proofs.KernelRules.{uses_rules, no_cycle}
use Rattle.type_infer.proofs.inference.call_graph.Goals as goal

pub call_order-requires-clause-rules : goal.call_order-requires-clause-rules
call_order-requires-clause-rules c =
    let is = c.as_slice-2.ensures ∙ (c.in_ok-uses.ensures ∙ ap uses_in c.as_slice.ensures) in
    subst (λ uses. UsesRules uses) (sym is) (uses_rules c.args.kernel.now c.requires.formed)

pub call_order-requires-clause-acyclic : goal.call_order-requires-clause-acyclic
call_order-requires-clause-acyclic c =
    let is = c.as_slice-2.ensures ∙ (c.in_ok-uses.ensures ∙ ap uses_in c.as_slice.ensures) in
    subst (λ uses. HasNoCycle uses) (sym is) (no_cycle c.args.kernel.now c.requires.acyclic)
