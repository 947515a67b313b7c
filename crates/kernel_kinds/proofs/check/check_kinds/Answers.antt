use Rattle.std.proofs.Common.{ap, subst, ◌∙◌}
use Rattle.expr_tree.specs.Scenes.{is_among}
use Rattle.kernel_ir.specs.Refusals.{Refuses}
use Rattle.type_infer.specs.Orders.{marked_at}
use Rattle.kernel_kinds.specs.Asked.{known_of, known_over}
use Rattle.kernel_kinds.specs.Calls.{used_rules}
use Rattle.kernel_kinds.specs.Tables.{known_by}
use Rattle.kernel_kinds.proofs.Refusing.{same_refusal}
use Rattle.kernel_kinds.proofs.UsedRules.{acyclic, uses_rules}
use Rattle.kernel_kinds.proofs.check.check_kinds.Goals as goal

pub call_order-requires-clause-rules : goal.call_order-requires-clause-rules
call_order-requires-clause-rules c = uses_rules c.args.rules.now c.as_slice.result.now (c.as_slice.ensures ∙ c.in_ok-uses.ensures)

pub call_order-requires-clause-acyclic : goal.call_order-requires-clause-acyclic
call_order-requires-clause-acyclic c = acyclic c.args.rules.now c.as_slice.result.now (c.as_slice.ensures ∙ c.in_ok-uses.ensures) c.requires

pub returns : goal.returns
returns c =
    let K = c.args.kernel.now in
    let rules = c.args.rules.now in
    let insns = c.args.insns.now in
    let known = ap (known_by c.in_ok-cells.cells) c.as_slice-6.ensures.value
    ∙ (c.in_ok-table.ensures ∙ ap (λ cells. known_over cells rules) c.in_ok-cells.ensures) in
    record {
      refused = subst (λ expected. Refuses expected c.check_all.result)
          (same_refusal K (known_by c.in_ok-cells.cells c.as_slice-6.result.now) (known_of K rules insns) (marked_at c.as_slice-7.result.now)
          (is_among (used_rules rules insns)) rules insns known
          (λ r less. ap (λ marks. marked_at marks r) c.as_slice-7.ensures.value ∙ c.in_ok-marks.ensures r less)) c.check_all.ensures;
    }
