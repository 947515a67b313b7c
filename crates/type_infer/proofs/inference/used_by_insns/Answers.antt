use Rattle.std.proofs.Common.{◌≡◌, ◌<◌, true, length, sym, subst, ap, ◌∙◌}
use Rattle.expr_tree.specs.Scenes.{is_among}
use Rattle.type_infer.specs.Orders.{UsesRules}
use Rattle.type_infer.specs.Tables.{calls_in_insns}
use Rattle.type_infer.proofs.KernelRules.{uses_rules, called_rules, used_is}
use Rattle.type_infer.proofs.inference.used_by_insns.Goals as goal

pub used_rules-requires-clause-uses : goal.used_rules-requires-clause-uses
used_rules-requires-clause-uses c =
    subst (λ uses. UsesRules uses) (sym (c.as_slice-2.ensures ∙ c.requires.graph.uses)) (uses_rules c.args.kernel.now c.requires.formed)

pub used_rules-requires-clause-rules : goal.used_rules-requires-clause-rules
used_rules-requires-clause-rules c r among =
    let called = c.as_slice-4.ensures.value ∙ (c.in_ok-called.ensures ∙ ap calls_in_insns c.as_slice.ensures) in
    subst (λ uses. r < length uses) (sym (c.as_slice-2.ensures ∙ c.requires.graph.uses))
    (called_rules c.args.kernel.now c.requires.formed r (subst (λ rules. is_among rules r ≡ true) called among))

pub returns : goal.returns
returns c r =
    let called = c.as_slice-4.ensures.value ∙ (c.in_ok-called.ensures ∙ ap calls_in_insns c.as_slice.ensures) in
    c.in_ok-used.ensures r ∙ ap (λ rules. is_among rules r) (used_is c.args.kernel.now c.as_slice-2.result.now c.as_slice-4.result.now (c.as_slice-2.ensures ∙ c.requires.graph.uses) called)
