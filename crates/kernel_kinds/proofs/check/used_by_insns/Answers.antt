use Rattle.std.proofs.Common.{List, ℕ, flat_map, length, sym, subst, ap, ◌∙◌}
use Rattle.type_infer.specs.Orders.{IsCallOrder}
use Rattle.kernel_kinds.specs.Calls.{calls_in_insn, rules_in}
use Rattle.kernel_kinds.specs.Tables.{within}
use Rattle.kernel_kinds.proofs.UsedRules.{called_rules, uses_rules, used_is}
use Rattle.kernel_kinds.proofs.check.used_by_insns.Goals as goal

pub used_rules-requires-clause-order : goal.used_rules-requires-clause-order
used_rules-requires-clause-order c = subst (λ (us : List (List ℕ)). IsCallOrder us c.args.order.now) (sym c.requires.uses) c.requires.order

pub used_rules-requires-clause-uses : goal.used_rules-requires-clause-uses
used_rules-requires-clause-uses c = uses_rules c.args.rules.now c.args.uses.now c.requires.uses

pub used_rules-requires-clause-rules : goal.used_rules-requires-clause-rules
used_rules-requires-clause-rules c =
    called_rules c.args.rules.now c.args.uses.now c.requires.uses (flat_map calls_in_insn c.args.insns.now) c.as_slice-2.result.now
    (c.as_slice-2.ensures ∙ (c.in_ok-called.ensures ∙ ap (λ cs. within (length c.args.rules.now) (rules_in cs)) (c.as_slice.ensures ∙ c.in_ok-calls.ensures)))

pub returns : goal.returns
returns c r less = c.in_ok-used.ensures r
    ∙ used_is c.args.rules.now c.args.uses.now c.requires.uses (flat_map calls_in_insn c.args.insns.now) c.as_slice-2.result.now
    (c.as_slice-2.ensures ∙ (c.in_ok-called.ensures ∙ ap (λ cs. within (length c.args.rules.now) (rules_in cs)) (c.as_slice.ensures ∙ c.in_ok-calls.ensures)))
    r less
