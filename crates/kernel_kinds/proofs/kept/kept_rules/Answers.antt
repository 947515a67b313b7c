use Rattle.std.proofs.Common.{◌<◌, ◌∙◌, length, get_or, slice_get, rules, refl, ap, arith}
use Rattle.std.proofs.lemmas.List.{length-set}
use Rattle.kernel_kinds.specs.Asked.{rule_asked}
use Rattle.kernel_kinds.specs.Tables.{known_by}
use Rattle.kernel_kinds.proofs.Tables.{in_range}
use Rattle.kernel_kinds.proofs.AskedTables.{kept_more, kept_all}
use Rattle.kernel_kinds.proofs.kept.kept_rules.Goals as goal

pub index_mut-requires : goal.index_mut-requires
index_mut-requires c =
    let h = in_range c.args.rules.now c.args.order.now c.requires c.loop-rule.rule-index 0
    (get_or c.args.order.now c.loop-rule.rule-index 0) c.loop-rule-test.true refl in
    let k : get_or c.args.order.now c.loop-rule.rule-index 0 < length c.loop-rule.table.items = omega (arith, h, c.loop-rule.invariant.each) in
    search (rules, k)

pub loop-rule-preserved : goal.loop-rule-preserved
loop-rule-preserved c =
    let rule = get_or c.args.order.now c.loop-rule.rule-index 0 in
    record {
      each = length-set c.loop-rule.table.items rule c.kept_of.result ∙ c.loop-rule.invariant.each;
      settled = kept_more c.args.cells.now c.args.rules.now c.args.order.now c.requires c.loop-rule.table.items c.loop-rule.rule-index
          c.loop-rule.invariant.each c.loop-rule.invariant.settled
          0 rule c.kept_of.result c.loop-rule-test.true refl
          (c.kept_of.ensures ∙ ap (λ table. rule_asked (known_by c.args.cells.now table) (slice_get c.args.rules.now rule)) c.as_slice.ensures.value);
    }

pub returns : goal.returns
returns c =
    kept_all c.args.cells.now c.args.rules.now c.args.order.now c.requires c.loop-rule.table.items c.loop-rule.rule-index c.loop-rule.invariant.each
    c.loop-rule.invariant.settled (omega arith)
