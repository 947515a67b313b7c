use Rattle.std.proofs.Common.{◌<◌, ◌∙◌, length, get_or, slice_get, rules, refl, ap, arith}
use Rattle.std.proofs.lemmas.List.{length-set}
use Rattle.type_infer.specs.Judged.{rule_judged}
use Rattle.type_infer.specs.Tables.{known_by}
use Rattle.type_infer.proofs.LeadTables.{in_range}
use Rattle.type_infer.proofs.KindTables.{kinds_more, kinds_all}
use Rattle.type_infer.proofs.tables.kinds_of_rules.Goals as goal

pub index_mut-requires : goal.index_mut-requires
index_mut-requires c =
    let h = in_range c.args.kernel.now.rules c.args.order.now c.requires c.loop-rule.rule-index 0 (get_or c.args.order.now c.loop-rule.rule-index 0) c.loop-rule-test.true refl in
    let k : get_or c.args.order.now c.loop-rule.rule-index 0 < length c.loop-rule.table.items = omega (arith, h, c.loop-rule.invariant.each) in
    search (rules, k)

pub loop-rule-preserved : goal.loop-rule-preserved
loop-rule-preserved c =
    let rule = get_or c.args.order.now c.loop-rule.rule-index 0 in
    record {
      each = length-set c.loop-rule.table.items rule c.rule_kinds.result ∙ c.loop-rule.invariant.each;
      settled = kinds_more c.args.kernel.now c.args.order.now c.requires c.loop-rule.table.items c.loop-rule.rule-index 0 rule c.rule_kinds.result c.loop-rule.invariant.each
          c.loop-rule-test.true refl c.loop-rule.invariant.settled
          (c.rule_kinds.ensures ∙ ap (λ table. rule_judged (known_by c.args.kernel.now table) (slice_get c.args.kernel.now.rules rule)) c.as_slice-in-loop-rule.ensures.value);
    }

pub returns : goal.returns
returns c =
    kinds_all c.args.kernel.now c.args.order.now c.requires c.loop-rule.table.items c.loop-rule.rule-index c.loop-rule.invariant.each (omega arith) c.loop-rule.invariant.settled
