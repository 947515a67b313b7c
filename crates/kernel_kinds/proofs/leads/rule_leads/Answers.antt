use Rattle.std.proofs.Common.{◌<◌, ◌∙◌, length, get_or, slice_get, rules, refl, ap, arith}
use Rattle.std.proofs.lemmas.List.{length-set}
use Rattle.kind_faults.specs.Leads.{leading_at}
use Rattle.kernel_kinds.specs.Leads.{body_leading}
use Rattle.kernel_kinds.proofs.Tables.{in_range}
use Rattle.kernel_kinds.proofs.LeadTables.{leads_more, leads_all}
use Rattle.kernel_kinds.proofs.leads.rule_leads.Goals as goal

pub index_mut-requires : goal.index_mut-requires
index_mut-requires c =
    let h = in_range c.args.rules.now c.args.order.now c.requires c.loop-rule.rule-index 0
    (get_or c.args.order.now c.loop-rule.rule-index 0) c.loop-rule-test.true refl in
    let k : get_or c.args.order.now c.loop-rule.rule-index 0 < length c.loop-rule.table.items = omega (arith, h, c.loop-rule.invariant.each) in
    search (rules, k)

pub loop-rule-preserved : goal.loop-rule-preserved
loop-rule-preserved c =
    let rule = get_or c.args.order.now c.loop-rule.rule-index 0 in
    record {
      each = length-set c.loop-rule.table.items rule c.body_leading.result ∙ c.loop-rule.invariant.each;
      settled = leads_more c.args.rules.now c.args.order.now c.requires c.loop-rule.table.items c.loop-rule.rule-index c.loop-rule.invariant.each
          c.loop-rule.invariant.settled
          0 rule c.body_leading.result c.loop-rule-test.true refl
          (c.body_leading.ensures ∙ ap (λ table. body_leading (leading_at table) (slice_get c.args.rules.now rule)) c.as_slice.ensures.value);
    }

pub returns : goal.returns
returns c =
    leads_all c.args.rules.now c.args.order.now c.requires c.loop-rule.table.items c.loop-rule.rule-index c.loop-rule.invariant.each
    c.loop-rule.invariant.settled (omega arith)
