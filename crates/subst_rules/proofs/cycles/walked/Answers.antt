use Rattle.std.proofs.Common.{◌∙◌, ◌<◌, length, arith}
use Rattle.std.proofs.lemmas.Grind.{get_or_default_zero}
use Rattle.subst_rules.proofs.Walking.{begun, gone_on}
use Rattle.subst_rules.proofs.cycles.walked.Goals as goal

pub steps-init : goal.steps-init
steps-init c =
    let e = c.in_ok-add_uses.ensures in
    let n = c.in_ok-walk.ensures in
    record {
      walk = e.walk;
      count = e.count ∙ n.count;
      walked = begun c.args.bodies.now (length c.in_ok-walk.walk.marks.items) c.args.from c.in_ok-walk.walk.work.items c.add_uses.new.self.work.items c.uses_at.result.now e.work n.work c.uses_at.ensures n.count;
    }

pub steps-preserved : goal.steps-preserved
steps-preserved c =
    let e = c.in_ok-add_uses-2.ensures in
    let i = c.steps.invariant in
    let more : c.steps.done < length c.steps.walk.work.items = grind (arith, c.steps-test.true, c.len.ensures) in
    record {
      walk = e.walk;
      count = e.count ∙ i.count;
      walked = gone_on c.args.bodies.now (length c.steps.walk.marks.items) c.args.from c.index-rule.result.now c.steps.done c.steps.walk.work.items c.add_uses-in-steps.new.self.work.items c.uses_at-in-steps.result.now e.work c.uses_at-in-steps.ensures i.count i.walked more
          (c.index-rule.ensures ∙ get_or_default_zero c.steps.walk.work.items c.steps.done c.index-rule.result.now more);
    }
