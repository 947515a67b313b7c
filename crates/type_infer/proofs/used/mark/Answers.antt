use Rattle.std.proofs.Common.{◌∙◌, get_or, arith}
use Rattle.std.proofs.lemmas.List.{length-set}
use Rattle.type_infer.proofs.Walks.{among_get}
use Rattle.type_infer.proofs.Marks.{marked_more}
use Rattle.type_infer.proofs.used.mark.Goals as goal

pub bounds-marks-rule : goal.bounds-marks-rule
bounds-marks-rule c =
    let rule = get_or c.args.rules.now c.loop-rule.rule-index 0 in
    omega (arith, c.requires rule (among_get c.args.rules.now c.loop-rule.rule-index 0 c.loop-rule-test.true), c.loop-rule.invariant.each)

pub loop-rule-preserved : goal.loop-rule-preserved
loop-rule-preserved c =
    let rule = get_or c.args.rules.now c.loop-rule.rule-index 0 in
    let within = c.requires rule (among_get c.args.rules.now c.loop-rule.rule-index 0 c.loop-rule-test.true) in
    record {
      each = length-set c.loop-rule.marks rule _ ∙ c.loop-rule.invariant.each;
      marked = marked_more c.args.marks.now c.loop-rule.marks c.args.rules.now c.loop-rule.rule-index 0 c.loop-rule-test.true (omega (arith, within, c.loop-rule.invariant.each)) c.loop-rule.invariant.marked;
    }
