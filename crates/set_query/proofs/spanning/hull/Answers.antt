use Rattle.std.proofs.Common.{arith, rules, sym, subst, length, List, ◌<◌}
use Rattle.affine_rows.specs.declared.row.System.{System}
use Rattle.elimination.specs.Shadows.{Each}
use Rattle.set_query.specs.Hulls.{IsRespected}
use Rattle.std.proofs.lemmas.Result.{err_from_is_err_and}
use Rattle.set_query.specs.declared.bounding.Side.TheVariants.{Above, Below}
use Rattle.set_query.proofs.Hulls.{first_taken, span_refused, spanned_more, widest_more}
use Rattle.set_query.proofs.Inside.{all_inside, respected_more}
use Rattle.set_query.proofs.spanning.hull.Goals as goal

pub loop-at-preserved : goal.loop-at-preserved
loop-at-preserved c = record {
  ends = record {
    below = widest_more Below c.args.var c.args.systems.now c.loop-at.at c.index-systems-at.result c.loop-at.ends.below c.in_ok-more.more.below c.joined-ends.result.below c.loop-at.invariant.one c.loop-at-test.true c.index-systems-at.is c.loop-at.invariant.ends.below c.in_ok-more.ensures.ends.below c.joined-ends.ensures.below;
    above = widest_more Above c.args.var c.args.systems.now c.loop-at.at c.index-systems-at.result c.loop-at.ends.above c.in_ok-more.more.above c.joined-ends.result.above c.loop-at.invariant.one c.loop-at-test.true c.index-systems-at.is c.loop-at.invariant.ends.above c.in_ok-more.ensures.ends.above c.joined-ends.ensures.above;
    below_small = c.joined-ends.ensures.below_small;
    above_small = c.joined-ends.ensures.above_small;
  };
  within = spanned_more c.args.var c.args.systems.now c.loop-at.at c.index-systems-at.result c.loop-at-test.true c.index-systems-at.is c.loop-at.invariant.within c.in_ok-more.ensures.within;
  respected = respected_more c.args.var c.args.systems.now c.loop-at.at c.index-systems-at.result c.loop-at-test.true c.index-systems-at.is c.loop-at.invariant.respected c.in_ok-more.ensures.respected;
  one = omega arith;
}

pub loop-at-init : goal.loop-at-init
loop-at-init c =
    let inside : 0 < length c.args.systems.now = search rules in
    record {
      ends = search rules;
      within = search rules;
      respected = subst (λ (systems : List System). Each (IsRespected c.args.var) systems) (sym (first_taken c.args.systems.now c.index-systems-0.result inside c.index-systems-0.is)) (c.in_ok-ends.ensures.respected, tt);
      one = omega arith;
    }

pub returns-in_err-more-clause-fault : goal.returns-in_err-more-clause-fault
returns-in_err-more-clause-fault c =
    let p = err_from_is_err_and c.from_residual-in_err-more.result c.from_residual-in_err-more.ensures.1 in
    rw (p.1, p.2)
    (span_refused c.args.var c.args.systems.now c.loop-at.at c.index-systems-at.result c.in_err-more.field-0.0 c.loop-at-test.true c.index-systems-at.is c.loop-at.invariant.within c.in_err-more.ensures.fault)

pub returns-clause-inside : goal.returns-clause-inside
returns-clause-inside c =
    all_inside c.args.var c.args.systems.now c.loop-at.at c.loop-at.ends.below c.loop-at.ends.above c.opposite_end.result (omega (arith, c.loop-at-test.false)) c.opposite_end.ensures c.loop-at.invariant.ends.below c.loop-at.invariant.ends.above c.loop-at.invariant.respected
