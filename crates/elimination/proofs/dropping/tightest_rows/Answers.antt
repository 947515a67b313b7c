use Rattle.std.proofs.Common.{◌≡◌, ◌∙◌, ◌++◌, [], List, ap, sym, subst, length, arith, rules}
use Rattle.std.specs.Vec.Iter.{into_iter_items}
use Rattle.affine_rows.specs.declared.row.Row.{Row}
use Rattle.elimination.specs.Stages.{AreMarked, staying, tightest_rows}
use Rattle.elimination.proofs.Marking.{all_kept, kept_more, more_left}
use Rattle.elimination.proofs.dropping.tightest_rows.Goals as goal

pub loop-row-init : goal.loop-row-init
unfolding tightest_rows
loop-row-init c = record {
  next = tt;
  finite = tt;
  size = search rules;
  left = search rules;
  rows = ap (λ (xs : List Row). xs ++ staying [] c.args.rows.items) c.new-kept.ensures.items;
}

pub loop-row-preserved : goal.loop-row-preserved
loop-row-preserved c =
    let marked : AreMarked c.args.rows.items c.in_ok-marks.marks.items = subst (λ (xs : List Row). AreMarked xs c.in_ok-marks.marks.items) c.deref.ensures.value c.in_ok-marks.ensures in
    let step = more_left c.args.rows.items (into_iter_items c.loop-row.row-iterator) (into_iter_items c.next.new.self) c.loop-row.place c.in-Some.row c.loop-row.invariant.left c.in-Some.ensures.steps.0 in
    let count = c.in-Some.ensures.steps.1 in
    let size = c.loop-row.invariant.size in
    let items = ap length c.in-Some.ensures.steps.0 in
    record {
      next = tt;
      finite = tt;
      size = omega (arith, count, size, items);
      left = step.2;
      rows = kept_more c.args.rows.items c.loop-row.kept.items c.keep.new.kept.items (tightest_rows c.args.rows.items) c.in_ok-marks.marks.items c.loop-row.place c.in-Some.row c.index.result.now marked step.0 step.1 c.index.ensures c.in_ok-keep.ensures c.loop-row.invariant.rows;
    }

pub returns : goal.returns
returns c =
    let size = c.loop-row.invariant.size in
    let none : length (into_iter_items c.loop-row.row-iterator) ≡ 0 = sym size ∙ c.in-None.ensures.steps.0 in
    all_kept c.args.rows.items c.loop-row.kept.items (tightest_rows c.args.rows.items) c.loop-row.place (sym (ap length c.loop-row.invariant.left) ∙ none) c.loop-row.invariant.rows
