use Rattle.std.proofs.Common.{◌∙◌, ◌<◌, true, false, ap, sym, length, arith}
use Rattle.elimination.proofs.Marking.{ArePlaces, covers_at, marks-begin, marks-end, marks-kept, marks-more, places-are, set_at}
use Rattle.elimination.proofs.dropping.marks_of.Goals as goal
use Rattle.elimination.proofs.dropping.marks_of.Goals.{then-covers, else-covers}

pub loop-i-init : goal.loop-i-init
loop-i-init c = record {
  some = omega arith;
  marked = marks-begin c.args.rows.now c.in_ok-places.places.items c.in_ok-marks.marks.items c.in_ok-marks.ensures;
}

pub loop-i-preserved : goal.loop-i-preserved
loop-i-preserved c =
    let places = c.in_ok-places.places.items in
    let are : ArePlaces c.args.rows.now places = places-are c.args.rows.now places c.in_ok-places.ensures.within c.in_ok-places.ensures.permutation c.in_ok-places.ensures.sorted in
    let inside : c.loop-i.i < length places = grind (arith, c.loop-i-test.true) in
    record {
      some = omega arith;
      marked = elim c.if-covers.branch [
        | then-covers w ↦ marks-more c.args.rows.now places c.loop-i.i c.loop-i.marks.items c.if-covers.marks.items are inside c.loop-i.invariant.some
            (covers_at c.args.rows.now places c.loop-i.i c.index.result.now c.index-in-loop-i.result.now c.index-rows-index.result c.index-rows-index-in-loop-i.result true are inside c.loop-i.invariant.some c.index.ensures c.index-in-loop-i.ensures c.index-rows-index.is c.index-rows-index-in-loop-i.is (sym c.covers.ensures ∙ w.if-covers.true))
            (set_at c.loop-i.marks.items c.if-covers.marks.items places c.loop-i.i w.index-then-covers.result.now inside w.index-then-covers.ensures (ap (λ v. v.items) w.marks-is)) c.loop-i.invariant.marked
        | else-covers w ↦ marks-kept c.args.rows.now places c.loop-i.i c.index-rows-index.result c.if-covers.marks.items inside c.loop-i.invariant.some
            (covers_at c.args.rows.now places c.loop-i.i c.index.result.now c.index-in-loop-i.result.now c.index-rows-index.result c.index-rows-index-in-loop-i.result false are inside c.loop-i.invariant.some c.index.ensures c.index-in-loop-i.ensures c.index-rows-index.is c.index-rows-index-in-loop-i.is (sym c.covers.ensures ∙ w.if-covers.false) c.index-rows-index.result)
            (rw w.marks-is c.loop-i.invariant.marked)
      ];
    }

pub returns : goal.returns
returns c =
    let places = c.in_ok-places.places.items in
    let are : ArePlaces c.args.rows.now places = places-are c.args.rows.now places c.in_ok-places.ensures.within c.in_ok-places.ensures.permutation c.in_ok-places.ensures.sorted in
    marks-end c.args.rows.now places c.loop-i.i c.loop-i.marks.items are (grind (arith, c.loop-i-test.false)) c.loop-i.invariant.marked
