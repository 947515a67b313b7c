use Rattle.std.proofs.Common.{◌+◌, arith}
use Rattle.quasi_forms.specs.Alike.{same_floor}
use Rattle.quasi_forms.proofs.Different.{known_next, too_many}
use Rattle.quasi_forms.proofs.Likeness.{like_through}
use Rattle.quasi_forms.proofs.limits.few_different.Goals as goal

pub returns-then-len-gt-MOST_FLOORS : goal.returns-then-len-gt-MOST_FLOORS
returns-then-len-gt-MOST_FLOORS c =
    too_many same_floor c.args.floors.now c.add_new.new.known.items (c.loop-floor.floor-index + 1) 32
    (known_next same_floor c.args.floors.now c.loop-floor.known.items c.add_new.new.known.items c.loop-floor.floor-index c.floor-item.result like_through c.loop-floor-test.true c.floor-item.is c.loop-floor.invariant.made c.in_ok-add_new.ensures)
    (omega (arith, c.len.ensures, c.if-len-gt-MOST_FLOORS.true))

pub loop-floor-preserved : goal.loop-floor-preserved
loop-floor-preserved c = record {
  made = known_next same_floor c.args.floors.now c.loop-floor.known.items c.add_new.new.known.items c.loop-floor.floor-index c.floor-item.result like_through c.loop-floor-test.true c.floor-item.is c.loop-floor.invariant.made c.in_ok-add_new.ensures;
  few = omega (arith, c.len.ensures, c.if-len-gt-MOST_FLOORS.false);
}
