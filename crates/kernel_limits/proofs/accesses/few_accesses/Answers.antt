use Rattle.std.proofs.Common.{◌+◌, arith}
use Rattle.kernel_ir.specs.Limits.{same_access}
use Rattle.quasi_forms.proofs.Different.{known_next, too_many}
use Rattle.kernel_limits.proofs.SameAccess.{accesses_through}
use Rattle.kernel_limits.proofs.accesses.few_accesses.Goals as goal

pub returns-then-len-gt-MAX_ACCESSES : goal.returns-then-len-gt-MAX_ACCESSES
returns-then-len-gt-MAX_ACCESSES c =
    too_many same_access c.args.accesses.now c.add_new.new.known.items (c.loop-access.access-index + 1) 64
    (known_next same_access c.args.accesses.now c.loop-access.known.items c.add_new.new.known.items c.loop-access.access-index c.access-item.result accesses_through c.loop-access-test.true c.access-item.is c.loop-access.invariant.made c.in_ok-add_new.ensures)
    (omega (arith, c.len.ensures, c.if-len-gt-MAX_ACCESSES.true))

pub loop-access-preserved : goal.loop-access-preserved
loop-access-preserved c = record {
  made = known_next same_access c.args.accesses.now c.loop-access.known.items c.add_new.new.known.items c.loop-access.access-index c.access-item.result accesses_through c.loop-access-test.true c.access-item.is c.loop-access.invariant.made c.in_ok-add_new.ensures;
  few = omega (arith, c.len.ensures, c.if-len-gt-MAX_ACCESSES.false);
}
