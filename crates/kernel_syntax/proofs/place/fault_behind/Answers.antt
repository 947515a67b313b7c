use Rattle.std.proofs.Common.{arith}
use Rattle.kernel_syntax.proofs.LineCounts.{counts_feed, counts_byte, counted_to}
use Rattle.kernel_syntax.proofs.place.fault_behind.Goals.{then-bytes-at-eq10, else-bytes-at-eq10}
use Rattle.kernel_syntax.proofs.place.fault_behind.Goals as goal

pub bytes-preserved : goal.bytes-preserved
bytes-preserved c = elim c.if-bytes-at-eq10.branch [
  | then-bytes-at-eq10 w ↦ (counts_feed _ _ _ _ _ _ c.if-at-bytes.true w.if-bytes-at-eq10.true w.line-is w.count-is c.bytes.invariant.0, omega (arith, c.bytes-test.true))
  | else-bytes-at-eq10 w ↦ (counts_byte _ _ _ _ _ _ c.if-at-bytes.true w.if-bytes-at-eq10.false w.line-is w.count-is c.bytes.invariant.0, omega (arith, c.bytes-test.true))
]

pub returns-after-bytes : goal.returns-after-bytes
returns-after-bytes c = counted_to _ _ _ _ _ c.bytes.invariant.0 c.bytes.invariant.1 (omega arith)
