use Rattle.std.proofs.Common.{arith}
use Rattle.kernel_syntax.proofs.Candidates.{common_ended}
use Rattle.kernel_syntax.proofs.place.common.Goals as goal

pub returns-else-count-other : goal.returns-else-count-other
returns-else-count-other c = common_ended c.args.one.now c.args.other.now (omega (arith, c.if-count-other.false)) c.bytes.invariant
