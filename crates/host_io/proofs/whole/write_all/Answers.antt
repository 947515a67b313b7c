use Rattle.std.proofs.Common.{arith, rules, ◌<◌, length}
use Rattle.std.proofs.lemmas.Grind.{common_steps}
use Rattle.host_io.specs.Told.{FailsOutAfter}
use Rattle.host_io.proofs.Writes.{IsOnOut-more, IsOnOut-fails}
use Rattle.host_io.proofs.whole.write_all.Goals as goal

pub loop-rest-preserved : goal.loop-rest-preserved
loop-rest-preserved g c = IsOnOut-more _ _ _ _ _ _ _ c.loop-rest.invariant (grind (arith, common_steps)) c.in_ok-count.ensures.written

pub returns-in_err-count-clause-failed : goal.returns-in_err-count-clause-failed
returns-in_err-count-clause-failed g c =
    let more : 0 < length c.loop-rest.rest.now = grind (arith, common_steps) in
    let fails : FailsOutAfter (g.H.Host.told c.args.host.now) (g.H.Host.told c.write_out.new.self) c.args.bytes.now = IsOnOut-fails _ _ _ _ _ c.loop-rest.invariant more c.in_err-count.ensures.failed c.in_err-count.ensures.cause in
    search rules
