use Rattle.std.proofs.Common.{arith, ◌+◌, ◌≤◌, length, take}
use Rattle.std.proofs.lemmas.Grind.{common_steps}
use Rattle.host_io.proofs.ReadSteps.{ReadsSoFar-is_open, ReadsSoFar-fails, ReadsSoFar-reads, ReadsSoFar-more, ReadsSoFar-unsure}
use Rattle.host_io.proofs.whole.read_all.Goals as goal

pub read-requires-clause-is_open : goal.read-requires-clause-is_open
read-requires-clause-is_open g c = ReadsSoFar-is_open _ _ _ _ _ _ c.pieces.invariant

pub returns-in_err-count-clause-reads : goal.returns-in_err-count-clause-reads
returns-in_err-count-clause-reads g c = ReadsSoFar-fails _ _ _ _ _ _ _ c.pieces.invariant c.in_err-count.ensures.failed

pub returns-then-count-eq0-clause-reads : goal.returns-then-count-eq0-clause-reads
returns-then-count-eq0-clause-reads g c =
    let within : length c.pieces.bytes.items + length (take c.in_ok-count.count c.read.new.into) ≤ 1048577 = grind (arith, common_steps, c.pieces.bytes.ok.0) in
    ReadsSoFar-reads _ _ _ _ _ _ (ReadsSoFar-more _ _ _ _ _ _ _ _ c.pieces.invariant c.in_ok-count.ensures.taken within)

pub returns-in_err-extend_from_slice-clause-reads : goal.returns-in_err-extend_from_slice-clause-reads
returns-in_err-extend_from_slice-clause-reads g c =
    let within : length c.pieces.bytes.items + length (take c.in_ok-count.count c.read.new.into) ≤ 1048577 = grind (arith, common_steps, c.pieces.bytes.ok.0) in
    ReadsSoFar-reads _ _ _ _ _ _ (ReadsSoFar-more _ _ _ _ _ _ _ _ c.pieces.invariant c.in_ok-count.ensures.taken within)

pub returns-in_err-count-clause-cause : goal.returns-in_err-count-clause-cause
returns-in_err-count-clause-cause g c failed = ReadsSoFar-unsure _ _ _ _ _ _ c.pieces.invariant c.in_err-count.ensures.cause
