use Rattle.std.proofs.Common.{◌≤◌, ◌-◌, length}
use Rattle.text_reader.proofs.Runs.{GoesTo}
use Rattle.text_reader.proofs.lexeme.run_length.Given as goal

abbrev pub invariant-bytes : goal.invariant-bytes
invariant-bytes l = record { within : l.length ≤ length l.bytes; goes : GoesTo l.form l.piece l.bytes l.length }

abbrev pub decreases-bytes : goal.decreases-bytes
decreases-bytes l = length l.bytes - l.length
