use Rattle.std.proofs.Common.{◌≤◌, ◌-◌, length, drop}
use Rattle.text_reader.specs.Progress.{IsReadTo}
use Rattle.text_reader.proofs.front.read_front.Given as goal

abbrev pub invariant-text : goal.invariant-text
invariant-text l = record { within : l.place.at ≤ length l.bytes; read : IsReadTo l.form l.bytes (drop l.place.at l.bytes) l.place l.tokens.items }

abbrev pub decreases-text : goal.decreases-text
decreases-text l = length l.bytes - l.place.at
