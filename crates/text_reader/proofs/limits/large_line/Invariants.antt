use Rattle.std.proofs.Common.{◌≡◌, drop}
use Rattle.text_reader.specs.Limits.{large_line}
use Rattle.text_reader.proofs.limits.large_line.Given as goal

abbrev pub invariant-loop-token : goal.invariant-loop-token
invariant-loop-token l = large_line l.bytes (drop l.token-index l.tokens) ≡ large_line l.bytes l.tokens
