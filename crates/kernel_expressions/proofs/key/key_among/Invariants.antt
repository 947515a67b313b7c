use Rattle.std.proofs.Common.{◌≡◌, bytes_eq, find, drop}
use Rattle.kernel_expressions.specs.Keys.{key_text}
use Rattle.kernel_expressions.proofs.key.key_among.Given as goal

abbrev pub invariant-loop-key : goal.invariant-loop-key
invariant-loop-key l = find (λ key. bytes_eq l.word (key_text key)) (drop l.key-index l.keys) ≡ find (λ key. bytes_eq l.word (key_text key)) l.keys
