use Rattle.std.proofs.Common.{◌≡◌, bytes_eq, find, drop}
use Rattle.kind_faults.specs.Words.{kind_word}
use Rattle.kernel_grammar.proofs.words.kind_among.Given as goal

abbrev pub invariant-loop-kind : goal.invariant-loop-kind
invariant-loop-kind l = find (λ kind. bytes_eq l.word (kind_word kind)) (drop l.kind-index l.kinds) ≡ find (λ kind. bytes_eq l.word (kind_word kind)) l.kinds
