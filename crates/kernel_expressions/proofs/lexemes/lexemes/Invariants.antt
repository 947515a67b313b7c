use Rattle.std.proofs.Common.{◌≡◌, take}
use Rattle.kernel_grammar.specs.Lexicals.{lexicals}
use Rattle.kernel_expressions.specs.Texts.{texts}
use Rattle.kernel_expressions.proofs.lexemes.lexemes.Given as goal

abbrev pub invariant-loop-token : goal.invariant-loop-token
invariant-loop-token l = texts l.lexemes.items ≡ lexicals l.bytes (take l.token-index l.tokens)
