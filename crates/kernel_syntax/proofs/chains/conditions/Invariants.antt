use Rattle.std.proofs.Common.{◌-◌, length}
use Rattle.kernel_grammar.specs.Lexicals.{key}
use Rattle.kernel_grammar.specs.Lines.{chain_text}
use Rattle.kernel_grammar.specs.Syntax.{chain_of}
use Rattle.kernel_expressions.specs.Texts.{texts, IsFit}
use Rattle.kernel_expressions.specs.Reads.{Reads, IsList}
use Rattle.kernel_syntax.proofs.ChainEnds.{conditions_to}
use Rattle.kernel_syntax.proofs.chains.conditions.Given as goal

abbrev pub invariant-conditions : goal.invariant-conditions
invariant-conditions l = Reads (texts l.lexemes) l.fn.at l.at (IsList (IsFit (texts l.lexemes)) chain_text chain_of (key "and") l.conditions) × conditions_to (texts l.lexemes) l.fn.at l.at

abbrev pub decreases-conditions : goal.decreases-conditions
decreases-conditions l = length l.lexemes - l.at
