use Rattle.std.proofs.Common.{◌-◌, length}
use Rattle.kernel_grammar.specs.Lexicals.{mark}
use Rattle.kernel_grammar.specs.Lines.{option_text}
use Rattle.kernel_grammar.specs.Syntax.{option_of}
use Rattle.kernel_expressions.specs.Texts.{texts, IsFit}
use Rattle.kernel_expressions.specs.Reads.{Reads, IsList}
use Rattle.kernel_syntax.proofs.InsnEnds.{options_to}
use Rattle.kernel_syntax.proofs.insn.option_list.Given as goal

abbrev pub invariant-options : goal.invariant-options
invariant-options l = Reads (texts l.lexemes) l.fn.at l.at (IsList (IsFit (texts l.lexemes)) option_text option_of (mark ",") l.options) × options_to (texts l.lexemes) l.fn.at l.at

abbrev pub decreases-options : goal.decreases-options
decreases-options l = length l.lexemes - l.at
