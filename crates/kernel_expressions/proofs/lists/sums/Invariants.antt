use Rattle.std.proofs.Common.{◌-◌, length}
use Rattle.kernel_grammar.specs.Lexicals.{mark}
use Rattle.kernel_grammar.specs.Spelling.{sum_text}
use Rattle.kernel_grammar.specs.Steps.{sum_steps}
use Rattle.kernel_expressions.specs.Texts.{texts, IsFit}
use Rattle.kernel_expressions.specs.Reads.{Reads, IsList}
use Rattle.kernel_expressions.specs.Settled.{SpellsList, Behind, ends_sums}
use Rattle.kernel_expressions.proofs.Settling.{Leads, SpellsOthers}
use Rattle.kernel_expressions.proofs.lists.sums.Given as goal

abbrev pub invariant-sums : goal.invariant-sums
invariant-sums l = record {
  read : Reads (texts l.lexemes) l.fn.at l.at (IsList (IsFit (texts l.lexemes)) sum_text sum_steps (mark ",") l.sums);
  leads : Leads (texts l.lexemes) (SpellsList sum_text (mark ",")) (SpellsOthers sum_text (mark ",")) (Behind ends_sums) l.fn.at l.at;
}

abbrev pub decreases-sums : goal.decreases-sums
decreases-sums l = length l.lexemes - l.at
