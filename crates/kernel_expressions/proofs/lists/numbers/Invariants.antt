use Rattle.std.proofs.Common.{◌+◌, ◌-◌, length, codes, not}
use Rattle.kernel_grammar.specs.Lexicals.{mark}
use Rattle.kernel_expressions.specs.Texts.{texts, IsFit}
use Rattle.kernel_expressions.specs.Reads.{Reads, IsNumbers, digits_text}
use Rattle.kernel_expressions.specs.Settled.{SpellsList, Behind, is_mark}
use Rattle.kernel_expressions.proofs.Settling.{Leads, SpellsOthers}
use Rattle.kernel_expressions.proofs.lists.numbers.Given as goal

abbrev pub invariant-numbers : goal.invariant-numbers
invariant-numbers l = record {
  read : Reads (texts l.lexemes) l.fn.at l.at (IsNumbers (IsFit (texts l.lexemes)) l.numbers);
  leads : Leads (texts l.lexemes) (SpellsList digits_text (mark ",")) (SpellsOthers digits_text (mark ",")) (Behind (λ x. not (is_mark (codes ",") x))) (l.fn.at + 1) l.at;
}

abbrev pub decreases-numbers : goal.decreases-numbers
decreases-numbers l = length l.lexemes - l.at
