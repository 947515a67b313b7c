use Rattle.std.proofs.Common.{◌-◌, length, not}
use Rattle.kernel_grammar.specs.Lexicals.{sign}
use Rattle.kernel_grammar.specs.Spelling.{name_text}
use Rattle.kernel_expressions.specs.Signs.{sign_text}
use Rattle.kernel_expressions.specs.Texts.{texts, IsFit}
use Rattle.kernel_expressions.specs.Reads.{Reads, IsList, word_of}
use Rattle.kernel_expressions.specs.Settled.{SpellsList, Behind, is_mark}
use Rattle.kernel_expressions.proofs.Settling.{Leads, SpellsOthers}
use Rattle.kernel_expressions.proofs.ahead.names.Given as goal

abbrev pub invariant-names : goal.invariant-names
invariant-names l = record {
  read : Reads (texts l.lexemes) l.fn.at l.at (IsList (IsFit (texts l.lexemes)) name_text word_of (sign (sign_text l.between)) l.names);
  leads : Leads (texts l.lexemes) (SpellsList name_text (sign (sign_text l.between))) (SpellsOthers name_text (sign (sign_text l.between))) (Behind (λ x. not (is_mark (sign_text l.between) x))) l.fn.at l.at;
}

abbrev pub decreases-names : goal.decreases-names
decreases-names l = length l.lexemes - l.at
