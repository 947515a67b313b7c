-- Each turn but the last takes a token.
use Rattle.std.proofs.Common.{◌≡◌, ◌+◌, ◌-◌, ℕ, List, length, ap, arith}
use Rattle.kernel_grammar.specs.Lexicals.{Lexical}
use Rattle.kernel_expressions.specs.declared.partial.Turn as turn
use Rattle.kernel_expressions.specs.declared.partial.Turn.TheVariants.{Operand, Operator, End}
use Rattle.kernel_grammar.specs.Spelling.{name_text}
use Rattle.kernel_expressions.specs.Reads.{Reads, IsItem, word_of}
use Rattle.kernel_expressions.proofs.Join.{text_length}

pub name_passes : (S : Type 0) (w : List ℕ) (all : List Lexical) (at next : ℕ) → Reads all at next (IsItem S name_text word_of w) → next ≡ at + 1
name_passes S w all at next h = omega (arith, text_length all at next (IsItem S name_text word_of w) h, ap length h.is.spelled)

-- how many turns may come, the last one aside
abbrev pub left : ℕ → turn.Turn → ℕ
left all (Operand at) = (all - at) + 1
left all (Operator at level) = (all - at) + 1
left all (End at) = 0
