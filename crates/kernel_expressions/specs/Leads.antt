-- What the tokens before a refused one begin.
use Rattle.std.specs.Prelude.{ℕ, ◌≤◌, List, drop, take, length}
use Rattle.kernel_grammar.specs.Lexicals.{Lexical}
use Rattle.kernel_expressions.specs.declared.lexeme.Lexeme.{Lexeme}
use Rattle.kernel_expressions.specs.declared.partial.Partial.{Partial}
use Rattle.kernel_expressions.specs.Texts.{texts, IsFit}
use Rattle.kernel_expressions.specs.Reads.{Reads}
use Rattle.kernel_expressions.specs.Turns.{IsBehind}
use Rattle.kernel_expressions.specs.Tails.{IsText}
use Rattle.kernel_expressions.specs.Settled.{Begins}

-- The tokens from the place to the last one begin a text of the sort.
pub record Begun (all : List Lexical) (P : List Lexical → Type 0) (at last : ℕ) : Type 0 where
  pub on : at ≤ last
  pub within : last ≤ length all
  pub begun : Begins P (drop at (take last all))

-- What stands between the places begins a text of the sort.
abbrev pub Leads : (all : List Lexical) (P : List Lexical → Type 0) (at last : ℕ) → Type 0
Leads all P at last = Reads all at last (Begins P)

-- What was read up to the place, an operand of the level being the last, and what stands behind it begin an expression.
abbrev pub LeadsBehind : List Lexeme → (least : ℕ) → Partial → (level at last : ℕ) → Type 0
LeadsBehind lexemes least old level at last = (from : ℕ) → least ≤ 11 → from ≤ length (texts lexemes) → IsBehind (IsFit (texts lexemes)) (texts lexemes) least from old.frames level old.steps.items at
    → Leads (texts lexemes) (IsText least) from last
