-- Lines of a file that are read.
use Rattle.std.specs.Prelude.{◌≡◌, ℕ, ◌+◌, ◌<◌, ◌≤◌, ◌^◌, take, List, [], ◌∷◌, length, Option, codes}
use Rattle.std.specs.Option.{option_map}
use Rattle.kernel_grammar.specs.declared.item.Item.{Item}
use Rattle.kernel_grammar.specs.declared.file.Entry.{Entry}
use Rattle.kernel_grammar.specs.Lexicals.{Lexical, number, line_end, key}
use Rattle.kernel_grammar.specs.Lines.{Line}
use Rattle.kernel_grammar.specs.Syntax.{item_of}
use Rattle.kernel_grammar.specs.Files.{lines_text, file_text, entries_from}
use Rattle.kernel_expressions.specs.Reads.{IsItem}
use Rattle.kernel_expressions.specs.Settled.{Begins, SameTo, Spells}

-- `kernel 1` and the end of its line
abbrev pub head_text : List Lexical
head_text = key "kernel" ∷ number (codes "1") ∷ line_end ∷ []

-- a line with its end, or an end alone
abbrev pub ended_text : Option Line → List Lexical
ended_text line = lines_text (line ∷ [])

-- The text is a line with its end, and says this, or nothing.
abbrev pub IsEnded : (S : Type 0) → Option Item → List Lexical → Type 0
IsEnded S = IsItem S ended_text (option_map item_of)

-- The text is lines, and these are what they say, behind so many lines.
pub record AreLines (S : Type 0) (before : ℕ) (entries : List Entry) (text : List Lexical) : Type 0 where
  pub lines : List (Option Line)
  pub spelled : lines_text lines ≡ text
  pub means : S → before + length lines < 2 ^ 32 → entries_from (before + 1) lines ≡ entries

-- No list with the same tokens up to the place and at it is a file, but the tokens before that place begin one.
pub record RefusesFile (all : List Lexical) (last : ℕ) : Type 0 where
  pub within : last ≤ length all
  pub none : (others : List Lexical) → SameTo all others last → Spells file_text others → ⊥
  pub begun : Begins (Spells file_text) (take last all)
