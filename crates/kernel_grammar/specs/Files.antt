-- Kernel files.
use Rattle.std.specs.Prelude.{◌≡◌, ℕ, ◌+◌, List, [], ◌∷◌, ◌++◌, Option, Some, None, codes}
use Rattle.std.specs.List.{repeat}
use Rattle.text_reader.specs.declared.form.Form.TheVariants.{Kernel}
use Rattle.text_reader.specs.declared.token.Token.{Token}
use Rattle.text_reader.specs.Tokens.{IsTokensOf}
use Rattle.kernel_grammar.specs.declared.file.Entry.{Entry}
use Rattle.kernel_grammar.specs.declared.file.KernelFile.{KernelFile}
use Rattle.kernel_grammar.specs.Lexicals.{Lexical, number, line_end, key, lexicals}
use Rattle.kernel_grammar.specs.Lines.{Line, line_text}
use Rattle.kernel_grammar.specs.Syntax.{item_of}

-- A file: so many lines that say nothing before the first that does, and those behind it, some of which say nothing.
pub record File : Type 0 where
  pub before : ℕ
  pub lines : List (Option Line)

-- lines, each with its end
abbrev pub lines_text : List (Option Line) → List Lexical
lines_text [] = []
lines_text (None ∷ lines) = line_end ∷ lines_text lines
lines_text (Some line ∷ lines) = line_text line ++ line_end ∷ lines_text lines

-- the first line that says something is `kernel 1`
abbrev pub file_text : File → List Lexical
file_text file = repeat file.before (line_end ∷ []) ++ key "kernel" ∷ number (codes "1") ∷ line_end ∷ lines_text file.lines

-- the lines that say something, numbered from this one on
abbrev pub entries_from : ℕ → List (Option Line) → List Entry
entries_from n [] = []
entries_from n (None ∷ lines) = entries_from (n + 1) lines
entries_from n (Some line ∷ lines) = record { line = n; item = item_of line } ∷ entries_from (n + 1) lines

-- what a file says
abbrev pub file_of : File → KernelFile
file_of file = record { entries = entries_from (file.before + 2) file.lines }

-- The text is a kernel file, and this is its syntax.
pub record IsFile (text : List Lexical) (syntax : KernelFile) : Type 0 where
  pub tree : File
  pub spelled : file_text tree ≡ text
  pub means : file_of tree ≡ syntax

-- The bytes are a kernel file, and this is its syntax.
pub record IsKernelFile (bytes : List ℕ) (syntax : KernelFile) : Type 0 where
  pub tokens : List Token
  pub are : IsTokensOf Kernel bytes tokens
  pub file : IsFile (lexicals bytes tokens) syntax
