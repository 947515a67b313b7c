-- What may stand behind parts of lines.
use Rattle.std.specs.Prelude.{ℕ, Bool, true, false, not, ◌&&◌, ◌||◌, bytes_eq, codes, List}
use Rattle.std.specs.List.{list_any}
use Rattle.kernel_grammar.specs.Lexicals.{Lexical, word, number, sign, line_end}
use Rattle.kernel_grammar.specs.Words.{is_reserved, keywords}
use Rattle.kernel_expressions.specs.Settled.{is_mark, ends_sums}

-- the token is the word
abbrev pub is_word : List ℕ → Lexical → Bool
is_word text (word w) = bytes_eq w text
is_word text (number d) = false
is_word text (sign s) = false
is_word text line_end = false

-- the token is a name
abbrev pub is_name : Lexical → Bool
is_name (word w) = not (is_reserved w)
is_name (number d) = false
is_name (sign s) = false
is_name line_end = false

-- the token is a word of the grammar that names no kind
abbrev pub is_key : Lexical → Bool
is_key (word w) = list_any (bytes_eq w) keywords
is_key (number d) = false
is_key (sign s) = false
is_key line_end = false

-- the token ends a line
abbrev pub is_line_end : Lexical → Bool
is_line_end (word w) = false
is_line_end (number d) = false
is_line_end (sign s) = false
is_line_end line_end = true

-- the token is the sign of a relation
abbrev pub is_relation : Lexical → Bool
is_relation x = is_mark (codes "<=") x || is_mark (codes "<") x || is_mark (codes ">=") x || is_mark (codes ">") x || is_mark (codes "=") x || is_mark (codes "==") x

-- the token is another than the sign
abbrev pub is_other : List ℕ → Lexical → Bool
is_other text x = not (is_mark text x)

-- the token ends relations with lists behind them
abbrev pub ends_links : Lexical → Bool
ends_links x = ends_sums x && not (is_relation x)

-- the token ends conditions
abbrev pub ends_conditions : Lexical → Bool
ends_conditions x = ends_links x && not (is_word (codes "and") x)

-- the token ends ids
abbrev pub ends_ids : Lexical → Bool
ends_ids x = not (is_name x) && is_other (codes ":") x

-- the token ends a dependence
abbrev pub ends_dep : Lexical → Bool
ends_dep x = ends_ids x && is_other (codes "*") x

-- the token ends an option
abbrev pub ends_option : Lexical → Bool
ends_option x = is_mark (codes ",") x || is_mark (codes "}") x

-- the token ends conditions behind a sign, where there may be none
abbrev pub ends_ruled : Lexical → Bool
ends_ruled x = ends_conditions x && is_other (codes ":") x
