-- What the grammar gives of the lines of a file: names are identifiers, and expressions have their operands.
use Rattle.std.specs.Prelude.{◌≡◌, Bool, true, ◌&&◌, nat_lt, List, length}
use Rattle.std.specs.List.{list_all}
use Rattle.kernel_grammar.specs.declared.file.Entry.{Entry}
use Rattle.kernel_grammar.specs.declared.item.Chain.{Chain}
use Rattle.kernel_grammar.specs.declared.item.InsnOption.{InsnOption}
use Rattle.kernel_grammar.specs.declared.item.InsnOption.TheVariants.{Id, If}
use Rattle.kernel_grammar.specs.declared.item.Item.{Item}
use Rattle.kernel_grammar.specs.declared.item.Item.TheVariants as item
use Rattle.kernel_grammar.specs.Lexicals.{Lexical, word}
use Rattle.kernel_ir.specs.NameSpace.{is_identifier}
use Rattle.kernel_names.specs.Said.{said_in}
use Rattle.kernel_formed.specs.Shapes.{is_whole}

-- each list that is compared, and each next one
abbrev pub chain_fits : Chain → Bool
chain_fits c = list_all is_whole c.first && list_all (λ link. list_all is_whole link.1) c.rest

abbrev pub option_fits : InsnOption → Bool
option_fits (Id name) = is_identifier name
option_fits (If steps) = is_whole steps
option_fits _ = true

-- the expressions of a line; an array has a place
abbrev pub steps_fit : Item → Bool
steps_fit (item.Domain known inames conditions) = list_all chain_fits conditions
steps_fit (item.Assume conditions) = list_all chain_fits conditions
steps_fit (item.Array name kind shape stored) = nat_lt 0 (length shape) && list_all is_whole shape
steps_fit (item.Temp name kind shape) = true
steps_fit (item.Rule name params body) = is_whole body
steps_fit (item.Insn declared name place stored value options) = list_all is_whole place && (is_whole value && list_all option_fits options)

abbrev pub is_written : Item → Bool
is_written line = list_all (λ s. is_identifier s.name) (said_in line) && steps_fit line

-- Each line is as the grammar has it.
abbrev pub AreWritten : List Entry → Type 0
AreWritten entries = list_all (λ e. is_written e.item) entries ≡ true

-- a word is an identifier
abbrev pub word_fits : Lexical → Bool
word_fits (word text) = is_identifier text
word_fits _ = true
