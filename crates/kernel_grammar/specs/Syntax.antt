-- What the lines of a file say.
use Rattle.std.specs.Prelude.{◌≡◌, true, false, not, List, [], ◌∷◌, map, Option, Some, None}
use Rattle.kernel_grammar.specs.declared.step.Step.{Step}
use Rattle.kernel_grammar.specs.declared.item.Item as item
use Rattle.kernel_grammar.specs.declared.item.Item.TheVariants as said
use Rattle.kernel_grammar.specs.declared.item.Chain as chained
use Rattle.kernel_grammar.specs.declared.item.InsnOption as chosen
use Rattle.kernel_grammar.specs.declared.item.InsnOption.TheVariants as choice
use Rattle.kernel_grammar.specs.Words.{words_of}
use Rattle.kernel_grammar.specs.Trees.{Sums}
use Rattle.kernel_grammar.specs.Steps.{relation_of, or_steps, sums_steps}
use Rattle.kernel_grammar.specs.Lexicals.{Lexical, number_in}
use Rattle.kernel_grammar.specs.Lines.{Chain, InsnOption, id, dep, inames, condition, Line, domain, assume, input, output, temp, rule, insn, line_text}

-- lists compared, with the relations between them
abbrev pub chain_of : Chain → chained.Chain
chain_of chain = record {
  first = sums_steps chain.first;
  rest = map (λ link. (relation_of link.0, sums_steps link.1)) ((chain.rel, chain.second) ∷ chain.more);
}

-- an option; a star turns off the automatic dependences
abbrev pub option_of : InsnOption → chosen.InsnOption
option_of (id name) = choice.Id name.word
option_of (dep star ids) = choice.Dep (not star) (words_of ids)
option_of (inames name list) = choice.Inames (words_of (name ∷ list))
option_of (condition test) = choice.If (or_steps test)

-- the places of a cell, none for a scalar
abbrev pub place_of : Option Sums → List (List Step)
place_of None = []
place_of (Some places) = sums_steps places

-- empty braces say nothing
abbrev pub options_of : Option (List InsnOption) → List chosen.InsnOption
options_of None = []
options_of (Some options) = map option_of options

-- a line
abbrev pub item_of : Line → item.Item
item_of (domain known made conds) = said.Domain (words_of known) (words_of made) (map chain_of conds)
item_of (assume chain chains) = said.Assume (map chain_of (chain ∷ chains))
item_of (input name kind shape) = said.Array name.word kind (sums_steps shape) false
item_of (output name kind shape) = said.Array name.word kind (sums_steps shape) true
item_of (temp name kind shape) = said.Temp name.word kind (map number_in shape)
item_of (rule name params body) = said.Rule name.word (words_of params) (or_steps body)
item_of (insn i) = said.Insn i.declared i.cell.word (place_of i.place) i.stored (or_steps i.value) (options_of i.options)

-- The text is a line, and this is what it says.
pub record IsLine (text : List Lexical) (syntax : item.Item) : Type 0 where
  pub tree : Line
  pub spelled : line_text tree ≡ text
  pub means : item_of tree ≡ syntax
