-- The expressions of a line have their operands.
use Rattle.std.proofs.Common.{◌≡◌, Bool, true, ◌&&◌, List, [], ◌∷◌, ◌++◌, map, length, nat_lt, Option, Some, None, refl}
use Rattle.std.specs.List.{list_all}
use Rattle.std.proofs.lemmas.Bool.{and_from}
use Rattle.kernel_grammar.specs.declared.item.Relation.{Relation}
use Rattle.kernel_grammar.specs.declared.step.Step.{Step}
use Rattle.kernel_grammar.specs.Lexicals.{mark, listed}
use Rattle.kernel_grammar.specs.Trees.{Rel, Sums}
use Rattle.kernel_grammar.specs.Spelling.{name_text, or_text}
use Rattle.kernel_grammar.specs.Steps.{relation_of, or_steps, sums_steps}
use Rattle.kernel_grammar.specs.Lines.{Chain, InsnOption, id, dep, inames, condition, Line, domain, assume, input, output, temp, rule, insn, Insn, line_text, insn_text, option_text, options_text, declared_text, place_text, stored_text}
use Rattle.kernel_grammar.specs.Syntax.{chain_of, option_of, place_of, options_of, item_of}
use Rattle.kernel_formed.specs.Shapes.{is_whole}
use Rattle.kernel_formed.specs.Written.{chain_fits, option_fits, steps_fit}
use Rattle.kernel_formed.proofs.WholeSteps.{or_whole, sums_whole, some_sums}
use Rattle.kernel_formed.proofs.Words.{WordsFit, first_fits, second_fits}
use Rattle.kernel_formed.proofs.WrittenNames.{name_fits}

-- ---- conditions

-- a relation with the list behind it
abbrev link_fits : (Relation × List (List Step)) → Bool
link_fits link = list_all is_whole link.1

abbrev link_of : (Rel × Sums) → (Relation × List (List Step))
link_of link = (relation_of link.0, sums_steps link.1)

links_fit : (links : List (Rel × Sums)) → list_all link_fits (map link_of links) ≡ true
links_fit [] = refl
links_fit (link ∷ links) = and_from (list_all is_whole (sums_steps link.1)) (list_all link_fits (map link_of links)) (sums_whole link.1) (links_fit links)

chains_fit : (chains : List Chain) → list_all chain_fits (map chain_of chains) ≡ true
chains_fit [] = refl
chains_fit (chain ∷ chains) =
    let links : List (Rel × Sums) = (chain.rel, chain.second) ∷ chain.more in
    and_from (chain_fits (chain_of chain)) (list_all chain_fits (map chain_of chains))
    (and_from (list_all is_whole (sums_steps chain.first)) (list_all link_fits (map link_of links)) (sums_whole chain.first) (links_fit links))
    (chains_fit chains)

-- ---- options

one_fits : (option : InsnOption) → WordsFit (option_text option) → option_fits (option_of option) ≡ true
one_fits (id name) h = name_fits name [] h
one_fits (dep star ids) h = refl
one_fits (inames name list) h = refl
one_fits (condition test) h = or_whole test

list_fits : (options : List InsnOption) → WordsFit (listed (mark ",") (map option_text options)) → list_all option_fits (map option_of options) ≡ true
list_fits [] h = refl
list_fits (option ∷ []) h = and_from (option_fits (option_of option)) true (one_fits option h) refl
list_fits (option ∷ other ∷ options) h =
    let rest = listed (mark ",") (map option_text (other ∷ options)) in
    and_from (option_fits (option_of option)) (list_all option_fits (map option_of (other ∷ options)))
    (one_fits option (first_fits (option_text option) (mark "," ∷ rest) h)) (list_fits (other ∷ options) (second_fits (option_text option) (mark "," ∷ rest) h))

all_options_fit : (options : Option (List InsnOption)) → WordsFit (options_text options) → list_all option_fits (options_of options) ≡ true
all_options_fit None h = refl
all_options_fit (Some options) h = list_fits options (first_fits (listed (mark ",") (map option_text options)) (mark "}" ∷ []) h)

-- ---- lines

shape_fits : (shape : Sums) → (nat_lt 0 (length (sums_steps shape)) && list_all is_whole (sums_steps shape)) ≡ true
shape_fits shape = and_from (nat_lt 0 (length (sums_steps shape))) (list_all is_whole (sums_steps shape)) (some_sums shape) (sums_whole shape)

place_fits : (place : Option Sums) → list_all is_whole (place_of place) ≡ true
place_fits None = refl
place_fits (Some places) = sums_whole places

insn_fits : (i : Insn) → WordsFit (insn_text i) → steps_fit (item_of (insn i)) ≡ true
insn_fits i h =
    let before = declared_text i.declared ++ name_text i.cell ++ place_text i.place ++ stored_text i.stored ++ or_text i.value in
    and_from (list_all is_whole (place_of i.place)) (is_whole (or_steps i.value) && list_all option_fits (options_of i.options)) (place_fits i.place)
    (and_from (is_whole (or_steps i.value)) (list_all option_fits (options_of i.options)) (or_whole i.value)
    (all_options_fit i.options (second_fits before (options_text i.options) h)))

pub steps_written : (line : Line) → WordsFit (line_text line) → steps_fit (item_of line) ≡ true
steps_written (domain known made conds) h = chains_fit conds
steps_written (assume chain chains) h = chains_fit (chain ∷ chains)
steps_written (input name kind shape) h = shape_fits shape
steps_written (output name kind shape) h = shape_fits shape
steps_written (temp name kind shape) h = refl
steps_written (rule name params body) h = or_whole body
steps_written (insn i) h = insn_fits i h
