-- Parts of lines.
use Rattle.std.specs.Prelude.{◌≡◌, ℕ, Bool, true, false, List, map, length}
use Rattle.wrap_words.specs.declared.kind.Kind.{Kind}
use Rattle.kernel_grammar.specs.Lexicals.{Lexical, key}
use Rattle.kernel_grammar.specs.Trees.{Rel, Or, Sums}
use Rattle.kernel_grammar.specs.Words.{Name}
use Rattle.kernel_grammar.specs.Lines.{id, dep, inames, condition, Chain, Line, domain, assume, input, output, temp, rule, links_text, typed_text, option_text, line_text}
use Rattle.kernel_grammar.specs.Steps.{relation_of, sums_steps}
use Rattle.kernel_grammar.specs.declared.item.Relation.{Relation}
use Rattle.kernel_grammar.specs.declared.step.Step.{Step}

-- The text is relations, each with a list of index expressions behind it.
pub record IsLinks (S : Type 0) (rest : List (Relation × List (List Step))) (text : List Lexical) : Type 0 where
  pub links : List (Rel × Sums)
  pub spelled : links_text links ≡ text
  pub counted : length links ≡ length rest
  pub means : S → map (λ link. (relation_of link.0, sums_steps link.1)) links ≡ rest

-- The text is this one.
abbrev pub Is : List Lexical → List Lexical → Type 0
Is text t = t ≡ text

-- the word of an array that may be stored to, or may not
abbrev pub array_word : Bool → Lexical
array_word true = key "output"
array_word false = key "input"

-- an id
abbrev pub id_text : Name → List Lexical
id_text name = option_text (id name)

-- a dependence, with a star or without
abbrev pub dep_text : Bool × List Name → List Lexical
dep_text dependence = option_text (dep dependence.0 dependence.1)

-- inames of an option, one or more
abbrev pub inames_text : Name × List Name → List Lexical
inames_text list = option_text (inames list.0 list.1)

-- a predicate
abbrev pub condition_text : Or → List Lexical
condition_text test = option_text (condition test)

-- a name with its kind
abbrev pub named_kind_text : Name × Kind → List Lexical
named_kind_text name = typed_text name.0 name.1

-- a domain
abbrev pub domain_text : List Name × List Name × List Chain → List Lexical
domain_text parts = line_text (domain parts.0 parts.1 parts.2)

-- the line of an array that may be stored to, or may not
abbrev pub array_line : Bool → Name × Kind × Sums → Line
array_line true array = output array.0 array.1 array.2
array_line false array = input array.0 array.1 array.2

-- an array
abbrev pub array_text : Bool → Name × Kind × Sums → List Lexical
array_text stored array = line_text (array_line stored array)

-- a temporary
abbrev pub temp_text : Name × Kind × List (List ℕ) → List Lexical
temp_text parts = line_text (temp parts.0 parts.1 parts.2)

-- a rule
abbrev pub rule_text : Name × List Name × Or → List Lexical
rule_text parts = line_text (rule parts.0 parts.1 parts.2)

-- an assumption
abbrev pub assume_text : Chain × List Chain → List Lexical
assume_text chains = line_text (assume chains.0 chains.1)
