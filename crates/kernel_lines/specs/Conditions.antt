-- Conditions of domains and assumptions.
use Rattle.std.specs.Prelude.{ℕ, Bool, if◌then◌else◌, List, [], ◌∷◌, ◌++◌, Some, None}
use Rattle.affine_rows.specs.declared.quasi.Quasi.{Quasi}
use Rattle.kernel_grammar.specs.declared.step.Step.{Step}
use Rattle.kernel_grammar.specs.declared.item.Relation.{Relation}
use Rattle.kernel_grammar.specs.declared.item.Chain.{Chain}
use Rattle.kernel_names.specs.declared.limit.Limit.TheVariants as limit
use Rattle.kernel_names.specs.declared.limit.LineFaults.{LineFaults}
use Rattle.kernel_names.specs.Lines.{no_faults, first_faults}
use Rattle.untyped.specs.Readings.{Roles}
use Rattle.kernel_lines.specs.declared.conditions.Conditions.{Conditions}
use Rattle.kernel_lines.specs.Places.{forms_of, forms_faults}
use Rattle.kernel_lines.specs.Rows.{rows_between, rows_in, is_over}

-- a form that passes a limit
abbrev pub form_faults : Bool → LineFaults
form_faults over = record no_faults { limit = if over then Some limit.Form else None }

abbrev pub no_conditions : Conditions
no_conditions = record { rows = []; faults = no_faults }

-- conditions, and those behind them
abbrev pub both : Conditions → Conditions → Conditions
both a b = record { rows = a.rows ++ b.rows; faults = first_faults a.faults b.faults }

-- a list of forms compared with the next list; the list is read before its rows are made
abbrev pub link_of : Roles → List ℕ → List Quasi → Relation × List (List Step) → Conditions
link_of roles word left link =
    let made = rows_between link.0 left (forms_of roles link.1) in
    record { rows = rows_in made; faults = first_faults (forms_faults roles word link.1) (form_faults (is_over made)) }

-- each list is compared with the next
abbrev pub links_of : Roles → List ℕ → List Quasi → List (Relation × List (List Step)) → Conditions
links_of roles word left [] = no_conditions
links_of roles word left (link ∷ links) = both (link_of roles word left link) (links_of roles word (forms_of roles link.1) links)

abbrev pub chain_of : Roles → List ℕ → Chain → Conditions
chain_of roles word chain =
    both (record { rows = []; faults = forms_faults roles word chain.first }) (links_of roles word (forms_of roles chain.first) chain.rest)

-- conditions, one after the other
abbrev pub chains_of : Roles → List ℕ → List Chain → Conditions
chains_of roles word [] = no_conditions
chains_of roles word (chain ∷ chains) = both (chain_of roles word chain) (chains_of roles word chains)
