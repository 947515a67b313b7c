-- The names that the lines of a kernel file say, in the order of the text.
use Rattle.std.specs.Prelude.{ℕ, Bool, true, false, List, [], ◌∷◌, ◌++◌, map, flat_map, filter, bytes_eq, length}
use Rattle.kernel_grammar.specs.declared.file.Entry.{Entry}
use Rattle.kernel_grammar.specs.declared.item.Declared.{Declared}
use Rattle.kernel_grammar.specs.declared.item.Declared.TheVariants.{Not, Inferred, Of}
use Rattle.kernel_grammar.specs.declared.item.Item.{Item}
use Rattle.kernel_grammar.specs.declared.item.Item.TheVariants as item
use Rattle.quasi_forms.specs.Alike.{distinct}
use Rattle.kernel_names.specs.declared.said.Sort.{Sort}
use Rattle.kernel_names.specs.declared.said.Sort.TheVariants as sort
use Rattle.kernel_names.specs.declared.said.Said.{Said}

-- names that are said as one sort
abbrev pub said_as : Sort → List (List ℕ) → List Said
said_as s names = map (λ n. record { sort = s; name = n }) names

-- a cell before a store, if it is declared there, is a scalar temporary
abbrev pub stored_said : Declared → List ℕ → List Said
stored_said Not name = []
stored_said Inferred name = said_as (sort.Temp 0) (name ∷ [])
stored_said (Of kind) name = said_as (sort.Temp 0) (name ∷ [])

-- the names that a line declares, and a rule's own parameters
abbrev pub said_in : Item → List Said
said_in (item.Domain known inames conditions) = said_as sort.Parameter known ++ said_as sort.Iname inames
said_in (item.Assume conditions) = []
said_in (item.Array name kind shape stored) = said_as (sort.Array (length shape) stored) (name ∷ [])
said_in (item.Temp name kind shape) = said_as (sort.Temp (length shape)) (name ∷ [])
said_in (item.Rule name params body) = said_as sort.Rule (name ∷ []) ++ said_as sort.Own params
said_in (item.Insn declared name place stored value options) = stored_said declared name

abbrev pub said_by : List Entry → List Said
said_by entries = flat_map (λ e. said_in e.item) entries

-- a rule's own parameters are in no name space
abbrev pub is_declaration : Sort → Bool
is_declaration sort.Own = false
is_declaration _ = true

abbrev pub all_declarations : List Said → List Said
all_declarations said = filter (λ s. is_declaration s.sort) said

-- the first declaration of each name counts
abbrev pub declarations_in : List Said → List Said
declarations_in said = distinct (λ a b. bytes_eq a.name b.name) (all_declarations said)

-- the names of the one name space
abbrev pub names_declared : List Said → List (List ℕ)
names_declared said = map (λ d. d.name) (declarations_in said)

-- a rule's own parameters
abbrev pub own_in : Item → List (List ℕ)
own_in (item.Rule name params body) = params
own_in _ = []

-- all names, each once: those of the one name space, and then what is only a rule's own parameter
abbrev pub names_of : List Entry → List (List ℕ)
names_of entries = distinct bytes_eq (map (λ s. s.name) (all_declarations (said_by entries)) ++ flat_map (λ e. own_in e.item) entries)
