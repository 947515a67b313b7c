-- The ids of instructions.
use Rattle.std.specs.Prelude.{ℕ, ◌+◌, Bool, List, [], ◌∷◌, ◌++◌, flat_map, bytes_eq, Option, Some, None, unwrap_or, codes}
use Rattle.std.specs.List.{list_any}
use Rattle.std.specs.Option.{option_or}
use Rattle.std.specs.Fmt.{decimal}
use Rattle.kernel_grammar.specs.declared.file.Entry.{Entry}
use Rattle.kernel_grammar.specs.declared.item.InsnOption.{InsnOption}
use Rattle.kernel_grammar.specs.declared.item.InsnOption.TheVariants as option
use Rattle.kernel_grammar.specs.declared.item.Item.{Item}
use Rattle.kernel_grammar.specs.declared.item.Item.TheVariants as item

-- the last `id=` counts
abbrev pub written_id : List InsnOption → Option (List ℕ)
written_id [] = None
written_id (option.Id name ∷ options) = option_or (written_id options) (Some name)
written_id (o ∷ options) = written_id options

-- the id of the instruction at this place among the instructions
abbrev pub id_at : ℕ → List InsnOption → List ℕ
id_at place options = unwrap_or (written_id options) (codes "insn_" ++ decimal place)

-- the options of a line that is an instruction
abbrev pub insn_options : Item → List (List InsnOption)
insn_options (item.Insn declared name place stored value options) = options ∷ []
insn_options _ = []

abbrev pub ids_from : ℕ → List (List InsnOption) → List (List ℕ)
ids_from place [] = []
ids_from place (options ∷ insns) = id_at place options ∷ ids_from (place + 1) insns

-- the ids of all instructions, in order
abbrev pub ids_of : List Entry → List (List ℕ)
ids_of entries = ids_from 0 (flat_map (λ e. insn_options e.item) entries)

-- which ids are taken by instructions before
abbrev pub taken_behind : List (List ℕ) → List (List ℕ) → List Bool
taken_behind before [] = []
taken_behind before (id ∷ ids) = list_any (bytes_eq id) before ∷ taken_behind (before ++ id ∷ []) ids
