-- What the lines of a file say, instructions aside but for the temporaries that they declare.
use Rattle.std.specs.Prelude.{ℕ, List, [], ◌∷◌, ◌++◌, Some, None, codes}
use Rattle.kernel_grammar.specs.declared.file.Entry.{Entry}
use Rattle.kernel_grammar.specs.declared.item.Declared.{Declared}
use Rattle.kernel_grammar.specs.declared.item.Declared.TheVariants.{Not, Inferred, Of}
use Rattle.kernel_grammar.specs.declared.item.Item.{Item}
use Rattle.kernel_grammar.specs.declared.item.Item.TheVariants as item
use Rattle.kernel_ir.specs.declared.kernel.Temp as temp
use Rattle.kernel_names.specs.declared.declarations.Declarations.{Declarations}
use Rattle.kernel_names.specs.declared.limit.LineFaults.{LineFaults}
use Rattle.kernel_names.specs.Roles.{kernel_roles, parameter_roles}
use Rattle.kernel_names.specs.Lines.{no_faults}
use Rattle.kernel_lines.specs.declared.lines.KernelParts.{KernelParts}
use Rattle.kernel_lines.specs.Conditions.{chains_of}
use Rattle.kernel_lines.specs.Parts.{array_of, array_faults, temp_of, rule_of, rule_tree, rule_faults}

abbrev pub no_parts : KernelParts
no_parts = record { rows = []; assumptions = []; arrays = []; temps = []; rules = []; bodies = [] }

-- the scalar temporary that an instruction declares
abbrev pub stored_temp : Declared → List ℕ → List temp.Temp
stored_temp Not name = []
stored_temp Inferred name = temp_of name None [] ∷ []
stored_temp (Of kind) name = temp_of name (Some kind) [] ∷ []

-- the parts with what a line, of this number, says at the end of its list
abbrev pub with_line : Declarations → KernelParts → ℕ → Item → KernelParts
with_line D p line (item.Domain known inames conditions) = record p { rows = p.rows ++ (chains_of (kernel_roles D) (codes "domain") conditions).rows }
with_line D p line (item.Assume conditions) = record p { assumptions = p.assumptions ++ (chains_of (parameter_roles D) (codes "assume") conditions).rows }
with_line D p line (item.Array name kind shape stored) = record p { arrays = p.arrays ++ array_of D name kind shape stored ∷ [] }
with_line D p line (item.Temp name kind shape) = record p { temps = p.temps ++ temp_of name (Some kind) shape ∷ [] }
with_line D p line (item.Rule name params body) = record p { rules = p.rules ++ rule_of D name params body ∷ []; bodies = p.bodies ++ rule_tree D line params body ∷ [] }
with_line D p line (item.Insn declared name place stored value options) = record p { temps = p.temps ++ stored_temp declared name }

-- what is wrong in its expressions
abbrev pub part_faults : Declarations → Item → LineFaults
part_faults D (item.Domain known inames conditions) = (chains_of (kernel_roles D) (codes "domain") conditions).faults
part_faults D (item.Assume conditions) = (chains_of (parameter_roles D) (codes "assume") conditions).faults
part_faults D (item.Array name kind shape stored) = array_faults D shape
part_faults D (item.Temp name kind shape) = no_faults
part_faults D (item.Rule name params body) = rule_faults D params body
part_faults D (item.Insn declared name place stored value options) = no_faults

-- the parts that lines say, one after the other
abbrev pub parts_behind : Declarations → KernelParts → List Entry → KernelParts
parts_behind D p [] = p
parts_behind D p (e ∷ es) = parts_behind D (with_line D p e.line e.item) es
