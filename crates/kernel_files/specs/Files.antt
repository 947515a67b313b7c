-- Whole files: the kernel that lines say, and which line is refused.
use Rattle.std.specs.Prelude.{ℕ, ◌+◌, Bool, false, List, [], ◌∷◌, ◌++◌, map, length, slice_get, Option, Some, None, unwrap_or}
use Rattle.std.specs.Option.{option_or}
use Rattle.kernel_grammar.specs.declared.file.Entry.{Entry}
use Rattle.kernel_grammar.specs.declared.file.KernelFile.{KernelFile}
use Rattle.kernel_grammar.specs.declared.item.Item.{Item}
use Rattle.kernel_grammar.specs.declared.item.Item.TheVariants as item
use Rattle.kernel_grammar.specs.declared.item.InsnOption.{InsnOption}
use Rattle.kernel_grammar.specs.declared.item.Stored as stored
use Rattle.kernel_grammar.specs.declared.step.Step.{Step}
use Rattle.kernel_ir.specs.declared.fault.Refusal.{Refusal}
use Rattle.kernel_ir.specs.declared.kernel.Iname.{Iname}
use Rattle.kernel_ir.specs.declared.kernel.Kernel.{Kernel}
use Rattle.kernel_ir.specs.declared.kernel.Tag.TheVariants.{Plain}
use Rattle.kernel_names.specs.declared.declarations.Declarations.{Declarations}
use Rattle.kernel_names.specs.declared.limit.LineFaults.{LineFaults}
use Rattle.kernel_names.specs.Ids.{ids_of, taken_behind}
use Rattle.kernel_names.specs.Lines.{first_faults, faults_of}
use Rattle.kernel_names.specs.Roles.{declarations_of, parameters_of, inames_of}
use Rattle.untyped_parts.specs.declared.trees.InsnTree.{InsnTree}
use Rattle.untyped_parts.specs.declared.trees.RuleTree.{RuleTree}
use Rattle.kernel_files.specs.declared.files.ReadLines.{ReadLines}
use Rattle.kernel_files.specs.declared.files.ReadKernel.{ReadKernel}
use Rattle.kernel_files.specs.Insns.{read_insn, insn_of, insn_tree, size_with, whole_faults}
use Rattle.kernel_lines.specs.Lines.{no_parts, with_line, part_faults}
use Rattle.kernel_lines.specs.Refusals.{line_refusal}

abbrev pub no_lines : ReadLines
no_lines = record { parts = no_parts; insns = []; trees = []; size = 0 }

-- the id of the next instruction, and whether one before has it
abbrev pub next_id : List (List ℕ) → ReadLines → List ℕ
next_id ids k = unwrap_or (slice_get ids (length k.insns)) []

abbrev pub next_taken : List Bool → ReadLines → Bool
next_taken taken k = unwrap_or (slice_get taken (length k.insns)) false

-- the lines with an instruction
abbrev pub with_insn : Declarations → List (List ℕ) → ReadLines → ℕ → List ℕ → List (List Step) → stored.Stored → List Step → List InsnOption → ReadLines
with_insn D ids k line name place how value options =
    let r = read_insn D ids name place how value options in
    record k { insns = k.insns ++ insn_of D (next_id ids k) line how r options ∷ []; trees = k.trees ++ insn_tree line r ∷ []; size = size_with k.size r }

-- what is wrong in its expressions, and then with it as a whole
abbrev pub insn_faults : Declarations → List (List ℕ) → List Bool → ReadLines → List ℕ → List (List Step) → stored.Stored → List Step → List InsnOption → LineFaults
insn_faults D ids taken k name place how value options =
    let r = read_insn D ids name place how value options in
    first_faults r.faults (whole_faults D (next_id ids k) (next_taken taken k) (size_with k.size r) r)

-- the lines with an instruction, if the line is one
abbrev pub with_item : Declarations → List (List ℕ) → ReadLines → ℕ → Item → ReadLines
with_item D ids k line (item.Insn declared name place how value options) = with_insn D ids k line name place how value options
with_item D ids k line other = k

-- the lines with one more
abbrev pub with_entry : Declarations → List (List ℕ) → ReadLines → Entry → ReadLines
with_entry D ids k e = with_item D ids (record k { parts = with_line D k.parts e.line e.item }) e.line e.item

-- what is wrong in a line, names that it declares aside
abbrev pub entry_faults : Declarations → List (List ℕ) → List Bool → ReadLines → Item → LineFaults
entry_faults D ids taken k (item.Insn declared name place how value options) = insn_faults D ids taken k name place how value options
entry_faults D ids taken k other = part_faults D other

-- the lines with more
abbrev pub entries_behind : Declarations → List (List ℕ) → ReadLines → List Entry → ReadLines
entries_behind D ids k [] = k
entries_behind D ids k (e ∷ es) = entries_behind D ids (with_entry D ids k e) es

-- what is wrong with the names of a line comes before the rest
abbrev pub after_names : Option LineFaults → LineFaults → LineFaults
after_names None f = f
after_names (Some names) f = first_faults names f

abbrev pub names_before : List LineFaults → ℕ → LineFaults → LineFaults
names_before names at f = after_names (slice_get names at) f

abbrev pub entry_refusal : Declarations → List (List ℕ) → List Bool → List LineFaults → ReadLines → ℕ → Entry → Option Refusal
entry_refusal D ids taken names k at e = line_refusal e.line (names_before names at (entry_faults D ids taken k e.item))

-- the first refusal of a line, from the line at this place on; it is known what is wrong with the names of each line
abbrev pub refusal_from : Declarations → List (List ℕ) → List Bool → List LineFaults → ReadLines → ℕ → List Entry → Option Refusal
refusal_from D ids taken names k at [] = None
refusal_from D ids taken names k at (e ∷ es) =
    option_or (entry_refusal D ids taken names k at e) (refusal_from D ids taken names (with_entry D ids k e) (at + 1) es)

-- Which line of a file is refused, and why.
abbrev pub lines_refusal : KernelFile → Option Refusal
lines_refusal file =
    let ids = ids_of file.entries in
    refusal_from (declarations_of file.entries) ids (taken_behind [] ids) (faults_of file.entries) no_lines 0 file.entries

-- ---- the kernel

abbrev pub plain : ℕ → Iname
plain v = record { var = v; tag = Plain }

abbrev pub kernel_with : Declarations → ReadLines → Kernel
kernel_with D k = record {
  names = D.names;
  params = parameters_of D;
  inames = map plain (inames_of D);
  priority = inames_of D;
  rows = k.parts.rows;
  assumptions = k.parts.assumptions;
  arrays = k.parts.arrays;
  temps = k.parts.temps;
  rules = k.parts.rules;
  insns = k.insns;
}

-- what the lines of a file say
abbrev pub lines_of : KernelFile → ReadLines
lines_of file = entries_behind (declarations_of file.entries) (ids_of file.entries) no_lines file.entries

-- The kernel of a file, and its rules and instructions before their kinds are asked; it says something only where no line is refused.
abbrev pub kernel_of : KernelFile → Kernel
kernel_of file = kernel_with (declarations_of file.entries) (lines_of file)

abbrev pub rule_trees : KernelFile → List RuleTree
rule_trees file = (lines_of file).parts.bodies

abbrev pub insn_trees : KernelFile → List InsnTree
insn_trees file = (lines_of file).trees

abbrev pub read_of : KernelFile → ReadKernel
read_of file = record { kernel = kernel_of file; rules = rule_trees file; insns = insn_trees file }
