-- The text of a kernel: a kernel file, with what such a file cannot say in comments.
use Rattle.std.specs.Prelude.{ℕ, Bool, true, false, nat_eq, if◌then◌else◌, List, [], ◌∷◌, ◌++◌, map, flat_map, Option, Some, None, codes}
use Rattle.std.specs.Cmp.Lexicographic.{pointwise}
use Rattle.std.specs.Fmt.{decimal}
use Rattle.wrap_words.specs.declared.kind.Kind.{Kind}
use Rattle.expr_tree.specs.declared.row.QuasiRow.{QuasiRow}
use Rattle.expr_tree.specs.declared.tree.Op.TheVariants.{Add, Mul, Min, Max}
use Rattle.expr_tree.specs.declared.tree.Test.{Test}
use Rattle.text_writer.specs.Bytes.{Bytes, in_round, in_square, separated}
use Rattle.kernel_ir.specs.declared.kernel.Kernel.{Kernel}
use Rattle.kernel_ir.specs.declared.kernel.Iname.{Iname}
use Rattle.kernel_ir.specs.declared.kernel.Insn.{Insn}
use Rattle.kernel_ir.specs.declared.kernel.SubstRule.{SubstRule}
use Rattle.kernel_ir.specs.declared.kernel.Array as array
use Rattle.kernel_ir.specs.declared.kernel.Temp as temp
use Rattle.kernel_ir.specs.declared.kernel.Tag.{Tag}
use Rattle.kernel_ir.specs.declared.kernel.Tag.TheVariants.{Group, Local, Plain as no_axis}
use Rattle.kernel_ir.specs.declared.kernel.Storing.{Storing}
use Rattle.kernel_ir.specs.declared.kernel.Storing.TheVariants.{Plain, Update}
use Rattle.kernel_ir.specs.NameSpace.{iname_vars, name_of}
use Rattle.kind_faults.specs.Words.{kind_word}
use Rattle.kernel_printer.specs.Spelling.{cell_name, vars_text, kernel_order, rule_order}
use Rattle.kernel_printer.specs.FormText.{Spelling, forms_text, place_text, rows_text}
use Rattle.kernel_printer.specs.ValueText.{text_of_value, text_of_test}

abbrev pub newline : Bytes
newline = 10 ∷ []

-- how forms are spelled outside the bodies of rules, and in one
abbrev pub kernel_spelling : Kernel → Spelling
kernel_spelling K = record { name = name_of K; order = kernel_order K }

abbrev pub rule_spelling : Kernel → SubstRule → Spelling
rule_spelling K r = record { name = name_of K; order = rule_order K r }

-- ---- the domain, in one line: nothing where there is nothing to say

abbrev pub ruled_text : Spelling → List QuasiRow → Bytes
ruled_text s [] = []
ruled_text s (r ∷ rs) = codes " : " ++ rows_text s (r ∷ rs)

abbrev pub domain_names : Kernel → Bytes
domain_names K =
    codes "domain [" ++ vars_text K (codes ", ") K.params ++ codes "] -> { [" ++ vars_text K (codes ", ") (iname_vars K) ++ codes "]"

abbrev pub domain_text : Kernel → Spelling → Bytes
domain_text K s = domain_names K ++ ruled_text s K.rows ++ codes " }" ++ newline

abbrev pub is_nothing : {A B C : Type 0} → List A → List B → List C → Bool
is_nothing [] [] [] = true
is_nothing _ _ _ = false

abbrev pub domain_line : Kernel → Spelling → Bytes
domain_line K s = if is_nothing K.params K.inames K.rows then [] else domain_text K s

abbrev pub assume_line : Spelling → List QuasiRow → Bytes
assume_line s [] = []
assume_line s (r ∷ rs) = codes "assume " ++ rows_text s (r ∷ rs) ++ newline

-- ---- declarations

abbrev pub access_text : Bool → Bytes
access_text true = codes "output "
access_text false = codes "input "

abbrev pub array_line : Spelling → array.Array → Bytes
array_line s a = access_text a.stored ++ a.name ++ codes ": " ++ kind_word a.kind ++ in_square (forms_text s a.shape) ++ newline

abbrev pub kind_or_nothing : Option Kind → Bytes
kind_or_nothing None = []
kind_or_nothing (Some k) = kind_word k

abbrev pub shape_text : List ℕ → Bytes
shape_text [] = []
shape_text (n ∷ ns) = in_square (separated true (codes ", ") (map decimal (n ∷ ns)))

-- a file cannot say that a temporary is local
abbrev pub local_text : Bool → Bytes
local_text true = codes " # local"
local_text false = []

abbrev pub temp_line : temp.Temp → Bytes
temp_line t = codes "temp " ++ t.name ++ codes ": " ++ kind_or_nothing t.kind ++ shape_text t.shape ++ local_text t.local ++ newline

unfoldable pub rule_line : Kernel → SubstRule → Bytes
rule_line K r =
    r.name ++ in_round (vars_text K (codes ", ") r.params) ++ codes " := " ++ (text_of_value K (rule_spelling K r) r.body).whole ++ newline

-- ---- instructions

abbrev pub storing_text : Storing → Bytes
storing_text Plain = codes " = "
storing_text (Update Add) = codes " += "
storing_text (Update Mul) = codes " *= "
storing_text (Update Min) = codes " min= "
storing_text (Update Max) = codes " max= "
storing_text (Update _) = codes " = "

abbrev pub inames_option : Kernel → List ℕ → Bytes
inames_option K [] = []
inames_option K (v ∷ vs) = codes ", inames=" ++ vars_text K (codes ":") (v ∷ vs)

-- the dependences are all listed, so a star always turns off the automatic ones
abbrev pub dep_option : List Bytes → Bytes
dep_option ids = codes ", dep=*" ++ separated true (codes ":") ids

-- rows and data test, all of which hold
abbrev pub if_option : Kernel → Spelling → List QuasiRow → Option Test → Bytes
if_option K s [] None = []
if_option K s [] (Some t) = codes ", if=" ++ text_of_test K s t
if_option K s (r ∷ rs) None = codes ", if=" ++ rows_text s (r ∷ rs)
if_option K s (r ∷ rs) (Some t) = codes ", if=" ++ rows_text s (r ∷ rs) ++ codes " and " ++ text_of_test K s t

abbrev pub store_text : Kernel → Spelling → Insn → Bytes
store_text K s A = cell_name K A.cell ++ place_text s A.place ++ storing_text A.storing ++ (text_of_value K s A.value).whole

abbrev pub options_text : Kernel → Spelling → Insn → Bytes
options_text K s A = codes " {id=" ++ A.id ++ inames_option K A.inames ++ dep_option A.deps ++ if_option K s A.rows A.test ++ codes "}" ++ newline

unfoldable pub insn_line : Kernel → Spelling → Insn → Bytes
insn_line K s A = store_text K s A ++ options_text K s A

-- ---- what a file cannot say

abbrev pub tag_of : Bytes → Tag → Bytes
tag_of name no_axis = []
tag_of name (Group axis) = codes "# tag " ++ name ++ codes " g." ++ decimal axis ++ newline
tag_of name (Local axis) = codes "# tag " ++ name ++ codes " l." ++ decimal axis ++ newline

abbrev pub tag_line : Kernel → Iname → Bytes
tag_line K i = tag_of (name_of K i.var) i.tag

-- the inames in the order of priority, where it is not the declared order
abbrev pub priority_line : Kernel → Bytes
priority_line K =
    if pointwise nat_eq K.priority (iname_vars K) then [] else codes "# priority" ++ flat_map (λ v. codes " " ++ name_of K v) K.priority ++ newline

-- The text of a kernel: its lines, where variables stand in the kernel's order.
abbrev pub declarations_text : Kernel → Spelling → Bytes
declarations_text K s =
    domain_line K s ++ assume_line s K.assumptions ++ flat_map (array_line s) K.arrays ++ flat_map temp_line K.temps ++ flat_map (rule_line K) K.rules

abbrev pub extras_text : Kernel → Bytes
extras_text K = flat_map (tag_line K) K.inames ++ priority_line K

abbrev pub lines_text : Kernel → Spelling → Bytes
lines_text K s = codes "kernel 1" ++ newline ++ declarations_text K s ++ flat_map (insn_line K s) K.insns ++ extras_text K

abbrev pub kernel_text : Kernel → Bytes
kernel_text K = lines_text K (kernel_spelling K)
