-- How what a kernel declares is spelled.
use Rattle.std.specs.Prelude.{ℕ, ℤ, true, not, nat_eq, List, [], ◌++◌, map, flat_map, filter, slice_get, Option, Some, None}
use Rattle.expr_tree.specs.declared.tree.Cell.{Cell}
use Rattle.expr_tree.specs.declared.tree.Cell.TheVariants.{Array, Temp}
use Rattle.expr_tree.specs.Scenes.{is_among}
use Rattle.text_writer.specs.Bytes.{Bytes, separated}
use Rattle.kernel_ir.specs.declared.kernel.Kernel.{Kernel}
use Rattle.kernel_ir.specs.declared.kernel.SubstRule.{SubstRule}
use Rattle.kernel_ir.specs.declared.kernel.Array as array
use Rattle.kernel_ir.specs.declared.kernel.Temp as temp
use Rattle.kernel_ir.specs.NameSpace.{iname_vars, name_of}

-- the name of an array or temporary
abbrev pub array_name : Option array.Array → Bytes
array_name None = []
array_name (Some a) = a.name

abbrev pub temp_name : Option temp.Temp → Bytes
temp_name None = []
temp_name (Some t) = t.name

abbrev pub cell_name : Kernel → Cell → Bytes
cell_name K (Array n) = array_name (slice_get K.arrays n)
cell_name K (Temp n) = temp_name (slice_get K.temps n)

abbrev pub rule_name : Option SubstRule → Bytes
rule_name None = []
rule_name (Some r) = r.name

-- the names of variables with a gap between them
abbrev pub vars_text : Kernel → Bytes → List ℕ → Bytes
vars_text K gap vars = separated true gap (map (name_of K) vars)

-- Variables stand in this order in a text: parameters, then inames in declared order.
abbrev pub kernel_order : Kernel → List ℕ
kernel_order K = K.params ++ iname_vars K

-- In a rule's body the kernel's parameters stand before the rule's own, by which they may be hidden.
abbrev pub rule_order : Kernel → SubstRule → List ℕ
rule_order K r = filter (λ v. not (is_among r.params v)) K.params ++ r.params

-- the terms of one variable after the other; those of other variables are last
abbrev pub ordered : List ℕ → List (ℕ × ℤ) → List (ℕ × ℤ)
ordered order terms = flat_map (λ v. filter (λ t. nat_eq t.0 v) terms) order ++ filter (λ t. not (is_among order t.0)) terms
