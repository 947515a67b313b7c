-- The signature of a code.
use Rattle.std.specs.Prelude.{ℕ, Bool, true, false, List, [], ◌∷◌, ◌++◌, map, codes}
use Rattle.code_tree.specs.declared.code.CodeArray.{CodeArray}
use Rattle.code_tree.specs.declared.code.Code.{Code}
use Rattle.code_tree.specs.declared.code.Target.{Target}
use Rattle.code_tree.specs.declared.code.Target.TheVariants.{C, OpenCl}
use Rattle.text_writer.specs.Bytes.{Bytes, separated}
use Rattle.code_text.specs.KindText.{type_text, index_text}
use Rattle.code_text.specs.Names.{name_text}

-- a parameter
abbrev pub param_text : Code → ℕ → Bytes
param_text code v = index_text code.target ++ codes " " ++ name_text code v

-- the words before the type of an argument array
abbrev pub qualifiers_text : Target → Bool → Bytes
qualifiers_text C true = []
qualifiers_text C false = codes "const "
qualifiers_text OpenCl true = codes "__global "
qualifiers_text OpenCl false = codes "__global const "

-- an argument array
abbrev pub array_text : Target → CodeArray → Bytes
array_text target a = qualifiers_text target a.stored ++ type_text target a.kind ++ codes " *v_" ++ a.name

-- the parameters and then the arrays
abbrev pub entries_of : Code → List Bytes
entries_of code = map (param_text code) code.params ++ map (array_text code.target) code.arrays

-- the list of them, or `void`
abbrev pub list_of : List Bytes → Bytes
list_of [] = codes "void"
list_of (entry ∷ entries) = separated true (codes ", ") (entry ∷ entries)

abbrev pub arguments_text : Code → Bytes
arguments_text code = list_of (entries_of code)

abbrev pub kernel_text : Target → Bytes
kernel_text C = codes "void loopw_kernel("
kernel_text OpenCl = codes "__kernel void loopw_kernel("

-- the signature, and the brace behind it
abbrev pub signature_text : Code → Bytes
signature_text code = kernel_text code.target ++ arguments_text code ++ codes ")\n{\n"
