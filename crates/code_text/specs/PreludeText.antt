-- The functions that a text may call.
use Rattle.std.specs.Prelude.{[], ◌++◌, codes}
use Rattle.wrap_words.specs.declared.kind.Kind.{Kind}
use Rattle.wrap_words.specs.declared.kind.Kind.TheVariants.{I32, I64, U32, U64}
use Rattle.code_tree.specs.declared.code.Target.{Target}
use Rattle.code_tree.specs.declared.code.Target.TheVariants.{C, OpenCl}
use Rattle.text_writer.specs.Bytes.{Bytes}
use Rattle.code_text.specs.KindText.{type_text, suffix_text, index_text}

-- a function's own word, its type and its name, and two arguments of that type
abbrev pub static_text : Target → Bytes
static_text C = codes "static "
static_text OpenCl = []

abbrev pub head_text : Target → Kind → Bytes → Bytes → Bytes
head_text target kind name suffix =
    static_text target ++ type_text target kind ++ codes " " ++ name ++ suffix ++ codes "(" ++ type_text target kind ++ codes " a, "
    ++ type_text target kind ++ codes " b) { "

-- division that rounds down
abbrev pub floor_line : Target → Bytes
floor_line target =
    head_text target I64 (codes "lp_fd") [] ++ index_text target ++ codes " q = a / b; return a % b < 0 ? q - 1 : q; }\n"

-- the least and the greatest of two numbers of a kind
abbrev pub pair_lines : Target → Kind → Bytes → Bytes
pair_lines target kind suffix =
    head_text target kind (codes "lp_min") suffix ++ codes "return a < b ? a : b; }\n"
    ++ head_text target kind (codes "lp_max") suffix ++ codes "return a < b ? b : a; }\n"

abbrev pub kind_pair : Target → Kind → Bytes
kind_pair target kind = pair_lines target kind (codes "_" ++ suffix_text kind)

-- the functions that a text may call
abbrev pub prelude_text : Target → Bytes
prelude_text target =
    floor_line target ++ pair_lines target I64 [] ++ kind_pair target I32 ++ kind_pair target I64 ++ kind_pair target U32 ++ kind_pair target U64
