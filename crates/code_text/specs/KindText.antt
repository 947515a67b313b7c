-- The names of types.
use Rattle.std.specs.Prelude.{codes}
use Rattle.wrap_words.specs.declared.kind.Kind.{Kind}
use Rattle.wrap_words.specs.declared.kind.Kind.TheVariants.{I32, I64, U32, U64}
use Rattle.code_tree.specs.declared.code.Target.{Target}
use Rattle.code_tree.specs.declared.code.Target.TheVariants.{C, OpenCl}
use Rattle.text_writer.specs.Bytes.{Bytes, in_round}

abbrev pub type_text : Target → Kind → Bytes
type_text C I32 = codes "int32_t"
type_text C I64 = codes "int64_t"
type_text C U32 = codes "uint32_t"
type_text C U64 = codes "uint64_t"
type_text OpenCl I32 = codes "int"
type_text OpenCl I64 = codes "long"
type_text OpenCl U32 = codes "uint"
type_text OpenCl U64 = codes "ulong"

-- the unsigned kind of the same width
abbrev pub unsigned_kind : Kind → Kind
unsigned_kind I32 = U32
unsigned_kind I64 = U64
unsigned_kind U32 = U32
unsigned_kind U64 = U64

-- a kind at the end of a function's name
abbrev pub suffix_text : Kind → Bytes
suffix_text I32 = codes "i32"
suffix_text I64 = codes "i64"
suffix_text U32 = codes "u32"
suffix_text U64 = codes "u64"

-- the type of a loop variable, a parameter or an axis
abbrev pub index_text : Target → Bytes
index_text target = type_text target I64

-- the conversion of what follows
abbrev pub cast_text : Target → Kind → Bytes
cast_text target kind = in_round (type_text target kind)
