-- The words of kinds.
use Rattle.std.specs.Prelude.{ℕ, List, codes}
use Rattle.wrap_words.specs.declared.kind.Kind.{Kind}
use Rattle.wrap_words.specs.declared.kind.Kind.TheVariants.{I32, I64, U32, U64}

-- the word of a kind in kernel files
abbrev pub kind_word : Kind → List ℕ
kind_word I32 = codes "int32"
kind_word I64 = codes "int64"
kind_word U32 = codes "uint32"
kind_word U64 = codes "uint64"
