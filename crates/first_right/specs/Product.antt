-- The words that the one form stores.
use Rattle.std.specs.Prelude.{ℕ, pos}
use Rattle.wrap_words.specs.declared.kind.Kind.TheVariants.{I32}
use Rattle.wrap_words.specs.declared.kind.Word.{Word}
use Rattle.wrap_words.specs.Words.{word_of}
use Rattle.expr_tree.specs.declared.tree.Op.TheVariants.{Mul}
use Rattle.expr_tree.specs.Value.{apply}

-- a word times the factor
abbrev pub multiplied : ℕ → Word → Word
multiplied factor w = apply Mul I32 (word_of I32 (pos factor)) w
