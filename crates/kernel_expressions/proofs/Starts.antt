-- What a name begins.
use Rattle.std.proofs.Common.{◌≡◌, ap}
use Rattle.kernel_grammar.specs.Lexicals.{word}
use Rattle.kernel_grammar.specs.Words.{Name}
use Rattle.kernel_expressions.specs.Follows.{word_start, start}

-- a name begins a name
pub name_start : (name : Name) → start (word name.word) ≡ 2
name_start name = ap (word_start name.word) name.free
