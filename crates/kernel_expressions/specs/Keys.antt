-- The words of the grammar that name no kind.
use Rattle.std.specs.Prelude.{ℕ, List, codes}
use Rattle.kernel_grammar.specs.declared.step.Extreme.TheVariants.{Min, Max}
use Rattle.kernel_expressions.specs.declared.key.Key as key
use Rattle.kernel_expressions.specs.declared.key.Key.TheVariants.{Kernel, Domain, Assume, Input, Output, Temp, Sum, Product, Extreme, If, Cast, And, Or, Not}

-- the bytes of the word
abbrev pub key_text : key.Key → List ℕ
key_text Kernel = codes "kernel"
key_text Domain = codes "domain"
key_text Assume = codes "assume"
key_text Input = codes "input"
key_text Output = codes "output"
key_text Temp = codes "temp"
key_text Sum = codes "sum"
key_text Product = codes "product"
key_text (Extreme Min) = codes "min"
key_text (Extreme Max) = codes "max"
key_text If = codes "if"
key_text Cast = codes "cast"
key_text And = codes "and"
key_text Or = codes "or"
key_text Not = codes "not"
