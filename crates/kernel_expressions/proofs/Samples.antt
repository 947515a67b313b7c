-- A short text of each sort.
use Rattle.std.proofs.Common.{List, [], refl}
use Rattle.kernel_grammar.specs.Lexicals.{Lexical}
use Rattle.kernel_grammar.specs.Words.{Name}
use Rattle.kernel_grammar.specs.Trees.{Or, or_of, and_of, not_of, cmp_of, bor_of, bxor_of, band_of, shift_of, Sum, sum_of, prod_of, unary_of, digits}
use Rattle.kernel_expressions.specs.Settled.{Spells, SpellsList}
use Rattle.kernel_expressions.proofs.Settling.{Sample}

-- a text of a tree
pub spelled : {X : Type 0} (spell : X → List Lexical) (tree : X) → Sample (Spells spell)
spelled spell tree = (spell tree, record { tree = tree; spelled = refl })

-- a text of a list of one
pub listed_once : {X : Type 0} (spell : X → List Lexical) (between : Lexical) (tree : X) → Sample (SpellsList spell between)
listed_once spell between tree = (spell tree, record { first = tree; more = []; spelled = refl })

-- a name, a sum, and an expression
pub a_name : Name
a_name = record { word = []; free = refl }

pub a_sum : Sum
a_sum = sum_of (prod_of (unary_of (digits [])))

pub an_expression : Or
an_expression = or_of (and_of (not_of (cmp_of (bor_of (bxor_of (band_of (shift_of a_sum)))))))
