-- A tree's term.
use Rattle.untyped.specs.declared.tree.Term.{Term}
use Rattle.untyped.specs.declared.tree.Untyped.{Untyped, out-Untyped}

-- the term at the root
abbrev pub term_of : Untyped → Term
term_of e = (out-Untyped e).term
