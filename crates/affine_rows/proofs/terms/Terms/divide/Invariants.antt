use Rattle.std.proofs.Common.{◌≡◌, ◌++◌, map, take, drop}
use Rattle.affine_rows.specs.Reduced.{divided_term}
use Rattle.affine_rows.proofs.terms.Terms.divide.Given as goal

abbrev pub invariant-loop-i : goal.invariant-loop-i
invariant-loop-i l = l.terms ≡ map (divided_term l.fn.by) (take l.i l.initial.terms) ++ drop l.i l.initial.terms
