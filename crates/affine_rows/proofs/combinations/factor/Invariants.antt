use Rattle.std.proofs.Common.{◌≡◌, drop}
use Rattle.affine_rows.specs.Reduced.{factor_of}
use Rattle.affine_rows.proofs.combinations.factor.Given as goal

abbrev pub invariant-loop-other : goal.invariant-loop-other
invariant-loop-other l = factor_of l.var l.terms ≡ factor_of l.var (drop l.other-index l.terms)
