use Rattle.std.proofs.Common.{◌≡◌, ◌≤◌, ◌^◌, ◌+◌, ◌+ℤ◌, drop, sum_by, unsigned_abs}
use Rattle.affine_rows.specs.Reduced.{factor_of}
use Rattle.quasi_forms.proofs.put.factor_of.Given as goal

abbrev pub invariant-loop-term : goal.invariant-loop-term
invariant-loop-term l = record {
  value : l.sum +ℤ factor_of l.var (drop l.term-index l.terms) ≡ factor_of l.var l.terms;
  small : unsigned_abs l.sum + sum_by (λ t. unsigned_abs t.1) (drop l.term-index l.terms) ≤ 2 ^ 62;
}
