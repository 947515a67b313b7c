use Rattle.std.proofs.Common.{◌≡◌, ◌≤◌, ◌^◌, ◌+◌, ◌*◌, ◌+ℤ◌, drop, sum_by, unsigned_abs}
use Rattle.affine_rows.specs.Rows.{terms_at}
use Rattle.affine_rows.proofs.at.terms_value.Given as goal

abbrev pub invariant-loop-var : goal.invariant-loop-var
invariant-loop-var g l = record {
  value : l.sum +ℤ terms_at (g.V.Vars.number l.vars) (drop l.var-index l.terms) ≡ terms_at (g.V.Vars.number l.vars) l.terms;
  small : unsigned_abs l.sum + 2 ^ 63 * sum_by (λ t. unsigned_abs t.1) (drop l.var-index l.terms) ≤ 2 ^ 63 * sum_by (λ t. unsigned_abs t.1) l.terms;
}
