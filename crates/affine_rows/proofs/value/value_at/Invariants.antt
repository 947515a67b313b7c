use Rattle.std.proofs.Common.{◌≡◌, ◌≤◌, ◌^◌, ◌+◌, ◌*◌, ◌+ℤ◌, take, unsigned_abs}
use Rattle.affine_rows.specs.Rows.{env_of, terms_at}
use Rattle.affine_rows.proofs.value.value_at.Given as goal

abbrev pub invariant-loop-var : goal.invariant-loop-var
invariant-loop-var l = record {
  value : l.sum ≡ l.row.constant +ℤ terms_at (env_of l.at) (take l.var-index l.row.terms);
  small : unsigned_abs l.sum ≤ 2 ^ 62 + l.var-index * 2 ^ 118;
}
