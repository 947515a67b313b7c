use Rattle.std.proofs.Common.{◌≡◌, ◌+◌, ◌-◌, ◌≤◌, ◌^◌, ◌++◌, length, drop, unsigned_abs, All}
use Rattle.affine_rows.specs.Reduced.{mixed_terms}
use Rattle.affine_rows.proofs.mix.mixed_terms.Given as goal

abbrev pub invariant-steps : goal.invariant-steps
invariant-steps l = record {
  left_in : l.i ≤ length l.left;
  right_in : l.j ≤ length l.right;
  value : l.terms.items ++ mixed_terms l.p (drop l.i l.left) l.q (drop l.j l.right) ≡ mixed_terms l.p l.left l.q l.right;
  small : All (λ t. unsigned_abs t.1 ≤ 2 ^ 126) l.terms.items;
}

abbrev pub decreases-steps : goal.decreases-steps
decreases-steps l = (length l.left - l.i) + (length l.right - l.j)
