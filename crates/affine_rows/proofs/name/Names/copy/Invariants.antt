use Rattle.std.proofs.Common.{◌≡◌, take}
use Rattle.affine_rows.proofs.name.Names.copy.Given as goal

abbrev pub invariant-loop-at : goal.invariant-loop-at
invariant-loop-at l = l.copied ≡ take l.at l.self
