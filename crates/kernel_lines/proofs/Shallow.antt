-- What is read is at most 64 deep.
use Rattle.std.proofs.Common.{◌≡◌, ◌≤◌, arith, ap}
use Rattle.untyped.specs.declared.reading.Reading.{Reading}
use Rattle.untyped.specs.declared.tree.Untyped.{Untyped}
use Rattle.untyped.specs.Depths.{tree_depth, IsMeasured}
use Rattle.untyped.specs.Readings.{tree_of}

pub shallow : (r : Reading) (tree : Untyped) → IsMeasured r → tree ≡ tree_of r.part → tree_depth tree ≤ 64
shallow r tree measured is = omega (arith, ap tree_depth is, measured.depth, measured.most)
