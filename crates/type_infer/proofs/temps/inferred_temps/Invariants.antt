use Rattle.std.proofs.Common.{◌≡◌, ◌++◌, drop}
use Rattle.type_infer.specs.Inferred.{inferred_kind, with_kinds}
use Rattle.type_infer.proofs.temps.inferred_temps.Given as goal

abbrev pub invariant-loop-at : goal.invariant-loop-at
invariant-loop-at l = l.temps ++ with_kinds (inferred_kind l.kernel) l.at (drop l.at l.kernel.temps) ≡ with_kinds (inferred_kind l.kernel) 0 l.kernel.temps
