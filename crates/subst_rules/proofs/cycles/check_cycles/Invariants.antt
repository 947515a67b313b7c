use Rattle.std.proofs.Common.{◌≡◌, ℕ, ◌<◌, List, [], ◌∷◌, ◌++◌, false}
use Rattle.subst_rules.specs.Uses.{walks}
use Rattle.subst_rules.proofs.cycles.check_cycles.Given as goal

abbrev pub invariant-loop-rule : goal.invariant-loop-rule
invariant-loop-rule l = (earlier : ℕ) (round : List ℕ) → earlier < l.rule → walks l.bodies earlier (round ++ earlier ∷ []) ≡ false
