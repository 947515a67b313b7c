use Rattle.std.proofs.Common.{ℕ, ◌*◌}
use Rattle.std.specs.Int.{◌∣◌}
use Rattle.elimination.proofs.fractions.common_divisor.Given as goal

abbrev pub invariant-steps : goal.invariant-steps
invariant-steps l = record {
  divides : (d : ℕ) → d ∣ l.first → d ∣ l.second → (d ∣ l.fn.a) × (d ∣ l.fn.b);
  greatest : (m t : ℕ) → m ∣ t * l.fn.a → m ∣ t * l.fn.b → (m ∣ t * l.first) × (m ∣ t * l.second);
}

abbrev pub decreases-steps : goal.decreases-steps
decreases-steps l = l.second
