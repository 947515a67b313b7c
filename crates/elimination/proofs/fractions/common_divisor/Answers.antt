use Rattle.std.proofs.Common.{◌≡◌, ℕ, sym, subst}
use Rattle.std.specs.Int.{◌∣◌}
use Rattle.std.proofs.lemmas.Nat.Gcd.{dvd_refl, dvd-zero, le_of_dvd}
use Rattle.elimination.proofs.Quotients.{divides_first, divides_rest, divisor_positive}
use Rattle.elimination.proofs.fractions.common_divisor.Goals as goal

pub steps-preserved : goal.steps-preserved
steps-preserved c = record {
  divides = (λ d h k. c.steps.invariant.divides d (divides_first d c.steps.first c.steps.second h k) h);
  greatest = (λ m t h k. let both = c.steps.invariant.greatest m t h k in (both.1, divides_rest m t c.steps.first c.steps.second both.0 both.1));
}

last : (first second : ℕ) → second ≡ 0 → first ∣ second
last first second h = subst (λ (n : ℕ). first ∣ n) (sym h) (dvd-zero first)

pub returns-clause-first : goal.returns-clause-first
returns-clause-first c = (c.steps.invariant.divides c.steps.first (dvd_refl c.steps.first) (last c.steps.first c.steps.second c.steps-test.false)).0

second_is : goal.returns-clause-second
second_is c = (c.steps.invariant.divides c.steps.first (dvd_refl c.steps.first) (last c.steps.first c.steps.second c.steps-test.false)).1

pub returns-clause-second : goal.returns-clause-second
returns-clause-second c = second_is c

pub returns-clause-some : goal.returns-clause-some
returns-clause-some c = divisor_positive c.steps.first c.args.b c.requires (second_is c)

pub returns-clause-small : goal.returns-clause-small
returns-clause-small c = le_of_dvd c.requires (second_is c)
