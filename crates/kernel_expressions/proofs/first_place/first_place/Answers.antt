use Rattle.std.proofs.Common.{◌≡◌, ℕ, subst, sym, ◌∙◌}
use Rattle.kernel_expressions.proofs.FirstPlaces.{place_one, place_three, place_other}
use Rattle.kernel_expressions.proofs.first_place.first_place.Goals as goal

pub returns-in-Some : goal.returns-in-Some
returns-in-Some c = place_one _ _ _ _ _ _ c.saturating_sub.ensures c.if-saturating_sub-eq1.true c.in-Some.ensures c.lone.ensures

pub returns-in-Some-Some-Some : goal.returns-in-Some-Some-Some
returns-in-Some-Some-Some c = place_three _ _ _ _ _ _ _ _ c.saturating_sub-2.ensures c.if-saturating_sub-eq3.true (rw c.in-Some-Some-Some.is-0 at c.lexeme_at-first.ensures) (rw c.in-Some-Some-Some.is-1 at c.lexeme_at-second.ensures) (rw c.in-Some-Some-Some.is-2 at c.lexeme_at-third.ensures) c.grouped.ensures

pub returns : goal.returns
returns c = place_other _ _ _ _ c.saturating_sub.ensures c.if-saturating_sub-eq1.false (subst (λ (n : ℕ). n ≡ 3 → ⊥) (c.saturating_sub-2.ensures ∙ sym c.saturating_sub.ensures) c.if-saturating_sub-eq3.false)
