use Rattle.std.proofs.Common.{◌≡◌, ◌∙◌, sym, ap, refl, rules, FitsSigned}
use Rattle.std.specs.Int.{w128}
use Rattle.std.proofs.lemmas.Int.{to_z-of_z}
use Rattle.affine_rows.specs.declared.quasi.Floor.{Floor, roll-Floor, out-Floor, out-roll-Floor}
use Rattle.quasi_forms.proofs.floors.times_if_like.Goals as goal

pub returns-then-is_like-clause-like : goal.returns-then-is_like-clause-like
returns-then-is_like-clause-like c =
    let fits : FitsSigned w128 c.other.inside.times = search rules in
    let made : (out-Floor (roll-Floor (record { times = c.other.inside.times; inner = c.other.inside.inner; by = c.other.inside.by }))).times ≡ c.other.inside.times = simp out-roll-Floor refl in
    λ like. to_z-of_z w128 _ fits ∙ (sym made ∙ ap (λ (f : Floor). (out-Floor f).times) c.other.view_is)
