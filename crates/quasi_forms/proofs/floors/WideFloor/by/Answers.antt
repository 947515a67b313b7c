use Rattle.std.proofs.Common.{◌≡◌, ◌∙◌, sym, ap, refl, rules, FitsSigned}
use Rattle.std.specs.Int.{w64}
use Rattle.std.proofs.lemmas.Int.{to_z-of_z}
use Rattle.affine_rows.specs.declared.quasi.Floor.{Floor, roll-Floor, out-Floor, out-roll-Floor}
use Rattle.quasi_forms.proofs.floors.WideFloor.by.Goals as goal

pub returns : goal.returns
returns c =
    let fits : FitsSigned w64 c.self.inside.by = search rules in
    let made : (out-Floor (roll-Floor (record { times = c.self.inside.times; inner = c.self.inside.inner; by = c.self.inside.by }))).by ≡ c.self.inside.by = simp out-roll-Floor refl in
    to_z-of_z w64 _ fits ∙ (sym made ∙ ap (λ (f : Floor). (out-Floor f).by) c.self.view_is)
