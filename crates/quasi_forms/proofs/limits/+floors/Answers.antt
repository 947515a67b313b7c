use Rattle.std.proofs.Common.{◌∙◌, ◌++◌, ◌∷◌, [], ap, List}
use Rattle.std.specs.Prelude.{flat_map}
use Rattle.affine_rows.specs.declared.quasi.Floor.{Floor}
use Rattle.quasi_forms.specs.Limits.{floors_within}
use Rattle.quasi_forms.proofs.FormLimits.{within_next}
use Rattle.quasi_forms.proofs.limits.+floors.Goals as goal

pub add_floor-returns : goal.add_floor-returns
add_floor-returns t c =
    let inner = c.in_ok-add_floors.ensures ∙ ap (λ (fs : List Floor). c.args.made.now.items ++ flat_map floors_within fs) c.as_slice.ensures in
    within_next c.args.floor.now c.args.made.now.items c.add_floors.new.made.items c.push.new.self.items inner (c.in_ok-push.ensures.items ∙ ap (λ (f : Floor). c.add_floors.new.made.items ++ f ∷ []) c.in_ok-multiple.ensures)
