use Rattle.std.proofs.Common.{◌≡◌, ◌∙◌, [], ◌∷◌, sym, subst, IfOk, Err, pos, All, FitsSigned}
use Rattle.std.specs.Int.{w64}
use Rattle.std.proofs.lemmas.Int.{to_z-of_z}
use Rattle.affine_rows.specs.declared.quasi.Quasi.{Quasi, out-roll-Quasi}
use Rattle.affine_rows.specs.declared.quasi.Floor.{roll-Floor}
use Rattle.affine_rows.specs.Forms.{IsForm, IsFloor}
use Rattle.quasi_forms.specs.declared.fault.FormFault.TheVariants.{Limit}
use Rattle.quasi_forms.proofs.SumLimits.{floor_form-is, one_floor}
use Rattle.quasi_forms.proofs.sums.small_floor_of.Goals as goal

pub small-requires : goal.small-requires
small-requires c =
    let fits : FitsSigned w64 c.args.by = c.ranges.by in
    let made : c.in_ok-of_one.field-0 ≡ roll-Floor (record { times = pos 1; inner = c.in_ok-copy.field-0; by = c.args.by }) ∷ [] = simp to_z-of_z at c.in_ok-of_one.ensures in
    let same : c.in_ok-copy.field-0 ≡ c.args.a.now = c.in_ok-copy.ensures ∙ c.quasi.ensures.same in
    let h : IsForm c.in_ok-copy.field-0 = subst IsForm (sym same) c.quasi.ensures.form in
    simp out-roll-Quasi (subst (All IsFloor) (sym made) (one_floor c.in_ok-copy.field-0 c.args.by h c.requires))

pub returns-clause-form : goal.returns-clause-form
returns-clause-form c =
    let fits : FitsSigned w64 c.args.by = c.ranges.by in
    let made : c.in_ok-of_one.field-0 ≡ roll-Floor (record { times = pos 1; inner = c.in_ok-copy.field-0; by = c.args.by }) ∷ [] = simp to_z-of_z at c.in_ok-of_one.ensures in
    subst (λ (x : Quasi). IfOk c.small.result (λ f. f ≡ x)) (floor_form-is c.args.a.now c.in_ok-copy.field-0 c.args.by c.new.result c.in_ok-of_one.field-0 (c.in_ok-copy.ensures ∙ c.quasi.ensures.same) c.new.ensures made) c.small.ensures.form

pub returns-clause-limit : goal.returns-clause-limit
returns-clause-limit c =
    let fits : FitsSigned w64 c.args.by = c.ranges.by in
    let made : c.in_ok-of_one.field-0 ≡ roll-Floor (record { times = pos 1; inner = c.in_ok-copy.field-0; by = c.args.by }) ∷ [] = simp to_z-of_z at c.in_ok-of_one.ensures in
    subst (λ (x : Quasi). c.small.result ≡ Err Limit → IsForm x → ⊥) (floor_form-is c.args.a.now c.in_ok-copy.field-0 c.args.by c.new.result c.in_ok-of_one.field-0 (c.in_ok-copy.ensures ∙ c.quasi.ensures.same) c.new.ensures made) c.small.ensures.limit
