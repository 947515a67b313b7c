use Rattle.std.proofs.Common.{◌≡◌, ◌∙◌, ◌∷◌, [], sym, ap₂, subst, arith, IfOk, OnOk, Err, pos, ℤ, FitsSigned}
use Rattle.std.specs.Int.{w64}
use Rattle.std.proofs.lemmas.Int.{ints, to_z-of_z}
use Rattle.affine_rows.specs.declared.quasi.Quasi.{Quasi}
use Rattle.affine_rows.specs.Forms.{IsForm}
use Rattle.quasi_forms.specs.declared.fault.FormFault.TheVariants.{Limit}
use Rattle.quasi_forms.specs.Collected.{sum_form}
use Rattle.quasi_forms.proofs.PartSums.{form_part, sum_combined}
use Rattle.quasi_forms.proofs.sums.small_sum_of.Goals as goal

pub add-requires-clause-part : goal.add-requires-clause-part
add-requires-clause-part c = form_part c.quasi.result.now (subst IsForm (sym c.quasi.ensures.same) c.quasi.ensures.form)

pub add-requires-clause-room : goal.add-requires-clause-room
add-requires-clause-room c = record { multiples = []; sum = c.new-sum.ensures; light = omega arith }

pub add-requires-2-clause-part : goal.add-requires-2-clause-part
add-requires-2-clause-part c = form_part c.quasi-2.result.now (subst IsForm (sym c.quasi-2.ensures.same) c.quasi-2.ensures.form)

pub add-requires-2-clause-room : goal.add-requires-2-clause-room
add-requires-2-clause-room c =
    let fits : FitsSigned w64 c.args.times = c.ranges.times in
    simp to_z-of_z (record { multiples = (pos 1, c.quasi.result.now) ∷ []; sum = c.in_ok-add.ensures [] c.new-sum.ensures; light = omega (arith, ints) })

pub gathered-requires : goal.gathered-requires
gathered-requires c =
    let fits : FitsSigned w64 c.args.times = c.ranges.times in
    record { multiples = (pos 1, c.quasi.result.now) ∷ (c.args.times, c.quasi-2.result.now) ∷ []; sum = (simp to_z-of_z at c.in_ok-add-2.ensures) ((pos 1, c.quasi.result.now) ∷ []) (c.in_ok-add.ensures [] c.new-sum.ensures); light = omega (arith, ints) }

made_is : (a b p q : Quasi) (times : ℤ) (made : Quasi) → p ≡ a → q ≡ b → made ≡ sum_form p times q → made ≡ sum_form a times b
made_is a b p q times made e f m = m ∙ ap₂ (λ (x y : Quasi). sum_form x times y) e f

pub returns-clause-form : goal.returns-clause-form
returns-clause-form c =
    let fits : FitsSigned w64 c.args.times = c.ranges.times in
    let whole = sum_combined _ _ _ _ ((simp to_z-of_z at c.in_ok-add-2.ensures) ((pos 1, c.quasi.result.now) ∷ []) (c.in_ok-add.ensures [] c.new-sum.ensures)) in
    subst (λ (x : Quasi). IfOk c.gathered.result (λ f. f ≡ x)) (made_is c.args.a.now c.args.b.now _ _ c.args.times _ c.quasi.ensures.same c.quasi-2.ensures.same whole) c.gathered.ensures.form

pub returns-clause-small : goal.returns-clause-small
returns-clause-small c =
    let fits : FitsSigned w64 c.args.times = c.ranges.times in
    let whole = sum_combined _ _ _ _ ((simp to_z-of_z at c.in_ok-add-2.ensures) ((pos 1, c.quasi.result.now) ∷ []) (c.in_ok-add.ensures [] c.new-sum.ensures)) in
    subst (λ (x : Quasi). OnOk c.gathered.result (IsForm x)) (made_is c.args.a.now c.args.b.now _ _ c.args.times _ c.quasi.ensures.same c.quasi-2.ensures.same whole) c.gathered.ensures.small

pub returns-clause-limit : goal.returns-clause-limit
returns-clause-limit c =
    let fits : FitsSigned w64 c.args.times = c.ranges.times in
    let whole = sum_combined _ _ _ _ ((simp to_z-of_z at c.in_ok-add-2.ensures) ((pos 1, c.quasi.result.now) ∷ []) (c.in_ok-add.ensures [] c.new-sum.ensures)) in
    subst (λ (x : Quasi). c.gathered.result ≡ Err Limit → IsForm x → ⊥) (made_is c.args.a.now c.args.b.now _ _ c.args.times _ c.quasi.ensures.same c.quasi-2.ensures.same whole) c.gathered.ensures.limit
