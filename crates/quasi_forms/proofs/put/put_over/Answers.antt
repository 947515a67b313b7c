use Rattle.std.proofs.Common.{◌≡◌, ◌∙◌, ap, subst, rules, not, IfOk, OnOk, Err, ℕ, ℤ, FitsSigned}
use Rattle.std.specs.List.{filter}
use Rattle.std.specs.Int.{w64}
use Rattle.std.proofs.lemmas.Int.{to_z-of_z}
use Rattle.affine_rows.specs.declared.quasi.Quasi.{Quasi, out-Quasi}
use Rattle.affine_rows.proofs.FormEquations.{form_terms}
use Rattle.expr_tree.specs.Scenes.{is_among}
use Rattle.quasi_forms.specs.declared.fault.FormFault.TheVariants.{Limit}
use Rattle.quasi_forms.specs.Collected.{put_parts}
use Rattle.quasi_forms.specs.Combined.{Multiples}
use Rattle.quasi_forms.specs.Limits.{IsWithin}
use Rattle.quasi_forms.proofs.PartSums.{sum_combined}
use Rattle.quasi_forms.proofs.Placing.{part_rest, room_put, room_over, over_is}
use Rattle.quasi_forms.proofs.put.put_over.Goals as goal

pub put_sum-requires-clause-terms : goal.put_sum-requires-clause-terms
put_sum-requires-clause-terms c = rw c.as_slice-2.ensures (form_terms c.args.a.now c.requires.form)

pub add-requires-clause-part : goal.add-requires-clause-part
add-requires-clause-part c =
    let fits : FitsSigned w64 (out-Quasi c.args.a.now).constant = search rules in
    simp to_z-of_z (part_rest c.args.vars.now c.args.forms.now c.args.a.now c.in_ok-other_terms.field-0 c.args.floors c.requires.form (c.in_ok-other_terms.ensures ∙ ap (filter (λ (t : ℕ × ℤ). not (is_among c.args.vars.now t.0))) c.as_slice.ensures) c.requires.factors c.requires.floors)

pub add-requires-clause-room : goal.add-requires-clause-room
add-requires-clause-room c = record {
  multiples = put_parts c.args.vars.now c.args.forms.now c.as_slice-2.result.now;
  sum = c.in_ok-sum.ensures;
  light = room_put c.args.vars.now c.args.forms.now c.args.a.now c.as_slice-2.result.now c.requires.differ c.requires.form c.as_slice-2.ensures;
}

pub collected-requires : goal.collected-requires
collected-requires c =
    let fits : FitsSigned w64 (out-Quasi c.args.a.now).constant = search rules in
    let ms : Multiples = put_parts c.args.vars.now c.args.forms.now c.as_slice-2.result.now in
    record {
      multiples = _;
      sum = (simp to_z-of_z at c.in_ok-add.ensures) ms c.in_ok-sum.ensures;
      light = room_over c.args.vars.now c.args.forms.now c.args.a.now _ c.as_slice-2.result.now c.requires.differ c.requires.form c.as_slice-2.ensures;
    }

pub returns-clause-form : goal.returns-clause-form
returns-clause-form c =
    let fits : FitsSigned w64 (out-Quasi c.args.a.now).constant = search rules in
    let ms : Multiples = put_parts c.args.vars.now c.args.forms.now c.as_slice-2.result.now in
    let sum = (simp to_z-of_z at c.in_ok-add.ensures) ms c.in_ok-sum.ensures in
    let whole = sum_combined _ _ _ _ sum ∙ over_is c.args.vars.now c.args.forms.now c.args.a.now c.args.floors c.as_slice.result.now c.as_slice-2.result.now c.in_ok-other_terms.field-0 c.as_slice.ensures c.as_slice-2.ensures c.in_ok-other_terms.ensures in
    subst (λ (x : Quasi). IfOk c.collected.result (λ f. f ≡ x)) whole c.collected.ensures.form

pub returns-clause-within : goal.returns-clause-within
returns-clause-within c =
    let fits : FitsSigned w64 (out-Quasi c.args.a.now).constant = search rules in
    let ms : Multiples = put_parts c.args.vars.now c.args.forms.now c.as_slice-2.result.now in
    let sum = (simp to_z-of_z at c.in_ok-add.ensures) ms c.in_ok-sum.ensures in
    let whole = sum_combined _ _ _ _ sum ∙ over_is c.args.vars.now c.args.forms.now c.args.a.now c.args.floors c.as_slice.result.now c.as_slice-2.result.now c.in_ok-other_terms.field-0 c.as_slice.ensures c.as_slice-2.ensures c.in_ok-other_terms.ensures in
    subst (λ (x : Quasi). OnOk c.collected.result (IsWithin x)) whole c.collected.ensures.within

pub returns-clause-limit : goal.returns-clause-limit
returns-clause-limit c =
    let fits : FitsSigned w64 (out-Quasi c.args.a.now).constant = search rules in
    let ms : Multiples = put_parts c.args.vars.now c.args.forms.now c.as_slice-2.result.now in
    let sum = (simp to_z-of_z at c.in_ok-add.ensures) ms c.in_ok-sum.ensures in
    let whole = sum_combined _ _ _ _ sum ∙ over_is c.args.vars.now c.args.forms.now c.args.a.now c.args.floors c.as_slice.result.now c.as_slice-2.result.now c.in_ok-other_terms.field-0 c.as_slice.ensures c.as_slice-2.ensures c.in_ok-other_terms.ensures in
    subst (λ (x : Quasi). c.collected.result ≡ Err Limit → IsWithin x → ⊥) whole c.collected.ensures.limit
