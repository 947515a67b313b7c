use Rattle.std.proofs.Common.{◌≡◌, ◌∙◌, ap, sym, subst, inl, inr, Some, None, Err, pos}
use Rattle.std.specs.Prelude.{Option}
use Rattle.std.proofs.lemmas.Result.{IfOk-weaker}
use Rattle.expr_tree.specs.declared.tree.Op.TheVariants.{Sub}
use Rattle.quasi_forms.specs.declared.fault.FormFault.{FormFault}
use Rattle.quasi_forms.specs.declared.fault.FormFault.TheVariants.{Limit}
use Rattle.quasi_forms.specs.Affine.{Part, number_part, operation_part, affine_part, IsMadeOf, CannotBeMade}
use Rattle.quasi_forms.proofs.Errors.{err_same}
use Rattle.quasi_forms.proofs.AffineParts.{operation_fails, of_made, affine-Neg, affine-Bin}
use Rattle.quasi_forms.proofs.affine.+made_of.Goals as goal

pub returns-in_err-made_of-in-Neg-clause-limit : goal.returns-in_err-made_of-in-Neg-clause-limit
returns-in_err-made_of-in-Neg-clause-limit t c = λ limit.
    let same : c.in_err-made_of-in-Neg.field-0.0 ≡ Limit = err_same c.from_residual.result c.in_err-made_of-in-Neg.field-0.0 Limit c.from_residual.ensures.1 limit in
    subst CannotBeMade (sym (affine-Neg c.args.expr.now c.in-Neg.a (sym c.node.ensures ∙ c.in-Neg.is)))
    (operation_fails Sub (Some (number_part (pos 0))) (affine_part c.in-Neg.a) (inr (c.in_err-made_of-in-Neg.ensures.limit (ap (λ (e : FormFault). Err e) same))))

pub returns-in_err-made_of-in-Bin-clause-limit : goal.returns-in_err-made_of-in-Bin-clause-limit
returns-in_err-made_of-in-Bin-clause-limit t c = λ limit.
    let same : c.in_err-made_of-in-Bin.field-0.0 ≡ Limit = err_same c.from_residual-in_err-made_of-in-Bin.result c.in_err-made_of-in-Bin.field-0.0 Limit c.from_residual-in_err-made_of-in-Bin.ensures.1 limit in
    subst CannotBeMade (sym (affine-Bin c.args.expr.now c.in-Bin.op c.in-Bin.a c.in-Bin.b (sym c.node.ensures ∙ c.in-Bin.is)))
    (operation_fails c.in-Bin.op (affine_part c.in-Bin.a) (affine_part c.in-Bin.b) (inl (c.in_err-made_of-in-Bin.ensures.limit (ap (λ (e : FormFault). Err e) same))))

pub returns-in_err-made_of-in-Bin-2-clause-limit : goal.returns-in_err-made_of-in-Bin-2-clause-limit
returns-in_err-made_of-in-Bin-2-clause-limit t c = λ limit.
    let same : c.in_err-made_of-in-Bin-2.field-0.0 ≡ Limit = err_same c.from_residual-in_err-made_of-in-Bin-2.result c.in_err-made_of-in-Bin-2.field-0.0 Limit c.from_residual-in_err-made_of-in-Bin-2.ensures.1 limit in
    subst CannotBeMade (sym (affine-Bin c.args.expr.now c.in-Bin.op c.in-Bin.a c.in-Bin.b (sym c.node.ensures ∙ c.in-Bin.is)))
    (operation_fails c.in-Bin.op (affine_part c.in-Bin.a) (affine_part c.in-Bin.b) (inr (c.in_err-made_of-in-Bin-2.ensures.limit (ap (λ (e : FormFault). Err e) same))))

pub returns-in_ok-made_of-in-Neg-clause-made : goal.returns-in_ok-made_of-in-Neg-clause-made
returns-in_ok-made_of-in-Neg-clause-made t c =
    IfOk-weaker c.joined_made.result _ _
    (λ m h. subst (λ (part : Option Part). IsMadeOf part m.constant m.form) (sym (affine-Neg c.args.expr.now c.in-Neg.a (sym c.node.ensures ∙ c.in-Neg.is)))
    (of_made (affine_part c.in-Neg.a) _ _ (λ part. IsMadeOf (operation_part Sub (Some (number_part (pos 0))) part) m.constant m.form) c.in_ok-made_of-in-Neg.ensures.made
    (λ q k. h (number_part (pos 0)) q c.number-in-Neg.ensures k))) c.joined_made.ensures.made

pub returns-in_ok-made_of-in-Neg-clause-limit : goal.returns-in_ok-made_of-in-Neg-clause-limit
returns-in_ok-made_of-in-Neg-clause-limit t c = λ limit.
    subst CannotBeMade (sym (affine-Neg c.args.expr.now c.in-Neg.a (sym c.node.ensures ∙ c.in-Neg.is)))
    (of_made (affine_part c.in-Neg.a) _ _ (λ part. CannotBeMade (operation_part Sub (Some (number_part (pos 0))) part)) c.in_ok-made_of-in-Neg.ensures.made
    (λ q k. c.joined_made.ensures.limit limit (number_part (pos 0)) q c.number-in-Neg.ensures k))

pub returns-in_ok-made_of-in-Neg-clause-affine : goal.returns-in_ok-made_of-in-Neg-clause-affine
returns-in_ok-made_of-in-Neg-clause-affine t c = λ none.
    affine-Neg c.args.expr.now c.in-Neg.a (sym c.node.ensures ∙ c.in-Neg.is)
    ∙ of_made (affine_part c.in-Neg.a) _ _ (λ part. operation_part Sub (Some (number_part (pos 0))) part ≡ None) c.in_ok-made_of-in-Neg.ensures.made
    (λ q k. c.joined_made.ensures.affine none (number_part (pos 0)) q c.number-in-Neg.ensures k)
