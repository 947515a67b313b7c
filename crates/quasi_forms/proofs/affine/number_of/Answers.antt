use Rattle.std.proofs.Common.{◌≡◌, ◌∙◌, ◌≤◌, ◌^◌, ap, arith, rules, unsigned_abs, FitsSigned, ℤ, to_z, of_z}
use Rattle.std.specs.Int.{w64, w128}
use Rattle.std.proofs.lemmas.Int.{to_z-of_z, fits_signed_from_abs}
use Rattle.quasi_forms.specs.Affine.{number_of_form}
use Rattle.quasi_forms.proofs.AffineParts.{number_small}
use Rattle.quasi_forms.proofs.affine.number_of.Goals as goal

pub overflow_cast-result : goal.overflow_cast-result
overflow_cast-result c =
    let fits : FitsSigned w128 c.value.result = search rules in
    let value : c.value.result ≡ number_of_form c.args.form.now = c.value.ensures.value in
    let size : unsigned_abs c.value.result ≤ 2 ^ 62 = (let e = ap unsigned_abs value in let s = number_small c.args.form.now c.quasi-small.ensures.form in omega (arith, e, s)) in
    simp to_z-of_z (fits_signed_from_abs w64 c.value.result (omega (arith, size)))

pub returns : goal.returns
returns c =
    let fits : FitsSigned w128 c.value.result = search rules in
    let value : c.value.result ≡ number_of_form c.args.form.now = c.value.ensures.value in
    let size : unsigned_abs c.value.result ≤ 2 ^ 62 = (let e = ap unsigned_abs value in let s = number_small c.args.form.now c.quasi-small.ensures.form in omega (arith, e, s)) in
    let narrow : FitsSigned w64 c.value.result = fits_signed_from_abs w64 c.value.result (omega (arith, size)) in
    ap (λ (z : ℤ). to_z w64 (of_z w64 z)) (to_z-of_z w128 c.value.result fits) ∙ (to_z-of_z w64 c.value.result narrow ∙ value)
