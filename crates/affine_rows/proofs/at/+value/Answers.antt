use Rattle.std.proofs.Common.{arith, rules, FitsSigned, ap, ◌∙◌, unsigned_abs}
use Rattle.std.specs.Int.{w64, w128}
use Rattle.std.proofs.lemmas.Int.{ints, to_z-of_z, unsigned_abs-mul}
use Rattle.affine_rows.specs.declared.quasi.Quasi.{out-Quasi}
use Rattle.affine_rows.specs.declared.quasi.Floor.{out-Floor, the_lemmas}
use Rattle.affine_rows.proofs.FormEquations.{IsFloor-inner, IsFloor-by, IsForm-floors, form_terms, form_floors, form_total, IsForm-reach, form_reach_is, times_small}
use Rattle.affine_rows.proofs.at.+value.Goals as goal

pub floor_value-form_value-inner-requires : goal.floor_value-form_value-inner-requires
floor_value-form_value-inner-requires g t c κs within =
    let inner = IsFloor-inner c.args.floor.now c.requires.floor in
    search (rules, the_lemmas, inner)

pub floor_value-quotient-requires : goal.floor_value-quotient-requires
floor_value-quotient-requires g t c =
    let fits : FitsSigned w64 (out-Floor c.args.floor.now).by = search rules in
    simp to_z-of_z (IsFloor-by c.args.floor.now c.requires.floor)

pub floor_value-times-requires : goal.floor_value-times-requires
floor_value-times-requires g t c =
    let by_fits : FitsSigned w64 (out-Floor c.args.floor.now).by = search rules in
    let times_fits : FitsSigned w64 (out-Floor c.args.floor.now).times = search rules in
    let inner_fits : FitsSigned w128 c.form_value-inner.result = search rules in
    let fits : FitsSigned w128 c.quotient.result = search rules in
    let quotient = simp to_z-of_z at c.quotient.ensures.small in
    let all = times_small c.args.floor.now c.form_value-inner.result c.quotient.result (IsFloor-by c.args.floor.now c.requires.floor) c.form_value-inner.ensures.small quotient in
    simp to_z-of_z (omega (arith, all, c.requires.small))

pub floor_value-returns-clause-small : goal.floor_value-returns-clause-small
floor_value-returns-clause-small g t c =
    let by_fits : FitsSigned w64 (out-Floor c.args.floor.now).by = search rules in
    let times_fits : FitsSigned w64 (out-Floor c.args.floor.now).times = search rules in
    let inner_fits : FitsSigned w128 c.form_value-inner.result = search rules in
    let quotient_fits : FitsSigned w128 c.quotient.result = search rules in
    let fits : FitsSigned w128 c.times.result = search rules in
    let quotient = simp to_z-of_z at c.quotient.ensures.small in
    let value = simp to_z-of_z at c.times.ensures.value in
    let all = times_small c.args.floor.now c.form_value-inner.result c.quotient.result (IsFloor-by c.args.floor.now c.requires.floor) c.form_value-inner.ensures.small quotient in
    let size = ap unsigned_abs value ∙ unsigned_abs-mul (out-Floor c.args.floor.now).times c.quotient.result in
    simp to_z-of_z (omega (arith, all, size))

pub form_value-terms_value-requires : goal.form_value-terms_value-requires
form_value-terms_value-requires g t c = rw c.as_slice.ensures (form_terms c.args.form.now c.requires)

pub form_value-plus-plain-requires : goal.form_value-plus-plain-requires
form_value-plus-plain-requires g t c =
    let constant_fits : FitsSigned w64 (out-Quasi c.args.form.now).constant = search rules in
    let wide : FitsSigned w128 (out-Quasi c.args.form.now).constant = omega (arith, ints) in
    let fits : FitsSigned w128 c.terms_value.result = search rules in
    let constant = simp to_z-of_z at c.from.ensures in
    let small = rw c.as_slice.ensures at c.terms_value.ensures.small in
    rw constant (simp to_z-of_z (omega (arith, small, form_reach_is c.args.form.now, IsForm-reach c.args.form.now c.requires)))

pub form_value-floors_value-requires : goal.form_value-floors_value-requires
form_value-floors_value-requires g t c κs within =
    let each = IsForm-floors c.args.form.now c.requires in
    let small = form_floors c.args.form.now c.requires in
    search (rules, the_lemmas, each, small, c.as_slice-2.ensures)

pub form_value-plus-requires : goal.form_value-plus-requires
form_value-plus-requires g t c =
    let constant_fits : FitsSigned w64 (out-Quasi c.args.form.now).constant = search rules in
    let wide : FitsSigned w128 (out-Quasi c.args.form.now).constant = omega (arith, ints) in
    let terms_fits : FitsSigned w128 c.terms_value.result = search rules in
    let plain_fits : FitsSigned w128 c.plus-plain.result = search rules in
    let floors_fits : FitsSigned w128 c.floors_value.result = search rules in
    let constant = simp to_z-of_z at c.from.ensures in
    let terms_small = rw c.as_slice.ensures at c.terms_value.ensures.small in
    let floors_small = rw c.as_slice-2.ensures at c.floors_value.ensures.small in
    let plain_small = simp to_z-of_z at (rw constant at c.plus-plain.ensures.small) in
    let reached = form_reach_is c.args.form.now in
    simp to_z-of_z (omega (arith, terms_small, floors_small, plain_small, reached, IsForm-reach c.args.form.now c.requires))

pub form_value-returns-clause-value : goal.form_value-returns-clause-value
form_value-returns-clause-value g t c =
    let constant_fits : FitsSigned w64 (out-Quasi c.args.form.now).constant = search rules in
    let wide : FitsSigned w128 (out-Quasi c.args.form.now).constant = omega (arith, ints) in
    let terms_fits : FitsSigned w128 c.terms_value.result = search rules in
    let plain_fits : FitsSigned w128 c.plus-plain.result = search rules in
    let floors_fits : FitsSigned w128 c.floors_value.result = search rules in
    let constant = simp to_z-of_z at c.from.ensures in
    let fits : FitsSigned w128 c.plus.result = search rules in
    let plain = simp to_z-of_z at (rw constant at c.plus-plain.ensures.value) in
    let terms = rw c.as_slice.ensures at c.terms_value.ensures.value in
    let floors = rw c.as_slice-2.ensures at c.floors_value.ensures.value in
    let value = simp to_z-of_z at c.plus.ensures.value in
    simp to_z-of_z (form_total (g.V.Vars.number c.args.vars.now) c.args.form.now c.plus-plain.result c.terms_value.result c.floors_value.result c.plus.result plain terms floors value)

pub form_value-returns-clause-small : goal.form_value-returns-clause-small
form_value-returns-clause-small g t c =
    let constant_fits : FitsSigned w64 (out-Quasi c.args.form.now).constant = search rules in
    let wide : FitsSigned w128 (out-Quasi c.args.form.now).constant = omega (arith, ints) in
    let terms_fits : FitsSigned w128 c.terms_value.result = search rules in
    let plain_fits : FitsSigned w128 c.plus-plain.result = search rules in
    let floors_fits : FitsSigned w128 c.floors_value.result = search rules in
    let constant = simp to_z-of_z at c.from.ensures in
    let terms_small = rw c.as_slice.ensures at c.terms_value.ensures.small in
    let floors_small = rw c.as_slice-2.ensures at c.floors_value.ensures.small in
    let plain_small = simp to_z-of_z at (rw constant at c.plus-plain.ensures.small) in
    let reached = form_reach_is c.args.form.now in
    let fits : FitsSigned w128 c.plus.result = search rules in
    let value_small = simp to_z-of_z at c.plus.ensures.small in
    simp to_z-of_z (omega (arith, terms_small, floors_small, plain_small, reached, value_small))
