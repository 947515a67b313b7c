use Rattle.std.proofs.Common.{◌≡◌, ◌≤ℤ◌, pos, arith, rules, unsigned_abs, FitsSigned}
use Rattle.std.specs.Int.{w64}
use Rattle.std.proofs.lemmas.Int.{ints, to_z-of_z}
use Rattle.affine_rows.specs.declared.quasi.Quasi.{out-Quasi}
use Rattle.affine_rows.specs.declared.quasi.Floor.{out-Floor, the_lemmas}
use Rattle.affine_rows.proofs.FormEquations.{IsForm-floors, IsFloor-inner, IsFloor-by}
use Rattle.quasi_forms.proofs.FormLimits.{floor_counted, floor_counted_constant, form_counted, form_counted_constant}
use Rattle.quasi_forms.proofs.limits.+counts.Goals as goal

pub floor_counts-form_counts-inner-requires : goal.floor_counts-form_counts-inner-requires
floor_counts-form_counts-inner-requires t c =
    let each = IsForm-floors (out-Floor c.args.floor.now).inner (IsFloor-inner c.args.floor.now c.requires) in
    search (rules, the_lemmas, each)

pub floor_counts-weighed-requires : goal.floor_counts-weighed-requires
floor_counts-weighed-requires t c =
    let fits : FitsSigned w64 (out-Floor c.args.floor.now).by = search rules in
    let size : c.unsigned_abs-by.result ≡ unsigned_abs (out-Floor c.args.floor.now).by = simp to_z-of_z at c.unsigned_abs-by.ensures.value in
    let positive : pos 1 ≤ℤ (out-Floor c.args.floor.now).by = IsFloor-by c.args.floor.now c.requires in
    record { positive = omega (arith, ints, size, positive) }

pub floor_counts-weighed-requires-2 : goal.floor_counts-weighed-requires-2
floor_counts-weighed-requires-2 t c =
    let fits : FitsSigned w64 (out-Floor c.args.floor.now).by = search rules in
    let size : c.unsigned_abs-by.result ≡ unsigned_abs (out-Floor c.args.floor.now).by = simp to_z-of_z at c.unsigned_abs-by.ensures.value in
    let positive : pos 1 ≤ℤ (out-Floor c.args.floor.now).by = IsFloor-by c.args.floor.now c.requires in
    record { positive = omega (arith, ints, size, positive) }

pub floor_counts-returns-clause-sum : goal.floor_counts-returns-clause-sum
floor_counts-returns-clause-sum t c =
    let fits : FitsSigned w64 (out-Floor c.args.floor.now).by = search rules in
    let times_fits : FitsSigned w64 (out-Floor c.args.floor.now).times = search rules in
    let by : c.unsigned_abs-by.result ≡ unsigned_abs (out-Floor c.args.floor.now).by = simp to_z-of_z at c.unsigned_abs-by.ensures.value in
    let times : c.unsigned_abs-times.result ≡ unsigned_abs (out-Floor c.args.floor.now).times = simp to_z-of_z at c.unsigned_abs-times.ensures.value in
    floor_counted c.args.floor.now c.unsigned_abs-times.result c.form_counts-inner.result.sum c.unsigned_abs-by.result c.weighed.result c.requires times by c.form_counts-inner.ensures.sum c.weighed.ensures

pub floor_counts-returns-clause-constant : goal.floor_counts-returns-clause-constant
floor_counts-returns-clause-constant t c =
    let fits : FitsSigned w64 (out-Floor c.args.floor.now).by = search rules in
    let times_fits : FitsSigned w64 (out-Floor c.args.floor.now).times = search rules in
    let by : c.unsigned_abs-by.result ≡ unsigned_abs (out-Floor c.args.floor.now).by = simp to_z-of_z at c.unsigned_abs-by.ensures.value in
    let times : c.unsigned_abs-times.result ≡ unsigned_abs (out-Floor c.args.floor.now).times = simp to_z-of_z at c.unsigned_abs-times.ensures.value in
    floor_counted_constant c.args.floor.now c.unsigned_abs-times.result c.form_counts-inner.result.constant c.unsigned_abs-by.result c.weighed-2.result c.requires times by c.form_counts-inner.ensures.constant c.weighed-2.ensures

pub form_counts-returns-clause-sum : goal.form_counts-returns-clause-sum
form_counts-returns-clause-sum t c =
    let terms = rw c.as_slice.ensures at c.terms_sum.ensures in
    let floors = rw c.as_slice-2.ensures at c.floors_counts.ensures.sum in
    form_counted c.args.form.now c.terms_sum.result c.floors_counts.result.sum c.plus.result.sum terms floors c.plus.ensures.sum

pub form_counts-returns-clause-constant : goal.form_counts-returns-clause-constant
form_counts-returns-clause-constant t c =
    let fits : FitsSigned w64 (out-Quasi c.args.form.now).constant = search rules in
    let size : c.unsigned_abs.result ≡ unsigned_abs (out-Quasi c.args.form.now).constant = simp to_z-of_z at c.unsigned_abs.ensures.value in
    let floors = rw c.as_slice-2.ensures at c.floors_counts.ensures.constant in
    form_counted_constant c.args.form.now c.unsigned_abs.result c.floors_counts.result.constant c.plus.result.constant size floors c.plus.ensures.constant
