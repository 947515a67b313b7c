use Rattle.std.proofs.Common.{◌≡◌, ◌∙◌, map, sum_by, unsigned_abs, sym, ap, subst, arith, rules, All, IfOk, Err, List, ℕ, FitsSigned}
use Rattle.std.specs.Prelude.{flat_map}
use Rattle.std.specs.List.{AllByRecursion}
use Rattle.std.specs.Int.{w64}
use Rattle.std.proofs.lemmas.Int.{to_z-of_z}
use Rattle.affine_rows.specs.declared.quasi.Quasi.{Quasi, out-Quasi}
use Rattle.affine_rows.specs.declared.quasi.Floor.{Floor, out-Floor, the_lemmas}
use Rattle.affine_rows.specs.Forms.{IsFloor}
use Rattle.affine_rows.proofs.FormEquations.{IsForm-small, IsForm-floors, IsFloor-inner}
use Rattle.quasi_forms.specs.declared.fault.FormFault.{FormFault}
use Rattle.quasi_forms.specs.declared.fault.FormFault.TheVariants.{Limit}
use Rattle.quasi_forms.specs.Collected.{IsWide}
use Rattle.quasi_forms.specs.Limits.{IsWithin, floors_within}
use Rattle.quasi_forms.specs.Placed.{put_floor, PutsInner}
use Rattle.quasi_forms.proofs.Errors.{err_same, on_ok}
use Rattle.quasi_forms.proofs.FormLimits.{floors_in-out}
use Rattle.quasi_forms.proofs.Placing.{times_put, parts_made, parts_inner, parts_at_place, wide_put, put_floor_made, put_form-over}
use Rattle.quasi_forms.proofs.put.+put.Goals as goal

pub put_floor-put_form-requires : goal.put_floor-put_form-requires
put_floor-put_form-requires t c =
    let inner = IsFloor-inner c.args.floor.now c.requires.floor in
    search (rules, the_lemmas, inner)

pub put_floor-returns-in_err-inner-clause-limit : goal.put_floor-returns-in_err-inner-clause-limit
put_floor-returns-in_err-inner-clause-limit t c = λ limit parts.
    let same : c.in_err-inner.field-0.0 ≡ Limit = err_same c.from_residual.result c.in_err-inner.field-0.0 Limit c.from_residual.ensures.1 limit in
    c.in_err-inner.ensures.limit (ap (λ (e : FormFault). Err e) same) (parts_inner c.args.vars.now c.args.forms.now c.args.floor.now parts)

pub put_floor-returns-clause-floor : goal.put_floor-returns-clause-floor
put_floor-returns-clause-floor t c =
    let times_fits : FitsSigned w64 (out-Floor c.args.floor.now).times = search rules in
    let by_fits : FitsSigned w64 (out-Floor c.args.floor.now).by = search rules in
    put_floor_made c.args.vars.now c.args.forms.now c.args.floor.now _ _ _ (to_z-of_z w64 _ times_fits) (c.in_ok-copy.ensures ∙ (c.quasi.ensures.same ∙ c.in_ok-inner.ensures.form)) (to_z-of_z w64 _ by_fits)

pub put_floor-returns-clause-within : goal.put_floor-returns-clause-within
put_floor-returns-clause-within t c = parts_made c.args.vars.now c.args.forms.now c.args.floor.now c.in_ok-inner.ensures.within

pub put_floors-returns-in_err-put_floor-clause-limit : goal.put_floors-returns-in_err-put_floor-clause-limit
put_floors-returns-in_err-put_floor-clause-limit t c = λ limit parts.
    let same : c.in_err-put_floor.field-0.0 ≡ Limit = err_same c.from_residual.result c.in_err-put_floor.field-0.0 Limit c.from_residual.ensures.1 limit in
    c.in_err-put_floor.ensures.limit (ap (λ (e : FormFault). Err e) same)
    (parts_at_place (PutsInner c.args.vars.now c.args.forms.now) c.args.floors.now c.loop-floor.floor-index c.floor-item.result c.loop-floor-test.true c.floor-item.is parts)

pub put_form-put_floors-requires : goal.put_form-put_floors-requires
put_form-put_floors-requires t c =
    let each = IsForm-floors c.args.a.now c.requires.form in
    search (rules, the_lemmas, each, c.as_slice.ensures)

pub put_form-returns-in_err-floors-clause-limit : goal.put_form-returns-in_err-floors-clause-limit
put_form-returns-in_err-floors-clause-limit t c = λ limit within.
    let same : c.in_err-floors.field-0.0 ≡ Limit = err_same c.from_residual.result c.in_err-floors.field-0.0 Limit c.from_residual.ensures.1 limit in
    let parts = subst (AllByRecursion (PutsInner c.args.vars.now c.args.forms.now)) (floors_in-out c.args.a.now) within.parts in
    c.in_err-floors.ensures.limit (ap (λ (e : FormFault). Err e) same)
    (subst (λ (gs : List Floor). AllByRecursion (PutsInner c.args.vars.now c.args.forms.now) (flat_map floors_within gs)) (sym c.as_slice.ensures) parts)

pub put_form-put_over-requires-clause-factors : goal.put_form-put_over-requires-clause-factors
put_form-put_over-requires-clause-factors t c =
    let vs : List ℕ = c.args.vars.now in
    let bs : List Quasi = c.args.forms.now in
    let is = ap (sum_by (λ (f : Floor). unsigned_abs (out-Floor f).times)) (c.in_ok-floors.ensures.floors ∙ ap (map (put_floor vs bs)) c.as_slice.ensures) in
    let own = (IsForm-small c.args.a.now c.requires.form).factors in
    omega (arith, is, times_put vs bs (out-Quasi c.args.a.now).floors, own)

pub put_form-put_over-requires-clause-floors : goal.put_form-put_over-requires-clause-floors
put_form-put_over-requires-clause-floors t c =
    let vs : List ℕ = c.args.vars.now in
    let bs : List Quasi = c.args.forms.now in
    let all = subst (All IsFloor) (sym c.as_slice.ensures) (IsForm-floors c.args.a.now c.requires.form) in
    subst (All IsWide) (sym c.in_ok-floors.ensures.floors) (wide_put vs bs c.as_slice.result.now all c.in_ok-floors.ensures.within)

pub put_form-returns-clause-form : goal.put_form-returns-clause-form
put_form-returns-clause-form t c =
    let whole = put_form-over c.args.vars.now c.args.forms.now c.args.a.now c.as_slice.result.now c.in_ok-floors.floors c.as_slice.ensures c.in_ok-floors.ensures.floors in
    subst (λ (x : Quasi). IfOk c.put_over.result (λ f. f ≡ x)) whole c.put_over.ensures.form

pub put_form-returns-clause-within : goal.put_form-returns-clause-within
put_form-returns-clause-within t c =
    let whole = put_form-over c.args.vars.now c.args.forms.now c.args.a.now c.as_slice.result.now c.in_ok-floors.floors c.as_slice.ensures c.in_ok-floors.ensures.floors in
    let parts = subst (λ (gs : List Floor). AllByRecursion (PutsInner c.args.vars.now c.args.forms.now) (flat_map floors_within gs)) c.as_slice.ensures c.in_ok-floors.ensures.within in
    on_ok c.put_over.result _ _ (λ within. record { form = subst IsWithin whole within; parts = subst (AllByRecursion (PutsInner c.args.vars.now c.args.forms.now)) (sym (floors_in-out c.args.a.now)) parts }) c.put_over.ensures.within

pub put_form-returns-clause-limit : goal.put_form-returns-clause-limit
put_form-returns-clause-limit t c = λ limit within.
    let whole = put_form-over c.args.vars.now c.args.forms.now c.args.a.now c.as_slice.result.now c.in_ok-floors.floors c.as_slice.ensures c.in_ok-floors.ensures.floors in
    c.put_over.ensures.limit limit (subst IsWithin (sym whole) within.form)
