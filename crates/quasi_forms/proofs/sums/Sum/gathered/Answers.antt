use Rattle.std.proofs.Common.{◌≡◌, ◌∙◌, ◌≤◌, ◌^◌, ◌-◌, sum_by, unsigned_abs, true, false, sym, ap, subst, rules, IfOk, OnOk, Err, List, ℕ, ℤ, All, FitsSigned, to_z, of_z}
use Rattle.std.specs.Int.{w64, w128}
use Rattle.std.specs.List.{list_all}
use Rattle.std.proofs.lemmas.Int.{to_z-of_z}
use Rattle.affine_rows.specs.declared.quasi.Quasi.{Quasi, out-roll-Quasi}
use Rattle.affine_rows.specs.declared.quasi.Floor.{Floor, out-Floor}
use Rattle.affine_rows.specs.Forms.{IsFloor, IsForm}
use Rattle.affine_rows.specs.Reduced.{fits_entry}
use Rattle.quasi_forms.specs.declared.fault.FormFault.{FormFault}
use Rattle.quasi_forms.specs.declared.fault.FormFault.TheVariants.{Limit}
use Rattle.quasi_forms.specs.Collected.{collected_terms, collected_floors}
use Rattle.quasi_forms.proofs.Errors.{err_same}
use Rattle.quasi_forms.proofs.SumLimits.{wide_constant, wide_terms, wide_floors, floors_collected, collected-made}
use Rattle.quasi_forms.proofs.PartSums.{room-terms, room-factors, room-wide}
use Rattle.quasi_forms.proofs.sums.Sum.gathered.Goals as goal

pub returns-in_default-clause-limit : goal.returns-in_default-clause-limit
returns-in_default-clause-limit c = λ limit within.
    let fits : FitsSigned w128 c.args.self.constant = search rules in
    let wide : false ≡ fits_entry c.args.self.constant = simp to_z-of_z at c.in_default.ensures.fits in
    wide_constant c.args.self.constant c.args.self.terms.items c.args.self.floors.items wide within

pub returns-in_err-terms-2-clause-limit : goal.returns-in_err-terms-2-clause-limit
returns-in_err-terms-2-clause-limit c = λ limit within.
    let same : c.in_err-terms-2.field-0.0 ≡ Limit = err_same c.from_residual-in_err-terms-2.result c.in_err-terms-2.field-0.0 Limit c.from_residual-in_err-terms-2.ensures.1 limit in
    let wide = c.in_err-terms-2.ensures.limit (ap (λ (e : FormFault). Err e) same) in
    wide_terms c.args.self.constant c.args.self.terms.items c.args.self.floors.items
    (subst (λ (ts : List (ℕ × ℤ)). list_all (λ t. fits_entry t.1) ts ≡ false) (c.deref.ensures.value ∙ c.in_ok-terms.ensures) wide) within

pub returns-in_err-floors-clause-limit : goal.returns-in_err-floors-clause-limit
returns-in_err-floors-clause-limit c = λ limit within.
    let same : c.in_err-floors.field-0.0 ≡ Limit = err_same c.from_residual-in_err-floors.result c.in_err-floors.field-0.0 Limit c.from_residual-in_err-floors.ensures.1 limit in
    let wide = c.in_err-floors.ensures.limit (ap (λ (e : FormFault). Err e) same) in
    wide_floors c.args.self.constant c.args.self.terms.items c.args.self.floors.items
    (subst (λ (fs : List Floor). list_all (λ f. fits_entry (out-Floor f).times) (collected_floors fs) ≡ false) c.deref-2.ensures.value wide) within

pub collected_terms-requires : goal.collected_terms-requires
collected_terms-requires c = room-terms c.args.self.constant c.args.self.terms.items c.args.self.floors.items c.requires

pub collected_floors-requires : goal.collected_floors-requires
collected_floors-requires c = subst (λ (fs : List Floor). sum_by (λ f. unsigned_abs (out-Floor f).times) fs ≤ 2 ^ 127 - 1) (sym c.deref-2.ensures.value) (room-factors c.args.self.constant c.args.self.terms.items c.args.self.floors.items c.requires)

pub small-requires : goal.small-requires
small-requires c =
    let fit = subst (λ (fs : List Floor). list_all (λ f. fits_entry (out-Floor f).times) (collected_floors fs) ≡ true) c.deref-2.ensures.value c.in_ok-floors.ensures.fits in
    let all = floors_collected c.args.self.floors.items (room-wide c.args.self.constant c.args.self.terms.items c.args.self.floors.items c.requires) fit in
    let made : c.in_ok-floors.floors ≡ collected_floors c.args.self.floors.items = c.in_ok-floors.ensures.made ∙ ap collected_floors c.deref-2.ensures.value in
    simp out-roll-Quasi (subst (All IsFloor) (sym made) all)

pub returns-clause-form : goal.returns-clause-form
returns-clause-form c =
    let fits : FitsSigned w64 c.in-Some.constant = search rules in
    let wide_fits : FitsSigned w128 c.args.self.constant = search rules in
    let constant : to_z w64 (of_z w64 c.in-Some.constant) ≡ c.args.self.constant = to_z-of_z w64 _ fits ∙ (simp to_z-of_z at c.in-Some.ensures.same) in
    let terms : c.in_ok-terms-2.terms ≡ collected_terms c.args.self.terms.items = c.in_ok-terms-2.ensures.same ∙ (c.deref.ensures.value ∙ c.in_ok-terms.ensures) in
    let floors : c.in_ok-floors.floors ≡ collected_floors c.args.self.floors.items = c.in_ok-floors.ensures.made ∙ ap collected_floors c.deref-2.ensures.value in
    subst (λ (q : Quasi). IfOk c.small.result (λ f. f ≡ q)) (collected-made c.args.self.constant _ c.args.self.terms.items _ c.args.self.floors.items _ constant terms floors) c.small.ensures.form

pub returns-clause-small : goal.returns-clause-small
returns-clause-small c =
    let fits : FitsSigned w64 c.in-Some.constant = search rules in
    let wide_fits : FitsSigned w128 c.args.self.constant = search rules in
    let constant : to_z w64 (of_z w64 c.in-Some.constant) ≡ c.args.self.constant = to_z-of_z w64 _ fits ∙ (simp to_z-of_z at c.in-Some.ensures.same) in
    let terms : c.in_ok-terms-2.terms ≡ collected_terms c.args.self.terms.items = c.in_ok-terms-2.ensures.same ∙ (c.deref.ensures.value ∙ c.in_ok-terms.ensures) in
    let floors : c.in_ok-floors.floors ≡ collected_floors c.args.self.floors.items = c.in_ok-floors.ensures.made ∙ ap collected_floors c.deref-2.ensures.value in
    subst (λ (q : Quasi). OnOk c.small.result (IsForm q)) (collected-made c.args.self.constant _ c.args.self.terms.items _ c.args.self.floors.items _ constant terms floors) c.small.ensures.small

pub returns-clause-limit : goal.returns-clause-limit
returns-clause-limit c =
    let fits : FitsSigned w64 c.in-Some.constant = search rules in
    let wide_fits : FitsSigned w128 c.args.self.constant = search rules in
    let constant : to_z w64 (of_z w64 c.in-Some.constant) ≡ c.args.self.constant = to_z-of_z w64 _ fits ∙ (simp to_z-of_z at c.in-Some.ensures.same) in
    let terms : c.in_ok-terms-2.terms ≡ collected_terms c.args.self.terms.items = c.in_ok-terms-2.ensures.same ∙ (c.deref.ensures.value ∙ c.in_ok-terms.ensures) in
    let floors : c.in_ok-floors.floors ≡ collected_floors c.args.self.floors.items = c.in_ok-floors.ensures.made ∙ ap collected_floors c.deref-2.ensures.value in
    subst (λ (q : Quasi). c.small.result ≡ Err Limit → IsForm q → ⊥) (collected-made c.args.self.constant _ c.args.self.terms.items _ c.args.self.floors.items _ constant terms floors) c.small.ensures.limit
