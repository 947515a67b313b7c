use Rattle.std.proofs.Common.{◌≡◌, ◌∙◌, ◌+◌, true, ap, subst, Err, List}
use Rattle.std.specs.List.{list_all}
use Rattle.affine_rows.specs.declared.quasi.Floor.{Floor, out-Floor}
use Rattle.affine_rows.specs.Reduced.{fits_entry}
use Rattle.quasi_forms.specs.declared.fault.FormFault.{FormFault}
use Rattle.quasi_forms.specs.declared.fault.FormFault.TheVariants.{Limit}
use Rattle.quasi_forms.proofs.FloorSums.{fails-all, collected-whole}
use Rattle.quasi_forms.proofs.Errors.{err_same}
use Rattle.quasi_forms.proofs.floors.collected_floors.Goals as goal

pub returns-in_err-add_gathered-clause-limit : goal.returns-in_err-add_gathered-clause-limit
returns-in_err-add_gathered-clause-limit c = λ limit.
    let same : c.in_err-add_gathered.field-0.0 ≡ Limit = err_same c.from_residual.result c.in_err-add_gathered.field-0.0 Limit c.from_residual.ensures.1 limit in
    fails-all (λ f. fits_entry (out-Floor f).times) c.args.floors.now (c.loop-at.at + 1) (c.in_err-add_gathered.ensures.limit (ap (λ (e : FormFault). Err e) same))

pub returns-clause-made : goal.returns-clause-made
returns-clause-made c = c.loop-at.invariant.made ∙ collected-whole c.args.floors.now c.loop-at.at c.loop-at-test.false

pub returns-clause-fits : goal.returns-clause-fits
returns-clause-fits c =
    subst (λ (fs : List Floor). list_all (λ f. fits_entry (out-Floor f).times) fs ≡ true) (c.loop-at.invariant.made ∙ collected-whole c.args.floors.now c.loop-at.at c.loop-at-test.false) c.loop-at.invariant.fits
