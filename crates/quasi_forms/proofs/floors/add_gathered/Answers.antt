use Rattle.std.proofs.Common.{◌≡◌, ap, rules, arith, FitsSigned, pos, of_z, ℤ, Err}
use Rattle.std.specs.Int.{w64}
use Rattle.std.proofs.lemmas.Int.{ints}
use Rattle.affine_rows.specs.declared.quasi.Floor.{out-Floor}
use Rattle.quasi_forms.specs.declared.fault.FormFault.{FormFault}
use Rattle.quasi_forms.specs.declared.fault.FormFault.TheVariants.{Limit}
use Rattle.quasi_forms.specs.Collected.{times_of}
use Rattle.quasi_forms.proofs.FloorSums.{again_next, push_next, gone_next, fails_next, fits_next}
use Rattle.quasi_forms.proofs.Errors.{err_same}
use Rattle.quasi_forms.proofs.floors.add_gathered.Goals as goal

pub returns-then-is_among-clause-made : goal.returns-then-is_among-clause-made
returns-then-is_among-clause-made c =
    again_next c.args.floors.now c.args.at c.index-floors-at.result c.args.made.now c.requires.within c.index-floors-at.is c.if-is_among.ensures c.requires.made

pub returns-in_err-floor-clause-limit : goal.returns-in_err-floor-clause-limit
returns-in_err-floor-clause-limit c = λ limit.
    let same : c.in_err-floor.field-0.0 ≡ Limit = err_same c.from_residual.result c.in_err-floor.field-0.0 Limit c.from_residual.ensures.1 limit in
    let wide = c.in_err-floor.ensures.limit (ap (λ (e : FormFault). Err e) same) in
    fails_next c.args.floors.now c.args.at c.index-floors-at.result c.requires.within c.index-floors-at.is c.if-is_among.ensures wide

pub returns-in_ok-push-clause-made : goal.returns-in_ok-push-clause-made
returns-in_ok-push-clause-made c =
    push_next c.args.floors.now c.args.at c.index-floors-at.result c.in_ok-floor.floor c.args.made.now c.push.new.self c.requires.within c.index-floors-at.is c.if-is_among.ensures c.requires.made
    c.in_ok-floor.ensures.made (λ none. c.if-floor-ne0.true (ap (λ (z : ℤ). of_z w64 z) none)) c.in_ok-push.ensures.ok

pub returns-in_ok-push-clause-fits : goal.returns-in_ok-push-clause-fits
returns-in_ok-push-clause-fits c =
    fits_next c.index-floors-at.result c.in_ok-floor.floor (times_of c.args.floors.now c.index-floors-at.result) c.args.made.now c.push.new.self c.in_ok-floor.ensures.made c.in_ok-floor.ensures.fits c.in_ok-push.ensures.ok

pub returns-else-floor-ne0-clause-made : goal.returns-else-floor-ne0-clause-made
returns-else-floor-ne0-clause-made c =
    let fits : FitsSigned w64 (out-Floor c.in_ok-floor.floor).times = search rules in
    let none : (out-Floor c.in_ok-floor.floor).times ≡ pos 0 = grind (arith, ints) in
    gone_next c.args.floors.now c.args.at c.index-floors-at.result c.in_ok-floor.floor c.args.made.now c.requires.within c.index-floors-at.is c.if-is_among.ensures c.requires.made c.in_ok-floor.ensures.made none
