use Rattle.std.proofs.Common.{rules, ◌≡◌, ◌∙◌, sym, ap, FitsSigned, pos}
use Rattle.std.specs.Option.{is_some}
use Rattle.std.specs.Int.{w64, w128, int_div_euclid}
use Rattle.std.proofs.lemmas.Int.{to_z-of_z}
use Rattle.affine_rows.specs.Reduced.{fits_entry}
use Rattle.affine_rows.proofs.Division.{divided_term-from}
use Rattle.affine_rows.proofs.Combining.{factor-divided_term}
use Rattle.affine_rows.proofs.combinations.narrow_term.Goals as goal

pub returns-in_err-factor-clause-fits : goal.returns-in_err-factor-clause-fits
returns-in_err-factor-clause-fits c =
    let quotient_fits : FitsSigned w128 c.quotient.result = search rules in
    let term_fits : FitsSigned w128 c.args.term.1 = search rules in
    let made : c.quotient.result ≡ int_div_euclid c.args.term.1 (pos c.args.by) = simp to_z-of_z at c.quotient.ensures.value in
    let fits = simp to_z-of_z at c.in_err-factor.ensures.fits in
    ap is_some c.from_residual.ensures ∙ (fits ∙ ap fits_entry (made ∙ sym (factor-divided_term c.args.by c.args.term)))

pub returns-clause-same : goal.returns-clause-same
returns-clause-same c =
    let fits : FitsSigned w64 c.in_ok-factor.factor = search rules in
    let quotient_fits : FitsSigned w128 c.quotient.result = search rules in
    let term_fits : FitsSigned w128 c.args.term.1 = search rules in
    let made = simp to_z-of_z at c.quotient.ensures.value in
    let same = simp to_z-of_z at c.in_ok-factor.ensures.same in
    divided_term-from c.args.by c.args.term _ (to_z-of_z w64 c.in_ok-factor.factor fits ∙ (same ∙ made))

pub returns-clause-fits : goal.returns-clause-fits
returns-clause-fits c =
    let quotient_fits : FitsSigned w128 c.quotient.result = search rules in
    let term_fits : FitsSigned w128 c.args.term.1 = search rules in
    let made : c.quotient.result ≡ int_div_euclid c.args.term.1 (pos c.args.by) = simp to_z-of_z at c.quotient.ensures.value in
    let fits = simp to_z-of_z at c.in_ok-factor.ensures.fits in
    fits ∙ ap fits_entry (made ∙ sym (factor-divided_term c.args.by c.args.term))
