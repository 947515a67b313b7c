use Rattle.std.proofs.Common.{rules, ◌≡◌, ◌∙◌, sym, ap, subst, true, false, neg_ℤ, FitsSigned, IfOk, OnOk, Ok, Err}
use Rattle.std.specs.Int.{w64}
use Rattle.std.proofs.lemmas.Int.{to_z-of_z}
use Rattle.std.specs.Prelude.{Result}
use Rattle.std.proofs.lemmas.Result.{IfOk-weaker}
use Rattle.affine_rows.specs.declared.fault.RowFault.TheVariants.{Wide}
use Rattle.affine_rows.specs.declared.row.Row.{Row}
use Rattle.affine_rows.specs.declared.fault.RowFault.{RowFault}
use Rattle.affine_rows.specs.Rows.{IsEntry}
use Rattle.affine_rows.specs.Reduced.{factor_of, combination, mixed_row, reduced_row, fits_row}
use Rattle.affine_rows.proofs.Combining.{factor_entry, combination-is, entry-negated, combination_holds, combination_without, combination_IsRow}
use Rattle.affine_rows.proofs.combinations.combine.Goals as goal

pub factor-requires : goal.factor-requires
factor-requires c = rw c.as_slice-2.ensures c.requires.upper_row.1.rising

pub negated-above-requires : goal.negated-above-requires
negated-above-requires c =
    let fits : FitsSigned w64 c.factor.result = search rules in
    let is : c.factor.result ≡ factor_of c.args.var c.args.upper.now.terms = c.factor.ensures ∙ ap (factor_of c.args.var) c.as_slice-2.ensures in
    simp to_z-of_z (subst IsEntry (sym is) (factor_entry c.requires.upper_row.0 c.args.var c.args.upper.now c.requires.upper_row.1))

pub reduced_sum-requires-clause-p_small : goal.reduced_sum-requires-clause-p_small
reduced_sum-requires-clause-p_small c =
    let fits : FitsSigned w64 c.factor.result = search rules in
    let made_fits : FitsSigned w64 c.negated-above.result = search rules in
    let is : c.factor.result ≡ factor_of c.args.var c.args.upper.now.terms = c.factor.ensures ∙ ap (factor_of c.args.var) c.as_slice-2.ensures in
    let made : c.negated-above.result ≡ neg_ℤ c.factor.result = simp to_z-of_z at c.negated-above.ensures in
    simp to_z-of_z (subst IsEntry (sym (made ∙ ap neg_ℤ is)) (entry-negated (factor_of c.args.var c.args.upper.now.terms) (factor_entry c.requires.upper_row.0 c.args.var c.args.upper.now c.requires.upper_row.1)))

pub reduced_sum-requires-clause-q_small : goal.reduced_sum-requires-clause-q_small
reduced_sum-requires-clause-q_small c =
    let fits : FitsSigned w64 c.factor-below.result = search rules in
    let is : c.factor-below.result ≡ factor_of c.args.var c.args.lower.now.terms = c.factor-below.ensures ∙ ap (factor_of c.args.var) c.as_slice.ensures in
    simp to_z-of_z (subst IsEntry (sym is) (factor_entry c.requires.lower_row.0 c.args.var c.args.lower.now c.requires.lower_row.1))

row_is : goal.returns-clause-value
row_is c =
    let fits : FitsSigned w64 c.factor.result = search rules in
    let made_fits : FitsSigned w64 c.negated-above.result = search rules in
    let below_fits : FitsSigned w64 c.factor-below.result = search rules in
    let below : c.factor-below.result ≡ factor_of c.args.var c.args.lower.now.terms = c.factor-below.ensures ∙ ap (factor_of c.args.var) c.as_slice.ensures in
    let is : c.factor.result ≡ factor_of c.args.var c.args.upper.now.terms = c.factor.ensures ∙ ap (factor_of c.args.var) c.as_slice-2.ensures in
    let made : c.negated-above.result ≡ neg_ℤ c.factor.result = simp to_z-of_z at c.negated-above.ensures in
    let same : mixed_row c.negated-above.result c.args.lower.now c.factor-below.result c.args.upper.now ≡ combination c.args.var c.args.lower.now c.args.upper.now = combination-is c.args.var c.args.lower.now c.args.upper.now c.negated-above.result c.factor-below.result (made ∙ ap neg_ℤ is) below in
    let value = simp to_z-of_z at c.reduced_sum.ensures.value in
    subst (λ (r : Row). IfOk c.reduced_sum.result (λ (row : Row). row ≡ reduced_row r)) same value

row_fits : goal.returns-clause-fits
row_fits c =
    let fits : FitsSigned w64 c.factor.result = search rules in
    let made_fits : FitsSigned w64 c.negated-above.result = search rules in
    let below_fits : FitsSigned w64 c.factor-below.result = search rules in
    let below : c.factor-below.result ≡ factor_of c.args.var c.args.lower.now.terms = c.factor-below.ensures ∙ ap (factor_of c.args.var) c.as_slice.ensures in
    let is : c.factor.result ≡ factor_of c.args.var c.args.upper.now.terms = c.factor.ensures ∙ ap (factor_of c.args.var) c.as_slice-2.ensures in
    let made : c.negated-above.result ≡ neg_ℤ c.factor.result = simp to_z-of_z at c.negated-above.ensures in
    let same : mixed_row c.negated-above.result c.args.lower.now c.factor-below.result c.args.upper.now ≡ combination c.args.var c.args.lower.now c.args.upper.now = combination-is c.args.var c.args.lower.now c.args.upper.now c.negated-above.result c.factor-below.result (made ∙ ap neg_ℤ is) below in
    let value = simp to_z-of_z at c.reduced_sum.ensures.fits in
    subst (λ (r : Row). OnOk c.reduced_sum.result (fits_row (reduced_row r) ≡ true)) same value

pub returns-clause-value : goal.returns-clause-value
returns-clause-value c = row_is c

pub returns-clause-fits : goal.returns-clause-fits
returns-clause-fits c = row_fits c

pub returns-clause-wide : goal.returns-clause-wide
returns-clause-wide c =
    let fits : FitsSigned w64 c.factor.result = search rules in
    let made_fits : FitsSigned w64 c.negated-above.result = search rules in
    let below_fits : FitsSigned w64 c.factor-below.result = search rules in
    let below : c.factor-below.result ≡ factor_of c.args.var c.args.lower.now.terms = c.factor-below.ensures ∙ ap (factor_of c.args.var) c.as_slice.ensures in
    let is : c.factor.result ≡ factor_of c.args.var c.args.upper.now.terms = c.factor.ensures ∙ ap (factor_of c.args.var) c.as_slice-2.ensures in
    let made : c.negated-above.result ≡ neg_ℤ c.factor.result = simp to_z-of_z at c.negated-above.ensures in
    let same : mixed_row c.negated-above.result c.args.lower.now c.factor-below.result c.args.upper.now ≡ combination c.args.var c.args.lower.now c.args.upper.now = combination-is c.args.var c.args.lower.now c.args.upper.now c.negated-above.result c.factor-below.result (made ∙ ap neg_ℤ is) below in
    let value = simp to_z-of_z at c.reduced_sum.ensures.wide in
    subst (λ (r : Row). c.reduced_sum.result ≡ Err Wide → fits_row (reduced_row r) ≡ false) same value

pub returns-clause-without : goal.returns-clause-without
returns-clause-without c = IfOk-weaker c.reduced_sum.result (λ (row : Row). row ≡ reduced_row (combination c.args.var c.args.lower.now c.args.upper.now)) _ (combination_without c.args.var c.args.lower.now c.args.upper.now) (row_is c)

pub returns-clause-follows : goal.returns-clause-follows
returns-clause-follows c =
    IfOk-weaker c.reduced_sum.result (λ (row : Row). row ≡ reduced_row (combination c.args.var c.args.lower.now c.args.upper.now)) _
    (λ row is. combination_holds c.args.var c.args.lower.now c.args.upper.now row c.requires.below c.requires.above is) (row_is c)

both : (r : Result Row RowFault) (P : Row → Type 0) (F : Type 0) → IfOk r P → OnOk r F → IfOk r (λ x. P x × F)
both (Ok x) P F p f = (p, f)
both (Err e) P F p f = tt

pub returns-clause-row : goal.returns-clause-row
returns-clause-row c =
    let lower : Row = c.args.lower.now in
    let upper : Row = c.args.upper.now in
    IfOk-weaker c.reduced_sum.result (λ (row : Row). (row ≡ reduced_row (combination c.args.var lower upper)) × (fits_row (reduced_row (combination c.args.var lower upper)) ≡ true)) _
    (λ row h width. combination_IsRow width c.args.var lower upper row h.0 h.1)
    (both c.reduced_sum.result (λ (row : Row). row ≡ reduced_row (combination c.args.var lower upper)) (fits_row (reduced_row (combination c.args.var lower upper)) ≡ true) (row_is c) (row_fits c))
