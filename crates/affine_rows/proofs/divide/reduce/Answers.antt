use Rattle.std.proofs.Common.{rules, ◌≡◌, ◌∙◌, ap, sym, subst, FitsSigned, unsigned_abs, ℕ}
use Rattle.std.specs.Int.{w64}
use Rattle.std.proofs.lemmas.Int.{to_z-of_z}
use Rattle.affine_rows.specs.Rows.{IsRow}
use Rattle.affine_rows.specs.Reduced.{common_divisor}
use Rattle.affine_rows.proofs.Division.{reduced_row-from, reduced_points, reduced_IsRow}
use Rattle.affine_rows.proofs.divide.reduce.Goals as goal

value : goal.returns-clause-value
value c =
    let fits : FitsSigned w64 c.args.row.now.constant = search rules in
    let size : c.unsigned_abs.result ≡ unsigned_abs c.args.row.now.constant = simp to_z-of_z at c.unsigned_abs.ensures.value in
    let by : c.common_divisor-by.result ≡ common_divisor (unsigned_abs c.args.row.now.constant) c.args.row.now.terms = c.common_divisor-by.ensures.value ∙ (ap (common_divisor c.from-start.result) c.as_slice.ensures ∙ ap (λ (n : ℕ). common_divisor n c.args.row.now.terms) (c.from-start.ensures ∙ size)) in
    reduced_row-from c.args.row.now c.divide.new.row c.common_divisor-by.result c.divide.ensures by

pub returns-clause-value : goal.returns-clause-value
returns-clause-value c = value c

pub returns-clause-points : goal.returns-clause-points
returns-clause-points c = reduced_points c.args.row.now c.divide.new.row (value c)

pub returns-clause-row : goal.returns-clause-row
returns-clause-row c width is = subst (IsRow width) (sym (value c)) (reduced_IsRow width c.args.row.now is)
