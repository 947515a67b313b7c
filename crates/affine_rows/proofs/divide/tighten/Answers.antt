use Rattle.std.proofs.Common.{◌∙◌, ap, sym, subst}
use Rattle.affine_rows.specs.Rows.{IsRow}
use Rattle.affine_rows.specs.Reduced.{common_divisor}
use Rattle.affine_rows.proofs.Division.{tightened_row-from, tightened_points, tightened_IsRow}
use Rattle.affine_rows.proofs.divide.tighten.Goals as goal

value : goal.returns-clause-value
value c = tightened_row-from c.args.row.now c.divide.new.row c.common_divisor-by.result c.divide.ensures (c.common_divisor-by.ensures.value ∙ ap (common_divisor 0) c.as_slice.ensures)

pub returns-clause-value : goal.returns-clause-value
returns-clause-value c = value c

pub returns-clause-points : goal.returns-clause-points
returns-clause-points c = tightened_points c.args.row.now c.divide.new.row (value c) c.requires.inequality

pub returns-clause-row : goal.returns-clause-row
returns-clause-row c width is = subst (IsRow width) (sym (value c)) (tightened_IsRow width c.args.row.now is)
