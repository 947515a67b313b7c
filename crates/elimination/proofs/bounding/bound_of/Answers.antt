use Rattle.std.proofs.Common.{rules, ◌≡◌, ◌∙◌, ◌≤◌, ◌^◌, FitsSigned, unsigned_abs, pos, neg_ℤ, cond, subst, sym}
use Rattle.std.specs.Prelude.{int_lt}
use Rattle.std.specs.Int.{w64, w128}
use Rattle.std.proofs.lemmas.Int.{to_z-of_z}
use Rattle.affine_rows.specs.Rows.{IsEntry, env_of}
use Rattle.affine_rows.specs.Reduced.{value_over}
use Rattle.affine_rows.proofs.Combining.{factor_entry}
use Rattle.elimination.specs.Points.{over_of}
use Rattle.elimination.proofs.Tightening.{bound_made, has_bound}
use Rattle.elimination.proofs.bounding.bound_of.Goals as goal

pub returns-clause-value : goal.returns-clause-value
returns-clause-value c =
    let factor_fits : FitsSigned w64 c.factor_in-factor.result = search rules in
    let value_fits : FitsSigned w128 c.value_over.result = search rules in
    let across_fits : FitsSigned w128 c.across.result = search rules in
    let value : c.value_over.result ≡ value_over (over_of c.args.point.now) (env_of c.args.point.now.at) c.args.row.now = c.value_over.ensures.value in
    let number : c.across.result ≡ cond (int_lt (pos 0) c.factor_in-factor.result) (neg_ℤ c.value_over.result) c.value_over.result = simp to_z-of_z at c.across.ensures.value in
    let by : c.unsigned_abs.result ≡ unsigned_abs c.factor_in-factor.result = simp to_z-of_z at c.unsigned_abs.ensures.value in
    simp to_z-of_z (bound_made c.args.var c.args.point.now c.args.row.now c.factor_in-factor.result c.value_over.result c.across.result c.unsigned_abs.result c.factor_in-factor.ensures value number by)

pub returns-clause-bound : goal.returns-clause-bound
returns-clause-bound c =
    let factor_fits : FitsSigned w64 c.factor_in-factor.result = search rules in
    let across_fits : FitsSigned w128 c.across.result = search rules in
    let by : c.unsigned_abs.result ≡ unsigned_abs c.factor_in-factor.result = simp to_z-of_z at c.unsigned_abs.ensures.value in
    let small : unsigned_abs c.across.result ≤ 2 ^ 126 = c.across.ensures.small in
    let entry : IsEntry c.factor_in-factor.result = subst IsEntry (sym c.factor_in-factor.ensures) (factor_entry _ c.args.var c.args.row.now c.requires.row) in
    simp to_z-of_z (has_bound c.factor_in-factor.result c.across.result c.unsigned_abs.result (λ e. c.requires.has (sym c.factor_in-factor.ensures ∙ e)) entry small by)
