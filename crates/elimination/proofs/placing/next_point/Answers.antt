use Rattle.std.proofs.Common.{rules, ◌≡◌, ◌∙◌, ◌≤◌, ◌^◌, sym, ap, subst, FitsSigned, pos, ◌*ℤ◌, unsigned_abs, List, ℤ}
use Rattle.std.specs.Int.{w64, w128}
use Rattle.std.proofs.lemmas.Int.{to_z-of_z}
use Rattle.std.proofs.lemmas.Result.{err_from_is_err_and}
use Rattle.elimination.specs.Points.{AreSmall, IsWide, moved_numbers}
use Rattle.elimination.proofs.NextPoint.{next_is, next_fixed, next_holds, numbers_wide, over_wide, small_same}
use Rattle.elimination.proofs.placing.next_point.Goals as goal

pub returns-in_err-over-clause-fault : goal.returns-in_err-over-clause-fault
returns-in_err-over-clause-fault c =
    let over_fits : FitsSigned w64 c.args.point.now.over = search rules in
    let scaled_fits : FitsSigned w128 c.scaled.result = search rules in
    let wide : c.scaled.result ≡ pos c.choice-to.result.by *ℤ c.args.point.now.over = simp to_z-of_z at c.scaled.ensures in
    let past = simp to_z-of_z at c.in_err-over.ensures.fault in
    let p = err_from_is_err_and c.from_residual.result c.from_residual.ensures.1 in
    rw (p.1, p.2) (over_wide c.args.rows.now c.args.var _ c.args.point.now c.choice-to.result c.scaled.result c.args.stage c.in_err-over.field-0.0 c.choice-to.ensures c.requires.fixed c.requires.within wide past)

pub returns-in_err-at-clause-fault : goal.returns-in_err-at-clause-fault
returns-in_err-at-clause-fault c =
    let p = err_from_is_err_and c.from_residual-in_err-at.result c.from_residual-in_err-at.ensures.1 in
    let to_fits : FitsSigned w128 c.choice-to.result.number = search rules in
    let fault : IsWide c.args.stage (moved_numbers c.choice-to.result.by c.args.var c.choice-to.result.number c.as_slice.result.now) c.in_err-at.field-0.0 = c.in_err-at.ensures.fault in
    rw (p.1, p.2)
    (numbers_wide c.args.rows.now c.args.var _ c.args.point.now c.choice-to.result c.args.stage c.in_err-at.field-0.0 c.choice-to.ensures c.requires.fixed c.requires.within
    (subst (λ (at : List ℤ). IsWide c.args.stage (moved_numbers c.choice-to.result.by c.args.var c.choice-to.result.number at) c.in_err-at.field-0.0) c.as_slice.ensures fault))

pub returns-clause-next : goal.returns-clause-next
returns-clause-next c =
    let over_fits : FitsSigned w64 c.args.point.now.over = search rules in
    let scaled_fits : FitsSigned w128 c.scaled.result = search rules in
    let narrow_fits : FitsSigned w64 c.in_ok-over.over = search rules in
    let wide : c.scaled.result ≡ pos c.choice-to.result.by *ℤ c.args.point.now.over = simp to_z-of_z at c.scaled.ensures in
    let same : c.in_ok-over.over ≡ c.scaled.result = simp to_z-of_z at c.in_ok-over.ensures.same in
    let at : c.from_vec.result ≡ moved_numbers c.choice-to.result.by c.args.var c.choice-to.result.number c.args.point.now.at =
    c.from_vec.ensures ∙ (c.in_ok-at.ensures.numbers ∙ ap (λ (at : List ℤ). moved_numbers c.choice-to.result.by c.args.var c.choice-to.result.number at) c.as_slice.ensures) in
    simp to_z-of_z (next_is c.args.rows.now c.args.var _ c.args.point.now c.choice-to.result c.in_ok-over.over c.from_vec.result c.choice-to.ensures c.requires.fixed c.requires.within (same ∙ wide) at)

pub returns-clause-fixed : goal.returns-clause-fixed
returns-clause-fixed c =
    let over_fits : FitsSigned w64 c.args.point.now.over = search rules in
    let scaled_fits : FitsSigned w128 c.scaled.result = search rules in
    let narrow_fits : FitsSigned w64 c.in_ok-over.over = search rules in
    let wide : c.scaled.result ≡ pos c.choice-to.result.by *ℤ c.args.point.now.over = simp to_z-of_z at c.scaled.ensures in
    let same : c.in_ok-over.over ≡ c.scaled.result = simp to_z-of_z at c.in_ok-over.ensures.same in
    let small : unsigned_abs c.scaled.result ≤ 2 ^ 56 = simp to_z-of_z at c.in_ok-over.ensures.small in
    let at : c.from_vec.result ≡ moved_numbers c.choice-to.result.by c.args.var c.choice-to.result.number c.args.point.now.at =
    c.from_vec.ensures ∙ (c.in_ok-at.ensures.numbers ∙ ap (λ (at : List ℤ). moved_numbers c.choice-to.result.by c.args.var c.choice-to.result.number at) c.as_slice.ensures) in
    simp to_z-of_z (next_fixed c.args.rows.now c.args.var _ c.args.point.now c.choice-to.result c.in_ok-over.over c.from_vec.result c.choice-to.ensures c.requires.fixed c.requires.within (same ∙ wide) at (small_same c.in_ok-over.over c.scaled.result same small) (subst AreSmall (sym c.from_vec.ensures) c.in_ok-at.ensures.small))

pub returns-clause-holds : goal.returns-clause-holds
returns-clause-holds c =
    let over_fits : FitsSigned w64 c.args.point.now.over = search rules in
    let scaled_fits : FitsSigned w128 c.scaled.result = search rules in
    let narrow_fits : FitsSigned w64 c.in_ok-over.over = search rules in
    let wide : c.scaled.result ≡ pos c.choice-to.result.by *ℤ c.args.point.now.over = simp to_z-of_z at c.scaled.ensures in
    let same : c.in_ok-over.over ≡ c.scaled.result = simp to_z-of_z at c.in_ok-over.ensures.same in
    let at : c.from_vec.result ≡ moved_numbers c.choice-to.result.by c.args.var c.choice-to.result.number c.args.point.now.at =
    c.from_vec.ensures ∙ (c.in_ok-at.ensures.numbers ∙ ap (λ (at : List ℤ). moved_numbers c.choice-to.result.by c.args.var c.choice-to.result.number at) c.as_slice.ensures) in
    simp to_z-of_z (next_holds c.args.rows.now c.args.var _ c.args.point.now c.choice-to.result c.in_ok-over.over c.from_vec.result c.choice-to.ensures c.requires.fixed c.requires.within c.requires.rows (same ∙ wide) at)
