use Rattle.std.proofs.Common.{arith, ◌∙◌, ◌++◌, sym, ap, take, drop, ◌∷◌, [], ◌+◌, length, length-append, map, List}
use Rattle.std.specs.List.{list_all}
use Rattle.std.proofs.lemmas.List.{take_all}
use Rattle.affine_rows.specs.declared.row.Row.{Row}
use Rattle.affine_rows.specs.Reduced.{IsSomeRow, fits_row, reduced_row}
use Rattle.elimination.specs.Stages.{substituted}
use Rattle.std.proofs.lemmas.Result.{err_from_is_err_and}
use Rattle.elimination.proofs.Steps.{item_is}
use Rattle.elimination.proofs.Refusing.{later, mapped}
use Rattle.elimination.proofs.substitution.add_substituted.Goals as goal

pub add_sum-requires-clause-row : goal.add_sum-requires-clause-row
add_sum-requires-clause-row c = item_is IsSomeRow c.args.rows.now c.loop-row.row-index c.row-item.result c.requires.rows c.loop-row-test.true c.row-item.is

pub returns-clause-rows : goal.returns-clause-rows
returns-clause-rows c =
    c.loop-row.invariant.rows ∙ ap (λ (xs : List Row). c.args.made.now.items ++ map (λ r. reduced_row (substituted c.args.var c.args.equality.now r)) xs) (take_all c.loop-row.row-index c.args.rows.now (omega arith))

pub returns-clause-fits : goal.returns-clause-fits
returns-clause-fits c =
    ap (λ (xs : List Row). list_all fits_row (map (λ r. reduced_row (substituted c.args.var c.args.equality.now r)) xs)) (sym (take_all c.loop-row.row-index c.args.rows.now (omega arith))) ∙ c.loop-row.invariant.fits

pub returns-in_err-add_sum-clause-fault : goal.returns-in_err-add_sum-clause-fault
returns-in_err-add_sum-clause-fault c =
    let f = λ (r : Row). reduced_row (substituted c.args.var c.args.equality.now r) in
    let done : List Row = map f (take c.loop-row.row-index c.args.rows.now) in
    let p = err_from_is_err_and c.from_residual.result c.from_residual.ensures.1 in
    rw (p.1, p.2)
    (later c.args.number (length c.args.made.now.items) (length c.loop-row.made.items) done (f c.row-item.result ∷ []) (map f (drop (c.loop-row.row-index + 1) c.args.rows.now)) (map f c.args.rows.now) c.in_err-add_sum.field-0.0
    (mapped f c.args.rows.now c.loop-row.row-index c.row-item.result c.loop-row-test.true c.row-item.is)
    c.loop-row.invariant.fits
    (ap length c.loop-row.invariant.rows ∙ length-append c.args.made.now.items done)
    c.in_err-add_sum.ensures.fault)
