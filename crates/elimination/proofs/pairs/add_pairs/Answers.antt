use Rattle.std.proofs.Common.{rules, ◌≡◌, ◌∙◌, ◌+◌, ◌∷◌, [], ap, sym, true, take, drop, map, length, length-append, List, ℤ, pos, FitsSigned}
use Rattle.std.specs.Prelude.{filter, int_lt}
use Rattle.std.specs.Int.{w64}
use Rattle.std.proofs.lemmas.Int.{to_z-of_z}
use Rattle.std.proofs.lemmas.Result.{err_from_is_err_and}
use Rattle.affine_rows.specs.declared.row.Row.{Row}
use Rattle.affine_rows.specs.Reduced.{combination, reduced_row}
use Rattle.elimination.specs.Stages.{bounds_above, pairs_of}
use Rattle.elimination.proofs.Refusing.{later, filtered}
use Rattle.affine_rows.specs.Reduced.{IsSomeRow}
use Rattle.elimination.proofs.Steps.{item_is}
use Rattle.elimination.proofs.pairs.add_pairs.Goals as goal

pub factor_in-requires : goal.factor_in-requires
factor_in-requires c = item_is IsSomeRow c.args.rows.now c.loop-upper.upper-index c.upper-item.result c.requires.rows c.loop-upper-test.true c.upper-item.is

pub add_pair-requires-clause-upper_row : goal.add_pair-requires-clause-upper_row
add_pair-requires-clause-upper_row c = item_is IsSomeRow c.args.rows.now c.loop-upper.upper-index c.upper-item.result c.requires.rows c.loop-upper-test.true c.upper-item.is

pub returns-in_err-add_pair-clause-fault : goal.returns-in_err-add_pair-clause-fault
returns-in_err-add_pair-clause-fault c =
    let fits : FitsSigned w64 c.factor_in.result = search rules in
    let test = simp to_z-of_z at c.if-factor_in-lt0.true in
    let passes : bounds_above c.args.var c.upper-item.result ≡ true = ap (λ (z : ℤ). int_lt z (pos 0)) (sym c.factor_in.ensures) ∙ test in
    let f = λ (upper : Row). reduced_row (combination c.args.var c.args.lower.now upper) in
    let done : List Row = pairs_of c.args.var (take c.loop-upper.upper-index c.args.rows.now) c.args.lower.now in
    let left : List Row = map f (filter (bounds_above c.args.var) (drop (c.loop-upper.upper-index + 1) c.args.rows.now)) in
    let p = err_from_is_err_and c.from_residual.result c.from_residual.ensures.1 in
    rw (p.1, p.2)
    (later c.args.number (length c.args.made.now.items) (length c.loop-upper.made.items) done (f c.upper-item.result ∷ []) left (pairs_of c.args.var c.args.rows.now c.args.lower.now) c.in_err-add_pair.field-0.0
    (filtered f (bounds_above c.args.var) c.args.rows.now c.loop-upper.upper-index c.upper-item.result c.loop-upper-test.true c.upper-item.is passes)
    c.loop-upper.invariant.fits
    (ap length c.loop-upper.invariant.rows ∙ length-append c.args.made.now.items done)
    c.in_err-add_pair.ensures.fault)
