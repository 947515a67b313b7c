use Rattle.std.proofs.Common.{rules, ◌≡◌, ◌∙◌, sym, ap, true, false, take, drop, length, length-append, List, pos, ◌+◌, FitsSigned}
use Rattle.std.specs.Prelude.{flat_map, filter, int_lt}
use Rattle.std.specs.Int.{w64}
use Rattle.std.proofs.lemmas.Int.{to_z-of_z}
use Rattle.affine_rows.specs.declared.row.Row.{Row}
use Rattle.std.proofs.lemmas.Result.{err_from_is_err_and}
use Rattle.elimination.specs.Stages.{bounds_below, pairs_of}
use Rattle.elimination.proofs.Refusing.{later, flat}
use Rattle.affine_rows.specs.Reduced.{IsSomeRow, fits_row}
use Rattle.elimination.proofs.Steps.{item_is, flat_more, flat_skip, added_more}
use Rattle.elimination.proofs.pairs.add_all_pairs.Goals as goal
use Rattle.elimination.proofs.pairs.add_all_pairs.Goals.{then-factor_in-gt0+in_ok-add_pairs, else-factor_in-gt0}

pub factor_in-requires : goal.factor_in-requires
factor_in-requires c = item_is IsSomeRow c.args.rows.now c.loop-lower.lower-index c.lower-item.result c.requires c.loop-lower-test.true c.lower-item.is

pub add_pairs-requires-clause-lower_row : goal.add_pairs-requires-clause-lower_row
add_pairs-requires-clause-lower_row c = item_is IsSomeRow c.args.rows.now c.loop-lower.lower-index c.lower-item.result c.requires c.loop-lower-test.true c.lower-item.is

pub loop-lower-preserved : goal.loop-lower-preserved
loop-lower-preserved c =
    let rows : List Row = c.args.rows.now in
    let i = c.loop-lower.lower-index in
    let f = pairs_of c.args.var rows in
    let p = bounds_below c.args.var in
    let fits : FitsSigned w64 c.factor_in.result = search rules in
    elim c.if-factor_in-gt0.branch [
      | then-factor_in-gt0+in_ok-add_pairs w ↦
          let test = simp to_z-of_z at w.if-factor_in-gt0.true in
          let passes : bounds_below c.args.var c.lower-item.result ≡ true = ap (int_lt (pos 0)) (sym c.factor_in.ensures) ∙ test in
          let added = added_more fits_row c.args.made.now.items c.loop-lower.made.items w.add_pairs.new.made.items (flat_map f (filter p (take i rows))) (f c.lower-item.result) (flat_map f (filter p (take (i + 1) rows))) c.loop-lower.invariant.rows c.loop-lower.invariant.fits w.in_ok-add_pairs.ensures.rows w.in_ok-add_pairs.ensures.fits
          (flat_more f p rows i c.lower-item.result c.loop-lower-test.true c.lower-item.is passes) in
          rw w.made-is (record { rows = added.rows; fits = added.fits })
      | else-factor_in-gt0 w ↦
          let test = simp to_z-of_z at w.if-factor_in-gt0.false in
          let fails : bounds_below c.args.var c.lower-item.result ≡ false = ap (int_lt (pos 0)) (sym c.factor_in.ensures) ∙ test in
          let same = flat_skip f p rows i c.lower-item.result c.loop-lower-test.true c.lower-item.is fails in
          rw (w.made-is, same) (record { rows = c.loop-lower.invariant.rows; fits = c.loop-lower.invariant.fits })
    ]

pub returns-in_err-add_pairs-clause-fault : goal.returns-in_err-add_pairs-clause-fault
returns-in_err-add_pairs-clause-fault c =
    let rows : List Row = c.args.rows.now in
    let g = pairs_of c.args.var rows in
    let fits : FitsSigned w64 c.factor_in.result = search rules in
    let test = simp to_z-of_z at c.if-factor_in-gt0.true in
    let passes : bounds_below c.args.var c.lower-item.result ≡ true = ap (int_lt (pos 0)) (sym c.factor_in.ensures) ∙ test in
    let done : List Row = flat_map g (filter (bounds_below c.args.var) (take c.loop-lower.lower-index rows)) in
    let left : List Row = flat_map g (filter (bounds_below c.args.var) (drop (c.loop-lower.lower-index + 1) rows)) in
    let p = err_from_is_err_and c.from_residual.result c.from_residual.ensures.1 in
    rw (p.1, p.2)
    (later c.args.number (length c.args.made.now.items) (length c.loop-lower.made.items) done (g c.lower-item.result) left (flat_map g (filter (bounds_below c.args.var) rows)) c.in_err-add_pairs.field-0.0
    (flat g (bounds_below c.args.var) rows c.loop-lower.lower-index c.lower-item.result c.loop-lower-test.true c.lower-item.is passes)
    c.loop-lower.invariant.fits
    (ap length c.loop-lower.invariant.rows ∙ length-append c.args.made.now.items done)
    c.in_err-add_pairs.ensures.fault)
