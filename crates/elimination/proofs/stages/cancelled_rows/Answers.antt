use Rattle.std.proofs.Common.{◌≡◌, ◌∙◌, ◌++◌, ap, take, drop, ◌+◌, ◌-◌, length, map, List}
use Rattle.std.specs.Prelude.{filter, flat_map}
use Rattle.std.specs.List.{list_all}
use Rattle.std.proofs.lemmas.List.Elements.{All-take, All-drop}
use Rattle.affine_rows.specs.declared.row.Row.{Row}
use Rattle.affine_rows.specs.Reduced.{IsSomeRow, fits_row, reduced_row}
use Rattle.elimination.specs.Stages.{bounds_below, is_without, pairs_of, substituted}
use Rattle.elimination.proofs.Steps.{item_is, list_all-both}
use Rattle.elimination.proofs.StageRows.{kept_fit, paired_made, substituted_made}
use Rattle.std.proofs.lemmas.Result.{err_from_is_err_and}
use Rattle.elimination.proofs.StageFaults.{substituted_first, substituted_second, paired_fault}
use Rattle.elimination.proofs.stages.cancelled_rows.Goals as goal

pub add_substituted-requires-clause-equality : goal.add_substituted-requires-clause-equality
add_substituted-requires-clause-equality c = item_is IsSomeRow c.args.rows.now c.first_equality-at.result c.index-rows-at.result c.requires c.if-at-rows.true c.index-rows-at.is

pub add_substituted-requires-clause-rows : goal.add_substituted-requires-clause-rows
add_substituted-requires-clause-rows c = All-take IsSomeRow c.first_equality-at.result c.args.rows.now c.requires

pub add_substituted-requires-then-at-rows-clause-equality : goal.add_substituted-requires-then-at-rows-clause-equality
add_substituted-requires-then-at-rows-clause-equality c = item_is IsSomeRow c.args.rows.now c.first_equality-at.result c.index-rows-at.result c.requires c.if-at-rows.true c.index-rows-at.is

pub add_substituted-requires-then-at-rows-clause-rows : goal.add_substituted-requires-then-at-rows-clause-rows
add_substituted-requires-then-at-rows-clause-rows c =
    All-take IsSomeRow (length c.args.rows.now - (c.first_equality-at.result + 1)) (drop (c.first_equality-at.result + 1) c.args.rows.now) (All-drop IsSomeRow (c.first_equality-at.result + 1) c.args.rows.now c.requires)

pub returns-then-at-rows-clause-rows : goal.returns-then-at-rows-clause-rows
returns-then-at-rows-clause-rows c =
    substituted_made c.args.var c.args.rows.now c.add_substituted.new.made.items c.add_substituted-then-at-rows.new.made.items c.first_equality-at.result c.index-rows-at.result c.first_equality-at.ensures c.if-at-rows.true c.index-rows-at.is
    (c.in_ok-add_substituted.ensures.rows ∙ ap (λ (xs : List Row). xs ++ map (λ r. reduced_row (substituted c.args.var c.index-rows-at.result r)) (take c.first_equality-at.result c.args.rows.now)) c.new-made.ensures.items) c.in_ok-add_substituted-2.ensures.rows

pub returns-clause-rows : goal.returns-clause-rows
returns-clause-rows c =
    paired_made c.args.var c.args.rows.now c.add_kept.new.made.items c.add_all_pairs.new.made.items c.first_equality-at.result c.first_equality-at.ensures c.if-at-rows.false
    (c.in_ok-add_kept.ensures.rows ∙ ap (λ (xs : List Row). xs ++ map reduced_row (filter (is_without c.args.var) c.args.rows.now)) c.new-made.ensures.items) c.in_ok-add_all_pairs.ensures.rows

pub returns-clause-fits : goal.returns-clause-fits
returns-clause-fits c =
    let kept : c.add_kept.new.made.items ≡ map reduced_row (filter (is_without c.args.var) c.args.rows.now) = c.in_ok-add_kept.ensures.rows ∙ ap (λ (xs : List Row). xs ++ map reduced_row (filter (is_without c.args.var) c.args.rows.now)) c.new-made.ensures.items in
    ap (list_all fits_row) c.in_ok-add_all_pairs.ensures.rows
    ∙ list_all-both fits_row c.add_kept.new.made.items (flat_map (pairs_of c.args.var c.args.rows.now) (filter (bounds_below c.args.var) c.args.rows.now))
    (ap (list_all fits_row) kept ∙ kept_fit c.args.var c.args.rows.now c.requires) c.in_ok-add_all_pairs.ensures.fits

pub returns-in_err-add_substituted-clause-fault : goal.returns-in_err-add_substituted-clause-fault
returns-in_err-add_substituted-clause-fault c =
    let p = err_from_is_err_and c.from_residual.result c.from_residual.ensures.1 in
    rw (p.1, p.2)
    (substituted_first c.args.number c.args.var c.first_equality-at.result c.args.rows.now c.new-made.result.items c.index-rows-at.result c.in_err-add_substituted.field-0.0 c.first_equality-at.ensures c.if-at-rows.true c.index-rows-at.is c.new-made.ensures.items c.in_err-add_substituted.ensures.fault)

pub returns-in_err-add_substituted-2-clause-fault : goal.returns-in_err-add_substituted-2-clause-fault
returns-in_err-add_substituted-2-clause-fault c =
    let p = err_from_is_err_and c.from_residual-in_err-add_substituted-2.result c.from_residual-in_err-add_substituted-2.ensures.1 in
    rw (p.1, p.2)
    (substituted_second c.args.number c.args.var c.first_equality-at.result c.args.rows.now c.new-made.result.items c.add_substituted.new.made.items c.index-rows-at.result c.in_err-add_substituted-2.field-0.0 c.first_equality-at.ensures c.if-at-rows.true c.index-rows-at.is c.new-made.ensures.items c.in_ok-add_substituted.ensures.rows c.in_ok-add_substituted.ensures.fits c.in_err-add_substituted-2.ensures.fault)

pub returns-in_err-add_all_pairs-clause-fault : goal.returns-in_err-add_all_pairs-clause-fault
returns-in_err-add_all_pairs-clause-fault c =
    let p = err_from_is_err_and c.from_residual-in_err-add_all_pairs.result c.from_residual-in_err-add_all_pairs.ensures.1 in
    rw (p.1, p.2)
    (paired_fault c.args.number c.args.var c.first_equality-at.result c.args.rows.now c.new-made.result.items c.add_kept.new.made.items c.in_err-add_all_pairs.field-0.0 c.first_equality-at.ensures c.if-at-rows.false c.requires c.new-made.ensures.items c.in_ok-add_kept.ensures.rows c.in_err-add_all_pairs.ensures.fault)
