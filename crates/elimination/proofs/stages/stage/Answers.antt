use Rattle.std.proofs.Common.{◌≡◌, ◌∙◌, ap, sym, subst, All}
use Rattle.std.specs.List.{list_all}
use Rattle.affine_rows.specs.Rows.{IsRow}
use Rattle.affine_rows.specs.Reduced.{fits_row}
use Rattle.elimination.specs.Directions.{AreApart}
use Rattle.elimination.specs.Shadows.{IsShadow}
use Rattle.elimination.specs.Stages.{cancelled_rows, stage_rows}
use Rattle.elimination.proofs.StageRows.{some_rows, stage_apart, stage_are, stage_made}
use Rattle.elimination.proofs.StageLaw.{stage_IsShadow}
use Rattle.elimination.proofs.stages.stage.Goals as goal

pub made_count-requires : goal.made_count-requires
made_count-requires c = some_rows c.args.system.now.width c.args.system.now.rows c.as_slice-rows.result.now c.as_slice-rows.ensures c.requires.rows

pub cancelled_rows-requires : goal.cancelled_rows-requires
cancelled_rows-requires c = some_rows c.args.system.now.width c.args.system.now.rows c.as_slice-rows.result.now c.as_slice-rows.ensures c.requires.rows

pub returns-clause-rows : goal.returns-clause-rows
returns-clause-rows c =
    let made : c.in_ok-made.made.items ≡ cancelled_rows c.args.var c.args.system.now.rows = c.in_ok-made.ensures.rows ∙ ap (cancelled_rows c.args.var) c.as_slice-rows.ensures in
    let rows : c.from_vec.result ≡ stage_rows c.args.var c.args.system.now.rows = stage_made c.args.var c.args.system.now.rows c.in_ok-made.made.items c.in_ok-kept.kept.items c.from_vec.result made c.in_ok-kept.ensures c.from_vec.ensures in
    rows

pub returns-clause-system : goal.returns-clause-system
returns-clause-system c =
    let made : c.in_ok-made.made.items ≡ cancelled_rows c.args.var c.args.system.now.rows = c.in_ok-made.ensures.rows ∙ ap (cancelled_rows c.args.var) c.as_slice-rows.ensures in
    let rows : c.from_vec.result ≡ stage_rows c.args.var c.args.system.now.rows = stage_made c.args.var c.args.system.now.rows c.in_ok-made.made.items c.in_ok-kept.kept.items c.from_vec.result made c.in_ok-kept.ensures c.from_vec.ensures in
    record {
      few = c.requires.few;
      rows = subst (All (IsRow c.args.system.now.width)) (sym rows) (stage_are c.args.system.now.width c.args.var c.args.system.now.rows c.requires.rows (ap (list_all fits_row) (sym made) ∙ c.in_ok-made.ensures.fits));
    }

pub returns-clause-shadow : goal.returns-clause-shadow
returns-clause-shadow c =
    let made : c.in_ok-made.made.items ≡ cancelled_rows c.args.var c.args.system.now.rows = c.in_ok-made.ensures.rows ∙ ap (cancelled_rows c.args.var) c.as_slice-rows.ensures in
    let rows : c.from_vec.result ≡ stage_rows c.args.var c.args.system.now.rows = stage_made c.args.var c.args.system.now.rows c.in_ok-made.made.items c.in_ok-kept.kept.items c.from_vec.result made c.in_ok-kept.ensures c.from_vec.ensures in
    subst (IsShadow c.args.var c.args.system.now.rows) (sym rows) (stage_IsShadow c.args.var c.args.system.now.rows)

pub returns-clause-apart : goal.returns-clause-apart
returns-clause-apart c =
    let made : c.in_ok-made.made.items ≡ cancelled_rows c.args.var c.args.system.now.rows = c.in_ok-made.ensures.rows ∙ ap (cancelled_rows c.args.var) c.as_slice-rows.ensures in
    let rows : c.from_vec.result ≡ stage_rows c.args.var c.args.system.now.rows = stage_made c.args.var c.args.system.now.rows c.in_ok-made.made.items c.in_ok-kept.kept.items c.from_vec.result made c.in_ok-kept.ensures c.from_vec.ensures in
    subst AreApart (sym rows) (stage_apart c.args.system.now.width c.args.var c.args.system.now.rows c.requires.rows (ap (list_all fits_row) (sym made) ∙ c.in_ok-made.ensures.fits))
