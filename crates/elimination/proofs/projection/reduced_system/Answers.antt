use Rattle.std.proofs.Common.{◌∙◌, ap, sym, subst, map, All}
use Rattle.affine_rows.specs.Rows.{IsRow}
use Rattle.affine_rows.specs.Reduced.{reduced_row}
use Rattle.elimination.proofs.ShadowLaw.{reduced_are}
use Rattle.elimination.proofs.projection.reduced_system.Goals as goal

pub returns-clause-system : goal.returns-clause-system
returns-clause-system c = record {
  few = c.requires.few;
  rows = subst (All (IsRow c.args.system.now.width)) (sym (c.from_vec.ensures ∙ (c.in_ok-rows.ensures.rows ∙ ap (map reduced_row) c.as_slice.ensures))) (reduced_are c.args.system.now.width c.args.system.now.rows c.requires.rows);
}
