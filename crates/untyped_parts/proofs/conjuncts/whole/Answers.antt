use Rattle.std.proofs.Common.{◌∙◌, sym, ap₂, false, List}
use Rattle.std.specs.Prelude.{Some}
use Rattle.expr_tree.specs.declared.row.QuasiRow.{QuasiRow}
use Rattle.untyped.specs.declared.tree.Untyped.{Untyped}
use Rattle.untyped_parts.specs.declared.conjuncts.Split.{Split}
use Rattle.untyped_parts.proofs.PartedTrees.{tree_kept}
use Rattle.untyped_parts.proofs.conjuncts.whole.Goals as goal

pub returns : goal.returns
returns c =
    ap₂ (λ (rows : List QuasiRow) (e : Untyped). let s : Split = record { rows = rows; over = false; rest = Some e } in s) c.new.ensures
    (c.in_ok-copy.ensures ∙ sym (tree_kept c.args.tree.now))
