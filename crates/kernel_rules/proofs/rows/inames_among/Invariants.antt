use Rattle.std.proofs.Common.{◌≡◌, map, take}
use Rattle.std.specs.Prelude.{filter}
use Rattle.expr_tree.specs.Scenes.{is_among}
use Rattle.kernel_rules.proofs.rows.inames_among.Given as goal

abbrev pub invariant-loop-iname : goal.invariant-loop-iname
invariant-loop-iname l = l.made.items ≡ filter (is_among l.among) (map (λ i. i.var) (take l.iname-index l.inames))
