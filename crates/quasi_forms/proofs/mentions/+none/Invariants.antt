use Rattle.std.proofs.Common.{◌≡◌, true, not, take}
use Rattle.std.specs.List.{list_all}
use Rattle.affine_rows.specs.declared.quasi.Floor.{out-Floor}
use Rattle.expr_tree.specs.Scenes.{each_var, is_among}
use Rattle.quasi_forms.proofs.mentions.+none.Given as goal

abbrev pub invariant-floors_mention_none-loop-floor : goal.invariant-floors_mention_none-loop-floor
invariant-floors_mention_none-loop-floor l = list_all (λ f. each_var (λ v. not (is_among l.vars v)) (out-Floor f).inner) (take l.floor-index l.floors) ≡ true
