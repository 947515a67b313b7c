use Rattle.std.proofs.Common.{◌≡◌, true, take}
use Rattle.std.specs.List.{list_all}
use Rattle.affine_rows.specs.declared.quasi.Floor.{out-Floor}
use Rattle.expr_tree.specs.Scenes.{mentions_only}
use Rattle.quasi_forms.proofs.mentions.+only.Given as goal

abbrev pub invariant-floors_mention_only-loop-floor : goal.invariant-floors_mention_only-loop-floor
invariant-floors_mention_only-loop-floor l = list_all (λ f. mentions_only l.vars (out-Floor f).inner) (take l.floor-index l.floors) ≡ true
