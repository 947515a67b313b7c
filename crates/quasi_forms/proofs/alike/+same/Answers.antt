use Rattle.std.proofs.Common.{map, arith}
use Rattle.std.proofs.lemmas.List.{length-map}
use Rattle.quasi_forms.specs.Alike.{same_factored}
use Rattle.quasi_forms.proofs.Likeness.{all_pass-long}
use Rattle.quasi_forms.proofs.alike.+same.Goals as goal

pub same_floors-returns-then-left-right : goal.same_floors-returns-then-left-right
same_floors-returns-then-left-right t c =
    all_pass-long (map same_factored c.args.left.now) c.args.right.now (let h = c.if-left-right.true in let n = length-map c.args.left.now same_factored in omega (arith, h, n))
