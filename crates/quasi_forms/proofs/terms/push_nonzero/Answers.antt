use Rattle.std.proofs.Common.{◌≡◌, ◌∙◌, ◌++◌, ◌∷◌, [], sym, ap, arith, append-nil, FitsSigned, List, ℕ, ℤ, pos}
use Rattle.std.specs.Int.{w128}
use Rattle.std.proofs.lemmas.Int.{ints, to_z-of_z}
use Rattle.affine_rows.proofs.Mixing.{cons_none, cons_some}
use Rattle.quasi_forms.proofs.terms.push_nonzero.Goals as goal

pub returns-in_ok-push : goal.returns-in_ok-push
returns-in_ok-push c =
    let fits : FitsSigned w128 c.args.factor = c.ranges.factor in
    let pushed : c.push.new.self.items ≡ c.args.made.now.items ++ (c.args.var, c.args.factor) ∷ [] = simp to_z-of_z at c.in_ok-push.ensures.items in
    pushed ∙ ap (λ (ts : List (ℕ × ℤ)). c.args.made.now.items ++ ts) (sym (cons_some c.args.var c.args.factor [] (omega (arith, ints))))

pub returns-else-factor-ne0 : goal.returns-else-factor-ne0
returns-else-factor-ne0 c =
    let none : c.args.factor ≡ pos 0 = grind (arith, ints) in
    sym (ap (λ (ts : List (ℕ × ℤ)). c.args.made.now.items ++ ts) (cons_none c.args.var c.args.factor [] none) ∙ append-nil c.args.made.now.items)
