use Rattle.std.proofs.Common.{◌≡◌, ◌∙◌, ◌++◌, ◌∷◌, ◌+ℤ◌, [], ap, length, subst, rules, arith, OnOk, FitsSigned, List, ℕ, ℤ}
use Rattle.std.specs.Int.{w128}
use Rattle.std.proofs.lemmas.Int.{to_z-of_z}
use Rattle.std.proofs.lemmas.List.{nil_from_length}
use Rattle.std.proofs.lemmas.Grind.{common_steps}
use Rattle.affine_rows.specs.Reduced.{cons_term}
use Rattle.affine_rows.proofs.Mixing.{Rising-from}
use Rattle.quasi_forms.proofs.TermSums.{add_first, add_joined, add_behind}
use Rattle.quasi_forms.proofs.terms.add_last.Goals as goal

pub returns-in_default : goal.returns-in_default
returns-in_default c =
    let fits : FitsSigned w128 c.args.factor = c.ranges.factor in
    let made : OnOk c.push_nonzero.result (c.push_nonzero.new.made.items ≡ c.pop.new.self.items ++ cons_term c.args.var c.args.factor []) = simp to_z-of_z at c.push_nonzero.ensures in
    subst (λ (ts : List (ℕ × ℤ)). OnOk c.push_nonzero.result (c.push_nonzero.new.made.items ≡ ts))
    (add_first c.args.made.now.items c.pop.new.self.items c.args.var c.args.factor (nil_from_length c.args.made.now.items (let n : length c.args.made.now.items ≡ 0 = grind (arith, common_steps, c.in_default.ensures.cases) in n)) (nil_from_length c.pop.new.self.items (let n : length c.pop.new.self.items ≡ 0 = grind (arith, common_steps, c.in_default.ensures.cases) in n))) made

pub returns-then-last-var : goal.returns-then-last-var
returns-then-last-var c =
    let fits : FitsSigned w128 c.args.factor = c.ranges.factor in
    let before_fits : FitsSigned w128 c.in-Some.before = search rules in
    let sum_fits : FitsSigned w128 c.plus.result = search rules in
    let sum : c.plus.result ≡ c.args.factor +ℤ c.in-Some.before = simp to_z-of_z at c.plus.ensures.value in
    let made : OnOk c.push_nonzero-then-last-var.result (c.push_nonzero-then-last-var.new.made.items ≡ c.pop.new.self.items ++ cons_term c.args.var c.plus.result []) = simp to_z-of_z at c.push_nonzero-then-last-var.ensures in
    subst (λ (ts : List (ℕ × ℤ)). OnOk c.push_nonzero-then-last-var.result (c.push_nonzero-then-last-var.new.made.items ≡ ts))
    (add_joined c.args.made.now.items c.pop.new.self.items c.args.var c.in-Some.last c.args.factor c.in-Some.before c.plus.result c.in-Some.ensures.items c.if-last-var.true sum (Rising-from _ c.requires.rising)) made

pub returns : goal.returns
returns c =
    let fits : FitsSigned w128 c.args.factor = c.ranges.factor in
    let before_fits : FitsSigned w128 c.in-Some.before = search rules in
    let pushed : c.push.new.self.items ≡ c.pop.new.self.items ++ (c.in-Some.last, c.in-Some.before) ∷ [] = simp to_z-of_z at c.in_ok-push.ensures.items in
    let made : OnOk c.push_nonzero-2.result (c.push_nonzero-2.new.made.items ≡ c.push.new.self.items ++ cons_term c.args.var c.args.factor []) = simp to_z-of_z at c.push_nonzero-2.ensures in
    subst (λ (ts : List (ℕ × ℤ)). OnOk c.push_nonzero-2.result (c.push_nonzero-2.new.made.items ≡ ts))
    (ap (λ (ts : List (ℕ × ℤ)). ts ++ cons_term c.args.var c.args.factor []) pushed
    ∙ add_behind c.args.made.now.items c.pop.new.self.items c.args.var c.in-Some.last c.args.factor c.in-Some.before c.in-Some.ensures.items c.if-last-var.false (Rising-from _ c.requires.rising) c.requires.last) made
