-- What is written, followed by what is left, is the whole.
use Rattle.std.proofs.Common.{◌≡◌, ◌++◌, drop, filter, not}
use Rattle.expr_tree.specs.Scenes.{is_among}
use Rattle.kernel_printer.proofs.spelling.rule_order.Given as goal

abbrev pub invariant-loop-var : goal.invariant-loop-var
invariant-loop-var l = l.order.items ++ filter (λ v. not (is_among l.own v)) (drop l.var-index l.var-items) ≡ filter (λ v. not (is_among l.own v)) l.var-items
