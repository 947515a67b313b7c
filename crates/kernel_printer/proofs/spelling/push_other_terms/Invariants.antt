-- What is written, followed by what is left, is the whole.
use Rattle.std.proofs.Common.{◌≡◌, ◌++◌, drop, filter, not}
use Rattle.expr_tree.specs.Scenes.{is_among}
use Rattle.kernel_printer.proofs.spelling.push_other_terms.Given as goal

abbrev pub invariant-loop-term : goal.invariant-loop-term
invariant-loop-term l = l.to.items ++ filter (λ t. not (is_among l.order t.0)) (drop l.term-index l.terms) ≡ l.fn.to.items ++ filter (λ t. not (is_among l.order t.0)) l.terms
