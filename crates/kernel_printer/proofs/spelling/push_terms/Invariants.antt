-- What is written, followed by what is left, is the whole.
use Rattle.std.proofs.Common.{◌≡◌, ◌++◌, drop, filter, nat_eq}
use Rattle.kernel_printer.proofs.spelling.push_terms.Given as goal

abbrev pub invariant-loop-term : goal.invariant-loop-term
invariant-loop-term l = l.to.items ++ filter (λ t. nat_eq t.0 l.var) (drop l.term-index l.terms) ≡ l.fn.to.items ++ filter (λ t. nat_eq t.0 l.var) l.terms
