-- What is written, followed by what is left, is the whole.
use Rattle.std.proofs.Common.{◌≡◌, ◌++◌, drop, filter, flat_map, nat_eq}
use Rattle.kernel_printer.proofs.spelling.ordered.Given as goal

abbrev pub invariant-loop-var : goal.invariant-loop-var
invariant-loop-var l = l.to.items ++ flat_map (λ v. filter (λ t. nat_eq t.0 v) l.terms) (drop l.var-index l.order) ≡ flat_map (λ v. filter (λ t. nat_eq t.0 v) l.terms) l.order
