-- What is written, followed by what is left, is the whole.
use Rattle.std.proofs.Common.{◌≡◌, ◌++◌, drop, flat_map, codes}
use Rattle.kernel_ir.specs.NameSpace.{name_of}
use Rattle.kernel_printer.proofs.lines.write_spaced.Given as goal

abbrev pub invariant-loop-var : goal.invariant-loop-var
invariant-loop-var l = l.out.items ++ flat_map (λ v. codes " " ++ name_of l.kernel v) (drop l.var-index l.vars) ≡ l.fn.out.items ++ flat_map (λ v. codes " " ++ name_of l.kernel v) l.vars
