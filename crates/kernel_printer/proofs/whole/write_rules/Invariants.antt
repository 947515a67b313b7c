-- What is written, followed by what is left, is the whole.
use Rattle.std.proofs.Common.{◌≡◌, ◌++◌, drop, flat_map}
use Rattle.kernel_printer.specs.KernelText.{rule_line}
use Rattle.kernel_printer.proofs.whole.write_rules.Given as goal

abbrev pub invariant-loop-rule : goal.invariant-loop-rule
invariant-loop-rule l = l.out.items ++ flat_map (rule_line l.kernel) (drop l.rule-index l.rules) ≡ l.fn.out.items ++ flat_map (rule_line l.kernel) l.rules
