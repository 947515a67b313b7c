-- What is written, followed by what is left, is the whole.
use Rattle.std.proofs.Common.{◌≡◌, ◌++◌, drop, flat_map}
use Rattle.kernel_printer.specs.KernelText.{tag_line}
use Rattle.kernel_printer.proofs.whole.write_tags.Given as goal

abbrev pub invariant-loop-iname : goal.invariant-loop-iname
invariant-loop-iname l = l.out.items ++ flat_map (tag_line l.kernel) (drop l.iname-index l.inames) ≡ l.fn.out.items ++ flat_map (tag_line l.kernel) l.inames
