-- What is written, followed by what is left, is the whole.
use Rattle.std.proofs.Common.{◌≡◌, ◌++◌, drop, flat_map}
use Rattle.kernel_printer.specs.KernelText.{temp_line}
use Rattle.kernel_printer.proofs.whole.write_temps.Given as goal

abbrev pub invariant-loop-temp : goal.invariant-loop-temp
invariant-loop-temp l = l.out.items ++ flat_map (temp_line) (drop l.temp-index l.temps) ≡ l.fn.out.items ++ flat_map (temp_line) l.temps
