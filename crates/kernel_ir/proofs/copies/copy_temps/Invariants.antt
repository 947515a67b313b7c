use Rattle.std.proofs.Common.{◌≡◌, take}
use Rattle.kernel_ir.proofs.copies.copy_temps.Given as goal

abbrev pub invariant-loop-temp : goal.invariant-loop-temp
invariant-loop-temp l = l.copied ≡ take l.temp-index l.temps
