use Rattle.std.proofs.Common.{◌≡◌, drop}
use Rattle.kernel_limits.specs.Asked.{first_in, temp_refusal}
use Rattle.kernel_limits.proofs.temps.check_temps.Given as goal

abbrev pub invariant-loop-temp : goal.invariant-loop-temp
invariant-loop-temp l = first_in temp_refusal (drop l.temp-index l.temps) ≡ first_in temp_refusal l.temps
