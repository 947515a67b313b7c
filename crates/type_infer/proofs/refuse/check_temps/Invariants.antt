use Rattle.std.proofs.Common.{◌≡◌, drop}
use Rattle.type_infer.specs.Typing.{temps_refusal}
use Rattle.type_infer.proofs.refuse.check_temps.Given as goal

abbrev pub invariant-loop-temp : goal.invariant-loop-temp
invariant-loop-temp l = temps_refusal (drop l.temp-index l.temps) ≡ temps_refusal l.temps
