use Rattle.std.proofs.Common.{◌≡◌, ◌-◌, length}
use Rattle.kind_faults.specs.Leads.{leading_at}
use Rattle.type_infer.specs.Inferred.{kind_by, kind_to}
use Rattle.type_infer.proofs.temps.temp_kind.Given as goal

abbrev pub invariant-loop-turn : goal.invariant-loop-turn
invariant-loop-turn l = kind_to l.kernel (leading_at l.stored) (length l.kernel.temps - l._turn) l.at ≡ kind_by l.kernel (leading_at l.stored) l.fn.temp
