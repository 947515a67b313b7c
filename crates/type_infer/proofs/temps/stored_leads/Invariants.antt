use Rattle.std.proofs.Common.{◌≡◌, ℕ, ◌<◌, length}
use Rattle.type_infer.specs.Inferred.{stored_leading}
use Rattle.kind_faults.specs.Leads.{leading_at}
use Rattle.type_infer.proofs.temps.stored_leads.Given as goal

abbrev pub invariant-loop-temp : goal.invariant-loop-temp
invariant-loop-temp l = record {
  each : length l.stored.items ≡ l.temp;
  same : (t : ℕ) → t < l.temp → leading_at l.stored.items t ≡ stored_leading l.kernel t;
}
