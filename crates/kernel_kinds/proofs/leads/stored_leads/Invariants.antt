use Rattle.std.proofs.Common.{◌≡◌, ℕ, ◌<◌, length}
use Rattle.kind_faults.specs.Leads.{leading_at}
use Rattle.kernel_kinds.specs.Leads.{stored_leading}
use Rattle.kernel_kinds.proofs.leads.stored_leads.Given as goal

abbrev pub invariant-loop-temp : goal.invariant-loop-temp
invariant-loop-temp l = record {
  each : length l.stored.items ≡ l.temp;
  same : (t : ℕ) → t < l.temp → leading_at l.stored.items t ≡ stored_leading l.rules l.insns t;
}
