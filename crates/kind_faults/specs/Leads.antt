-- What leads expressions, kept for the uses of rules.
use Rattle.std.specs.Prelude.{ℕ, List, slice_get, Option, Some, None}
use Rattle.kind_faults.specs.declared.leads.Leading.{Leading}

abbrev pub kept_leading : Option (Option Leading) → Option Leading
kept_leading None = None
kept_leading (Some l) = l

-- what the uses of a rule lead with, if it is kept
abbrev pub leading_at : List (Option Leading) → ℕ → Option Leading
leading_at table rule = kept_leading (slice_get table rule)
