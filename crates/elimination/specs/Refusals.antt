-- Why a stage is refused.
use Rattle.std.specs.Prelude.{◌≡◌, ℕ, ◌+◌, ◌-◌, ◌^◌, ◌<◌, ◌≤◌, ◌⊎◌, min, List, [], ◌∷◌, true, not, length}
use Rattle.std.specs.List.{list_all, position_or_len}
use Rattle.affine_rows.specs.declared.row.Row.{Row}
use Rattle.affine_rows.specs.declared.fault.RowFault.{RowFault}
use Rattle.affine_rows.specs.declared.fault.RowFault.TheVariants as row_fault
use Rattle.elimination.specs.declared.fault.SetFault.{SetFault}
use Rattle.elimination.specs.declared.fault.SetFault.TheVariants.{OutOfMemory, TooWide, TooManyRows}
use Rattle.affine_rows.specs.Reduced.{fits_row}
use Rattle.elimination.specs.Stages.{cancelled_from, cancelled_rows, is_cancelled, shadow_rows}

-- the place of the first row that does not fit, the number of rows where all fit
abbrev pub first_wide : List Row → ℕ
first_wide rows = position_or_len (λ r. not (fits_row r)) rows

-- a row's fault, as the fault of the stage
abbrev pub fault_of : RowFault → ℕ → ℕ → SetFault
fault_of row_fault.OutOfMemory stage row = OutOfMemory
fault_of row_fault.Wide stage row = TooWide stage (min row (2 ^ 32 - 1))

-- want of memory, or the first row that does not fit, where so many rows come before these
abbrev pub IsRowFault : ℕ → ℕ → List Row → SetFault → Type 0
IsRowFault number before rows OutOfMemory = Unit {0}
IsRowFault number before rows (TooWide stage row) = (stage ≡ number) × (first_wide rows < length rows) × (row ≡ min (before + first_wide rows) (2 ^ 32 - 1))
IsRowFault number before rows (TooManyRows stage) = ⊥

-- want of memory; too many rows before any is made; or the first row that does not fit
abbrev pub IsStageFault : ℕ → List Row → SetFault → Type 0
IsStageFault number rows OutOfMemory = Unit {0}
IsStageFault number rows (TooWide stage row) = (length rows ≤ 65536) × (stage ≡ number) × (first_wide rows < length rows) × (row ≡ first_wide rows)
IsStageFault number rows (TooManyRows stage) = (stage ≡ number) × (65536 < length rows)

-- each stage is within its limits, the last variable first
abbrev pub AreWithin : List ℕ → List Row → Type 0
AreWithin [] rows = Unit {0}
AreWithin (v ∷ vs) rows = AreWithin vs rows × (length (cancelled_rows v (shadow_rows vs rows)) ≤ 65536) × (list_all fits_row (cancelled_rows v (shadow_rows vs rows)) ≡ true)

-- the first stage that passes its limits cancels this variable
pub record IsStopped (keep : List ℕ) (width : ℕ) (rows : List Row) (fault : SetFault) : Type 0 where
  pub var : ℕ
  pub below : var < width
  pub cancelled : is_cancelled keep var ≡ true
  pub within : AreWithin (cancelled_from keep (var + 1) width) rows
  pub stage : IsStageFault (length (cancelled_from keep (var + 1) width) + 1) (cancelled_rows var (shadow_rows (cancelled_from keep (var + 1) width) rows)) fault

-- want of memory, or the first stage that passes its limits; stages count from 1
abbrev pub IsShadowFault : List ℕ → ℕ → List Row → SetFault → Type 0
IsShadowFault keep width rows fault = (fault ≡ OutOfMemory) ⊎ IsStopped keep width rows fault
