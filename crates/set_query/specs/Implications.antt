-- Rows that a system implies.
use Rattle.std.specs.Prelude.{◌≡◌, ℤ, pos, neg_ℤ, List, [], ◌∷◌, ◌++◌, ◌⊎◌, false, true, map}
use Rattle.affine_rows.specs.declared.fault.RowFault.{RowFault}
use Rattle.affine_rows.specs.declared.fault.RowFault.TheVariants as row_fault
use Rattle.affine_rows.specs.declared.row.Row.{Row}
use Rattle.affine_rows.specs.declared.row.System.{System}
use Rattle.affine_rows.specs.Reduced.{fits_row, mixed_row, reduced_row}
use Rattle.affine_rows.specs.Rows.{Env, Holds}
use Rattle.elimination.specs.declared.fault.SetFault.{SetFault}
use Rattle.elimination.specs.declared.fault.SetFault.TheVariants.{OutOfMemory, TooWide}
use Rattle.elimination.specs.Finding.{IsWithinLimits}
use Rattle.elimination.specs.Points.{HasNone, IsPointFault}
use Rattle.elimination.specs.Shadows.{Each}
use Rattle.set_query.specs.Cases.{with_row}

-- -1 >= 0
abbrev pub never : Row
never = record { constant = neg_ℤ (pos 1); terms = []; equal = false }

-- the row multiplied by a number, minus one, is at least 0
unfoldable pub denied : ℤ → Row → Row
denied times r = mixed_row times r (pos 1) never

-- no rational point of the rows has the multiple of the row at least 1
abbrev pub Implies : List Row → ℤ → Row → Type 0
Implies rows times r = HasNone (rows ++ denied times r ∷ [])

-- the negated row is nowhere at least 1, and nor is an equality itself
pub record IsImplied (rows : List Row) (r : Row) : Type 0 where
  pub first : Implies rows (neg_ℤ (pos 1)) r
  pub second : r.equal ≡ true → Implies rows (pos 1) r

-- the row holds at each integer point of the rows
abbrev pub HoldsThere : List Row → Row → Type 0
HoldsThere rows r = (at : Env) → Each (Holds at) rows → Holds at r

-- ---- refusals

-- the system that is asked of a half
abbrev pub asked_of : System → ℤ → Row → System
asked_of s times r = with_row s (reduced_row (denied times r))

-- the fault of a row that is made before any stage
abbrev pub wide_denial : RowFault → SetFault
wide_denial row_fault.OutOfMemory = OutOfMemory
wide_denial row_fault.Wide = TooWide 0 0

-- want of memory, or an entry of the row that passes 2^62
abbrev pub IsWideDenial : ℤ → Row → SetFault → Type 0
IsWideDenial times r fault = (fault ≡ OutOfMemory) ⊎ ((fault ≡ TooWide 0 0) × (fits_row (reduced_row (denied times r)) ≡ false))

-- a half that is refused: its row is too wide, or the search of a point is refused
abbrev pub IsHalfFault : System → ℤ → Row → SetFault → Type 0
IsHalfFault s times r fault =
    IsWideDenial times r fault
    ⊎ ((fits_row (reduced_row (denied times r)) ≡ true) × IsPointFault s.width (map reduced_row (asked_of s times r).rows) fault)

-- a half that is not refused
pub record IsHalfWithin (s : System) (times : ℤ) (r : Row) : Type 0 where
  pub fits : fits_row (reduced_row (denied times r)) ≡ true
  pub within : IsWithinLimits s.width (map reduced_row (asked_of s times r).rows)

-- the other half is asked: the row is an equality, and its first half is implied
pub record IsSecondAsked (s : System) (r : Row) : Type 0 where
  pub equal : r.equal ≡ true
  pub first : Implies s.rows (neg_ℤ (pos 1)) r

-- no half that is asked is refused
pub record IsImpliedWithin (s : System) (r : Row) : Type 0 where
  pub first : IsHalfWithin s (neg_ℤ (pos 1)) r
  pub second : IsSecondAsked s r → IsHalfWithin s (pos 1) r

-- the first half is refused, or the second one where it is asked
abbrev pub IsImpliedFault : System → Row → SetFault → Type 0
IsImpliedFault s r fault =
    IsHalfFault s (neg_ℤ (pos 1)) r fault
    ⊎ (IsHalfWithin s (neg_ℤ (pos 1)) r × IsSecondAsked s r × IsHalfFault s (pos 1) r fault)
