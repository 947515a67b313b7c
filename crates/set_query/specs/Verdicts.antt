-- Whether two instances never meet.
use Rattle.std.specs.Prelude.{◌≡◌, ℕ, ◌^◌, ◌-◌, ◌/◌, ◌%◌, ◌⊎◌, min, List, take, slice_get, Some, nat_eq, false, map}
use Rattle.affine_rows.specs.declared.point.Point.{Point}
use Rattle.affine_rows.specs.declared.row.System.{System}
use Rattle.affine_rows.specs.Reduced.{reduced_row}
use Rattle.affine_rows.specs.Rows.{Env}
use Rattle.elimination.specs.declared.fault.SetFault.{SetFault}
use Rattle.elimination.specs.declared.fault.SetFault.TheVariants.{OutOfMemory}
use Rattle.elimination.specs.declared.finding.Found.{Found}
use Rattle.elimination.specs.declared.finding.Found.TheVariants as found
use Rattle.elimination.specs.Finding.{IsFound, IsTheChosen, IsWithinLimits}
use Rattle.elimination.specs.Points.{IsPointFault}
use Rattle.elimination.specs.Shadows.{Each}
use Rattle.set_query.specs.declared.pair.Differ.{Differ}
use Rattle.set_query.specs.declared.pair.Differ.TheVariants.{Free, Among}
use Rattle.set_query.specs.declared.pair.Pair.{Pair}
use Rattle.set_query.specs.declared.verdict.Verdict.{Verdict}
use Rattle.set_query.specs.declared.verdict.Verdict.TheVariants.{Excluded, Open}
use Rattle.set_query.specs.Cases.{Differs, IsIntegerPoint}

-- what a search within its limits finds of a system
pub record Finds (f : Found) (s : System) : Type 0 where
  pub found : IsFound s.width s.rows f
  pub chosen : IsTheChosen s.width (map reduced_row s.rows) f
  pub within : IsWithinLimits s.width (map reduced_row s.rows)

-- a search meets this fault
abbrev pub Refuses : SetFault → System → Type 0
Refuses fault s = IsPointFault s.width (map reduced_row s.rows) fault

-- the first fact holds of the systems before this place, and the second of the one there
pub record IsFirst (before_it there : System → Type 0) (systems : List System) (at : ℕ) : Type 0 where
  pub before : Each before_it (take at systems)
  pub system : System
  pub is : slice_get systems at ≡ Some system
  pub holds : there system

-- the verdict that names the case at a place of the list
abbrev pub opened : Differ → ℕ → Point → Verdict
opened Free at p = Open 0 false p
opened (Among pairs) at p = Open (min (at / 2) (2 ^ 32 - 1)) (nat_eq (at % 2) 0) p

-- the chosen point of the first case that has one; excluded where none has one
abbrev pub IsVerdict : Differ → List System → Verdict → Type 0
IsVerdict differ systems verdict =
    ((verdict ≡ Excluded) × Each (Finds found.Empty) systems)
    ⊎ ((at : ℕ) × (p : Point) × (verdict ≡ opened differ at p) × IsFirst (Finds found.Empty) (Finds (found.Point p)) systems at)

-- want of memory, or the fault of the first case that is refused, before which none has a point
abbrev pub IsOpenFault : List System → SetFault → Type 0
IsOpenFault systems fault = (fault ≡ OutOfMemory) ⊎ ((at : ℕ) × IsFirst (Finds found.Empty) (Refuses fault) systems at)

-- where the pair is excluded, the instances differ at no integer point of the system
abbrev pub NeverMeet : Pair → Verdict → Type 0
NeverMeet pair verdict = verdict ≡ Excluded → (at : Env) → IsIntegerPoint at pair.system → Differs at pair.differ → ⊥
