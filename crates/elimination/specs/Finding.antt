-- What is found of a system.
use Rattle.std.specs.Prelude.{◌≡◌, ℕ, ◌+◌, ◌-◌, ◌*◌, ◌^◌, ◌<◌, ◌≤◌, pos, ◌<ℤ◌, List, [], length, get_or, unsigned_abs}
use Rattle.affine_rows.specs.declared.point.Point.{Point}
use Rattle.affine_rows.specs.declared.row.Row.{Row}
use Rattle.affine_rows.specs.declared.row.System.{System}
use Rattle.affine_rows.specs.Rows.{env_of}
use Rattle.elimination.specs.declared.finding.Found.{Found}
use Rattle.elimination.specs.declared.finding.Found.TheVariants as found
use Rattle.elimination.specs.declared.fault.SetFault.{SetFault}
use Rattle.elimination.specs.Refusals.{AreWithin}
use Rattle.elimination.specs.declared.fractions.Fraction.{Fraction}
use Rattle.elimination.specs.Stages.{IsSystem, cancelled_from, shadow_rows}
use Rattle.elimination.specs.Shadows.{AllHold, moved}
use Rattle.elimination.specs.Fractions.{IsReduced}
use Rattle.elimination.specs.Points.{HasNone, IsChosen, IsLeastDenominator, IsPast, IsPick, IsPointOf, IsSmall, Values, over_of}

-- a point of the rows; nothing where they have none
abbrev pub IsFound : ℕ → List Row → Found → Type 0
IsFound width rows found.Empty = HasNone rows
IsFound width rows (found.Point p) = IsPointOf width rows p

-- the point is the one that is chosen, and is small
abbrev pub IsTheChosen : ℕ → List Row → Found → Type 0
IsTheChosen width rows found.Empty = Unit {0}
IsTheChosen width rows (found.Point p) = IsChosen width rows width p × IsSmall p × ((q : Point) → IsChosen width rows width q → q ≡ p)

-- the stages that cancel all variables are within their limits, and so are the chosen numbers
pub record IsWithinLimits (width : ℕ) (rows : List Row) : Type 0 where
  pub stages : AreWithin (cancelled_from [] 0 width) rows
  pub point : (fault : SetFault) → IsPast width rows fault → ⊥

-- the system with the variables from v on cancelled
pub record IsStage (width : ℕ) (rows : List Row) (v : ℕ) (s : System) : Type 0 where
  pub same : s.width ≡ width
  pub system : IsSystem s
  pub is : s.rows ≡ shadow_rows (cancelled_from [] v width) rows

-- the systems with none, one and more of the last variables cancelled, down to this one
pub record AreStages (width : ℕ) (rows : List Row) (next : ℕ) (stages : List System) : Type 0 where
  pub count : length stages + next ≡ width + 1
  pub each : (i : ℕ) (d : System) → i < length stages → IsStage width rows (width - i) (get_or stages i d)

-- a point whose numbers from one variable on are 0, in lowest terms
pub record IsFixed (width v : ℕ) (p : Point) : Type 0 where
  pub positive : pos 0 <ℤ p.over
  pub long : length p.at ≡ width
  pub small : IsSmall p
  pub lowest : IsLeastDenominator (over_of p) p.at
  pub free : (w : ℕ) → v ≤ w → env_of p.at w ≡ pos 0

-- the number of a variable, multiplied by the point's denominator, in lowest terms
pub record IsChoice (rows : List Row) (var : ℕ) (p : Point) (f : Fraction) : Type 0 where
  pub pick : IsPick (Values rows var (over_of p) (env_of p.at)) f.number (f.by * over_of p)
  pub holds : AllHold (f.by * over_of p) (moved f.by var f.number (env_of p.at)) rows
  pub reduced : IsReduced f
  pub positive : 0 < f.by
  pub by : f.by ≤ 2 ^ 62
  pub number : unsigned_abs f.number ≤ 2 ^ 126 + 2 ^ 56
