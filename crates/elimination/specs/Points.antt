-- The rational point that is chosen among those of a system.
use Rattle.std.specs.Prelude.{◌≡◌, ℕ, zero, suc, ◌+◌, ◌*◌, ◌^◌, ◌<◌, ◌≤◌, ◌⊎◌, ◌↔◌, ℤ, pos, ◌*ℤ◌, ◌≤ℤ◌, ◌<ℤ◌, List, [], ◌∷◌, All, length, unsigned_abs, map, replicate}
use Rattle.std.specs.Int.{◌∣◌}
use Rattle.affine_rows.specs.declared.point.Point.{Point}
use Rattle.affine_rows.specs.declared.row.Row.{Row}
use Rattle.affine_rows.specs.Rows.{Env, env_of}
use Rattle.elimination.specs.declared.fault.SetFault.{SetFault}
use Rattle.elimination.specs.declared.fault.SetFault.TheVariants.{OutOfMemory, TooManyRows, TooWide}
use Rattle.elimination.specs.Refusals.{IsShadowFault}
use Rattle.elimination.specs.Stages.{cancelled_from, shadow_rows}
use Rattle.elimination.specs.Shadows.{AllHold, Each, moved}

-- a point's denominator
abbrev pub over_of : Point → ℕ
over_of p = unsigned_abs p.over

-- the rows hold at the point
abbrev pub HoldAt : List Row → Point → Type 0
HoldAt rows p = AllHold (over_of p) (env_of p.at) rows

-- a point of the rows, with a number for each variable below the width
pub record IsPointOf (width : ℕ) (rows : List Row) (p : Point) : Type 0 where
  pub positive : pos 0 <ℤ p.over
  pub long : length p.at ≡ width
  pub holds : HoldAt rows p

-- no rational numbers satisfy the rows
abbrev pub HasNone : List Row → Type 0
HasNone rows = (over : ℕ) (at : Env) → 0 < over → AllHold over at rows → ⊥

-- ---- the fraction n / d that is chosen of a set of fractions

-- whole, and the least whole one
abbrev pub IsLeastWhole : (ℤ → ℕ → Type 0) → ℤ → ℕ → Type 0
IsLeastWhole S n d = (z : ℤ) × (n ≡ pos d *ℤ z) × S z 1 × ((w : ℤ) → S w 1 → z ≤ℤ w)

-- none is whole, and it is the least
abbrev pub IsLeast : (ℤ → ℕ → Type 0) → ℤ → ℕ → Type 0
IsLeast S n d = ((w : ℤ) → S w 1 → ⊥) × S n d × ((m : ℤ) (e : ℕ) → 0 < e → S m e → (pos e *ℤ n) ≤ℤ (pos d *ℤ m))

-- whole, and the whole ones are those up to it
abbrev pub IsGreatestWhole : (ℤ → ℕ → Type 0) → ℤ → ℕ → Type 0
IsGreatestWhole S n d = (z : ℤ) × (n ≡ pos d *ℤ z) × ((w : ℤ) → S w 1 ↔ (w ≤ℤ z))

-- 0, and all whole numbers are in the set
abbrev pub IsFree : (ℤ → ℕ → Type 0) → ℤ → ℕ → Type 0
IsFree S n d = (n ≡ pos 0) × ((w : ℤ) → S w 1)

-- the least whole one; where none is whole the least; where whole ones have no least the greatest; of all numbers 0
abbrev pub IsPick : (ℤ → ℕ → Type 0) → ℤ → ℕ → Type 0
IsPick S n d = IsLeastWhole S n d ⊎ (IsLeast S n d ⊎ (IsGreatestWhole S n d ⊎ IsFree S n d))

-- ---- the chosen point

-- the fractions n / d that the variable may be in the rows, where the others are as given
abbrev pub Values : List Row → ℕ → ℕ → Env → ℤ → ℕ → Type 0
Values rows var over at n d = AllHold (d * over) (moved d var (pos over *ℤ n) at) rows

-- each number that makes all of the fractions z / over whole is a multiple of the denominator
abbrev pub IsLeastDenominator : ℕ → List ℤ → Type 0
IsLeastDenominator over at = (m : ℕ) → Each (λ z. (q : ℤ) × (pos m *ℤ z ≡ pos over *ℤ q)) at → over ∣ m

-- the numbers multiplied by k, with another number for one variable
abbrev pub moved_numbers : ℕ → ℕ → ℤ → List ℤ → List ℤ
moved_numbers k v y [] = []
moved_numbers k zero y (z ∷ zs) = y ∷ map (λ x. pos k *ℤ x) zs
moved_numbers k (suc v) y (z ∷ zs) = (pos k *ℤ z) ∷ moved_numbers k v y zs

-- a number is chosen for one variable, and all are put over their least common denominator
pub record IsNext (rows : List Row) (var : ℕ) (old new : Point) : Type 0 where
  pub times : ℕ
  pub number : ℤ
  pub positive : 0 < times
  pub over : new.over ≡ pos times *ℤ old.over
  pub at : new.at ≡ moved_numbers times var number old.at
  pub pick : IsPick (Values rows var (over_of old) (env_of old.at)) number (over_of new)
  pub lowest : IsLeastDenominator (over_of new) new.at

-- the point whose numbers are 0
abbrev pub origin : ℕ → Point
origin width = record { over = pos 1; at = replicate width (pos 0) }

-- the numbers of the first variables are chosen in order, each by the rows in which the later variables are cancelled
abbrev pub IsChosen : ℕ → List Row → ℕ → Point → Type 0
IsChosen width rows zero p = p ≡ origin width
IsChosen width rows (suc v) p = (old : Point) × IsChosen width rows v old × IsNext (shadow_rows (cancelled_from [] (v + 1) width) rows) v old p

-- ---- a point that is too wide

-- the numbers do not pass 2^56 in absolute value
abbrev pub AreSmall : List ℤ → Type 0
AreSmall at = All (λ z. unsigned_abs z ≤ 2 ^ 56) at

-- nor does the denominator
pub record IsSmall (p : Point) : Type 0 where
  pub over : over_of p ≤ 2 ^ 56
  pub at : AreSmall p.at

-- want of memory, or a number that passes 2^56
abbrev pub IsWide : ℕ → List ℤ → SetFault → Type 0
IsWide stage numbers OutOfMemory = Unit {0}
IsWide stage numbers (TooWide number row) = (number ≡ stage) × (row ≡ 0) × (AreSmall numbers → ⊥)
IsWide stage numbers (TooManyRows number) = ⊥

-- want of memory, or a next point that passes 2^56
abbrev pub IsNextFault : List Row → ℕ → Point → ℕ → SetFault → Type 0
IsNextFault rows var old stage OutOfMemory = Unit {0}
IsNextFault rows var old stage (TooWide number row) = (number ≡ stage) × (row ≡ 0) × (new : Point) × IsNext rows var old new × (IsSmall new → ⊥)
IsNextFault rows var old stage (TooManyRows number) = ⊥

-- the chosen numbers of the variables up to this place are the first that pass 2^56
pub record IsPast (width : ℕ) (rows : List Row) (fault : SetFault) : Type 0 where
  pub place : ℕ
  pub below : place < width
  pub before : Point
  pub chosen : IsChosen width rows place before
  pub small : IsSmall before
  pub point : Point
  pub next : IsNext (shadow_rows (cancelled_from [] (place + 1) width) rows) place before point
  pub past : IsSmall point → ⊥
  pub is : fault ≡ TooWide (width + 1 + place) 0

-- a fault of the stages that cancel all variables, or of the chosen point
abbrev pub IsPointFault : ℕ → List Row → SetFault → Type 0
IsPointFault width rows fault = IsShadowFault [] width rows fault ⊎ IsPast width rows fault
