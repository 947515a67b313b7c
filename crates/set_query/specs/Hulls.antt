-- The numbers between which a variable is in some systems.
use Rattle.std.specs.Prelude.{◌≡◌, ℕ, ◌⊎◌, ℤ, neg_ℤ, ◌≤ℤ◌, List, [], ◌∷◌, if◌then◌else◌, int_lt, map, Option, None, Some, MatchOption}
use Rattle.affine_rows.specs.declared.row.System.{System}
use Rattle.affine_rows.specs.Reduced.{reduced_row}
use Rattle.affine_rows.specs.Rows.{Env, Holds, IsEntry}
use Rattle.elimination.specs.declared.fault.SetFault.{SetFault}
use Rattle.elimination.specs.Refusals.{AreWithin, IsShadowFault}
use Rattle.elimination.specs.Shadows.{Each}
use Rattle.elimination.specs.Stages.{cancelled_from}
use Rattle.set_query.specs.declared.bounding.Side.{Side}
use Rattle.set_query.specs.declared.bounding.Side.TheVariants.{Below, Above}
use Rattle.set_query.specs.declared.ends.Hull.{Hull}
use Rattle.set_query.specs.declared.spanning.Ends.{Ends}
use Rattle.set_query.specs.Bounding.{bound_rows, last_rows}
use Rattle.set_query.specs.Cases.{HasSome}
use Rattle.set_query.specs.Verdicts.{IsFirst}

-- the lesser of a number that there may be and another
abbrev pub lesser : Option ℤ → ℤ → Option ℤ
lesser None z = Some z
lesser (Some y) z = Some (if int_lt z y then z else y)

-- the greater of two numbers, where there are both
abbrev pub wider : Option ℤ → Option ℤ → Option ℤ
wider None b = None
wider (Some y) None = None
wider (Some y) (Some z) = Some (if int_lt y z then z else y)

-- the least of the numbers; none where there is no number
abbrev pub IsLeast : List ℤ → Option ℤ → Type 0
IsLeast zs None = zs ≡ []
IsLeast zs (Some z) = HasSome (λ y. y ≡ z) zs × Each (λ y. z ≤ℤ y) zs

-- the constants of the rows that bound the variable on that side, all other variables cancelled
abbrev pub constants : Side → ℕ → System → List ℤ
constants side var s = map (λ r. r.constant) (bound_rows side var (last_rows (var ∷ []) s))

-- the greatest of the systems' least constants; none without systems, or where one of them has none
abbrev pub IsWidest : Side → ℕ → List System → Option ℤ → Type 0
IsWidest side var systems None = (systems ≡ []) ⊎ HasSome (λ s. IsLeast (constants side var s) None) systems
IsWidest side var systems (Some z) =
    HasSome (λ s. IsLeast (constants side var s) (Some z)) systems
    × Each (λ s. (y : ℤ) × IsLeast (constants side var s) (Some y) × (y ≤ℤ z)) systems

-- a number that there may be, negated
abbrev pub opposite_end : Option ℤ → Option ℤ
opposite_end None = None
opposite_end (Some z) = Some (neg_ℤ z)

-- a lower row x + c >= 0 says that x is at least -c, and an upper row -x + c >= 0 that x is at most c
pub record IsHull (var : ℕ) (systems : List System) (hull : Hull) : Type 0 where
  pub lower : IsWidest Below var systems (opposite_end hull.lower)
  pub upper : IsWidest Above var systems hull.upper

-- ---- integer points

-- a row with this constant on that side lets the variable be x
abbrev pub Allows : Side → ℤ → ℤ → Type 0
Allows Below x c = neg_ℤ c ≤ℤ x
Allows Above x c = x ≤ℤ c

-- each integer point of the system has the variable within the bounds
abbrev pub IsRespected : ℕ → System → Type 0
IsRespected var s = (side : Side) (at : Env) → Each (Holds at) s.rows → Each (Allows side (at var)) (constants side var s)

-- x is between the ends
pub record IsInside (hull : Hull) (x : ℤ) : Type 0 where
  pub lower : (b : ℤ) → hull.lower ≡ Some b → b ≤ℤ x
  pub upper : (b : ℤ) → hull.upper ≡ Some b → x ≤ℤ b

-- the variable is between the ends at each integer point of each system
abbrev pub AreInside : ℕ → List System → Hull → Type 0
AreInside var systems hull = Each (λ s. (at : Env) → Each (Holds at) s.rows → IsInside hull (at var)) systems

-- ---- refusals

-- the stages that cancel all other variables are within their limits
abbrev pub IsSpanned : ℕ → System → Type 0
IsSpanned var s = AreWithin (cancelled_from (var ∷ []) 0 s.width) (map reduced_row s.rows)

-- they meet this fault
abbrev pub IsSpanFault : ℕ → SetFault → System → Type 0
IsSpanFault var fault s = IsShadowFault (var ∷ []) s.width (map reduced_row s.rows) fault

-- the fault of the first system that is refused
abbrev pub IsHullFault : ℕ → List System → SetFault → Type 0
IsHullFault var systems fault = (at : ℕ) × IsFirst (IsSpanned var) (IsSpanFault var fault) systems at

-- a number within 2^62, where there is one
abbrev pub IsSmallEnd : Option ℤ → Type 0
IsSmallEnd end = MatchOption end (Unit {0}) IsEntry

-- the ends of the systems on both sides
pub record AreEnds (var : ℕ) (systems : List System) (ends : Ends) : Type 0 where
  pub below : IsWidest Below var systems ends.below
  pub above : IsWidest Above var systems ends.above
  pub below_small : IsSmallEnd ends.below
  pub above_small : IsSmallEnd ends.above
