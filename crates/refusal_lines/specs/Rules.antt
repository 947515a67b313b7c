-- The names of rules.
use Rattle.std.specs.Prelude.{ℕ, ◌-◌, ◌==◌, nat_le, List, [], ◌∷◌, codes, if◌then◌else◌, slice_get, unwrap_or}

-- from rule 1 on
abbrev pub first_names : List (List ℕ)
first_names =
    codes "Unknown" ∷ codes "Taken" ∷ codes "Limit" ∷ codes "Syntax" ∷ codes "FormNotBuilt" ∷ codes "NotAffine" ∷ codes "RuleCycle" ∷ codes "Arity" ∷ codes "TypeMismatch" ∷ codes "TypeUnknown" ∷ []

-- from rule 11 on
abbrev pub second_names : List (List ℕ)
second_names =
    codes "NoBlock" ∷ codes "DepCycle" ∷ codes "TempCell" ∷ codes "OutOfBounds" ∷ codes "Conflict" ∷ codes "IndexRange" ∷ codes "Unbounded" ∷ codes "TooWide" ∷ codes "TooManyRows" ∷ codes "Factor" ∷ []

-- from rule 21 on
abbrev pub third_names : List (List ℕ)
third_names =
    codes "Tagged" ∷ codes "NotConstantExtent" ∷ codes "AxisTaken" ∷ codes "NegativeAxis" ∷ codes "NotOneWriter" ∷ codes "NotInvertible" ∷ codes "WriterNotBefore" ∷ codes "Footprint" ∷ codes "UsesDiffer" ∷ codes "UnderReduction" ∷ []

-- from rule 31 on
abbrev pub fourth_names : List (List ℕ)
fourth_names =
    codes "LocalTooLarge" ∷ codes "NotNested" ∷ codes "NestCycle" ∷ codes "BoundTooWide" ∷ codes "TempCrossesItems" ∷ codes "GroupTooLarge" ∷ codes "RaceNotExcluded" ∷ codes "TargetHasNoAxes" ∷ codes "TooManySteps" ∷ codes "BadArguments" ∷ []

-- from rule 41 on
abbrev pub last_names : List (List ℕ)
last_names =
    codes "Race" ∷ codes "Divergent" ∷ codes "Outside" ∷ []

-- entries are counted from 1
abbrev pub entry_of : List (List ℕ) → ℕ → List ℕ
entry_of names number = if number == 0 then [] else unwrap_or (slice_get names (number - 1)) []

abbrev pub rule_name : ℕ → List ℕ
rule_name number =
    if nat_le number 10 then entry_of first_names number
    else if nat_le number 20 then entry_of second_names (number - 10)
    else if nat_le number 30 then entry_of third_names (number - 20)
    else if nat_le number 40 then entry_of fourth_names (number - 30)
    else entry_of last_names (number - 40)
