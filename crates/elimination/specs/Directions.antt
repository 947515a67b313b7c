-- Rows whose variable parts are positive multiples of one another.
use Rattle.std.specs.Prelude.{◌≡◌, ◌↔◌, ℕ, ◌<◌, ℤ, pos, ◌*ℤ◌, List, [], ◌∷◌, map, true, false}
use Rattle.affine_rows.specs.declared.row.Row.{Row}
use Rattle.affine_rows.specs.Reduced.{IsSomeRow}
use Rattle.elimination.specs.Shadows.{Each}
use Rattle.elimination.specs.Stages.{in_ratio, weight}

-- each factor multiplied by a number
abbrev pub scaled : ℕ → List (ℕ × ℤ) → List (ℕ × ℤ)
scaled n ts = map (λ t. (t.0, pos n *ℤ t.1)) ts

-- a positive multiple of the first part is one of the second
abbrev pub AreMultiples : List (ℕ × ℤ) → List (ℕ × ℤ) → Type 0
AreMultiples ts us = (p : ℕ) × (q : ℕ) × (0 < p) × (0 < q) × (scaled p ts ≡ scaled q us)

-- parts of rows are in the ratio of their first factors exactly where they are positive multiples
abbrev pub RatiosAreMultiples : Type 0
RatiosAreMultiples = (k r : Row) → IsSomeRow k → IsSomeRow r → (in_ratio (weight k.terms) (weight r.terms) k.terms r.terms ≡ true) ↔ AreMultiples k.terms r.terms

-- two inequalities whose parts are not positive multiples
abbrev pub IsApart : Row → Row → Type 0
IsApart k r = k.equal ≡ false → r.equal ≡ false → AreMultiples k.terms r.terms → ⊥

-- no two inequalities have parts that are positive multiples
abbrev pub AreApart : List Row → Type 0
AreApart [] = Unit {0}
AreApart (row ∷ rows) = Each (IsApart row) rows × AreApart rows
