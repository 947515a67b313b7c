-- The rows of a stage, which cancels one variable.
use Rattle.std.specs.Prelude.{◌≡◌, ℕ, zero, suc, ◌+◌, ◌-◌, ◌<◌, ◌≤◌, ℤ, pos, ◌*ℤ◌, neg_ℤ, List, [], ◌∷◌, ◌++◌, Bool, true, false, ◌&&◌, not, if◌then◌else◌, int_lt, map, filter, flat_map, max, unsigned_abs, nat_eq, length, take, drop, slice_index_or, Option, Some, None, All}
use Rattle.std.specs.Ordering.{int_eq}
use Rattle.std.specs.List.{list_any, before_first, after_first, find}
use Rattle.affine_rows.specs.declared.row.Row.{Row}
use Rattle.affine_rows.specs.declared.row.System.{System}
use Rattle.affine_rows.specs.Rows.{IsRow}
use Rattle.affine_rows.specs.Reduced.{factor_of, mixed_row, combination, reduced_row}

-- rows over the variables below the width, which is at most 128
pub record IsSystem (s : System) : Type 0 where
  pub few : s.width ≤ 128
  pub rows : All (IsRow s.width) s.rows

-- ---- the rows, before they are reduced

-- the row bounds the variable from below, or from above
abbrev pub bounds_below : ℕ → Row → Bool
bounds_below var r = int_lt (pos 0) (factor_of var r.terms)

abbrev pub bounds_above : ℕ → Row → Bool
bounds_above var r = int_lt (factor_of var r.terms) (pos 0)

abbrev pub is_without : ℕ → Row → Bool
is_without var r = int_eq (factor_of var r.terms) (pos 0)

-- an equality that has the variable
abbrev pub determines : ℕ → Row → Bool
determines var r = r.equal && not (is_without var r)

-- the positive multiple of a row from which the equality takes the variable
unfoldable pub substituted : ℕ → Row → Row → Row
substituted var e r = mixed_row (pos (unsigned_abs (factor_of var e.terms))) r (if int_lt (pos 0) (factor_of var e.terms) then neg_ℤ (factor_of var r.terms) else factor_of var r.terms) e

-- the combinations of a lower row with each upper row
abbrev pub pairs_of : ℕ → List Row → Row → List Row
pairs_of var rows lower = map (λ upper. reduced_row (combination var lower upper)) (filter (bounds_above var) rows)

-- the rows without the variable, then each lower row with each upper row
unfoldable pub paired_rows : ℕ → List Row → List Row
paired_rows var rows = map reduced_row (filter (is_without var) rows) ++ flat_map (pairs_of var rows) (filter (bounds_below var) rows)

-- the equality cancels the variable in the others; without one the rows are paired
unfoldable pub cancelled_by : ℕ → List Row → Option Row → List Row
cancelled_by var rows None = paired_rows var rows
cancelled_by var rows (Some e) = map (λ r. reduced_row (substituted var e r)) (before_first (determines var) rows ++ after_first (determines var) rows)

-- the rows by the first equality that has the variable
unfoldable pub cancelled_rows : ℕ → List Row → List Row
cancelled_rows var rows = cancelled_by var rows (find (determines var) rows)

-- ---- the rows that are dropped

abbrev pub has_no_terms : List (ℕ × ℤ) → Bool
has_no_terms [] = true
has_no_terms (t ∷ ts) = false

-- the row has no variable, and holds
unfoldable pub is_trivial : Row → Bool
is_trivial r = has_no_terms r.terms && (if r.equal then int_eq r.constant (pos 0) else not (int_lt r.constant (pos 0)))

-- the absolute value of the first factor, at least 1; 1 where there is none
abbrev pub weight : List (ℕ × ℤ) → ℕ
weight [] = 1
weight (t ∷ ts) = max 1 (unsigned_abs t.1)

-- whether the second factors are to the first as one number to another
abbrev pub in_ratio : ℕ → ℕ → List (ℕ × ℤ) → List (ℕ × ℤ) → Bool
in_ratio v w [] [] = true
in_ratio v w [] (u ∷ us) = false
in_ratio v w (t ∷ ts) [] = false
in_ratio v w (t ∷ ts) (u ∷ us) = (nat_eq t.0 u.0 && int_eq (pos w *ℤ t.1) (pos v *ℤ u.1)) && in_ratio v w ts us

-- whether the variable parts are positive multiples and the bound of the first is at least as tight
unfoldable pub is_tighter : Row → Row → Bool
is_tighter k r =
    in_ratio (weight k.terms) (weight r.terms) k.terms r.terms
    && not (int_lt (pos (weight k.terms) *ℤ r.constant) (pos (weight r.terms) *ℤ k.constant))

-- of two inequalities whose variable parts are positive multiples the first is at least as tight
unfoldable pub covers : Row → Row → Bool
covers k r = (not k.equal && not r.equal) && is_tighter k r

-- of two such inequalities the first is tighter
abbrev pub is_stricter : Row → Row → Bool
is_stricter k r = covers k r && not (covers r k)

-- a row stays unless it is trivial, an earlier row is at least as tight, or a later one is tighter
unfoldable pub stays : List Row → Row → List Row → Bool
stays before r after = not (is_trivial r) && (not (list_any (λ k. covers k r) before) && not (list_any (λ k. is_stricter k r) after))

-- of rows that come after others, those that stay
unfoldable pub staying : List Row → List Row → List Row
staying before [] = []
staying before (r ∷ after) = if stays before r after then (r ∷ staying (before ++ r ∷ []) after) else staying (before ++ r ∷ []) after

-- the rows that stay
unfoldable pub tightest_rows : List Row → List Row
tightest_rows rows = staying [] rows

-- whether each row stays, by its place
pub record AreMarked (rows : List Row) (marks : List Bool) : Type 0 where
  pub all : length marks ≡ length rows
  pub each : (i : ℕ) (d : Bool) (r : Row) → i < length rows → slice_index_or marks i d ≡ stays (take i rows) (slice_index_or rows i r) (drop (i + 1) rows)

-- the rows of a stage
unfoldable pub stage_rows : ℕ → List Row → List Row
stage_rows var rows = tightest_rows (cancelled_rows var rows)

-- ---- several variables

-- n variables from the first on
abbrev pub variables : ℕ → ℕ → List ℕ
variables zero v = []
variables (suc n) v = v ∷ variables n (v + 1)

abbrev pub is_cancelled : List ℕ → ℕ → Bool
is_cancelled keep v = not (list_any (λ k. nat_eq k v) keep)

-- the variables from the first on and below the width that are not kept
unfoldable pub cancelled_from : List ℕ → ℕ → ℕ → List ℕ
cancelled_from keep v width = filter (is_cancelled keep) (variables (width - v) v)

-- the rows after the variables are cancelled, the last first
unfoldable pub shadow_rows : List ℕ → List Row → List Row
shadow_rows [] rows = rows
shadow_rows (v ∷ vs) rows = stage_rows v (shadow_rows vs rows)
