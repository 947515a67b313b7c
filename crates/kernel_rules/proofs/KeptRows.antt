-- Rows that are kept are those of a system.
use Rattle.std.proofs.Common.{◌≡◌, ◌≢◌, ℕ, ◌<◌, ◌≤◌, ◌^◌, ℤ, Bool, true, false, ◌&&◌, not, nat_eq, nat_lt, nat_le, List, [], ◌∷◌, unsigned_abs, All, arith, refl, sym, subst}
use Rattle.std.specs.Prelude.{filter}
use Rattle.std.specs.List.{list_all}
use Rattle.std.proofs.lemmas.Bool.Decides.{nat_tests}
use Rattle.std.proofs.lemmas.List.Elements.{All-weaker, filter_passes}
use Rattle.std.proofs.lemmas.List.Sums.{AllPass-from_list_all}
use Rattle.affine_rows.specs.declared.row.Row.{Row}
use Rattle.affine_rows.specs.declared.row.System.{System}
use Rattle.affine_rows.specs.Rows.{IsTerm, IsRow}
use Rattle.affine_rows.proofs.Mixing.{Above, Above-below, Rising, increasing}
use Rattle.elimination.specs.Stages.{IsSystem}
use Rattle.quasi_forms.proofs.Likeness.{both}
use Rattle.quasi_forms.specs.declared.systems.Difference.{Difference}
use Rattle.quasi_forms.specs.Systems.{floors_of_rows, system_over, system_fits, system_width, fits_difference, fits_floor}
use Rattle.set_query.specs.declared.pair.Pair.{Pair}
use Rattle.set_query.specs.Cases.{AreTwo, AreVariables, IsPair}
use Rattle.kernel_rules.specs.Kept.{is_term, is_below, are_rising, is_row, kept_system, are_two, differ_where, pair_over}

below : (n m : ℕ) → nat_lt n m ≡ true → n < m
below n m h = grind (arith, nat_tests)

within : (n m : ℕ) → nat_le n m ≡ true → n ≤ m
within n m h = grind (arith, nat_tests)

term_is : (width : ℕ) (t : ℕ × ℤ) → is_term width t ≡ true → IsTerm width t
term_is width t h =
    let parts = both (nat_lt t.0 width) (nat_lt 0 (unsigned_abs t.1) && nat_le (unsigned_abs t.1) (2 ^ 62)) h in
    let more = both (nat_lt 0 (unsigned_abs t.1)) (nat_le (unsigned_abs t.1) (2 ^ 62)) parts.1 in
    record { var = below t.0 width parts.0; entry = within (unsigned_abs t.1) (2 ^ 62) more.1; nonzero = below 0 (unsigned_abs t.1) more.0 }

terms_are : (width : ℕ) (ts : List (ℕ × ℤ)) → list_all (is_term width) ts ≡ true → All (IsTerm width) ts
terms_are width ts h = All-weaker (λ (t : ℕ × ℤ). is_term width t ≡ true) (IsTerm width) (term_is width) ts (AllPass-from_list_all (is_term width) ts h)

above : (v : ℕ) (ts : List (ℕ × ℤ)) → is_below v ts ≡ true → Rising ts → Above v ts
above v [] h up = tt
above v (t ∷ ts) h up = let low : v < t.0 = below v t.0 h in (low, Above-below v t.0 ts (omega (arith, low)) up.0)

rising : (ts : List (ℕ × ℤ)) → are_rising ts ≡ true → Rising ts
rising [] h = tt
rising (t ∷ ts) h =
    let parts = both (is_below t.0 ts) (are_rising ts) h in
    let rest = rising ts parts.1 in
    (above t.0 ts parts.0 rest, rest)

row_is : (width : ℕ) (r : Row) → is_row width r ≡ true → IsRow width r
unfolding is_row
row_is width r h =
    let parts = both (nat_le (unsigned_abs r.constant) (2 ^ 62)) (list_all (is_term width) r.terms && are_rising r.terms) h in
    let more = both (list_all (is_term width) r.terms) (are_rising r.terms) parts.1 in
    record { constant = within (unsigned_abs r.constant) (2 ^ 62) parts.0; terms = terms_are width r.terms more.0; rising = increasing r.terms (rising r.terms more.1) }

kept_is : (s : System) → s.width ≤ 128 → IsSystem (kept_system s)
kept_is s few = record {
  few = few;
  rows = All-weaker (λ (r : Row). is_row s.width r ≡ true) (IsRow s.width) (row_is s.width) (filter (is_row s.width) s.rows) (filter_passes (is_row s.width) s.rows);
}

few_in : (width : ℕ) (rows : List Difference) → system_fits width rows ≡ true → system_width width rows ≤ 128
few_in width rows h =
    within (system_width width rows) 128
    (both (nat_le (system_width width rows) 128) (list_all (fits_difference width (floors_of_rows rows)) rows && list_all (fits_floor width (floors_of_rows rows)) (floors_of_rows rows)) h).0

-- a kept system can be queried
pub kept_is_system : (s : System) (rows : List Row) → s.width ≤ 128 → rows ≡ filter (is_row s.width) s.rows → IsSystem (record { width = s.width; rows = rows })
kept_is_system s rows few kept = subst (λ (rs : List Row). IsSystem (record { width = s.width; rows = rs })) (sym kept) (kept_is s few)

-- a system that fits has at most 128 variables
pub few_of : (s : System) (width : ℕ) (rows : List Difference) → s ≡ system_over width rows → system_fits width rows ≡ true → s.width ≤ 128
few_of s width rows over fits = subst (λ (t : System). t.width ≤ 128) (sym over) (few_in width rows fits)

apart : (n m : ℕ) → not (nat_eq n m) ≡ true → n ≢ m
apart n m h = λ same. grind (arith, nat_tests)

two_are : (width : ℕ) (p : ℕ × ℕ) → are_two width p ≡ true → AreTwo width p
two_are width p h =
    let parts = both (nat_lt p.0 width) (nat_lt p.1 width && not (nat_eq p.0 p.1)) h in
    let more = both (nat_lt p.1 width) (not (nat_eq p.0 p.1)) parts.1 in
    record { first = below p.0 width parts.0; second = below p.1 width more.0; other = apart p.0 p.1 more.1 }

where_are : (width : ℕ) (own : Bool) (pairs : List (ℕ × ℕ)) → (own ≡ true → list_all (are_two width) pairs ≡ true) → AreVariables width (differ_where own pairs)
where_are width true pairs h = All-weaker (λ (p : ℕ × ℕ). are_two width p ≡ true) (AreTwo width) (two_are width) pairs (AllPass-from_list_all (are_two width) pairs (h refl))
where_are width false pairs h = tt

over_is : (s : System) (pairs : List (ℕ × ℕ)) (asked : Bool) → IsSystem s → IsPair (pair_over s pairs asked)
over_is s pairs asked h = record { system = h; variables = where_are s.width (asked && list_all (are_two s.width) pairs) pairs (λ all. (both asked (list_all (are_two s.width) pairs) all).1) }

-- what is to differ are variables of the system
pub pair_is : (made : Pair) (s : System) (pairs : List (ℕ × ℕ)) (asked : Bool) → made ≡ pair_over s pairs asked → IsSystem s → IsPair made
pair_is made s pairs asked e h = subst IsPair (sym e) (over_is s pairs asked h)
