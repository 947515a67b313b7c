-- The rows of a stage are rows over the same variables.
use Rattle.std.specs.Prelude.{◌≡◌, ℕ, ℤ, ◌+◌, ◌-◌, ◌<◌, ◌≤◌, List, [], ◌∷◌, ◌++◌, Bool, true, false, cond, ◌&&◌, Option, Some, None, map, filter, flat_map, All}
use Rattle.std.specs.List.{list_all, find, before_first, after_first, position_or_len, slice_get, AllByRecursion as ByRecursion}
use Rattle.std.proofs.Common.{refl, sym, ap, ◌∙◌, subst, arith, length, get_or, take, drop, length-drop}
use Rattle.std.proofs.lemmas.Option.{slice_get-get_or, slice_get_past}
use Rattle.std.proofs.lemmas.List.{take_all, map-append}
use Rattle.std.proofs.lemmas.List.Folds.{find_at}
use Rattle.std.proofs.lemmas.List.Elements.{recursion_from_All, All-nil, All-cons, All-head, All-tail}
use Rattle.affine_rows.specs.declared.row.Row.{Row}
use Rattle.affine_rows.specs.Rows.{IsRow, IsTerm}
use Rattle.affine_rows.specs.Reduced.{IsSomeRow, combination, reduced_row, fits_entry, fits_row}
use Rattle.affine_rows.proofs.Division.{reduced_IsRow}
use Rattle.affine_rows.proofs.Combining.{combination_IsRow, mixed_IsRow, fits_entry-is}
use Rattle.elimination.specs.Stages.{bounds_below, bounds_above, is_without, determines, substituted, pairs_of, paired_rows, cancelled_by, cancelled_rows, tightest_rows, stage_rows}
use Rattle.elimination.specs.Directions.{AreApart}
use Rattle.elimination.specs.Shadows.{Each}
use Rattle.elimination.proofs.Bounds.{Each-map}
use Rattle.elimination.proofs.Pairing.{Each-append, Each-parts, Each-both, filtered_to, filtered_from, flat_to, flat_from}
use Rattle.elimination.proofs.Substituting.{Each-mapped, Each-unmapped}
use Rattle.elimination.proofs.Covering.{staying-keeps}
use Rattle.elimination.proofs.Directions.{tightest-apart}
use Rattle.elimination.proofs.StageLaw.{found}

by_recursion : (P : Row → Type 0) (rows : List Row) → ByRecursion P rows → Each P rows
by_recursion P [] h = tt
by_recursion P (row ∷ rows) h = (h.0, by_recursion P rows h.1)

pub Each-from : (P : Row → Type 0) (rows : List Row) → All P rows → Each P rows
Each-from P rows h = by_recursion P rows (recursion_from_All P rows h)

pub All-from : (P : Row → Type 0) (rows : List Row) → Each P rows → All P rows
All-from P [] h = All-nil P
All-from P (row ∷ rows) h = All-cons P row rows h.0 (All-from P rows h.1)

abbrev Fits : Row → Type 0
Fits r = fits_row r ≡ true

and_parts : (a b : Bool) → (a && b) ≡ true → (a ≡ true) × (b ≡ true)
and_parts true b h = (refl, h)
and_parts false b h = absurd (let no : false ≡ true = h in cc)

all_fit : (rows : List Row) → list_all fits_row rows ≡ true → Each Fits rows
all_fit [] h = tt
all_fit (row ∷ rows) h = let parts = and_parts (fits_row row) (list_all fits_row rows) h in (parts.0, all_fit rows parts.1)

kept_are : (width var : ℕ) (rows : List Row) → Each (IsRow width) rows → Each (IsRow width) (map reduced_row (filter (is_without var) rows))
kept_are width var rows h = filtered_from (IsRow width) reduced_row (is_without var) rows (Each-map (IsRow width) (λ r. is_without var r ≡ true → IsRow width (reduced_row r)) rows (λ r is _. reduced_IsRow width r is) h)

pairs_are : (width var : ℕ) (rows : List Row) (lower : Row) → IsRow width lower → Each (IsRow width) rows → Each Fits (pairs_of var rows lower) → Each (IsRow width) (pairs_of var rows lower)
pairs_are width var rows lower is h fits =
    filtered_from (IsRow width) (λ upper. reduced_row (combination var lower upper)) (bounds_above var) rows
    (Each-both (IsRow width) (λ upper. bounds_above var upper ≡ true → Fits (reduced_row (combination var lower upper))) (λ upper. bounds_above var upper ≡ true → IsRow width (reduced_row (combination var lower upper))) rows
    (λ upper up f above. combination_IsRow width var lower upper (reduced_row (combination var lower upper)) refl (f above) is up) h
    (filtered_to Fits (λ upper. reduced_row (combination var lower upper)) (bounds_above var) rows fits))

all_pairs_are : (width var : ℕ) (rows : List Row) → Each (IsRow width) rows → Each Fits (flat_map (pairs_of var rows) (filter (bounds_below var) rows)) → Each (IsRow width) (flat_map (pairs_of var rows) (filter (bounds_below var) rows))
all_pairs_are width var rows h fits =
    flat_from (IsRow width) (pairs_of var rows) (bounds_below var) rows
    (Each-both (IsRow width) (λ lower. bounds_below var lower ≡ true → Each Fits (pairs_of var rows lower)) (λ lower. bounds_below var lower ≡ true → Each (IsRow width) (pairs_of var rows lower)) rows
    (λ lower low f below. pairs_are width var rows lower low h (f below)) h
    (flat_to Fits (pairs_of var rows) (bounds_below var) rows fits))

substituted_is : (width var : ℕ) (e r : Row) → IsRow width e → IsRow width r → Fits (reduced_row (substituted var e r)) → IsRow width (reduced_row (substituted var e r))
unfolding substituted
substituted_is width var e r he hr fits = mixed_IsRow width _ r _ e hr he fits

cancelled_are : (width var : ℕ) (rows : List Row) (first : Option Row) → find (determines var) rows ≡ first → Each (IsRow width) rows → Each Fits (cancelled_by var rows first) → Each (IsRow width) (cancelled_by var rows first)
unfolding cancelled_by paired_rows
cancelled_are width var rows None e h fits =
    let parts = Each-parts Fits (map reduced_row (filter (is_without var) rows)) (flat_map (pairs_of var rows) (filter (bounds_below var) rows)) fits in
    Each-append (IsRow width) (map reduced_row (filter (is_without var) rows)) (flat_map (pairs_of var rows) (filter (bounds_below var) rows)) (kept_are width var rows h) (all_pairs_are width var rows h parts.1)
cancelled_are width var rows (Some e) is h fits =
    let at = found (determines var) rows e is in
    let before : List Row = before_first (determines var) rows in
    let after : List Row = after_first (determines var) rows in
    let parts = Each-parts (IsRow width) before (e ∷ after) (subst (Each (IsRow width)) at.split h) in
    Each-mapped (IsRow width) (λ r. reduced_row (substituted var e r)) (before ++ after)
    (Each-both (IsRow width) (λ r. Fits (reduced_row (substituted var e r))) (λ r. IsRow width (reduced_row (substituted var e r))) (before ++ after)
    (λ r hr f. substituted_is width var e r parts.1.0 hr f)
    (Each-append (IsRow width) before after parts.0 parts.1.1)
    (Each-unmapped Fits (λ r. reduced_row (substituted var e r)) (before ++ after) fits))

pub tightest-keeps : (P : Row → Type 0) (rows : List Row) → Each P rows → Each P (tightest_rows rows)
unfolding tightest_rows
tightest-keeps P rows h = staying-keeps P [] rows h

pub stage_are : (width var : ℕ) (rows : List Row) → All (IsRow width) rows → list_all fits_row (cancelled_rows var rows) ≡ true → All (IsRow width) (stage_rows var rows)
unfolding stage_rows cancelled_rows
stage_are width var rows h fits =
    All-from (IsRow width) (tightest_rows (cancelled_by var rows (find (determines var) rows)))
    (tightest-keeps (IsRow width) (cancelled_by var rows (find (determines var) rows))
    (cancelled_are width var rows (find (determines var) rows) refl (Each-from (IsRow width) rows h) (all_fit (cancelled_by var rows (find (determines var) rows)) fits)))

pub stage_apart : (width var : ℕ) (rows : List Row) → All (IsRow width) rows → list_all fits_row (cancelled_rows var rows) ≡ true → AreApart (stage_rows var rows)
unfolding stage_rows cancelled_rows
stage_apart width var rows h fits =
    let made : List Row = cancelled_by var rows (find (determines var) rows) in
    tightest-apart made (Each-map (IsRow width) IsSomeRow made (λ r is. (width, is)) (cancelled_are width var rows (find (determines var) rows) refl (Each-from (IsRow width) rows h) (all_fit made fits)))

-- ---- as the code makes them

terms_fit : (width : ℕ) (ts : List (ℕ × ℤ)) → All (IsTerm width) ts → list_all (λ t. fits_entry t.1) ts ≡ true
terms_fit width [] all = refl
terms_fit width (t ∷ ts) all =
    let here : IsTerm width t = All-head (IsTerm width) t ts all in
    ap (λ (b : Bool). b && list_all (λ t. fits_entry t.1) ts) (sym (fits_entry-is t.1 here.entry)) ∙ terms_fit width ts (All-tail (IsTerm width) t ts all)

row_fits : (width : ℕ) (r : Row) → IsRow width r → fits_row r ≡ true
unfolding fits_row
row_fits width r is = ap (λ (b : Bool). b && list_all (λ t. fits_entry t.1) r.terms) (sym (fits_entry-is r.constant is.constant)) ∙ terms_fit width r.terms is.terms

fit_step : (r : Row) (rows : List Row) (test : Bool) → IsSomeRow r → list_all fits_row (map reduced_row rows) ≡ true → list_all fits_row (map reduced_row (cond test (r ∷ rows) rows)) ≡ true
fit_step r rows true is h = ap (λ (b : Bool). b && list_all fits_row (map reduced_row rows)) (row_fits is.0 (reduced_row r) (reduced_IsRow is.0 r is.1)) ∙ h
fit_step r rows false is h = h

kept_each : (var : ℕ) (rows : List Row) → Each IsSomeRow rows → list_all fits_row (map reduced_row (filter (is_without var) rows)) ≡ true
kept_each var [] h = refl
kept_each var (r ∷ rows) h = fit_step r (filter (is_without var) rows) (is_without var r) h.0 (kept_each var rows h.1)

pub kept_fit : (var : ℕ) (rows : List Row) → All IsSomeRow rows → list_all fits_row (map reduced_row (filter (is_without var) rows)) ≡ true
kept_fit var rows h = kept_each var rows (Each-from IsSomeRow rows h)

pub paired_made : (var : ℕ) (rows one two : List Row) (at : ℕ) → at ≡ position_or_len (determines var) rows → length rows ≤ at → one ≡ [] ++ map reduced_row (filter (is_without var) rows) → two ≡ one ++ flat_map (pairs_of var rows) (filter (bounds_below var) rows) → two ≡ cancelled_rows var rows
unfolding cancelled_rows cancelled_by paired_rows
paired_made var rows one two at is past h k =
    let none : find (determines var) rows ≡ None = find_at (determines var) rows ∙ slice_get_past rows (position_or_len (determines var) rows) (omega arith) in
    k ∙ (ap (λ (xs : List Row). xs ++ flat_map (pairs_of var rows) (filter (bounds_below var) rows)) h ∙ ap (cancelled_by var rows) (sym none))

pub substituted_made : (var : ℕ) (rows one two : List Row) (at : ℕ) (e : Row) → at ≡ position_or_len (determines var) rows → at < length rows → e ≡ get_or rows at e →
    one ≡ [] ++ map (λ r. reduced_row (substituted var e r)) (take at rows) → two ≡ one ++ map (λ r. reduced_row (substituted var e r)) (take (length rows - (at + 1)) (drop (at + 1) rows)) → two ≡ cancelled_rows var rows
unfolding cancelled_rows cancelled_by
substituted_made var rows one two at e is within item h k =
    let f = λ (r : Row). reduced_row (substituted var e r) in
    let first : find (determines var) rows ≡ Some e = find_at (determines var) rows ∙ (ap (slice_get rows) (sym is) ∙ (slice_get-get_or rows at e within ∙ ap (λ (r : Row). Some r) (sym item))) in
    let rest : take (length rows - (at + 1)) (drop (at + 1) rows) ≡ drop (at + 1) rows = take_all (length rows - (at + 1)) (drop (at + 1) rows) (omega (arith, length-drop (at + 1) rows)) in
    k ∙ (ap (λ (xs : List Row). xs ++ map f (take (length rows - (at + 1)) (drop (at + 1) rows))) h
    ∙ (ap (λ (xs : List Row). map f (take at rows) ++ map f xs) rest
    ∙ (ap (λ (n : ℕ). map f (take n rows) ++ map f (drop (n + 1) rows)) is
    ∙ (sym (map-append f (before_first (determines var) rows) (after_first (determines var) rows)) ∙ ap (cancelled_by var rows) (sym first)))))

pub stage_made : (var : ℕ) (rows made kept list : List Row) → made ≡ cancelled_rows var rows → kept ≡ tightest_rows made → list ≡ kept → list ≡ stage_rows var rows
unfolding stage_rows
stage_made var rows made kept list h k l = l ∙ (k ∙ ap tightest_rows h)

pub some_rows : (width : ℕ) (rows slice : List Row) → slice ≡ rows → All (IsRow width) rows → All IsSomeRow slice
some_rows width rows slice same h = subst (All IsSomeRow) (sym same) (λ k d within. (width, h k d within))
