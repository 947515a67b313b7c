-- How many rows a stage has before any is dropped.
use Rattle.std.specs.Prelude.{◌≡◌, ℕ, ◌+◌, ◌*◌, ◌<◌, ◌≤◌, List, [], ◌∷◌, ◌++◌, Option, Some, None, map, filter, flat_map, count_by, length}
use Rattle.std.specs.List.{find, before_first, after_first, position_or_len}
use Rattle.std.proofs.Common.{sym, ap, ◌∙◌, arith, get_or, length-append}
use Rattle.std.proofs.lemmas.List.{length-map}
use Rattle.std.proofs.lemmas.List.Sums.{length-filter, split_at_first}
use Rattle.std.proofs.lemmas.List.Folds.{find_at}
use Rattle.std.proofs.lemmas.Option.{slice_get-get_or, slice_get_past}
use Rattle.affine_rows.specs.declared.row.Row.{Row}
use Rattle.affine_rows.specs.Reduced.{reduced_row, combination}
use Rattle.elimination.specs.Stages.{bounds_below, bounds_above, is_without, determines, substituted, pairs_of, paired_rows, cancelled_by, cancelled_rows}

length-pairs : (var : ℕ) (rows : List Row) (lower : Row) → length (pairs_of var rows lower) ≡ count_by (bounds_above var) rows
length-pairs var rows lower = length-map (filter (bounds_above var) rows) (λ upper. reduced_row (combination var lower upper)) ∙ length-filter (bounds_above var) rows

length-flat : (var : ℕ) (rows lowers : List Row) → length (flat_map (pairs_of var rows) lowers) ≡ length lowers * count_by (bounds_above var) rows
length-flat var rows [] = omega arith
length-flat var rows (lower ∷ lowers) = omega (arith, length-append (pairs_of var rows lower) (flat_map (pairs_of var rows) lowers), length-pairs var rows lower, length-flat var rows lowers)

length-paired : (var : ℕ) (rows : List Row) → length (paired_rows var rows) ≡ count_by (is_without var) rows + count_by (bounds_below var) rows * count_by (bounds_above var) rows
unfolding paired_rows
length-paired var rows =
    length-append (map reduced_row (filter (is_without var) rows)) (flat_map (pairs_of var rows) (filter (bounds_below var) rows))
    ∙ (ap (λ (n : ℕ). n + length (flat_map (pairs_of var rows) (filter (bounds_below var) rows))) (length-map (filter (is_without var) rows) reduced_row ∙ length-filter (is_without var) rows)
    ∙ ap (λ (n : ℕ). count_by (is_without var) rows + n) (length-flat var rows (filter (bounds_below var) rows) ∙ ap (λ (n : ℕ). n * count_by (bounds_above var) rows) (length-filter (bounds_below var) rows)))

-- without an equality that has the variable
pub paired_count : (var : ℕ) (rows : List Row) (at : ℕ) → at ≡ position_or_len (determines var) rows → length rows ≤ at →
    count_by (is_without var) rows + count_by (bounds_below var) rows * count_by (bounds_above var) rows ≡ length (cancelled_rows var rows)
unfolding cancelled_rows cancelled_by
paired_count var rows at is past =
    let none : find (determines var) rows ≡ None = find_at (determines var) rows ∙ slice_get_past rows (position_or_len (determines var) rows) (omega arith) in
    sym (length-paired var rows) ∙ ap (λ (o : Option Row). length (cancelled_by var rows o)) (sym none)

-- and with one
some_count : (var : ℕ) (rows : List Row) (e : Row) → position_or_len (determines var) rows < length rows → length (map (λ r. reduced_row (substituted var e r)) (before_first (determines var) rows ++ after_first (determines var) rows)) + 1 ≡ length rows
some_count var rows e within =
    let split = split_at_first (determines var) rows e within in
    omega (
      arith,
      length-map (before_first (determines var) rows ++ after_first (determines var) rows) (λ r. reduced_row (substituted var e r)),
      length-append (before_first (determines var) rows) (after_first (determines var) rows),
      ap length split,
      length-append (before_first (determines var) rows) (get_or rows (position_or_len (determines var) rows) e ∷ after_first (determines var) rows),
    )

pub substituted_count : (var : ℕ) (rows : List Row) (at : ℕ) → at ≡ position_or_len (determines var) rows → at < length rows → length (cancelled_rows var rows) + 1 ≡ length rows
unfolding cancelled_rows cancelled_by
substituted_count var [] at is within = absurd (omega arith)
substituted_count var (row ∷ rows) at is within =
    let inside : position_or_len (determines var) (row ∷ rows) < length (row ∷ rows) = omega arith in
    let first : find (determines var) (row ∷ rows) ≡ Some (get_or (row ∷ rows) (position_or_len (determines var) (row ∷ rows)) row) = find_at (determines var) (row ∷ rows) ∙ slice_get-get_or (row ∷ rows) (position_or_len (determines var) (row ∷ rows)) row inside in
    ap (λ (o : Option Row). length (cancelled_by var (row ∷ rows) o) + 1) first ∙ some_count var (row ∷ rows) (get_or (row ∷ rows) (position_or_len (determines var) (row ∷ rows)) row) inside
