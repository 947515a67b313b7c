-- Faults of the parts of a stage, as faults of the stage.
use Rattle.std.specs.Prelude.{◌≡◌, ℕ, ◌+◌, ◌-◌, ◌<◌, ◌≤◌, List, [], ◌++◌, true, map, filter, flat_map, length, All}
use Rattle.std.specs.List.{list_all, position_or_len}
use Rattle.std.proofs.Common.{refl, sym, ap, ◌∙◌, arith, get_or, take, drop}
use Rattle.std.proofs.lemmas.List.{append-nil}
use Rattle.affine_rows.specs.declared.row.Row.{Row}
use Rattle.affine_rows.specs.Reduced.{IsSomeRow, reduced_row, fits_row}
use Rattle.elimination.specs.declared.fault.SetFault.{SetFault}
use Rattle.elimination.specs.Stages.{bounds_below, is_without, determines, substituted, pairs_of, cancelled_rows}
use Rattle.elimination.specs.Refusals.{IsRowFault}
use Rattle.elimination.proofs.Refusing.{later}
use Rattle.elimination.proofs.StageRows.{kept_fit, paired_made, substituted_made}

last_part : (number now : ℕ) (xs ys all : List Row) (fault : SetFault) → all ≡ xs ++ ys → list_all fits_row xs ≡ true → now ≡ length xs → IsRowFault number now ys fault → IsRowFault number 0 all fault
last_part number now xs ys all fault same fit n h =
    later number 0 now xs ys [] all fault (same ∙ ap (λ (zs : List Row). xs ++ zs) (sym (append-nil ys))) fit (omega arith) h

first_part : (number now : ℕ) (ys zs all : List Row) (fault : SetFault) → all ≡ ys ++ zs → now ≡ 0 → IsRowFault number now ys fault → IsRowFault number 0 all fault
first_part number now ys zs all fault same n h = later number 0 now [] ys zs all fault same refl (omega arith) h

pub substituted_first : (number var at : ℕ) (rows old : List Row) (e : Row) (fault : SetFault) → at ≡ position_or_len (determines var) rows → at < length rows → e ≡ get_or rows at e → old ≡ [] →
    IsRowFault number (length old) (map (λ r. reduced_row (substituted var e r)) (take at rows)) fault → IsRowFault number 0 (cancelled_rows var rows) fault
substituted_first number var at rows old e fault is within item none h =
    let f = λ (r : Row). reduced_row (substituted var e r) in
    let rest : List Row = map f (take (length rows - (at + 1)) (drop (at + 1) rows)) in
    first_part number (length old) (map f (take at rows)) rest (cancelled_rows var rows) fault (sym (substituted_made var rows (map f (take at rows)) (map f (take at rows) ++ rest) at e is within item refl refl)) (ap length none) h

pub substituted_second : (number var at : ℕ) (rows old one : List Row) (e : Row) (fault : SetFault) → at ≡ position_or_len (determines var) rows → at < length rows → e ≡ get_or rows at e → old ≡ [] →
    one ≡ old ++ map (λ r. reduced_row (substituted var e r)) (take at rows) → list_all fits_row (map (λ r. reduced_row (substituted var e r)) (take at rows)) ≡ true →
    IsRowFault number (length one) (map (λ r. reduced_row (substituted var e r)) (take (length rows - (at + 1)) (drop (at + 1) rows))) fault → IsRowFault number 0 (cancelled_rows var rows) fault
substituted_second number var at rows old one e fault is within item none made fit h =
    let f = λ (r : Row). reduced_row (substituted var e r) in
    let rest : List Row = map f (take (length rows - (at + 1)) (drop (at + 1) rows)) in
    last_part number (length one) (map f (take at rows)) rest (cancelled_rows var rows) fault (sym (substituted_made var rows (map f (take at rows)) (map f (take at rows) ++ rest) at e is within item refl refl)) fit
    (ap length (made ∙ ap (λ (xs : List Row). xs ++ map f (take at rows)) none)) h

pub paired_fault : (number var at : ℕ) (rows old one : List Row) (fault : SetFault) → at ≡ position_or_len (determines var) rows → length rows ≤ at → All IsSomeRow rows → old ≡ [] → one ≡ old ++ map reduced_row (filter (is_without var) rows) →
    IsRowFault number (length one) (flat_map (pairs_of var rows) (filter (bounds_below var) rows)) fault → IsRowFault number 0 (cancelled_rows var rows) fault
paired_fault number var at rows old one fault is past all none made h =
    let kept : List Row = map reduced_row (filter (is_without var) rows) in
    let pairs : List Row = flat_map (pairs_of var rows) (filter (bounds_below var) rows) in
    last_part number (length one) kept pairs (cancelled_rows var rows) fault (sym (paired_made var rows kept (kept ++ pairs) at is past refl refl)) (kept_fit var rows all) (ap length (made ∙ ap (λ (xs : List Row). xs ++ kept) none)) h
