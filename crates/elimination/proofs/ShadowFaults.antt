-- The stages of several variables, and the first that is refused.
use Rattle.std.specs.Prelude.{◌≡◌, ℕ, ◌+◌, ◌<◌, ◌≤◌, List, true, false, length}
use Rattle.std.specs.List.{list_all}
use Rattle.std.proofs.Common.{sym, ap, ◌∙◌, subst, arith}
use Rattle.affine_rows.specs.declared.row.Row.{Row}
use Rattle.affine_rows.specs.Reduced.{fits_row}
use Rattle.elimination.specs.declared.fault.SetFault.{SetFault}
use Rattle.elimination.specs.Stages.{is_cancelled, cancelled_from, cancelled_rows, shadow_rows}
use Rattle.elimination.specs.Refusals.{AreWithin, IsStopped, IsStageFault}
use Rattle.elimination.proofs.ShadowLaw.{from_next, none_yet}

pub begin_within : (keep : List ℕ) (width : ℕ) (rows : List Row) → AreWithin (cancelled_from keep width width) rows
begin_within keep width rows = subst (λ (vs : List ℕ). AreWithin vs rows) (sym (none_yet keep width)) tt

pub begin_count : (keep : List ℕ) (width : ℕ) → 0 ≡ length (cancelled_from keep width width)
begin_count keep width = sym (ap length (none_yet keep width))

next_same : (keep : List ℕ) (next other width : ℕ) → next ≡ other → cancelled_from keep next width ≡ cancelled_from keep other width
next_same keep next other width e = ap (λ (n : ℕ). cancelled_from keep n width) e

pub cancel_within : (keep : List ℕ) (v next width : ℕ) (rows made : List Row) → v < width → next ≡ v + 1 → is_cancelled keep v ≡ true → made ≡ shadow_rows (cancelled_from keep next width) rows → AreWithin (cancelled_from keep next width) rows →
    length (cancelled_rows v made) ≤ 65536 → list_all fits_row (cancelled_rows v made) ≡ true → AreWithin (cancelled_from keep v width) rows
cancel_within keep v next width rows made below n e is within few fits =
    let same = next_same keep next (v + 1) width n in
    let stage : made ≡ shadow_rows (cancelled_from keep (v + 1) width) rows = is ∙ ap (λ (vs : List ℕ). shadow_rows vs rows) same in
    subst (λ (vs : List ℕ). AreWithin vs rows) (sym (from_next keep v width true below e))
    (subst (λ (vs : List ℕ). AreWithin vs rows) same within, subst (λ (xs : List Row). length (cancelled_rows v xs) ≤ 65536) stage few, subst (λ (xs : List Row). list_all fits_row (cancelled_rows v xs) ≡ true) stage fits)

pub keep_within : (keep : List ℕ) (v next width : ℕ) (rows : List Row) → v < width → next ≡ v + 1 → is_cancelled keep v ≡ false → AreWithin (cancelled_from keep next width) rows → AreWithin (cancelled_from keep v width) rows
keep_within keep v next width rows below n e within =
    subst (λ (vs : List ℕ). AreWithin vs rows) (next_same keep next (v + 1) width n ∙ sym (from_next keep v width false below e)) within

pub cancel_count : (keep : List ℕ) (v next width number : ℕ) → v < width → next ≡ v + 1 → is_cancelled keep v ≡ true → number ≡ length (cancelled_from keep next width) → number + 1 ≡ length (cancelled_from keep v width)
cancel_count keep v next width number below n e is =
    let a = ap length (next_same keep next (v + 1) width n) in
    let b = ap length (from_next keep v width true below e) in
    omega (arith, a, b)

pub keep_count : (keep : List ℕ) (v next width number : ℕ) → v < width → next ≡ v + 1 → is_cancelled keep v ≡ false → number ≡ length (cancelled_from keep next width) → number ≡ length (cancelled_from keep v width)
keep_count keep v next width number below n e is = is ∙ ap length (next_same keep next (v + 1) width n ∙ sym (from_next keep v width false below e))

pub stopped : (keep : List ℕ) (v next width number : ℕ) (rows made : List Row) (fault : SetFault) → v < width → next ≡ v + 1 → is_cancelled keep v ≡ true → made ≡ shadow_rows (cancelled_from keep next width) rows → AreWithin (cancelled_from keep next width) rows →
    number ≡ length (cancelled_from keep next width) → IsStageFault (number + 1) (cancelled_rows v made) fault → IsStopped keep width rows fault
stopped keep v next width number rows made fault below n e is within count h =
    let same = next_same keep next (v + 1) width n in
    record {
      var = v;
      below = below;
      cancelled = e;
      within = subst (λ (vs : List ℕ). AreWithin vs rows) same within;
      stage = subst (λ (m : ℕ). IsStageFault (m + 1) (cancelled_rows v (shadow_rows (cancelled_from keep (v + 1) width) rows)) fault) (count ∙ ap length same)
          (subst (λ (xs : List Row). IsStageFault (number + 1) (cancelled_rows v xs) fault) (is ∙ ap (λ (vs : List ℕ). shadow_rows vs rows) same) h);
    }
