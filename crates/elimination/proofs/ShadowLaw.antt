-- The rows after several variables are cancelled.
use Rattle.std.specs.Prelude.{◌≡◌, ◌↔◌, ℕ, zero, suc, ◌+◌, ◌-◌, ◌*◌, ◌<◌, List, [], ◌∷◌, Bool, true, false, cond, map, filter, All}
use Rattle.std.proofs.Common.{sym, ap, ◌∙◌, subst, arith}
use Rattle.affine_rows.specs.declared.row.Row.{Row}
use Rattle.affine_rows.specs.Rows.{Env, IsRow}
use Rattle.affine_rows.specs.Reduced.{HoldsOver, reduced_row}
use Rattle.affine_rows.proofs.Division.{reduced_holds, reduced_IsRow}
use Rattle.elimination.specs.Stages.{stage_rows, variables, is_cancelled, cancelled_from, shadow_rows}
use Rattle.elimination.specs.Shadows.{AllHold, HasPoints, AreShadow, moved}
use Rattle.elimination.proofs.Bounds.{Each-map}
use Rattle.elimination.proofs.Substituting.{Each-mapped, Each-unmapped}
use Rattle.elimination.proofs.StageLaw.{stage_IsShadow}
use Rattle.elimination.proofs.StageRows.{Each-from, All-from}

scaled_positive : (k over : ℕ) → 0 < k → 0 < over → 0 < k * over
scaled_positive zero over h p = absurd (omega arith)
scaled_positive (suc k) over h p = omega arith

pub shadow_AreShadow : (vs : List ℕ) (rows : List Row) → AreShadow vs rows (shadow_rows vs rows)
unfolding shadow_rows
shadow_AreShadow [] rows over at positive = ((λ h. h), (λ h. h))
shadow_AreShadow (v ∷ vs) rows over at positive =
    let stage = stage_IsShadow v (shadow_rows vs rows) over at positive in (
      (λ has. stage.0 (has.0, has.1, has.2, (shadow_AreShadow vs rows (has.0 * over) (moved has.0 v has.1 at) (scaled_positive has.0 over has.2 positive)).0 has.3)),
      (λ holds. let has = stage.1 holds in (has.0, has.1, has.2, (shadow_AreShadow vs rows (has.0 * over) (moved has.0 v has.1 at) (scaled_positive has.0 over has.2 positive)).1 has.3)),
    )

-- ---- rows that are reduced first

pub reduced_rows-hold : (rows : List Row) (over : ℕ) (at : Env) → AllHold over at (map reduced_row rows) ↔ AllHold over at rows
reduced_rows-hold rows over at = (
  (λ h. Each-map (λ r. HoldsOver over at (reduced_row r)) (HoldsOver over at) rows (λ r k. (reduced_holds r over at).0 k) (Each-unmapped (HoldsOver over at) reduced_row rows h)),
  (λ h. Each-mapped (HoldsOver over at) reduced_row rows (Each-map (HoldsOver over at) (λ r. HoldsOver over at (reduced_row r)) rows (λ r k. (reduced_holds r over at).1 k) h)),
)

HasPoints-reduced : (vs : List ℕ) (rows : List Row) (over : ℕ) (at : Env) → HasPoints vs (map reduced_row rows) over at ↔ HasPoints vs rows over at
HasPoints-reduced [] rows over at = reduced_rows-hold rows over at
HasPoints-reduced (v ∷ vs) rows over at = (
  (λ h. (h.0, h.1, h.2, (HasPoints-reduced vs rows (h.0 * over) (moved h.0 v h.1 at)).0 h.3)),
  (λ h. (h.0, h.1, h.2, (HasPoints-reduced vs rows (h.0 * over) (moved h.0 v h.1 at)).1 h.3)),
)

pub reduced_AreShadow : (vs : List ℕ) (rows shadow : List Row) → shadow ≡ shadow_rows vs (map reduced_row rows) → AreShadow vs rows shadow
reduced_AreShadow vs rows shadow is over at positive =
    let all = shadow_AreShadow vs (map reduced_row rows) over at positive in
    let same = HasPoints-reduced vs rows over at in
    subst (λ (xs : List Row). HasPoints vs rows over at ↔ AllHold over at xs) (sym is) ((λ h. all.0 (same.1 h)), (λ h. same.0 (all.1 h)))

pub reduced_are : (width : ℕ) (rows : List Row) → All (IsRow width) rows → All (IsRow width) (map reduced_row rows)
reduced_are width rows h = All-from (IsRow width) (map reduced_row rows) (Each-mapped (IsRow width) reduced_row rows (Each-map (IsRow width) (λ r. IsRow width (reduced_row r)) rows (λ r is. reduced_IsRow width r is) (Each-from (IsRow width) rows h)))

-- ---- one variable more

pub none_yet : (keep : List ℕ) (width : ℕ) → cancelled_from keep width width ≡ []
unfolding cancelled_from
none_yet keep width = ap (λ (n : ℕ). filter (is_cancelled keep) (variables n width)) (let e : width - width ≡ zero = omega arith in e)

pub begin : (keep : List ℕ) (width : ℕ) (rows made : List Row) → made ≡ rows → made ≡ shadow_rows (cancelled_from keep width width) rows
unfolding shadow_rows
begin keep width rows made h = h ∙ ap (λ (vs : List ℕ). shadow_rows vs rows) (sym (none_yet keep width))

pub from_next : (keep : List ℕ) (v width : ℕ) (test : Bool) → v < width → is_cancelled keep v ≡ test → cancelled_from keep v width ≡ cond test (v ∷ cancelled_from keep (v + 1) width) (cancelled_from keep (v + 1) width)
unfolding cancelled_from
from_next keep v width test below e =
    ap (λ (n : ℕ). filter (is_cancelled keep) (variables n v)) (let s : width - v ≡ suc (width - (v + 1)) = omega arith in s)
    ∙ ap (λ (b : Bool). cond b (v ∷ filter (is_cancelled keep) (variables (width - (v + 1)) (v + 1))) (filter (is_cancelled keep) (variables (width - (v + 1)) (v + 1)))) e

pub cancels : (keep : List ℕ) (v next width : ℕ) (rows made new : List Row) → v < width → next ≡ v + 1 → is_cancelled keep v ≡ true → made ≡ shadow_rows (cancelled_from keep next width) rows → new ≡ stage_rows v made → new ≡ shadow_rows (cancelled_from keep v width) rows
unfolding shadow_rows
cancels keep v next width rows made new below n e h k =
    k ∙ (ap (stage_rows v) (h ∙ ap (λ (m : ℕ). shadow_rows (cancelled_from keep m width) rows) n) ∙ ap (λ (vs : List ℕ). shadow_rows vs rows) (sym (from_next keep v width true below e)))

pub keeps : (keep : List ℕ) (v next width : ℕ) (rows made : List Row) → v < width → next ≡ v + 1 → is_cancelled keep v ≡ false → made ≡ shadow_rows (cancelled_from keep next width) rows → made ≡ shadow_rows (cancelled_from keep v width) rows
keeps keep v next width rows made below n e h =
    h ∙ (ap (λ (m : ℕ). shadow_rows (cancelled_from keep m width) rows) n ∙ ap (λ (vs : List ℕ). shadow_rows vs rows) (sym (from_next keep v width false below e)))
