-- All stages of a system, and the point that is chosen by them.
use Rattle.std.specs.Prelude.{◌≡◌, ◌⊎◌, ℕ, zero, suc, ◌+◌, ◌-◌, ◌*◌, ◌^◌, ◌<◌, ◌≤◌, ℤ, pos, ◌*ℤ◌, ◌<ℤ◌, List, [], ◌∷◌, ◌++◌, Bool, true, false, cond, nat_eq, map, filter, length, replicate, unsigned_abs, All}
use Rattle.std.proofs.Common.{inl, inr, refl, sym, ap, ◌∙◌, subst, arith, get_or, add-one, length-append}
use Rattle.std.proofs.lemmas.Bool.Decides.{nat_tests}
use Rattle.std.proofs.Math.Nat.{one-dvd}
use Rattle.std.proofs.Math.Seq.{get_or-append_seam}
use Rattle.std.proofs.lemmas.List.{get_or_append_left, length-replicate}
use Rattle.std.proofs.lemmas.Int.{ints}
use Rattle.wrap_words.proofs.Ring.{pos_assoc}
use Rattle.affine_rows.specs.declared.point.Point.{Point}
use Rattle.affine_rows.specs.declared.row.Row.{Row}
use Rattle.affine_rows.specs.declared.row.System.{System}
use Rattle.affine_rows.specs.Rows.{Env, env_of, IsRow}
use Rattle.affine_rows.specs.Reduced.{reduced_row}
use Rattle.elimination.specs.declared.fault.SetFault.{SetFault}
use Rattle.elimination.specs.declared.fault.SetFault.TheVariants.{OutOfMemory, TooManyRows, TooWide}
use Rattle.elimination.specs.Stages.{IsSystem, cancelled_from, is_cancelled, shadow_rows, stage_rows, variables}
use Rattle.elimination.specs.Shadows.{AllHold, HasPoint, HasPoints, moved}
use Rattle.elimination.specs.Points.{HasNone, HoldAt, IsChosen, IsNext, IsNextFault, IsPointFault, IsPointOf, IsSmall, origin, over_of}
use Rattle.elimination.specs.Finding.{AreStages, IsFixed, IsStage}
use Rattle.elimination.proofs.Quotients.{product_above}
use Rattle.elimination.proofs.NextPoint.{alike_hold}
use Rattle.std.proofs.lemmas.List.{get_or_default}
use Rattle.elimination.proofs.ShadowLaw.{cancels, from_next, none_yet, reduced_are, reduced_rows-hold, shadow_AreShadow}
use Rattle.elimination.proofs.StageLaw.{stage_IsShadow}

-- ---- the list of all stages

item_of : (width : ℕ) (rows : List Row) (s : System) (stages : List System) (v : ℕ) (i : ℕ) (d : System) → length stages + (v + 1) ≡ width + 1 → IsStage width rows v s → ((i : ℕ) (d : System) → i < length stages → IsStage width rows (width - i) (get_or stages i d)) → i < length (stages ++ s ∷ []) → (i < length stages) ⊎ (i ≡ length stages) → IsStage width rows (width - i) (get_or (stages ++ s ∷ []) i d)
item_of width rows s stages v i d count is each within (inl below) = subst (IsStage width rows (width - i)) (sym (get_or_append_left stages (s ∷ []) d i below)) (each i d below)
item_of width rows s stages v i d count is each within (inr same) =
    let at : get_or (stages ++ s ∷ []) i d ≡ s = ap (λ (n : ℕ). get_or (stages ++ s ∷ []) n d) same ∙ get_or-append_seam stages s [] d in
    let here : v ≡ width - i = omega arith in
    subst (λ (n : ℕ). IsStage width rows n (get_or (stages ++ s ∷ []) i d)) here (subst (IsStage width rows v) (sym at) is)

below_or_same : (i n : ℕ) → i < n + 1 → (i < n) ⊎ (i ≡ n)
below_or_same i n h =
    elim (nat_eq i n) as (λ (b : Bool). nat_eq i n ≡ b → (i < n) ⊎ (i ≡ n)) [
      | true ↦ (λ same. inr (grind (arith, nat_tests, same)))
      | false ↦ (λ apart. inl (grind (arith, nat_tests, apart)))
    ] refl

pub stages_more : (width : ℕ) (rows : List Row) (v next : ℕ) (s : System) (stages new : List System) → next ≡ v + 1 → AreStages width rows next stages → IsStage width rows v s → new ≡ stages ++ s ∷ [] → AreStages width rows v new
stages_more width rows v next s stages new hn are is made =
    let count : length stages + (v + 1) ≡ width + 1 = omega (arith, are.count, hn) in
    subst (AreStages width rows v) (sym made)
    (record {
      count = omega (arith, length-append stages (s ∷ []), count);
      each = (λ i d within. item_of width rows s stages v i d count is are.each within (below_or_same i (length stages) (omega (arith, within, length-append stages (s ∷ [])))));
    })

pub stages_begin : (width : ℕ) (rows : List Row) (s : System) (empty new : List System) → empty ≡ [] → IsSystem s → s.width ≡ width → s.rows ≡ rows → new ≡ empty ++ s ∷ [] → AreStages width rows width new
unfolding shadow_rows
stages_begin width rows s empty new none is same rows_same made =
    subst (AreStages width rows width) (sym (made ∙ ap (λ (xs : List System). xs ++ s ∷ []) none))
    (record {
      count = omega arith;
      each = (λ i d within.
          let first : i ≡ 0 = omega (arith, within) in
          let whole : width ≡ width - i = omega (arith, first) in
          let here : IsStage width rows width s = record { same = same; system = is; is = rows_same ∙ ap (λ (vs : List ℕ). shadow_rows vs rows) (sym (none_yet [] width)) } in
          subst (λ (n : ℕ). IsStage width rows (width - i) (get_or (s ∷ []) n d)) (sym first) (subst (λ (n : ℕ). IsStage width rows n s) whole here));
    })

pub stage_at : (width : ℕ) (rows : List Row) (next : ℕ) (stages : List System) (i v : ℕ) (s d : System) → AreStages width rows next stages → i < length stages → s ≡ get_or stages i d → width - i ≡ v → IsStage width rows v s
stage_at width rows next stages i v s d are within is same = subst (λ (n : ℕ). IsStage width rows n s) same (subst (IsStage width rows (width - i)) (sym is) (are.each i d within))

pub stage_next : (width : ℕ) (rows : List Row) (v next : ℕ) (made new : System) → v < width → next ≡ v + 1 → IsStage width rows next made → new.width ≡ made.width → IsSystem new → new.rows ≡ stage_rows v made.rows → IsStage width rows v new
stage_next width rows v next made new below hn is same system stage = record {
  same = same ∙ is.same;
  system = system;
  is = cancels [] v next width rows made.rows new.rows below hn refl is.is stage;
}

pub stage_rows_are : (width : ℕ) (rows : List Row) (v : ℕ) (s : System) (p : Point) → IsStage width rows v s → length p.at ≡ width → All (IsRow (length p.at)) s.rows
stage_rows_are width rows v s p is long = subst (λ (n : ℕ). All (IsRow n) s.rows) (is.same ∙ sym long) is.system.rows

-- ---- a variable has a number where the stage holds

next_rows : (width : ℕ) (rows : List Row) (v : ℕ) → v < width → shadow_rows (cancelled_from [] v width) rows ≡ stage_rows v (shadow_rows (cancelled_from [] (v + 1) width) rows)
unfolding shadow_rows
next_rows width rows v below = ap (λ (vs : List ℕ). shadow_rows vs rows) (from_next [] v width true below refl)

pub stage_has : (width : ℕ) (rows : List Row) (v : ℕ) (s : System) (p : Point) → v < width → IsStage width rows (v + 1) s → pos 0 <ℤ p.over → HoldAt (shadow_rows (cancelled_from [] v width) rows) p → HasPoint v s.rows (over_of p) (env_of p.at)
stage_has width rows v s p below is positive holds =
    subst (λ (xs : List Row). HasPoint v xs (over_of p) (env_of p.at)) (sym is.is)
    ((stage_IsShadow v (shadow_rows (cancelled_from [] (v + 1) width) rows) (over_of p) (env_of p.at) (omega (arith, ints, positive))).1
    (subst (λ (xs : List Row). HoldAt xs p) (next_rows width rows v below) holds))

pub chosen_more : (width : ℕ) (rows : List Row) (v : ℕ) (s : System) (old new : Point) → IsStage width rows (v + 1) s → IsChosen width rows v old → IsNext s.rows v old new → IsChosen width rows (v + 1) new
chosen_more width rows v s old new is chosen next =
    rw add-one (old, chosen, subst (λ (xs : List Row). IsNext xs v old new) is.is next)

pub holds_next : (width : ℕ) (rows : List Row) (v : ℕ) (s : System) (p : Point) → IsStage width rows v s → HoldAt s.rows p → HoldAt (shadow_rows (cancelled_from [] v width) rows) p
holds_next width rows v s p is holds = subst (λ (xs : List Row). HoldAt xs p) is.is holds

-- ---- before any variable is chosen

zeros_are : (n v : ℕ) → env_of (replicate n (pos 0)) v ≡ pos 0
zeros_are zero v = refl
zeros_are (suc n) zero = refl
zeros_are (suc n) (suc v) = zeros_are n v

zeros_small : (n : ℕ) → All (λ z. unsigned_abs z ≤ 2 ^ 56) (replicate n (pos 0))
zeros_small n k d within = subst (λ (z : ℤ). unsigned_abs z ≤ 2 ^ 56) (sym (get_or_default (replicate n (pos 0)) k d (pos 0) within ∙ zeros_are n k)) (omega arith)

pub origin_fixed : (width : ℕ) (p : Point) → p ≡ origin width → IsFixed width 0 p
origin_fixed width p is =
    subst (IsFixed width 0) (sym is)
    (record {
      positive = omega (arith, ints);
      long = length-replicate width (pos 0);
      small = record { over = omega arith; at = zeros_small width };
      lowest = (λ m h. one-dvd m);
      free = (λ w _. zeros_are width w);
    })

-- ---- after all are chosen

pub last_holds : (width : ℕ) (rows : List Row) (v : ℕ) (p : Point) → v ≡ width → HoldAt (shadow_rows (cancelled_from [] v width) (map reduced_row rows)) p → HoldAt rows p
unfolding shadow_rows
last_holds width rows v p same holds =
    (reduced_rows-hold rows (over_of p) (env_of p.at)).0
    (subst (λ (vs : List ℕ). HoldAt (shadow_rows vs (map reduced_row rows)) p) (ap (λ (n : ℕ). cancelled_from [] n width) same ∙ none_yet [] width) holds)

pub point_of : (width : ℕ) (rows : List Row) (v : ℕ) (p : Point) → v ≡ width → IsFixed width v p → HoldAt (shadow_rows (cancelled_from [] v width) (map reduced_row rows)) p → IsPointOf width rows p
point_of width rows v p same fixed holds = record { positive = fixed.positive; long = fixed.long; holds = last_holds width rows v p same holds }

-- ---- no point

kept_all : (vs : List ℕ) → filter (is_cancelled []) vs ≡ vs
kept_all [] = refl
kept_all (v ∷ vs) = ap (λ (xs : List ℕ). v ∷ xs) (kept_all vs)

all_variables : (width : ℕ) → cancelled_from [] 0 width ≡ variables width 0
unfolding cancelled_from
all_variables width = kept_all (variables (width - 0) 0) ∙ ap (λ (n : ℕ). variables n 0) (let e : width - 0 ≡ width = omega arith in e)

agree_more : (o b v w : ℕ) (a at : Env) (test : Bool) → nat_eq w v ≡ test → w < v + 1 → ((w : ℕ) → w < v → pos b *ℤ a w ≡ pos o *ℤ at w) → pos (o * b) *ℤ a w ≡ pos o *ℤ cond test (pos b *ℤ a v) (pos o *ℤ at w)
agree_more o b v w a at true e below agree = sym (pos_assoc o b (a w)) ∙ ap (λ (n : ℕ). pos o *ℤ (pos b *ℤ a n)) (grind (arith, nat_tests, e))
agree_more o b v w a at false e below agree = sym (pos_assoc o b (a w)) ∙ ap (λ (z : ℤ). pos o *ℤ z) (agree w (grind (arith, nat_tests, e, below)))

-- a point shows that all variables have numbers, from any point on
points_from : (n v width : ℕ) (rows : List Row) (o b : ℕ) (a at : Env) → v + n ≡ width → 0 < o → 0 < b → All (IsRow width) rows → AllHold o a rows → ((w : ℕ) → w < v → pos b *ℤ a w ≡ pos o *ℤ at w) → HasPoints (variables n v) rows b at
points_from zero v width rows o b a at sum po pb are holds agree = alike_hold width o b a at rows po pb (λ w within. agree w (omega (arith, within, sum))) are holds
points_from (suc n) v width rows o b a at sum po pb are holds agree = (
  o,
  pos b *ℤ a v,
  po,
  points_from n (v + 1) width rows o (o * b) a (moved o v (pos b *ℤ a v) at) (omega (arith, sum)) po (product_above o b po pb) are holds (λ w below. agree_more o b v w a at (nat_eq w v) refl below agree),
)

pub no_point : (width : ℕ) (rows : List Row) (s : System) (p : Point) → All (IsRow width) rows → p ≡ origin width → IsStage width (map reduced_row rows) 0 s → (HoldAt s.rows p → ⊥) → HasNone rows
no_point width rows s p are start is fails over at positive holds =
    let reduced : AllHold over at (map reduced_row rows) = (reduced_rows-hold rows over at).1 holds in
    let some : 0 < over_of p = subst (λ (q : Point). 0 < over_of q) (sym start) (omega arith) in
    let points : HasPoints (cancelled_from [] 0 width) (map reduced_row rows) (over_of p) (env_of p.at) =
    subst (λ (vs : List ℕ). HasPoints vs (map reduced_row rows) (over_of p) (env_of p.at)) (sym (all_variables width))
    (points_from width 0 width (map reduced_row rows) over (over_of p) at (env_of p.at) (omega arith) positive some (reduced_are width rows are) reduced (λ w below. absurd (omega arith))) in
    fails (subst (λ (xs : List Row). HoldAt xs p) (sym is.is) ((shadow_AreShadow (cancelled_from [] 0 width) (map reduced_row rows) (over_of p) (env_of p.at) some).0 points))

-- ---- faults

pub past_fault : (width : ℕ) (rows : List Row) (v : ℕ) (s : System) (old : Point) (stage : ℕ) (fault : SetFault) → v < width → stage ≡ width + 1 + v → IsStage width rows (v + 1) s → IsChosen width rows v old → IsSmall old → IsNextFault s.rows v old stage fault → IsPointFault width rows fault
past_fault width rows v s old stage OutOfMemory below number is chosen small h = inl (inl refl)
past_fault width rows v s old stage (TooWide n row) below number is chosen small h = inr (record {
  place = v;
  below = below;
  before = old;
  chosen = chosen;
  small = small;
  point = h.2;
  next = subst (λ (xs : List Row). IsNext xs v old h.2) is.is h.3;
  past = h.4;
  is = ap (λ (m : ℕ). TooWide m row) (h.0 ∙ number) ∙ ap (TooWide (width + 1 + v)) h.1;
})
past_fault width rows v s old stage (TooManyRows n) below number is chosen small h = absurd h

pub memory_fault : (width : ℕ) (rows : List Row) (fault : SetFault) → fault ≡ OutOfMemory → IsPointFault width rows fault
memory_fault width rows fault is = inl (inl is)
