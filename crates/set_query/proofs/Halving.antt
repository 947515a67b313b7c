-- Rows as inequalities, and those of them that bound a variable.
use Rattle.std.specs.Prelude.{◌≡◌, ℕ, suc, ◌+◌, ◌*◌, ◌<◌, ◌≤◌, ℤ, pos, neg_ℤ, ◌+ℤ◌, ◌*ℤ◌, ◌≤ℤ◌, List, [], ◌∷◌, ◌++◌, Bool, true, false, cond, All, MatchBool, filter, map, length}
use Rattle.std.proofs.Common.{refl, sym, ap, ◌∙◌, subst, arith, get_or, drop, drop-cons}
use Rattle.std.proofs.lemmas.Int.{ints}
use Rattle.std.proofs.lemmas.List.{append-nil, append_assoc, drop_all, map-append}
use Rattle.std.proofs.lemmas.List.Elements.{All-nil, All-cons, All-head, All-tail, filter-append}
use Rattle.std.specs.List.Sorted.{IsStrictlyIncreasing}
use Rattle.wrap_words.proofs.Ring.{comm, neg_right}
use Rattle.affine_rows.specs.declared.row.Row.{Row}
use Rattle.affine_rows.specs.Rows.{Env, Holds, IsEntry, IsRow, IsTerm, row_at, terms_at}
use Rattle.affine_rows.specs.Reduced.{HoldsOver, IsMet, factor_of, reduced_row, tightened_row, value_over}
use Rattle.affine_rows.proofs.Combining.{entry-negated}
use Rattle.affine_rows.proofs.Division.{tightened_holds}
use Rattle.elimination.specs.Shadows.{AllHold, Each, HasPoints, moved}
use Rattle.elimination.specs.Stages.{cancelled_from, shadow_rows}
use Rattle.elimination.proofs.Bounds.{Each-map}
use Rattle.elimination.proofs.Pairing.{Each-append, filtered_from}
use Rattle.elimination.proofs.Points.{value_moved, value_split, rest_at}
use Rattle.elimination.proofs.ShadowLaw.{reduced_rows-hold, shadow_AreShadow}
use Rattle.set_query.specs.declared.bounding.Side.{Side}
use Rattle.set_query.specs.Bounding.{HoldThere, bound_rows, bounds_on, halves, inequality, negated_term, opposite, tight_rows}
use Rattle.set_query.proofs.Integers.{from_one, rational_point}

-- ---- the opposite of a row is a row

negated_are : (width : ℕ) (ts : List (ℕ × ℤ)) → All (IsTerm width) ts → All (IsTerm width) (map negated_term ts)
negated_are width [] h = All-nil (IsTerm width)
negated_are width (t ∷ ts) h =
    let here = All-head (IsTerm width) t ts h in
    All-cons (IsTerm width) (negated_term t) (map negated_term ts)
    (record { var = here.var; entry = entry-negated t.1 here.entry; nonzero = omega (arith, ints, here.nonzero) })
    (negated_are width ts (All-tail (IsTerm width) t ts h))

same_variables : (ts : List (ℕ × ℤ)) → map (λ t. t.0) (map negated_term ts) ≡ map (λ t. t.0) ts
same_variables [] = refl
same_variables (t ∷ ts) = ap (λ (vs : List ℕ). t.0 ∷ vs) (same_variables ts)

pub opposite_IsRow : (width : ℕ) (r : Row) → IsRow width r → IsRow width (opposite r)
opposite_IsRow width r h = record {
  constant = entry-negated r.constant h.constant;
  terms = negated_are width r.terms h.terms;
  rising = subst (λ (vs : List ℕ). IsStrictlyIncreasing vs) (sym (same_variables r.terms)) h.rising;
}

pub inequality_IsRow : (width : ℕ) (r : Row) → IsRow width r → IsRow width (inequality r)
inequality_IsRow width r h = record { constant = h.constant; terms = h.terms; rising = h.rising }

pub entries_of : (width : ℕ) (ts : List (ℕ × ℤ)) → All (IsTerm width) ts → All (λ t. IsEntry t.1) ts
entries_of width [] h = All-nil (λ t. IsEntry t.1)
entries_of width (t ∷ ts) h = All-cons (λ t. IsEntry t.1) t ts (All-head (IsTerm width) t ts h).entry (entries_of width ts (All-tail (IsTerm width) t ts h))

-- ---- one row more

pub pushed : (side : Side) (var : ℕ) (r t : Row) (made new : List Row) → bounds_on side var r ≡ true → t ≡ tightened_row r → new ≡ made ++ t ∷ [] → new ≡ made ++ tight_rows side var (r ∷ [])
unfolding tight_rows
pushed side var r t made new on tight is =
    is ∙ (ap (λ (x : Row). made ++ x ∷ []) tight ∙ ap (λ (b : Bool). made ++ map tightened_row (cond b (r ∷ []) [])) (sym on))

pub skipped : (side : Side) (var : ℕ) (r : Row) (made : List Row) → bounds_on side var r ≡ false → made ≡ made ++ tight_rows side var (r ∷ [])
unfolding tight_rows
skipped side var r made off =
    sym (append-nil made) ∙ ap (λ (b : Bool). made ++ map tightened_row (cond b (r ∷ []) [])) (sym off)

two_halves : (side : Side) (var : ℕ) (a b : Row) → tight_rows side var (a ∷ b ∷ []) ≡ tight_rows side var (a ∷ []) ++ tight_rows side var (b ∷ [])
unfolding tight_rows
two_halves side var a b =
    ap (λ (rows : List Row). map tightened_row rows) (filter-append (bounds_on side var) (a ∷ []) (b ∷ []))
    ∙ map-append tightened_row (filter (bounds_on side var) (a ∷ [])) (filter (bounds_on side var) (b ∷ []))

pub both_halves : (side : Side) (var : ℕ) (r first second : Row) (old mid new : List Row) → r.equal ≡ true → first ≡ inequality r → second ≡ opposite r →
    mid ≡ old ++ tight_rows side var (first ∷ []) → new ≡ mid ++ tight_rows side var (second ∷ []) → new ≡ old ++ tight_rows side var (halves r)
both_halves side var r first second old mid new equal a b one two =
    let same : halves r ≡ inequality r ∷ opposite r ∷ [] = ap (λ (e : Bool). cond e (inequality r ∷ opposite r ∷ []) (inequality r ∷ [])) equal in
    two ∙ (ap (λ (xs : List Row). xs ++ tight_rows side var (second ∷ [])) one
    ∙ (append_assoc old (tight_rows side var (first ∷ [])) (tight_rows side var (second ∷ []))
    ∙ (ap (λ (x : Row). old ++ (tight_rows side var (x ∷ []) ++ tight_rows side var (second ∷ []))) a
    ∙ (ap (λ (x : Row). old ++ (tight_rows side var (inequality r ∷ []) ++ tight_rows side var (x ∷ []))) b
    ∙ (ap (λ (xs : List Row). old ++ xs) (sym (two_halves side var (inequality r) (opposite r)))
    ∙ ap (λ (xs : List Row). old ++ tight_rows side var xs) (sym same))))))

pub bound_step : (side : Side) (var : ℕ) (rows : List Row) (i : ℕ) (r : Row) (made new all : List Row) → i < length rows → r ≡ get_or rows i r → new ≡ made ++ tight_rows side var (halves r) →
    made ++ bound_rows side var (drop i rows) ≡ all → new ++ bound_rows side var (drop (i + 1) rows) ≡ all
unfolding bound_rows
bound_step side var rows i r made new all inside is one h =
    let cons : drop i rows ≡ r ∷ drop (i + 1) rows = drop-cons rows i r inside ∙ (ap (λ (x : Row). x ∷ drop (suc i) rows) (sym is) ∙ ap (λ (n : ℕ). r ∷ drop n rows) (let e : suc i ≡ i + 1 = omega arith in e)) in
    ap (λ (xs : List Row). xs ++ bound_rows side var (drop (i + 1) rows)) one
    ∙ (append_assoc made (tight_rows side var (halves r)) (bound_rows side var (drop (i + 1) rows))
    ∙ (ap (λ (xs : List Row). made ++ bound_rows side var xs) (sym cons) ∙ h))

pub bound_all : (side : Side) (var : ℕ) (rows : List Row) (i : ℕ) (made all : List Row) → length rows ≤ i → made ++ bound_rows side var (drop i rows) ≡ all → made ≡ all
unfolding bound_rows
bound_all side var rows i made all past h =
    sym (append-nil made) ∙ (ap (λ (xs : List Row). made ++ bound_rows side var xs) (sym (drop_all i rows past)) ∙ h)

-- ---- they hold at each integer point

moved_value : (r : Row) (over v : ℕ) (at : Env) → value_over (1 * over) (moved 1 v (at v) at) r ≡ value_over over at r
moved_value r over v at =
    let one : pos 1 *ℤ rest_at over at v r ≡ rest_at over at v r = omega (arith, ints) in
    value_moved r 1 over v (at v) at ∙ (ap (λ (z : ℤ). factor_of v r.terms *ℤ at v +ℤ z) one ∙ sym (value_split r over v at))

moved_holds : (r : Row) (over v : ℕ) (at : Env) → HoldsOver over at r → HoldsOver (1 * over) (moved 1 v (at v) at) r
moved_holds r over v at h = subst (λ (z : ℤ). IsMet r.equal z) (sym (moved_value r over v at)) h

-- a point of the rows shows that they have one where variables are free
pub at_itself : (vs : List ℕ) (rows : List Row) (over : ℕ) (at : Env) → AllHold over at rows → HasPoints vs rows over at
at_itself [] rows over at h = h
at_itself (v ∷ vs) rows over at h = (1, at v, omega arith, at_itself vs rows (1 * over) (moved 1 v (at v) at) (Each-map (HoldsOver over at) (HoldsOver (1 * over) (moved 1 v (at v) at)) rows (λ r k. moved_holds r over v at k) h))

pub last_hold : (keep : List ℕ) (width : ℕ) (rows : List Row) (at : Env) → Each (Holds at) rows → Each (Holds at) (shadow_rows (cancelled_from keep 0 width) (map reduced_row rows))
last_hold keep width rows at h =
    let vs = cancelled_from keep 0 width in
    let reduced = (reduced_rows-hold rows 1 at).1 (rational_point at rows h) in
    Each-map (HoldsOver 1 at) (Holds at) (shadow_rows vs (map reduced_row rows)) (λ r k. from_one at r k)
    ((shadow_AreShadow vs (map reduced_row rows) 1 at (omega arith)).0 (at_itself vs (map reduced_row rows) 1 at reduced))

at_least : (equal : Bool) (v : ℤ) → MatchBool equal (v ≡ pos 0) (pos 0 ≤ℤ v) → pos 0 ≤ℤ v
at_least true v h = omega (arith, ints, h)
at_least false v h = h

neg_product : (f v : ℤ) → neg_ℤ f *ℤ v ≡ neg_ℤ (f *ℤ v)
neg_product f v = comm (neg_ℤ f) v ∙ (neg_right v f ∙ ap neg_ℤ (comm v f))

negated_at : (at : Env) (ts : List (ℕ × ℤ)) → terms_at at (map negated_term ts) ≡ neg_ℤ (terms_at at ts)
negated_at at [] = refl
negated_at at (t ∷ ts) = let e = negated_at at ts in omega (arith, ints, e, neg_product t.1 (at t.0))

tight_holds : (side : Side) (var : ℕ) (at : Env) (rows : List Row) → Each (λ r. (r.equal ≡ false) × Holds at r) rows → Each (Holds at) (tight_rows side var rows)
unfolding tight_rows
tight_holds side var at rows h =
    filtered_from (Holds at) tightened_row (bounds_on side var) rows
    (Each-map (λ r. (r.equal ≡ false) × Holds at r) (λ r. bounds_on side var r ≡ true → Holds at (tightened_row r)) rows (λ r k on. (tightened_holds r k.0 at).1 k.1) h)

opposite_holds : (r : Row) (at : Env) → row_at at r ≡ pos 0 → Holds at (opposite r)
opposite_holds r at h = let e = negated_at at r.terms in omega (arith, ints, e, h)

pub halves_hold : (r : Row) (equal : Bool) (at : Env) → r.equal ≡ equal → Holds at r → Each (λ h. (h.equal ≡ false) × Holds at h) (cond equal (inequality r ∷ opposite r ∷ []) (inequality r ∷ []))
halves_hold r true at is h =
    let zero : row_at at r ≡ pos 0 = subst (λ (e : Bool). MatchBool e (row_at at r ≡ pos 0) (pos 0 ≤ℤ row_at at r)) is h in
    ((refl, at_least r.equal (row_at at r) h), ((refl, opposite_holds r at zero), tt))
halves_hold r false at is h = ((refl, at_least r.equal (row_at at r) h), tt)

pub bounds_hold : (side : Side) (var : ℕ) (rows : List Row) (at : Env) → Each (Holds at) rows → Each (Holds at) (bound_rows side var rows)
unfolding bound_rows
bounds_hold side var [] at h = tt
bounds_hold side var (r ∷ rows) at h =
    Each-append (Holds at) (tight_rows side var (halves r)) (bound_rows side var rows)
    (tight_holds side var at (halves r) (halves_hold r r.equal at refl h.0))
    (bounds_hold side var rows at h.1)

pub hold_there : (side : Side) (var : ℕ) (keep : List ℕ) (width : ℕ) (rows made last : List Row) → last ≡ shadow_rows (cancelled_from keep 0 width) (map reduced_row rows) → made ≡ bound_rows side var last → HoldThere rows made
hold_there side var keep width rows made last same is at h =
    subst (λ (xs : List Row). Each (Holds at) xs) (sym (is ∙ ap (λ (xs : List Row). bound_rows side var xs) same))
    (bounds_hold side var (shadow_rows (cancelled_from keep 0 width) (map reduced_row rows)) at (last_hold keep width rows at h))
