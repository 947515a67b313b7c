-- The variable is between the ends of a hull.
use Rattle.std.specs.Prelude.{◌≡◌, ℕ, zero, suc, ◌+◌, ◌<◌, ◌≤◌, ℤ, pos, negsuc, neg_ℤ, ◌+ℤ◌, ◌*ℤ◌, ◌≤ℤ◌, List, [], ◌∷◌, Bool, true, false, cond, int_lt, map, max, unsigned_abs, Option, None, Some, MatchBool, All, take, length}
use Rattle.std.specs.Int.{int_div_euclid}
use Rattle.std.proofs.Common.{inl, inr, refl, sym, ap, ◌∙◌, subst, arith, eq-eqb, get_or}
use Rattle.std.proofs.lemmas.Int.{ints}
use Rattle.std.proofs.lemmas.Nat.Gcd.{dvd_refl, dvd-zero}
use Rattle.affine_rows.specs.declared.row.Row.{Row}
use Rattle.affine_rows.specs.declared.row.System.{System}
use Rattle.affine_rows.specs.Rows.{Env, Holds, IsRow, row_at, terms_at}
use Rattle.affine_rows.specs.Reduced.{common_divisor, divided_row, divided_term, factor_of, reduced_row, tightened_row}
use Rattle.affine_rows.proofs.Division.{exact_quotient, tightened_holds}
use Rattle.affine_rows.proofs.Divisors.{greatest_divisor-is}
use Rattle.elimination.specs.Shadows.{Each}
use Rattle.elimination.proofs.Bounds.{Each-map}
use Rattle.elimination.proofs.Pairing.{Each-append, Each-both, filtered_from}
use Rattle.elimination.proofs.StageRows.{Each-from}
use Rattle.elimination.proofs.Substituting.{Each-mapped}
use Rattle.set_query.specs.declared.bounding.Side.{Side}
use Rattle.set_query.specs.declared.bounding.Side.TheVariants.{Above, Below}
use Rattle.set_query.specs.declared.ends.Hull.{Hull}
use Rattle.set_query.specs.Bounding.{bound_rows, bounds_on, halves, inequality, last_rows, negated_term, opposite, tight_rows}
use Rattle.set_query.specs.Hulls.{Allows, AreInside, IsHull, IsInside, IsLeast, IsRespected, IsWidest, constants, opposite_end}
use Rattle.set_query.proofs.Alone.{IsSingle, all_single}
use Rattle.set_query.proofs.Halving.{halves_hold, last_hold}
use Rattle.std.proofs.lemmas.List.{take_all}
use Rattle.set_query.proofs.Hulls.{some_each, twice_opposite}
use Rattle.set_query.proofs.Opening.{Each-put, take_place}

-- ---- a tight row with one variable

quotient_up : (n : ℕ) (q : ℤ) → pos (suc n) *ℤ q ≡ pos (suc n) → q ≡ pos 1
quotient_up n (pos zero) e = absurd (omega (arith, ints, e))
quotient_up n (pos (suc zero)) e = refl
quotient_up n (pos (suc (suc k))) e = absurd (omega (arith, ints, e))
quotient_up n (negsuc k) e = absurd (omega (arith, ints, e))

quotient_down : (n : ℕ) (q : ℤ) → pos (suc n) *ℤ q ≡ negsuc n → q ≡ neg_ℤ (pos 1)
quotient_down n (pos k) e = absurd (omega (arith, ints, e))
quotient_down n (negsuc zero) e = refl
quotient_down n (negsuc (suc k)) e = absurd (omega (arith, ints, e))

one_divisor : (var : ℕ) (f : ℤ) → 0 < unsigned_abs f → common_divisor 0 ((var, f) ∷ []) ≡ unsigned_abs f
unfolding common_divisor
one_divisor var f h =
    ap (λ (g : ℕ). max 1 g) (sym (greatest_divisor-is 0 (unsigned_abs f) (unsigned_abs f) (dvd-zero _, dvd_refl _, (λ d a b. b))))
    ∙ (let e : max 1 (unsigned_abs f) ≡ unsigned_abs f = omega (arith, h) in e)

tight_terms : (var : ℕ) (h : Row) (f : ℤ) → h.terms ≡ (var, f) ∷ [] → 0 < unsigned_abs f → (tightened_row h).terms ≡ (var, int_div_euclid f (pos (unsigned_abs f))) ∷ []
unfolding tightened_row divided_row divided_term
tight_terms var h f is positive =
    ap (λ (ts : List (ℕ × ℤ)). map (divided_term (common_divisor 0 ts)) ts) is
    ∙ ap (λ (g : ℕ). map (divided_term g) ((var, f) ∷ [])) (one_divisor var f positive)

tight_plain : (h : Row) → (tightened_row h).equal ≡ h.equal
unfolding tightened_row divided_row
tight_plain h = refl

at_least_zero : (at : Env) (t : Row) → t.equal ≡ false → Holds at t → pos 0 ≤ℤ row_at at t
at_least_zero at t plain h = subst (λ (e : Bool). MatchBool e (row_at at t ≡ pos 0) (pos 0 ≤ℤ row_at at t)) plain h

tight_value : (var : ℕ) (at : Env) (h : Row) (f q : ℤ) → h.terms ≡ (var, f) ∷ [] → 0 < unsigned_abs f → int_div_euclid f (pos (unsigned_abs f)) ≡ q → terms_at at (tightened_row h).terms ≡ q *ℤ at var +ℤ pos 0
tight_value var at h f q is positive e = ap (λ (ts : List (ℕ × ℤ)). terms_at at ts) (tight_terms var h f is positive) ∙ ap (λ (z : ℤ). z *ℤ at var +ℤ pos 0) e

factor_single : (var : ℕ) (f : ℤ) → factor_of var ((var, f) ∷ []) ≡ f
factor_single var f = rw (eq-eqb var var refl) (omega (arith, ints))

single_allows : (side : Side) (var : ℕ) (at : Env) (h : Row) (f : ℤ) → h.terms ≡ (var, f) ∷ [] → h.equal ≡ false → Holds at h → bounds_on side var h ≡ true → Allows side (at var) (tightened_row h).constant
single_allows Below var at h (pos zero) is plain holds on =
    absurd (let e = ap (λ (ts : List (ℕ × ℤ)). int_lt (pos 0) (factor_of var ts)) (sym is) ∙ on in let k = factor_single var (pos zero) in grind (arith, ints, e, k))
single_allows Below var at h (negsuc n) is plain holds on =
    absurd (let e = ap (λ (ts : List (ℕ × ℤ)). int_lt (pos 0) (factor_of var ts)) (sym is) ∙ on in let k = factor_single var (negsuc n) in grind (arith, ints, e, k))
single_allows Below var at h (pos (suc n)) is plain holds on =
    let q = quotient_up n (int_div_euclid (pos (suc n)) (pos (suc n))) (exact_quotient (suc n) (pos (suc n)) (omega arith) (dvd_refl _)) in
    let v = tight_value var at h (pos (suc n)) (pos 1) is (omega arith) q in
    let k = at_least_zero at (tightened_row h) (tight_plain h ∙ plain) ((tightened_holds h plain at).1 holds) in
    omega (arith, ints, v, k)
single_allows Above var at h (pos n) is plain holds on =
    absurd (let e = ap (λ (ts : List (ℕ × ℤ)). int_lt (factor_of var ts) (pos 0)) (sym is) ∙ on in let k = factor_single var (pos n) in grind (arith, ints, e, k))
single_allows Above var at h (negsuc n) is plain holds on =
    let q = quotient_down n (int_div_euclid (negsuc n) (pos (suc n))) (exact_quotient (suc n) (negsuc n) (omega arith) (dvd_refl _)) in
    let v = tight_value var at h (negsuc n) (neg_ℤ (pos 1)) is (omega arith) q in
    let k = at_least_zero at (tightened_row h) (tight_plain h ∙ plain) ((tightened_holds h plain at).1 holds) in
    omega (arith, ints, v, k)

no_bound : (side : Side) (var : ℕ) (h : Row) → h.terms ≡ [] → bounds_on side var h ≡ true → ⊥
no_bound Below var h is on = let e : int_lt (pos 0) (pos 0) ≡ true = ap (λ (ts : List (ℕ × ℤ)). int_lt (pos 0) (factor_of var ts)) (sym is) ∙ on in grind (arith, ints, e)
no_bound Above var h is on = let e : int_lt (pos 0) (pos 0) ≡ true = ap (λ (ts : List (ℕ × ℤ)). int_lt (factor_of var ts) (pos 0)) (sym is) ∙ on in grind (arith, ints, e)

half_allows : (side : Side) (var : ℕ) (at : Env) (h : Row) → IsSingle var h.terms → h.equal ≡ false → Holds at h → bounds_on side var h ≡ true → Allows side (at var) (tightened_row h).constant
half_allows side var at h (inl none) plain holds on = absurd (no_bound side var h none on)
half_allows side var at h (inr (f, is)) plain holds on = single_allows side var at h f is plain holds on

-- ---- all bounds of a system

opposite_single : (var : ℕ) (ts : List (ℕ × ℤ)) → IsSingle var ts → IsSingle var (map negated_term ts)
opposite_single var ts (inl none) = inl (ap (λ (us : List (ℕ × ℤ)). map negated_term us) none)
opposite_single var ts (inr (f, is)) = inr (neg_ℤ f, ap (λ (us : List (ℕ × ℤ)). map negated_term us) is)

halves_single : (var : ℕ) (r : Row) (equal : Bool) → IsSingle var r.terms → Each (λ h. IsSingle var h.terms) (cond equal (inequality r ∷ opposite r ∷ []) (inequality r ∷ []))
halves_single var r true h = (h, (opposite_single var r.terms h, tt))
halves_single var r false h = (h, tt)

bounds_allow : (side : Side) (var : ℕ) (rows : List Row) (at : Env) → Each (Holds at) rows → Each (λ r. IsSingle var r.terms) rows → Each (λ b. Allows side (at var) b.constant) (bound_rows side var rows)
unfolding bound_rows tight_rows
bounds_allow side var [] at h single = tt
bounds_allow side var (r ∷ rows) at h single =
    Each-append (λ b. Allows side (at var) b.constant) (tight_rows side var (halves r)) (bound_rows side var rows)
    (filtered_from (λ b. Allows side (at var) b.constant) tightened_row (bounds_on side var) (halves r)
    (Each-both (λ k. (k.equal ≡ false) × Holds at k) (λ k. IsSingle var k.terms) (λ k. bounds_on side var k ≡ true → Allows side (at var) (tightened_row k).constant) (halves r)
    (λ k holds one on. half_allows side var at k one holds.0 holds.1 on)
    (halves_hold r r.equal at refl h.0) (halves_single var r r.equal single.0)))
    (bounds_allow side var rows at h.1 single.1)

pub respected : (var : ℕ) (s : System) (width : ℕ) (last : List Row) → last ≡ last_rows (var ∷ []) s → All (IsRow width) last → width ≡ s.width → IsRespected var s
respected var s width last is rows same side at h =
    let are : Each (IsRow s.width) (last_rows (var ∷ []) s) = subst (λ (n : ℕ). Each (IsRow n) (last_rows (var ∷ []) s)) same (Each-from (IsRow width) (last_rows (var ∷ []) s) (subst (λ (xs : List Row). All (IsRow width) xs) is rows)) in
    Each-mapped (Allows side (at var)) (λ r. r.constant) (bound_rows side var (last_rows (var ∷ []) s))
    (bounds_allow side var (last_rows (var ∷ []) s) at (last_hold (var ∷ []) s.width s.rows at h) (all_single var s.width (map reduced_row s.rows) are))

-- ---- several systems

weaker : (side : Side) (x y z : ℤ) → y ≤ℤ z → Allows side x y → Allows side x z
weaker Below x y z le h = omega (arith, ints, le, h)
weaker Above x y z le h = omega (arith, ints, le, h)

allowed : (side : Side) (var : ℕ) (systems : List System) (z : ℤ) → IsWidest side var systems (Some z) → Each (IsRespected var) systems → Each (λ s. (at : Env) → Each (Holds at) s.rows → Allows side (at var) z) systems
allowed side var systems z h all =
    Each-both (λ s. (y : ℤ) × IsLeast (constants side var s) (Some y) × (y ≤ℤ z)) (IsRespected var) (λ s. (at : Env) → Each (Holds at) s.rows → Allows side (at var) z) systems
    (λ s m respects at holds. some_each (λ c. c ≡ m.0) (Allows side (at var)) (Allows side (at var) z) (constants side var s)
    (λ c e allows. weaker side (at var) m.0 z m.2 (subst (Allows side (at var)) e allows)) m.1.0 (respects side at holds))
    h.1 all

each_all : (P : System → Type 0) (systems : List System) → ((s : System) → P s) → Each P systems
each_all P [] f = tt
each_all P (s ∷ systems) f = (f s, each_all P systems f)

inside_below : (var : ℕ) (systems : List System) (end : Option ℤ) → IsWidest Below var systems (opposite_end end) → Each (IsRespected var) systems → Each (λ s. (at : Env) → Each (Holds at) s.rows → (b : ℤ) → end ≡ Some b → b ≤ℤ at var) systems
inside_below var systems None h all = each_all (λ s. (at : Env) → Each (Holds at) s.rows → (b : ℤ) → None ≡ Some b → b ≤ℤ at var) systems (λ s at holds b e. absurd (cc e))
inside_below var systems (Some z) h all =
    Each-map (λ s. (at : Env) → Each (Holds at) s.rows → Allows Below (at var) (neg_ℤ z)) (λ s. (at : Env) → Each (Holds at) s.rows → (b : ℤ) → Some z ≡ Some b → b ≤ℤ at var) systems
    (λ s f at holds b e. let same : z ≡ b = cc e in let k = f at holds in omega (arith, ints, same, k))
    (allowed Below var systems (neg_ℤ z) h all)

inside_above : (var : ℕ) (systems : List System) (end : Option ℤ) → IsWidest Above var systems end → Each (IsRespected var) systems → Each (λ s. (at : Env) → Each (Holds at) s.rows → (b : ℤ) → end ≡ Some b → at var ≤ℤ b) systems
inside_above var systems None h all = each_all (λ s. (at : Env) → Each (Holds at) s.rows → (b : ℤ) → None ≡ Some b → at var ≤ℤ b) systems (λ s at holds b e. absurd (cc e))
inside_above var systems (Some z) h all =
    Each-map (λ s. (at : Env) → Each (Holds at) s.rows → Allows Above (at var) z) (λ s. (at : Env) → Each (Holds at) s.rows → (b : ℤ) → Some z ≡ Some b → at var ≤ℤ b) systems
    (λ s f at holds b e. let same : z ≡ b = cc e in let k = f at holds in omega (arith, ints, same, k))
    (allowed Above var systems z h all)

pub are_inside : (var : ℕ) (systems : List System) (hull : Hull) → IsHull var systems hull → Each (IsRespected var) systems → AreInside var systems hull
are_inside var systems hull h all =
    Each-both (λ s. (at : Env) → Each (Holds at) s.rows → (b : ℤ) → hull.lower ≡ Some b → b ≤ℤ at var) (λ s. (at : Env) → Each (Holds at) s.rows → (b : ℤ) → hull.upper ≡ Some b → at var ≤ℤ b)
    (λ s. (at : Env) → Each (Holds at) s.rows → IsInside hull (at var)) systems
    (λ s low high at holds. record { lower = low at holds; upper = high at holds })
    (inside_below var systems hull.lower h.lower all) (inside_above var systems hull.upper h.upper all)

pub respected_more : (var : ℕ) (systems : List System) (i : ℕ) (s : System) → i < length systems → s ≡ get_or systems i s → Each (IsRespected var) (take i systems) → IsRespected var s → Each (IsRespected var) (take (i + 1) systems)
respected_more var systems i s inside is h k =
    subst (λ (xs : List System). Each (IsRespected var) xs) (sym (take_place systems i s inside is)) (Each-put (IsRespected var) (take i systems) s h k)

pub all_inside : (var : ℕ) (systems : List System) (i : ℕ) (below above lower : Option ℤ) → length systems ≤ i → lower ≡ opposite_end below → IsWidest Below var (take i systems) below → IsWidest Above var (take i systems) above → Each (IsRespected var) (take i systems) →
    AreInside var systems (record { lower = lower; upper = above })
all_inside var systems i below above lower past is low high all =
    let whole : take i systems ≡ systems = take_all i systems past in
    are_inside var systems (record { lower = lower; upper = above })
    (record {
      lower = subst (λ (end : Option ℤ). IsWidest Below var systems (opposite_end end)) (sym is) (subst (λ (end : Option ℤ). IsWidest Below var systems end) (twice_opposite below) (subst (λ (xs : List System). IsWidest Below var xs below) whole low));
      upper = subst (λ (xs : List System). IsWidest Above var xs above) whole high;
    })
    (subst (λ (xs : List System). Each (IsRespected var) xs) whole all)
