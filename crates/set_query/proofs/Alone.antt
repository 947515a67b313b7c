-- Where all other variables are cancelled, a row has at most the one that is kept.
use Rattle.std.specs.Prelude.{◌≡◌, ◌≢◌, ℕ, zero, suc, ◌+◌, ◌-◌, ◌<◌, ◌≤◌, ◌⊎◌, ℤ, pos, neg_ℤ, ◌+ℤ◌, ◌*ℤ◌, List, [], ◌∷◌, ◌++◌, Bool, true, false, cond, int_lt, nat_eq, filter, flat_map, map, unsigned_abs, Option, None, Some, All}
use Rattle.std.specs.List.{find, before_first, after_first}
use Rattle.std.proofs.Common.{inl, inr, refl, sym, ap, ◌∙◌, subst, arith}
use Rattle.std.proofs.lemmas.Int.{ints}
use Rattle.std.proofs.lemmas.Bool.Decides.{nat_tests, Decides-int_eq}
use Rattle.std.proofs.lemmas.List.Elements.{All-head, All-tail}
use Rattle.wrap_words.proofs.Ring.{comm, neg_right}
use Rattle.affine_rows.specs.declared.row.Row.{Row}
use Rattle.affine_rows.specs.Rows.{IsRow, IsTerm, terms_at}
use Rattle.affine_rows.specs.Reduced.{combination, factor_of, mixed_row, mixed_terms, reduced_row}
use Rattle.affine_rows.proofs.Combining.{combination_without, factor-reduced, factor_found, factor_later, factor_of-at, terms-mixed, unit}
use Rattle.affine_rows.proofs.Mixing.{Rising, Rising-from, mixed_at}
use Rattle.elimination.specs.Shadows.{Each}
use Rattle.elimination.specs.Stages.{bounds_above, bounds_below, cancelled_by, cancelled_from, cancelled_rows, determines, is_cancelled, is_without, paired_rows, pairs_of, shadow_rows, stage_rows, substituted, variables}
use Rattle.elimination.proofs.Bounds.{Each-map}
use Rattle.elimination.proofs.Pairing.{Each-append, Each-both, Each-parts, filtered_from, flat_from}
use Rattle.elimination.proofs.StageLaw.{found}
use Rattle.elimination.proofs.StageRows.{tightest-keeps}
use Rattle.elimination.proofs.Substituting.{Each-mapped, turned}
use Rattle.set_query.specs.Cases.{HasSome}

-- the row does not have the variable
abbrev pub Lacks : ℕ → Row → Type 0
Lacks w r = factor_of w r.terms ≡ pos 0

mixed_factor : (w : ℕ) (p : ℤ) (l : Row) (q : ℤ) (r : Row) → factor_of w (mixed_row p l q r).terms ≡ p *ℤ factor_of w l.terms +ℤ q *ℤ factor_of w r.terms
mixed_factor w p l q r =
    ap (factor_of w) (terms-mixed p l q r)
    ∙ (factor_of-at w (mixed_terms p l.terms q r.terms)
    ∙ (mixed_at (unit w) p l.terms q r.terms
    ∙ (ap (λ (z : ℤ). p *ℤ z +ℤ q *ℤ terms_at (unit w) r.terms) (sym (factor_of-at w l.terms))
    ∙ ap (λ (z : ℤ). p *ℤ factor_of w l.terms +ℤ q *ℤ z) (sym (factor_of-at w r.terms)))))

no_sum : (p q : ℤ) → p *ℤ pos 0 +ℤ q *ℤ pos 0 ≡ pos 0
no_sum p q = omega (arith, ints)

mixed_lacks : (w : ℕ) (p : ℤ) (l : Row) (q : ℤ) (r : Row) → Lacks w l → Lacks w r → Lacks w (reduced_row (mixed_row p l q r))
mixed_lacks w p l q r hl hr =
    factor-reduced w (mixed_row p l q r)
    (mixed_factor w p l q r ∙ (ap (λ (z : ℤ). p *ℤ z +ℤ q *ℤ factor_of w r.terms) hl ∙ (ap (λ (z : ℤ). p *ℤ pos 0 +ℤ q *ℤ z) hr ∙ no_sum p q)))

cancels_by : (f g : ℤ) (test : Bool) → int_lt (pos 0) f ≡ test → pos (unsigned_abs f) *ℤ g +ℤ cond test (neg_ℤ g) g *ℤ f ≡ pos 0
cancels_by f g true e =
    let same : pos (unsigned_abs f) ≡ f = grind (arith, ints, e) in
    ap (λ (z : ℤ). z *ℤ g +ℤ neg_ℤ g *ℤ f) same ∙ (let k = comm (neg_ℤ g) f in let n = neg_right f g in omega (arith, ints, k, n))
cancels_by f g false e =
    let same : pos (unsigned_abs f) ≡ neg_ℤ f = grind (arith, ints, e) in
    ap (λ (z : ℤ). z *ℤ g +ℤ g *ℤ f) same ∙ (let k = comm (neg_ℤ f) g in let n = neg_right g f in omega (arith, ints, k, n))

cancels : (f g : ℤ) → pos (unsigned_abs f) *ℤ g +ℤ turned f g *ℤ f ≡ pos 0
cancels f g = cancels_by f g (int_lt (pos 0) f) refl

substituted_lacks : (var : ℕ) (e r : Row) → Lacks var (reduced_row (substituted var e r))
unfolding substituted
substituted_lacks var e r =
    let p = pos (unsigned_abs (factor_of var e.terms)) in
    let q = turned (factor_of var e.terms) (factor_of var r.terms) in
    factor-reduced var (mixed_row p r q e) (mixed_factor var p r q e ∙ cancels (factor_of var e.terms) (factor_of var r.terms))

substituted_keeps : (w var : ℕ) (e r : Row) → Lacks w e → Lacks w r → Lacks w (reduced_row (substituted var e r))
unfolding substituted
substituted_keeps w var e r he hr = mixed_lacks w (pos (unsigned_abs (factor_of var e.terms))) r (turned (factor_of var e.terms) (factor_of var r.terms)) e hr he

combination_keeps : (w var : ℕ) (l r : Row) → Lacks w l → Lacks w r → Lacks w (reduced_row (combination var l r))
unfolding combination
combination_keeps w var l r hl hr = mixed_lacks w (neg_ℤ (factor_of var r.terms)) l (factor_of var l.terms) r hl hr

without : (var : ℕ) (r : Row) → is_without var r ≡ true → Lacks var r
without var r e = grind (arith, ints, nat_tests, Decides-int_eq, e)

of_all : (P : Row → Type 0) (rows : List Row) → ((r : Row) → P r) → Each P rows
of_all P [] f = tt
of_all P (r ∷ rows) f = (f r, of_all P rows f)

-- ---- one stage

by_lacks : (var : ℕ) (rows : List Row) (first : Option Row) → Each (Lacks var) (cancelled_by var rows first)
unfolding cancelled_by paired_rows
by_lacks var rows None =
    Each-append (Lacks var) (map reduced_row (filter (is_without var) rows)) (flat_map (pairs_of var rows) (filter (bounds_below var) rows))
    (filtered_from (Lacks var) reduced_row (is_without var) rows (of_all (λ r. is_without var r ≡ true → Lacks var (reduced_row r)) rows (λ r e. factor-reduced var r (without var r e))))
    (flat_from (Lacks var) (pairs_of var rows) (bounds_below var) rows
    (of_all (λ l. bounds_below var l ≡ true → Each (Lacks var) (pairs_of var rows l)) rows
    (λ l e. filtered_from (Lacks var) (λ u. reduced_row (combination var l u)) (bounds_above var) rows
    (of_all (λ u. bounds_above var u ≡ true → Lacks var (reduced_row (combination var l u))) rows (λ u k. combination_without var l u (reduced_row (combination var l u)) refl)))))
by_lacks var rows (Some e) =
    Each-mapped (Lacks var) (λ r. reduced_row (substituted var e r)) (before_first (determines var) rows ++ after_first (determines var) rows)
    (of_all (λ r. Lacks var (reduced_row (substituted var e r))) (before_first (determines var) rows ++ after_first (determines var) rows) (λ r. substituted_lacks var e r))

by_keeps : (w var : ℕ) (rows : List Row) (first : Option Row) → find (determines var) rows ≡ first → Each (Lacks w) rows → Each (Lacks w) (cancelled_by var rows first)
unfolding cancelled_by paired_rows
by_keeps w var rows None e h =
    Each-append (Lacks w) (map reduced_row (filter (is_without var) rows)) (flat_map (pairs_of var rows) (filter (bounds_below var) rows))
    (filtered_from (Lacks w) reduced_row (is_without var) rows (Each-map (Lacks w) (λ r. is_without var r ≡ true → Lacks w (reduced_row r)) rows (λ r k on. factor-reduced w r k) h))
    (flat_from (Lacks w) (pairs_of var rows) (bounds_below var) rows
    (Each-map (Lacks w) (λ l. bounds_below var l ≡ true → Each (Lacks w) (pairs_of var rows l)) rows
    (λ l hl on. filtered_from (Lacks w) (λ u. reduced_row (combination var l u)) (bounds_above var) rows
    (Each-map (Lacks w) (λ u. bounds_above var u ≡ true → Lacks w (reduced_row (combination var l u))) rows (λ u hu also. combination_keeps w var l u hl hu) h)) h))
by_keeps w var rows (Some e) is h =
    let at = found (determines var) rows e is in
    let before : List Row = before_first (determines var) rows in
    let after : List Row = after_first (determines var) rows in
    let parts = Each-parts (Lacks w) before (e ∷ after) (subst (Each (Lacks w)) at.split h) in
    Each-mapped (Lacks w) (λ r. reduced_row (substituted var e r)) (before ++ after)
    (Each-map (Lacks w) (λ r. Lacks w (reduced_row (substituted var e r))) (before ++ after) (λ r hr. substituted_keeps w var e r parts.1.0 hr) (Each-append (Lacks w) before after parts.0 parts.1.1))

stage_lacks : (var : ℕ) (rows : List Row) → Each (Lacks var) (stage_rows var rows)
unfolding stage_rows cancelled_rows
stage_lacks var rows = tightest-keeps (Lacks var) (cancelled_by var rows (find (determines var) rows)) (by_lacks var rows (find (determines var) rows))

stage_keeps : (w var : ℕ) (rows : List Row) → Each (Lacks w) rows → Each (Lacks w) (stage_rows var rows)
unfolding stage_rows cancelled_rows
stage_keeps w var rows h = tightest-keeps (Lacks w) (cancelled_by var rows (find (determines var) rows)) (by_keeps w var rows (find (determines var) rows) refl h)

-- ---- several stages

shadow_lacks : (w : ℕ) (vs : List ℕ) (rows : List Row) → HasSome (λ v. v ≡ w) vs → Each (Lacks w) (shadow_rows vs rows)
unfolding shadow_rows
shadow_lacks w [] rows h = absurd h
shadow_lacks w (v ∷ vs) rows (inl here) = subst (λ (u : ℕ). Each (Lacks u) (stage_rows v (shadow_rows vs rows))) here (stage_lacks v (shadow_rows vs rows))
shadow_lacks w (v ∷ vs) rows (inr rest) = stage_keeps w v (shadow_rows vs rows) (shadow_lacks w vs rows rest)

among_by : (n v w : ℕ) (test : Bool) → nat_eq v w ≡ test → v ≤ w → (v + 1 ≤ w → HasSome (λ u. u ≡ w) (variables n (v + 1))) → HasSome (λ u. u ≡ w) (variables (suc n) v)
among_by n v w true e low rest = inl (grind (arith, nat_tests, e))
among_by n v w false e low rest = inr (rest (grind (arith, nat_tests, e, low)))

among : (n v w : ℕ) → v ≤ w → w < v + n → HasSome (λ u. u ≡ w) (variables n v)
among zero v w low high = absurd (omega arith)
among (suc n) v w low high = among_by n v w (nat_eq v w) refl low (λ next. among n (v + 1) w next (omega arith))

kept_by : (p : ℕ → Bool) (x w : ℕ) (xs : List ℕ) (test : Bool) → p x ≡ test → p w ≡ true → (x ≡ w) ⊎ HasSome (λ u. u ≡ w) (filter p xs) → HasSome (λ u. u ≡ w) (cond test (x ∷ filter p xs) (filter p xs))
kept_by p x w xs true e on h = h
kept_by p x w xs false e on (inl here) = absurd (let clash : false ≡ true = sym e ∙ (ap p here ∙ on) in cc clash)
kept_by p x w xs false e on (inr rest) = rest

kept_some : (p : ℕ → Bool) (w : ℕ) (xs : List ℕ) → p w ≡ true → HasSome (λ u. u ≡ w) xs → HasSome (λ u. u ≡ w) (filter p xs)
kept_some p w [] on h = absurd h
kept_some p w (x ∷ xs) on (inl here) = kept_by p x w xs (p x) refl on (inl here)
kept_some p w (x ∷ xs) on (inr rest) = kept_by p x w xs (p x) refl on (inr (kept_some p w xs on rest))

takes_by : (var w : ℕ) (test : Bool) → nat_eq var w ≡ test → w ≢ var → is_cancelled (var ∷ []) w ≡ true
takes_by var w true e apart = absurd (apart (grind (arith, nat_tests, e)))
takes_by var w false e apart = rw e refl

takes_it : (var w : ℕ) → w ≢ var → is_cancelled (var ∷ []) w ≡ true
takes_it var w apart = takes_by var w (nat_eq var w) refl apart

pub others_lack : (var w width : ℕ) (rows : List Row) → w < width → w ≢ var → Each (Lacks w) (shadow_rows (cancelled_from (var ∷ []) 0 width) rows)
unfolding cancelled_from
others_lack var w width rows below apart =
    shadow_lacks w (filter (is_cancelled (var ∷ [])) (variables (width - 0) 0)) rows
    (kept_some (is_cancelled (var ∷ [])) w (variables (width - 0) 0) (takes_it var w apart) (among (width - 0) 0 w (omega arith) (omega arith)))

-- ---- a row with one variable

-- no term, or one of that variable
abbrev pub IsSingle : ℕ → List (ℕ × ℤ) → Type 0
IsSingle var ts = (ts ≡ []) ⊎ ((f : ℤ) × (ts ≡ (var, f) ∷ []))

no_term : (f : ℤ) → f ≡ pos 0 → 0 < unsigned_abs f → ⊥
no_term f e h = omega (arith, ints, e, h)

single_by : (var width : ℕ) (t : ℕ × ℤ) (ts : List (ℕ × ℤ)) (test : Bool) → nat_eq t.0 var ≡ test → Rising (t ∷ ts) → All (IsTerm width) (t ∷ ts) → ((w : ℕ) → w < width → w ≢ var → factor_of w (t ∷ ts) ≡ pos 0) → IsSingle var (t ∷ ts)
single_by var width t ts false e rising all none =
    let here = All-head (IsTerm width) t ts all in
    absurd (no_term t.1 (sym (factor_found (t ∷ ts) 0 t.0 (omega arith) rising refl) ∙ none t.0 here.var (λ same. grind (arith, nat_tests, e, same))) here.nonzero)
single_by var width t [] true e rising all none = inr (t.1, ap (λ (v : ℕ). (v, t.1) ∷ []) (let k : t.0 ≡ var = grind (arith, nat_tests, e) in k))
single_by var width t (u ∷ us) true e rising all none =
    let here = All-head (IsTerm width) u us (All-tail (IsTerm width) t (u ∷ us) all) in
    let k : t.0 ≡ var = grind (arith, nat_tests, e) in
    let later = factor_later (t ∷ u ∷ us) 0 u.0 (omega arith) rising (λ same. omega (arith, same, rising.0.0)) in
    let at = factor_found (t ∷ u ∷ us) 1 u.0 (omega arith) rising.1 refl in
    absurd (no_term u.1 (sym at ∙ (sym later ∙ none u.0 here.var (λ same. omega (arith, same, k, rising.0.0)))) here.nonzero)

single_terms : (var width : ℕ) (ts : List (ℕ × ℤ)) → Rising ts → All (IsTerm width) ts → ((w : ℕ) → w < width → w ≢ var → factor_of w ts ≡ pos 0) → IsSingle var ts
single_terms var width [] rising all none = inl refl
single_terms var width (t ∷ ts) rising all none = single_by var width t ts (nat_eq t.0 var) refl rising all none

-- a fact of each row for every variable of a kind
each_of : (Q : ℕ → Type 0) (P : ℕ → Row → Type 0) (rows : List Row) → ((w : ℕ) → Q w → Each (P w) rows) → Each (λ r. (w : ℕ) → Q w → P w r) rows
each_of Q P [] f = tt
each_of Q P (r ∷ rows) f = ((λ w q. (f w q).0), each_of Q P rows (λ w q. (f w q).1))

pub all_single : (var width : ℕ) (rows : List Row) → Each (IsRow width) (shadow_rows (cancelled_from (var ∷ []) 0 width) rows) → Each (λ r. IsSingle var r.terms) (shadow_rows (cancelled_from (var ∷ []) 0 width) rows)
all_single var width rows h =
    let last = shadow_rows (cancelled_from (var ∷ []) 0 width) rows in
    Each-both (IsRow width) (λ r. (w : ℕ) → (w < width) × (w ≢ var) → Lacks w r) (λ r. IsSingle var r.terms) last
    (λ r is lacks. single_terms var width r.terms (Rising-from r.terms is.rising) is.terms (λ w below apart. lacks w (below, apart)))
    h (each_of (λ w. (w < width) × (w ≢ var)) Lacks last (λ w q. others_lack var w width rows q.0 q.1))
