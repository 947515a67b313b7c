-- Rows that are dropped follow from those that stay.
use Rattle.std.specs.Prelude.{◌≡◌, ◌↔◌, ℕ, ◌<◌, ℤ, pos, ◌+ℤ◌, ◌*ℤ◌, ◌≤ℤ◌, List, [], ◌∷◌, ◌++◌, Bool, true, false, cond, ◌&&◌, ◌||◌, not, int_lt, nat_eq, filter, ◌⊎◌}
use Rattle.std.specs.Ordering.{int_eq}
use Rattle.std.specs.List.{list_any}
use Rattle.std.proofs.Common.{inl, inr, refl, sym, ap, ◌∙◌, subst, arith}
use Rattle.std.proofs.lemmas.Int.{ints}
use Rattle.std.proofs.lemmas.Bool.Decides.{nat_tests, Decides-int_eq}
use Rattle.affine_rows.specs.declared.row.Row.{Row}
use Rattle.affine_rows.specs.Rows.{terms_at}
use Rattle.affine_rows.specs.Reduced.{value_over, IsMet, HoldsOver}
use Rattle.wrap_words.proofs.Ring.{distrib, assoc, swap, nonneg, nonneg-cancel, scaled_le, scaled-cancel, cross_trans}
use Rattle.elimination.specs.Stages.{has_no_terms, is_trivial, weight, in_ratio, is_tighter, covers, is_stricter, stays, staying, tightest_rows}
use Rattle.elimination.specs.Shadows.{Each, AllHold}
use Rattle.elimination.proofs.Bounds.{Each-map}
use Rattle.std.proofs.lemmas.List.Folds.{list_any-append}

pub and_parts : (a b : Bool) → (a && b) ≡ true → (a ≡ true) × (b ≡ true)
and_parts true b h = (refl, h)
and_parts false b h = absurd (let no : false ≡ true = h in cc)

pub not_true : (a : Bool) → not a ≡ true → a ≡ false
not_true true h = absurd (let no : false ≡ true = h in cc)
not_true false h = refl

-- ---- variable parts in a ratio

ratio_at : (v w : ℕ) (ts us : List (ℕ × ℤ)) (at : ℕ → ℤ) → in_ratio v w ts us ≡ true → pos w *ℤ terms_at at ts ≡ pos v *ℤ terms_at at us
ratio_at v w [] [] at h = omega (arith, ints)
ratio_at v w [] (u ∷ us) at h = absurd (let no : false ≡ true = h in cc)
ratio_at v w (t ∷ ts) [] at h = absurd (let no : false ≡ true = h in cc)
ratio_at v w (t ∷ ts) (u ∷ us) at h =
    let parts = and_parts (nat_eq t.0 u.0 && int_eq (pos w *ℤ t.1) (pos v *ℤ u.1)) (in_ratio v w ts us) h in
    let here = and_parts (nat_eq t.0 u.0) (int_eq (pos w *ℤ t.1) (pos v *ℤ u.1)) parts.0 in
    let same : t.0 ≡ u.0 = grind (arith, nat_tests, here) in
    let factors : pos w *ℤ t.1 ≡ pos v *ℤ u.1 = (Decides-int_eq (pos w *ℤ t.1) (pos v *ℤ u.1)).0 here.1 in
    omega (
      arith,
      ints,
      distrib (pos w) (t.1 *ℤ at t.0) (terms_at at ts),
      distrib (pos v) (u.1 *ℤ at u.0) (terms_at at us),
      assoc (pos w) t.1 (at t.0),
      assoc (pos v) u.1 (at u.0),
      ap (λ (z : ℤ). z *ℤ at t.0) factors,
      ap (λ (n : ℕ). (pos v *ℤ u.1) *ℤ at n) same,
      ratio_at v w ts us at parts.1,
    )

pub weight_positive : (ts : List (ℕ × ℤ)) → 0 < weight ts
weight_positive [] = omega arith
weight_positive (t ∷ ts) = omega arith

-- two inequalities, the first the tighter
covered_value : (v w over : ℕ) (c d t u : ℤ) → 0 < v → pos w *ℤ t ≡ pos v *ℤ u → (pos w *ℤ c) ≤ℤ (pos v *ℤ d) → pos 0 ≤ℤ (pos over *ℤ c +ℤ t) → pos 0 ≤ℤ (pos over *ℤ d +ℤ u)
covered_value v w over c d t u positive same le h =
    let f = nonneg w (pos over *ℤ c +ℤ t) h in
    let g = scaled_le over (pos w *ℤ c) (pos v *ℤ d) le in
    nonneg-cancel v (pos over *ℤ d +ℤ u) positive
    (omega (
      arith,
      ints,
      f,
      g,
      same,
      distrib (pos w) (pos over *ℤ c) t,
      distrib (pos v) (pos over *ℤ d) u,
      swap (pos w) (pos over) c,
      swap (pos v) (pos over) d,
    ))

not_less : (a b : ℤ) → not (int_lt a b) ≡ true → b ≤ℤ a
not_less a b h = grind (arith, ints, h)

inequality_met : (e : Bool) (v : ℤ) → e ≡ false → IsMet e v ↔ (pos 0 ≤ℤ v)
inequality_met true v h = absurd (let no : true ≡ false = h in cc)
inequality_met false v h = ((λ x. x), (λ x. x))

-- ---- what covers a row that covers another

ratio-chain : (v w x : ℕ) (ts us ss : List (ℕ × ℤ)) → 0 < w → in_ratio v w ts us ≡ true → in_ratio w x us ss ≡ true → in_ratio v x ts ss ≡ true
ratio-chain v w x [] [] ss positive h k = k
ratio-chain v w x [] (u ∷ us) ss positive h k = absurd (let no : false ≡ true = h in cc)
ratio-chain v w x (t ∷ ts) [] ss positive h k = absurd (let no : false ≡ true = h in cc)
ratio-chain v w x (t ∷ ts) (u ∷ us) [] positive h k = absurd (let no : false ≡ true = k in cc)
ratio-chain v w x (t ∷ ts) (u ∷ us) (s ∷ ss) positive h k =
    let first = and_parts (nat_eq t.0 u.0 && int_eq (pos w *ℤ t.1) (pos v *ℤ u.1)) (in_ratio v w ts us) h in
    let second = and_parts (nat_eq u.0 s.0 && int_eq (pos x *ℤ u.1) (pos w *ℤ s.1)) (in_ratio w x us ss) k in
    let left = and_parts (nat_eq t.0 u.0) (int_eq (pos w *ℤ t.1) (pos v *ℤ u.1)) first.0 in
    let right = and_parts (nat_eq u.0 s.0) (int_eq (pos x *ℤ u.1) (pos w *ℤ s.1)) second.0 in
    let same : nat_eq t.0 s.0 ≡ true = grind (arith, nat_tests, left, right) in
    let p : pos w *ℤ t.1 ≡ pos v *ℤ u.1 = (Decides-int_eq (pos w *ℤ t.1) (pos v *ℤ u.1)).0 left.1 in
    let q : pos x *ℤ u.1 ≡ pos w *ℤ s.1 = (Decides-int_eq (pos x *ℤ u.1) (pos w *ℤ s.1)).0 right.1 in
    let scaled : pos w *ℤ (pos x *ℤ t.1) ≡ pos w *ℤ (pos v *ℤ s.1) =
    swap (pos w) (pos x) t.1 ∙ (ap (λ (z : ℤ). pos x *ℤ z) p ∙ (swap (pos x) (pos v) u.1 ∙ (ap (λ (z : ℤ). pos v *ℤ z) q ∙ swap (pos v) (pos w) s.1))) in
    let factors : int_eq (pos x *ℤ t.1) (pos v *ℤ s.1) ≡ true = (Decides-int_eq (pos x *ℤ t.1) (pos v *ℤ s.1)).1 (scaled-cancel w (pos x *ℤ t.1) (pos v *ℤ s.1) positive scaled) in
    let rest = ratio-chain v w x ts us ss positive first.1 second.1 in
    rw (same, factors, rest) refl

not_less_from : (a b : ℤ) → b ≤ℤ a → not (int_lt a b) ≡ true
not_less_from a b h = grind (arith, ints, h)

-- the parts of `covers`
pub record Covers (k r : Row) : Type 0 where
  pub first : k.equal ≡ false
  pub second : r.equal ≡ false
  pub ratio : in_ratio (weight k.terms) (weight r.terms) k.terms r.terms ≡ true
  pub bound : (pos (weight r.terms) *ℤ k.constant) ≤ℤ (pos (weight k.terms) *ℤ r.constant)

pub Covers-from : (k r : Row) → covers k r ≡ true → Covers k r
unfolding covers is_tighter
Covers-from k r h =
    let v = weight k.terms in
    let w = weight r.terms in
    let outer = and_parts (not k.equal && not r.equal) (in_ratio v w k.terms r.terms && not (int_lt (pos v *ℤ r.constant) (pos w *ℤ k.constant))) h in
    let inner = and_parts (in_ratio v w k.terms r.terms) (not (int_lt (pos v *ℤ r.constant) (pos w *ℤ k.constant))) outer.1 in
    let both = and_parts (not k.equal) (not r.equal) outer.0 in
    record { first = not_true k.equal both.0; second = not_true r.equal both.1; ratio = inner.0; bound = not_less (pos v *ℤ r.constant) (pos w *ℤ k.constant) inner.1 }

pub covers-holds : (k r : Row) (over : ℕ) (at : ℕ → ℤ) → covers k r ≡ true → HoldsOver over at k → HoldsOver over at r
covers-holds k r over at h holds =
    let is = Covers-from k r h in
    let value = (inequality_met k.equal (value_over over at k) is.first).0 holds in
    (inequality_met r.equal (value_over over at r) is.second).1
    (covered_value (weight k.terms) (weight r.terms) over k.constant r.constant (terms_at at k.terms) (terms_at at r.terms) (weight_positive k.terms) (ratio_at (weight k.terms) (weight r.terms) k.terms r.terms at is.ratio) is.bound value)

pub covers-from : (k r : Row) → Covers k r → covers k r ≡ true
unfolding covers is_tighter
covers-from k r h =
    let less = not_less_from (pos (weight k.terms) *ℤ r.constant) (pos (weight r.terms) *ℤ k.constant) h.bound in
    rw (h.first, h.second, h.ratio, less) refl

pub covers-chain : (k r s : Row) → covers k r ≡ true → covers r s ≡ true → covers k s ≡ true
covers-chain k r s h g =
    let a = Covers-from k r h in
    let b = Covers-from r s g in
    covers-from k s record {
      first = a.first;
      second = b.second;
      ratio = ratio-chain (weight k.terms) (weight r.terms) (weight s.terms) k.terms r.terms s.terms (weight_positive r.terms) a.ratio b.ratio;
      bound = cross_trans (weight k.terms) (weight r.terms) (weight s.terms) k.constant r.constant s.constant (weight_positive r.terms) a.bound b.bound;
    }

-- ---- rows that stay

keep_step : (P : Row → Type 0) (k : Row) (ks : List Row) (test : Bool) → P k → Each P ks → Each P (cond test (k ∷ ks) ks)
keep_step P k ks true p h = (p, h)
keep_step P k ks false p h = h

pub Each-filter : (P : Row → Type 0) (p : Row → Bool) (ks : List Row) → Each P ks → Each P (filter p ks)
Each-filter P p [] h = tt
Each-filter P p (k ∷ ks) h = keep_step P k (filter p ks) (p k) h.0 (Each-filter P p ks h.1)

pub staying-keeps : (P : Row → Type 0) (before after : List Row) → Each P after → Each P (staying before after)
unfolding staying
staying-keeps P before [] h = tt
staying-keeps P before (r ∷ after) h = keep_step P r (staying (before ++ r ∷ []) after) (stays before r after) h.0 (staying-keeps P (before ++ r ∷ []) after h.1)

-- the row holds, or an earlier one covers it
abbrev Settled : ℕ → (ℕ → ℤ) → List Row → Row → Type 0
Settled over at before r = HoldsOver over at r ⊎ (list_any (λ k. covers k r) before ≡ true)

or_cases : (a b : Bool) → (a || b) ≡ true → (a ≡ true) ⊎ (b ≡ true)
or_cases true b h = inl refl
or_cases false b h = inr h

or_left : (a b : Bool) → a ≡ true → (a || b) ≡ true
or_left true b h = refl
or_left false b h = absurd (let no : false ≡ true = h in cc)

pub or_right : (a b : Bool) → b ≡ true → (a || b) ≡ true
or_right true b h = refl
or_right false b h = h

any_last : (p : Row → Bool) (xs : List Row) (x : Row) → list_any p (xs ++ x ∷ []) ≡ true → (list_any p xs ≡ true) ⊎ (p x ≡ true)
any_last p xs x h = elim (or_cases (list_any p xs) (p x || false) (sym (list_any-append p xs (x ∷ [])) ∙ h)) [
  | inl e ↦ inl e
  | inr e ↦ elim (or_cases (p x) false e) [ inl f ↦ inr f | inr f ↦ absurd (let no : false ≡ true = f in cc) ]
]

any-chain : (ks : List Row) (r s : Row) → list_any (λ k. covers k r) ks ≡ true → covers r s ≡ true → list_any (λ k. covers k s) ks ≡ true
any-chain [] r s h g = h
any-chain (k ∷ ks) r s h g = elim (or_cases (covers k r) (list_any (λ k. covers k r) ks) h) [
  | inl e ↦ or_left (covers k s) (list_any (λ k. covers k s) ks) (covers-chain k r s e g)
  | inr e ↦ or_right (covers k s) (list_any (λ k. covers k s) ks) (any-chain ks r s e g)
]

-- what a settled row covers is settled
settled-chain : (over : ℕ) (at : ℕ → ℤ) (before : List Row) (k r : Row) → Settled over at before k → covers k r ≡ true → Settled over at before r
settled-chain over at before k r (inl holds) h = inl (covers-holds k r over at h holds)
settled-chain over at before k r (inr any) h = inr (any-chain before k r any h)

-- one row less before
settled-last : (over : ℕ) (at : ℕ → ℤ) (before : List Row) (k r : Row) → Settled over at before k → Settled over at (before ++ k ∷ []) r → Settled over at before r
settled-last over at before k r own (inl holds) = inl holds
settled-last over at before k r own (inr any) = elim (any_last (λ k. covers k r) before k any) [ inl e ↦ inr e | inr e ↦ settled-chain over at before k r own e ]

pub above_parts : (a b : Bool) → (a && not b) ≡ true → (a ≡ true) × (b ≡ false)
above_parts true b h = (refl, not_true b h)
above_parts false b h = absurd (let no : false ≡ true = h in cc)

-- a row below a later one
settled-above : (over : ℕ) (at : ℕ → ℤ) (before : List Row) (k r : Row) → is_stricter k r ≡ true → Settled over at (before ++ r ∷ []) k → Settled over at before r
settled-above over at before k r h (inl holds) = inl (covers-holds k r over at (above_parts (covers k r) (covers r k) h).0 holds)
settled-above over at before k r h (inr any) = elim (any_last (λ x. covers x k) before r any) [
  | inl e ↦ inr (any-chain before k r e (above_parts (covers k r) (covers r k) h).0)
  | inr e ↦ absurd (let no = (above_parts (covers k r) (covers r k) h).1 in cc)
]

settled-any : (over : ℕ) (at : ℕ → ℤ) (before after : List Row) (r : Row) → list_any (λ k. is_stricter k r) after ≡ true → Each (Settled over at (before ++ r ∷ [])) after → Settled over at before r
settled-any over at before [] r h each = absurd (let no : false ≡ true = h in cc)
settled-any over at before (k ∷ after) r h each = elim (or_cases (is_stricter k r) (list_any (λ k. is_stricter k r) after) h) [
  | inl e ↦ settled-above over at before k r e each.0
  | inr e ↦ settled-any over at before after r e each.1
]

dropped_cases : (a b c : Bool) → (not a && (not b && not c)) ≡ false → (a ≡ true) ⊎ ((b ≡ true) ⊎ (c ≡ true))
dropped_cases true b c h = inl refl
dropped_cases false true c h = inr (inl refl)
dropped_cases false false true h = inr (inr refl)
dropped_cases false false false h = absurd (let no : true ≡ false = h in cc)

constant_met : (e : Bool) (over : ℕ) (c : ℤ) → (cond e (int_eq c (pos 0)) (not (int_lt c (pos 0)))) ≡ true → IsMet e (pos over *ℤ c +ℤ pos 0)
constant_met true over c h = omega (arith, ints, ap (λ (z : ℤ). pos over *ℤ z) ((Decides-int_eq c (pos 0)).0 h))
constant_met false over c h = let f = nonneg over c (not_less c (pos 0) h) in omega (arith, ints, f)

no_terms : (at : ℕ → ℤ) (ts : List (ℕ × ℤ)) → has_no_terms ts ≡ true → terms_at at ts ≡ pos 0
no_terms at [] h = refl
no_terms at (t ∷ ts) h = absurd (let no : false ≡ true = h in cc)

trivial_holds : (r : Row) (over : ℕ) (at : ℕ → ℤ) → is_trivial r ≡ true → HoldsOver over at r
unfolding is_trivial
trivial_holds r over at h =
    let parts = and_parts (has_no_terms r.terms) (cond r.equal (int_eq r.constant (pos 0)) (not (int_lt r.constant (pos 0)))) h in
    subst (λ (z : ℤ). IsMet r.equal (pos over *ℤ r.constant +ℤ z)) (sym (no_terms at r.terms parts.0)) (constant_met r.equal over r.constant parts.1)

settled-dropped : (over : ℕ) (at : ℕ → ℤ) (before after : List Row) (r : Row) → stays before r after ≡ false → Each (Settled over at (before ++ r ∷ [])) after → Settled over at before r
unfolding stays
settled-dropped over at before after r h each = elim (dropped_cases (is_trivial r) (list_any (λ k. covers k r) before) (list_any (λ k. is_stricter k r) after) h) [
  | inl e ↦ inl (trivial_holds r over at e)
  | inr (inl e) ↦ inr e
  | inr (inr e) ↦ settled-any over at before after r e each
]

settled-step : (over : ℕ) (at : ℕ → ℤ) (before after : List Row) (r : Row) (test : Bool) → stays before r after ≡ test → (AllHold over at (staying (before ++ r ∷ []) after) → Each (Settled over at (before ++ r ∷ [])) after) → AllHold over at (cond test (r ∷ staying (before ++ r ∷ []) after) (staying (before ++ r ∷ []) after)) → Each (Settled over at before) (r ∷ after)
settled-step over at before after r true e f h = (inl h.0, Each-map (Settled over at (before ++ r ∷ [])) (Settled over at before) after (λ x. settled-last over at before r x (inl h.0)) (f h.1))
settled-step over at before after r false e f h =
    let own = settled-dropped over at before after r e (f h) in
    (own, Each-map (Settled over at (before ++ r ∷ [])) (Settled over at before) after (λ x. settled-last over at before r x own) (f h))

settled : (over : ℕ) (at : ℕ → ℤ) (before after : List Row) → AllHold over at (staying before after) → Each (Settled over at before) after
unfolding staying
settled over at before [] h = tt
settled over at before (r ∷ after) h = settled-step over at before after r (stays before r after) refl (settled over at (before ++ r ∷ []) after) h

none_before : (over : ℕ) (at : ℕ → ℤ) (r : Row) → Settled over at [] r → HoldsOver over at r
none_before over at r (inl holds) = holds
none_before over at r (inr any) = absurd (let no : false ≡ true = any in cc)

-- the rows that stay hold exactly where all do
pub tightest-holds : (over : ℕ) (at : ℕ → ℤ) (rows : List Row) → AllHold over at (tightest_rows rows) ↔ AllHold over at rows
unfolding tightest_rows
tightest-holds over at rows = (
  (λ h. Each-map (Settled over at []) (HoldsOver over at) rows (none_before over at) (settled over at [] rows h)),
  staying-keeps (HoldsOver over at) [] rows,
)
