-- Parts in the ratio of their first factors are positive multiples, and no two inequalities that stay have such parts.
use Rattle.std.specs.Prelude.{◌≡◌, ℕ, ◌*◌, ◌<◌, ◌≤ℤ◌, ◌⊎◌, All, max, ℤ, pos, ◌*ℤ◌, List, [], ◌∷◌, ◌++◌, Bool, true, false, cond, ◌&&◌, ◌||◌, not, nat_eq, drop, unsigned_abs}
use Rattle.std.specs.Ordering.{int_eq}
use Rattle.std.specs.List.{list_any}
use Rattle.std.proofs.Common.{refl, sym, ap, ◌∙◌, arith, get_or, inl, inr, length}
use Rattle.std.proofs.lemmas.Int.{ints, by_lt_z, unsigned_abs-mul}
use Rattle.std.proofs.lemmas.Bool.Decides.{nat_tests, Decides-int_eq}
use Rattle.std.proofs.lemmas.List.Elements.{All-head}
use Rattle.std.proofs.lemmas.List.Folds.{list_any-append}
use Rattle.affine_rows.specs.declared.row.Row.{Row}
use Rattle.affine_rows.specs.Rows.{IsTerm}
use Rattle.affine_rows.specs.Reduced.{IsSomeRow}
use Rattle.wrap_words.proofs.Ring.{swap, pos_assoc, scaled-cancel}
use Rattle.elimination.specs.Stages.{weight, in_ratio, covers, is_stricter, is_trivial, stays, staying, tightest_rows}
use Rattle.elimination.specs.Shadows.{Each}
use Rattle.elimination.specs.Directions.{scaled, AreMultiples, RatiosAreMultiples, IsApart, AreApart}
use Rattle.elimination.proofs.Bounds.{Each-map}
use Rattle.elimination.proofs.Pairing.{Each-both}
use Rattle.elimination.proofs.Covering.{and_parts, covers-from, staying-keeps, weight_positive}

-- ---- ratios

ratio_scaled : (v w : ℕ) (ts us : List (ℕ × ℤ)) → in_ratio v w ts us ≡ true → scaled w ts ≡ scaled v us
ratio_scaled v w [] [] h = refl
ratio_scaled v w [] (u ∷ us) h = absurd (let no : false ≡ true = h in cc)
ratio_scaled v w (t ∷ ts) [] h = absurd (let no : false ≡ true = h in cc)
ratio_scaled v w (t ∷ ts) (u ∷ us) h =
    let parts = and_parts (nat_eq t.0 u.0 && int_eq (pos w *ℤ t.1) (pos v *ℤ u.1)) (in_ratio v w ts us) h in
    let here = and_parts (nat_eq t.0 u.0) (int_eq (pos w *ℤ t.1) (pos v *ℤ u.1)) parts.0 in
    let same : t.0 ≡ u.0 = grind (arith, nat_tests, here) in
    let factors : pos w *ℤ t.1 ≡ pos v *ℤ u.1 = (Decides-int_eq (pos w *ℤ t.1) (pos v *ℤ u.1)).0 here.1 in
    ap (λ (n : ℕ). (n, pos w *ℤ t.1) ∷ scaled w ts) same
    ∙ (ap (λ (z : ℤ). (u.0, z) ∷ scaled w ts) factors ∙ ap (λ (xs : List (ℕ × ℤ)). (u.0, pos v *ℤ u.1) ∷ xs) (ratio_scaled v w ts us parts.1))

scaled_ratio : (p q v w : ℕ) (ts us : List (ℕ × ℤ)) → 0 < p → p * v ≡ q * w → scaled p ts ≡ scaled q us → in_ratio v w ts us ≡ true
scaled_ratio p q v w [] [] positive cross h = refl
scaled_ratio p q v w [] (u ∷ us) positive cross h = absurd (omega (arith, ap length h))
scaled_ratio p q v w (t ∷ ts) [] positive cross h = absurd (omega (arith, ap length h))
scaled_ratio p q v w (t ∷ ts) (u ∷ us) positive cross h =
    let var : t.0 ≡ u.0 = ap (λ (xs : List (ℕ × ℤ)). (get_or xs 0 (0, pos 0)).0) h in
    let factor : pos p *ℤ t.1 ≡ pos q *ℤ u.1 = ap (λ (xs : List (ℕ × ℤ)). (get_or xs 0 (0, pos 0)).1) h in
    let rest : scaled p ts ≡ scaled q us = ap (λ (xs : List (ℕ × ℤ)). drop 1 xs) h in
    let crossed : pos p *ℤ (pos w *ℤ t.1) ≡ pos p *ℤ (pos v *ℤ u.1) =
    swap (pos p) (pos w) t.1 ∙ (ap (λ (z : ℤ). pos w *ℤ z) factor
    ∙ (swap (pos w) (pos q) u.1 ∙ (pos_assoc q w u.1 ∙ (ap (λ (n : ℕ). pos n *ℤ u.1) (sym cross) ∙ sym (pos_assoc p v u.1))))) in
    let one : nat_eq t.0 u.0 ≡ true = grind (arith, nat_tests, var) in
    let two : int_eq (pos w *ℤ t.1) (pos v *ℤ u.1) ≡ true = (Decides-int_eq (pos w *ℤ t.1) (pos v *ℤ u.1)).1 (scaled-cancel p (pos w *ℤ t.1) (pos v *ℤ u.1) positive crossed) in
    let three = scaled_ratio p q v w ts us positive cross rest in
    rw (one, two, three) refl

scaled_abs : (p : ℕ) (z : ℤ) → unsigned_abs (pos p *ℤ z) ≡ p * unsigned_abs z
scaled_abs p z = unsigned_abs-mul (pos p) z

nonzero_weight : (n : ℕ) → 0 < n → max 1 n ≡ n
nonzero_weight n h = omega (arith, h)

multiples-ratio : (width width2 : ℕ) (ts us : List (ℕ × ℤ)) → All (IsTerm width) ts → All (IsTerm width2) us → AreMultiples ts us → in_ratio (weight ts) (weight us) ts us ≡ true
multiples-ratio width width2 [] [] ht hu m = refl
multiples-ratio width width2 [] (u ∷ us) ht hu m = absurd (omega (arith, ap length m.4))
multiples-ratio width width2 (t ∷ ts) [] ht hu m = absurd (omega (arith, ap length m.4))
multiples-ratio width width2 (t ∷ ts) (u ∷ us) ht hu m =
    let a : IsTerm width t = All-head (IsTerm width) t ts ht in
    let b : IsTerm width2 u = All-head (IsTerm width2) u us hu in
    let factor : pos m.0 *ℤ t.1 ≡ pos m.1 *ℤ u.1 = ap (λ (xs : List (ℕ × ℤ)). (get_or xs 0 (0, pos 0)).1) m.4 in
    let sizes : m.0 * unsigned_abs t.1 ≡ m.1 * unsigned_abs u.1 = sym (scaled_abs m.0 t.1) ∙ (ap unsigned_abs factor ∙ scaled_abs m.1 u.1) in
    let cross : m.0 * weight (t ∷ ts) ≡ m.1 * weight (u ∷ us) = ap (λ (n : ℕ). m.0 * n) (nonzero_weight (unsigned_abs t.1) a.nonzero) ∙ (sizes ∙ ap (λ (n : ℕ). m.1 * n) (sym (nonzero_weight (unsigned_abs u.1) b.nonzero))) in
    scaled_ratio m.0 m.1 (weight (t ∷ ts)) (weight (u ∷ us)) (t ∷ ts) (u ∷ us) m.2 cross m.4

pub ratios_are : RatiosAreMultiples
ratios_are k r hk hr = (
  (λ h. (weight r.terms, weight k.terms, weight_positive r.terms, weight_positive k.terms, ratio_scaled (weight k.terms) (weight r.terms) k.terms r.terms h)),
  multiples-ratio hk.0 hr.0 k.terms r.terms hk.1.terms hr.1.terms,
)

-- ---- rows that stay

or_none : (a b : Bool) → (a || b) ≡ false → (a ≡ false) × (b ≡ false)
or_none true b h = absurd (let no : true ≡ false = h in cc)
or_none false b h = (refl, h)

none_each : (p : Row → Bool) (xs : List Row) → list_any p xs ≡ false → Each (λ k. p k ≡ false) xs
none_each p [] h = tt
none_each p (x ∷ xs) h = let parts = or_none (p x) (list_any p xs) h in (parts.0, none_each p xs parts.1)

stays_parts : (a b c : Bool) → (not a && (not b && not c)) ≡ true → (b ≡ false) × (c ≡ false)
stays_parts true b c h = absurd (let no : false ≡ true = h in cc)
stays_parts false true c h = absurd (let no : false ≡ true = h in cc)
stays_parts false false true h = absurd (let no : false ≡ true = h in cc)
stays_parts false false false h = (refl, refl)

stays-none : (before after : List Row) (r : Row) → stays before r after ≡ true → (list_any (λ k. covers k r) before ≡ false) × (list_any (λ k. is_stricter k r) after ≡ false)
unfolding stays
stays-none before after r h = stays_parts (is_trivial r) (list_any (λ k. covers k r) before) (list_any (λ k. is_stricter k r) after) h

-- no row before covers the row
abbrev Uncovered : List Row → Row → Type 0
Uncovered before k = list_any (λ x. covers x k) before ≡ false

uncovered-parts : (before : List Row) (r k : Row) → Uncovered (before ++ r ∷ []) k → (list_any (λ x. covers x k) before ≡ false) × (covers r k ≡ false)
uncovered-parts before r k h =
    let parts = or_none (list_any (λ x. covers x k) before) (covers r k || false) (sym (list_any-append (λ x. covers x k) before (r ∷ [])) ∙ h) in
    (parts.0, (or_none (covers r k) false parts.1).0)

step_uncovered : (before after : List Row) (r : Row) (test : Bool) → stays before r after ≡ test → Each (Uncovered before) (staying (before ++ r ∷ []) after) → Each (Uncovered before) (cond test (r ∷ staying (before ++ r ∷ []) after) (staying (before ++ r ∷ []) after))
step_uncovered before after r true e h = ((stays-none before after r e).0, h)
step_uncovered before after r false e h = h

all_uncovered : (before after : List Row) → Each (Uncovered before) (staying before after)
unfolding staying
all_uncovered before [] = tt
all_uncovered before (r ∷ after) =
    step_uncovered before after r (stays before r after) refl
    (Each-map (Uncovered (before ++ r ∷ [])) (Uncovered before) (staying (before ++ r ∷ []) after) (λ k h. (uncovered-parts before r k h).0) (all_uncovered (before ++ r ∷ []) after))

one_tighter : (a b : ℤ) → (a ≤ℤ b) ⊎ (b ≤ℤ a)
one_tighter a b = by_lt_z a b (λ less. inl (omega (arith, ints, less))) (λ more. inr more)

ratio_back : (v w : ℕ) (ts us : List (ℕ × ℤ)) → in_ratio v w ts us ≡ true → in_ratio w v us ts ≡ true
ratio_back v w [] [] h = refl
ratio_back v w [] (u ∷ us) h = h
ratio_back v w (t ∷ ts) [] h = h
ratio_back v w (t ∷ ts) (u ∷ us) h =
    let parts = and_parts (nat_eq t.0 u.0 && int_eq (pos w *ℤ t.1) (pos v *ℤ u.1)) (in_ratio v w ts us) h in
    let here = and_parts (nat_eq t.0 u.0) (int_eq (pos w *ℤ t.1) (pos v *ℤ u.1)) parts.0 in
    let one : nat_eq u.0 t.0 ≡ true = grind (arith, nat_tests, here) in
    let two : int_eq (pos v *ℤ u.1) (pos w *ℤ t.1) ≡ true = (Decides-int_eq (pos v *ℤ u.1) (pos w *ℤ t.1)).1 (sym ((Decides-int_eq (pos w *ℤ t.1) (pos v *ℤ u.1)).0 here.1)) in
    let three = ratio_back v w ts us parts.1 in
    rw (one, two, three) refl

-- of two inequalities of one direction one covers the other
one_covers : (k r : Row) → k.equal ≡ false → r.equal ≡ false → in_ratio (weight k.terms) (weight r.terms) k.terms r.terms ≡ true → (covers k r ≡ true) ⊎ (covers r k ≡ true)
one_covers k r e f h = elim (one_tighter (pos (weight r.terms) *ℤ k.constant) (pos (weight k.terms) *ℤ r.constant)) [
  | inl le ↦ inl (covers-from k r record { first = e; second = f; ratio = h; bound = le })
  | inr le ↦ inr (covers-from r k record { first = f; second = e; ratio = ratio_back (weight k.terms) (weight r.terms) k.terms r.terms h; bound = le })
]

not_stricter : (a b : Bool) → (a && not b) ≡ false → b ≡ false → a ≡ false
not_stricter true b h e = absurd (let no : true ≡ false = sym (ap not e) ∙ h in cc)
not_stricter false b h e = refl

apart_from : (before : List Row) (r k : Row) → IsSomeRow r → IsSomeRow k → Uncovered (before ++ r ∷ []) k → is_stricter k r ≡ false → IsApart r k
apart_from before r k hr hk first second e f m =
    let own = (uncovered-parts before r k first).1 in
    let other = not_stricter (covers k r) (covers r k) second own in
    elim (one_covers r k e f ((ratios_are r k hr hk).1 m)) [ inl g ↦ absurd (let no : true ≡ false = sym g ∙ own in cc) | inr g ↦ absurd (let no : true ≡ false = sym g ∙ other in cc) ]

step_apart : (before after : List Row) (r : Row) (test : Bool) → stays before r after ≡ test → IsSomeRow r → Each IsSomeRow after → AreApart (staying (before ++ r ∷ []) after) → AreApart (cond test (r ∷ staying (before ++ r ∷ []) after) (staying (before ++ r ∷ []) after))
step_apart before after r true e hr h apart =
    let left : List Row = staying (before ++ r ∷ []) after in
    let below = staying-keeps (λ k. is_stricter k r ≡ false) (before ++ r ∷ []) after (none_each (λ k. is_stricter k r) after (stays-none before after r e).1) in
    let rows = staying-keeps IsSomeRow (before ++ r ∷ []) after h in
    let some = Each-both IsSomeRow (Uncovered (before ++ r ∷ [])) (λ k. IsSomeRow k × Uncovered (before ++ r ∷ []) k) left (λ k a b. (a, b)) rows (all_uncovered (before ++ r ∷ []) after) in
    (Each-both (λ k. IsSomeRow k × Uncovered (before ++ r ∷ []) k) (λ k. is_stricter k r ≡ false) (IsApart r) left (λ k a b. apart_from before r k hr a.0 a.1 b) some below, apart)
step_apart before after r false e hr h apart = apart

staying-apart : (before after : List Row) → Each IsSomeRow after → AreApart (staying before after)
unfolding staying
staying-apart before [] h = tt
staying-apart before (r ∷ after) h = step_apart before after r (stays before r after) refl h.0 h.1 (staying-apart (before ++ r ∷ []) after h.1)

pub tightest-apart : (rows : List Row) → Each IsSomeRow rows → AreApart (tightest_rows rows)
unfolding tightest_rows
tightest-apart rows h = staying-apart [] rows h
