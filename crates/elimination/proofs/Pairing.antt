-- The paired rows hold exactly where each lower row and each upper row meet.
use Rattle.std.specs.Prelude.{◌≡◌, ◌≢◌, ◌↔◌, ℕ, suc, ◌<◌, ℤ, pos, negsuc, ◌+ℤ◌, ◌*ℤ◌, ◌≤ℤ◌, ◌<ℤ◌, neg_ℤ, List, [], ◌∷◌, ◌++◌, Bool, true, false, cond, ◌&&◌, int_lt, map, filter, flat_map}
use Rattle.std.specs.Ordering.{int_eq}
use Rattle.std.proofs.Common.{refl, sym, ap, ◌∙◌, subst, arith}
use Rattle.std.proofs.lemmas.Int.{ints}
use Rattle.std.proofs.lemmas.Bool.Decides.{Decides-int_eq}
use Rattle.affine_rows.specs.declared.row.Row.{Row}
use Rattle.affine_rows.specs.Reduced.{value_over, IsMet, HoldsOver, factor_of, combination, reduced_row}
use Rattle.affine_rows.proofs.Division.{reduced_holds}
use Rattle.affine_rows.proofs.Combining.{mixed_value, equal-mixed, positive_is}
use Rattle.elimination.specs.Stages.{bounds_below, bounds_above, is_without, pairs_of, paired_rows}
use Rattle.elimination.specs.Shadows.{Each, AllHold, IsShadow}
use Rattle.elimination.proofs.Bounds.{Each-map}
use Rattle.elimination.proofs.Points.{KeptHolds, PairHolds, Single, IsShadow-from}

-- ---- facts of each element

pub Each-append : {A : Type 0} (P : A → Type 0) (xs ys : List A) → Each P xs → Each P ys → Each P (xs ++ ys)
Each-append P [] ys h k = k
Each-append P (x ∷ xs) ys h k = (h.0, Each-append P xs ys h.1 k)

pub Each-parts : {A : Type 0} (P : A → Type 0) (xs ys : List A) → Each P (xs ++ ys) → Each P xs × Each P ys
Each-parts P [] ys h = (tt, h)
Each-parts P (x ∷ xs) ys h = let more = Each-parts P xs ys h.1 in ((h.0, more.0), more.1)

pub Each-both : {A : Type 0} (P Q R : A → Type 0) (xs : List A) → ((x : A) → P x → Q x → R x) → Each P xs → Each Q xs → Each R xs
Each-both P Q R [] f h k = tt
Each-both P Q R (x ∷ xs) f h k = (f x h.0 k.0, Each-both P Q R xs f h.1 k.1)

filtered_step : {A B : Type 0} (P : B → Type 0) (f : A → B) (x : A) (xs : List A) (test : Bool) → Each P (map f (cond test (x ∷ xs) xs)) → (test ≡ true → P (f x)) × Each P (map f xs)
filtered_step P f x xs true h = ((λ _. h.0), h.1)
filtered_step P f x xs false h = ((λ e. absurd (let no : false ≡ true = e in cc)), h)

-- of the elements that pass
pub filtered_to : {A B : Type 0} (P : B → Type 0) (f : A → B) (p : A → Bool) (xs : List A) → Each P (map f (filter p xs)) → Each (λ x. p x ≡ true → P (f x)) xs
filtered_to P f p [] h = tt
filtered_to P f p (x ∷ xs) h = let parts = filtered_step P f x (filter p xs) (p x) h in (parts.0, filtered_to P f p xs parts.1)

filtered_back : {A B : Type 0} (P : B → Type 0) (f : A → B) (x : A) (xs : List A) (test : Bool) → (test ≡ true → P (f x)) → Each P (map f xs) → Each P (map f (cond test (x ∷ xs) xs))
filtered_back P f x xs true h k = (h refl, k)
filtered_back P f x xs false h k = k

pub filtered_from : {A B : Type 0} (P : B → Type 0) (f : A → B) (p : A → Bool) (xs : List A) → Each (λ x. p x ≡ true → P (f x)) xs → Each P (map f (filter p xs))
filtered_from P f p [] h = tt
filtered_from P f p (x ∷ xs) h = filtered_back P f x (filter p xs) (p x) h.0 (filtered_from P f p xs h.1)

flat_step : {A B : Type 0} (P : B → Type 0) (f : A → List B) (x : A) (xs : List A) (test : Bool) → Each P (flat_map f (cond test (x ∷ xs) xs)) → (test ≡ true → Each P (f x)) × Each P (flat_map f xs)
flat_step P f x xs true h = let parts = Each-parts P (f x) (flat_map f xs) h in ((λ _. parts.0), parts.1)
flat_step P f x xs false h = ((λ e. absurd (let no : false ≡ true = e in cc)), h)

pub flat_to : {A B : Type 0} (P : B → Type 0) (f : A → List B) (p : A → Bool) (xs : List A) → Each P (flat_map f (filter p xs)) → Each (λ x. p x ≡ true → Each P (f x)) xs
flat_to P f p [] h = tt
flat_to P f p (x ∷ xs) h = let parts = flat_step P f x (filter p xs) (p x) h in (parts.0, flat_to P f p xs parts.1)

flat_back : {A B : Type 0} (P : B → Type 0) (f : A → List B) (x : A) (xs : List A) (test : Bool) → (test ≡ true → Each P (f x)) → Each P (flat_map f xs) → Each P (flat_map f (cond test (x ∷ xs) xs))
flat_back P f x xs true h k = Each-append P (f x) (flat_map f xs) (h refl) k
flat_back P f x xs false h k = k

pub flat_from : {A B : Type 0} (P : B → Type 0) (f : A → List B) (p : A → Bool) (xs : List A) → Each (λ x. p x ≡ true → Each P (f x)) xs → Each P (flat_map f (filter p xs))
flat_from P f p [] h = tt
flat_from P f p (x ∷ xs) h = flat_back P f x (filter p xs) (p x) h.0 (flat_from P f p xs h.1)

-- ---- the tests on a factor

below_is : (z : ℤ) → int_lt (pos 0) z ≡ true → pos 0 <ℤ z
below_is z h = grind (arith, ints)

above_is : (z : ℤ) → int_lt z (pos 0) ≡ true → z <ℤ pos 0
above_is z h = grind (arith, ints)

below_test : (z : ℤ) → pos 0 <ℤ z → int_lt (pos 0) z ≡ true
below_test z h = grind (arith, ints)

above_test : (z : ℤ) → z <ℤ pos 0 → int_lt z (pos 0) ≡ true
above_test z h = grind (arith, ints)

-- ---- one pair

pair_value : (var : ℕ) (lower upper : Row) (over : ℕ) (at : ℕ → ℤ) (a b : ℕ) → factor_of var lower.terms ≡ pos a → factor_of var upper.terms ≡ neg_ℤ (pos b) →
    value_over over at (combination var lower upper) ≡ pos b *ℤ value_over over at lower +ℤ pos a *ℤ value_over over at upper
unfolding combination
pair_value var lower upper over at a b fl fu =
    mixed_value over at (neg_ℤ (factor_of var upper.terms)) lower (factor_of var lower.terms) upper
    ∙ (ap (λ (z : ℤ). z *ℤ value_over over at lower +ℤ factor_of var lower.terms *ℤ value_over over at upper) (let e : neg_ℤ (factor_of var upper.terms) ≡ pos b = omega (arith, ints, fu) in e)
    ∙ ap (λ (z : ℤ). pos b *ℤ value_over over at lower +ℤ z *ℤ value_over over at upper) fl)

equal-combination : (var : ℕ) (lower upper : Row) → (combination var lower upper).equal ≡ (lower.equal && upper.equal)
unfolding combination
equal-combination var lower upper = equal-mixed (neg_ℤ (factor_of var upper.terms)) lower (factor_of var lower.terms) upper

-- where the lower row is an inequality, so is the combination
met_inequality : (e f g : Bool) (v w : ℤ) → e ≡ (f && g) → f ≡ false → v ≡ w → IsMet e v ↔ (pos 0 ≤ℤ w)
met_inequality e true g v w he hf same = absurd (let no : true ≡ false = hf in cc)
met_inequality true false g v w he hf same = absurd (let no : true ≡ false = he in cc)
met_inequality false false g v w he hf same = ((λ h. subst (λ (z : ℤ). pos 0 ≤ℤ z) same h), (λ h. subst (λ (z : ℤ). pos 0 ≤ℤ z) (sym same) h))

pair_met : (var : ℕ) (lower upper : Row) (over : ℕ) (at : ℕ → ℤ) (a b : ℕ) → lower.equal ≡ false → factor_of var lower.terms ≡ pos a → factor_of var upper.terms ≡ neg_ℤ (pos b) →
    HoldsOver over at (combination var lower upper) ↔ (pos 0 ≤ℤ (pos b *ℤ value_over over at lower +ℤ pos a *ℤ value_over over at upper))
pair_met var lower upper over at a b single fl fu =
    met_inequality (combination var lower upper).equal lower.equal upper.equal (value_over over at (combination var lower upper)) _ (equal-combination var lower upper) single (pair_value var lower upper over at a b fl fu)

-- where the tests pass, the reduced combination holds
abbrev Paired : ℕ → ℕ → (ℕ → ℤ) → Row → Row → Type 0
Paired var over at lower upper = bounds_below var lower ≡ true → bounds_above var upper ≡ true → HoldsOver over at (reduced_row (combination var lower upper))

apart : (z : ℤ) → pos 0 <ℤ z → z ≢ pos 0
apart z h e = omega (arith, ints, h, e)

pair_to : (var over : ℕ) (at : ℕ → ℤ) (lower upper : Row) → Single var lower → Paired var over at lower upper → PairHolds var over at lower upper
pair_to var over at lower upper single h a b fl fu ha hb =
    let below : pos 0 <ℤ factor_of var lower.terms = omega (arith, ints, fl) in
    let above : factor_of var upper.terms <ℤ pos 0 = omega (arith, ints, fu) in
    let holds = (reduced_holds (combination var lower upper) over at).0 (h (below_test (factor_of var lower.terms) below) (above_test (factor_of var upper.terms) above)) in
    (pair_met var lower upper over at a b (single (apart (factor_of var lower.terms) below)) fl fu).0 holds

-- a negative integer is less than 0 by a natural number
record Negative (z : ℤ) : Type 0 where
  number : ℕ
  is : z ≡ neg_ℤ (pos number)
  positive : 0 < number

negative_is : (z : ℤ) → z <ℤ pos 0 → Negative z
negative_is (pos n) h = absurd (omega (arith, ints))
negative_is (negsuc n) h = record { number = suc n; is = refl; positive = omega arith }

pair_back : (var over : ℕ) (at : ℕ → ℤ) (lower upper : Row) → Single var lower → PairHolds var over at lower upper → Paired var over at lower upper
pair_back var over at lower upper single h below above =
    let low = positive_is (factor_of var lower.terms) (below_is (factor_of var lower.terms) below) in
    let high = negative_is (factor_of var upper.terms) (above_is (factor_of var upper.terms) above) in
    (reduced_holds (combination var lower upper) over at).1
    ((pair_met var lower upper over at low.number high.number (single (apart (factor_of var lower.terms) (below_is (factor_of var lower.terms) below))) low.is high.is).1
    (h low.number high.number low.is high.is low.positive high.positive))

-- ---- all pairs

abbrev AllPaired : ℕ → ℕ → (ℕ → ℤ) → List Row → Row → Type 0
AllPaired var over at rows lower = bounds_below var lower ≡ true → AllHold over at (pairs_of var rows lower)

-- a premise goes in
turned : (var over : ℕ) (at : ℕ → ℤ) (lower : Row) (rows : List Row) → (bounds_below var lower ≡ true → Each (λ upper. bounds_above var upper ≡ true → HoldsOver over at (reduced_row (combination var lower upper))) rows) → Each (Paired var over at lower) rows
turned var over at lower [] h = tt
turned var over at lower (row ∷ rows) h = ((λ below. (h below).0), turned var over at lower rows (λ below. (h below).1))

lower_to : (var over : ℕ) (at : ℕ → ℤ) (rows : List Row) (lower : Row) → Single var lower → AllPaired var over at rows lower → Each (PairHolds var over at lower) rows
lower_to var over at rows lower single h =
    Each-map (Paired var over at lower) (PairHolds var over at lower) rows (λ upper k. pair_to var over at lower upper single k)
    (turned var over at lower rows (λ below. filtered_to (HoldsOver over at) (λ upper. reduced_row (combination var lower upper)) (bounds_above var) rows (h below)))

lower_back : (var over : ℕ) (at : ℕ → ℤ) (rows : List Row) (lower : Row) → Single var lower → Each (PairHolds var over at lower) rows → AllPaired var over at rows lower
lower_back var over at rows lower single h below =
    filtered_from (HoldsOver over at) (λ upper. reduced_row (combination var lower upper)) (bounds_above var) rows
    (Each-map (PairHolds var over at lower) (λ upper. bounds_above var upper ≡ true → HoldsOver over at (reduced_row (combination var lower upper))) rows (λ upper k above. pair_back var over at lower upper single k below above) h)

-- ---- the kept rows

without_is : (z : ℤ) → int_eq z (pos 0) ≡ true → z ≡ pos 0
without_is z h = (Decides-int_eq z (pos 0)).0 h

kept_to : (var over : ℕ) (at : ℕ → ℤ) (rows : List Row) → AllHold over at (map reduced_row (filter (is_without var) rows)) → Each (KeptHolds var over at) rows
kept_to var over at rows h =
    Each-map (λ row. is_without var row ≡ true → HoldsOver over at (reduced_row row)) (KeptHolds var over at) rows
    (λ row k none. (reduced_holds row over at).0 (k ((Decides-int_eq (factor_of var row.terms) (pos 0)).1 none)))
    (filtered_to (HoldsOver over at) reduced_row (is_without var) rows h)

kept_back : (var over : ℕ) (at : ℕ → ℤ) (rows : List Row) → Each (KeptHolds var over at) rows → AllHold over at (map reduced_row (filter (is_without var) rows))
kept_back var over at rows h =
    filtered_from (HoldsOver over at) reduced_row (is_without var) rows
    (Each-map (KeptHolds var over at) (λ row. is_without var row ≡ true → HoldsOver over at (reduced_row row)) rows (λ row k none. (reduced_holds row over at).1 (k (without_is (factor_of var row.terms) none))) h)

pub paired_holds : (var over : ℕ) (at : ℕ → ℤ) (rows : List Row) → Each (Single var) rows →
    AllHold over at (paired_rows var rows) ↔ (Each (KeptHolds var over at) rows × Each (λ lower. Each (PairHolds var over at lower) rows) rows)
unfolding paired_rows
paired_holds var over at rows single = (
  (λ h.
      let parts = Each-parts (HoldsOver over at) (map reduced_row (filter (is_without var) rows)) (flat_map (pairs_of var rows) (filter (bounds_below var) rows)) h in (
        kept_to var over at rows parts.0,
        Each-both (Single var) (AllPaired var over at rows) (λ lower. Each (PairHolds var over at lower) rows) rows (lower_to var over at rows) single
            (flat_to (HoldsOver over at) (pairs_of var rows) (bounds_below var) rows parts.1),
      )),
  (λ h.
      Each-append (HoldsOver over at) (map reduced_row (filter (is_without var) rows)) (flat_map (pairs_of var rows) (filter (bounds_below var) rows))
      (kept_back var over at rows h.0)
      (flat_from (HoldsOver over at) (pairs_of var rows) (bounds_below var) rows
      (Each-both (Single var) (λ lower. Each (PairHolds var over at lower) rows) (AllPaired var over at rows) rows (lower_back var over at rows) single h.1))),
)

pub paired_IsShadow : (var : ℕ) (rows : List Row) → Each (Single var) rows → IsShadow var rows (paired_rows var rows)
paired_IsShadow var rows single = IsShadow-from rows (paired_rows var rows) var single (λ over at. paired_holds var over at rows single)
