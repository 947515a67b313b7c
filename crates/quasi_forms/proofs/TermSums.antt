-- Collected terms: their value, their order, and that nothing but the values fixes them.
use Rattle.std.proofs.Common.{◌≡◌, ◌≢◌, ℕ, zero, suc, ◌+◌, ◌<◌, ◌≤◌, ℤ, pos, ◌+ℤ◌, ◌*ℤ◌, List, [], ◌∷◌, ◌++◌, Bool, true, false, cond, nat_eq, nat_lt, length, take, arith, refl, sym, ap, ap₂, ◌∙◌, subst, unsigned_abs, sum_by}
use Rattle.std.specs.Prelude.{slice_index_or}
use Rattle.std.specs.List.{AllByRecursion}
use Rattle.std.specs.List.Sorted.{IsPermutation, IsNonDecreasingBy}
use Rattle.std.proofs.lemmas.List.Sorted.{sum_by-IsPermutation}
use Rattle.std.proofs.lemmas.List.Sums.{sum_by-cons, sum_by_push, sum_by-take-le}
use Rattle.std.proofs.lemmas.List.{take_more, take_all}
use Rattle.std.proofs.lemmas.Int.{ints}
use Rattle.std.proofs.lemmas.Bool.Decides.{nat_tests}
use borrow.Author.Differences.{up, down}
use Rattle.affine_rows.specs.Rows.{Env, term_at, terms_at}
use Rattle.affine_rows.specs.Reduced.{cons_term, add_term, factor_of}
use Rattle.affine_rows.proofs.Combining.{unit, factor_of-at, factor_of-above}
use Rattle.affine_rows.proofs.Mixing.{Above, Rising, cons_by, add_by, add_rising, add_at}
use Rattle.affine_rows.proofs.Sums.{abs-sum, terms_at-append}
use Rattle.quasi_forms.specs.Collected.{collected_terms}

-- ---- values and order

pub collected-at : (at : Env) (ts : List (ℕ × ℤ)) → terms_at at (collected_terms ts) ≡ terms_at at ts
unfolding collected_terms
collected-at at [] = refl
collected-at at (t ∷ ts) = add_at at t.0 t.1 (collected_terms ts) ∙ ap (λ (z : ℤ). t.1 *ℤ at t.0 +ℤ z) (collected-at at ts)

pub collected-rising : (ts : List (ℕ × ℤ)) → Rising (collected_terms ts)
unfolding collected_terms
collected-rising [] = tt
collected-rising (t ∷ ts) = add_rising t.0 t.1 (collected_terms ts) (collected-rising ts)

-- no factor is 0
abbrev pub AreNonzero : List (ℕ × ℤ) → Type 0
AreNonzero [] = Unit {0}
AreNonzero (t ∷ ts) = (0 < unsigned_abs t.1) × AreNonzero ts

cons_nonzero : (v : ℕ) (f : ℤ) (ts : List (ℕ × ℤ)) → AreNonzero ts → AreNonzero (cons_term v f ts)
cons_nonzero v f ts h = cons_by v f ts AreNonzero (λ _. h) (λ some. (some, h))

pub add_nonzero : (v : ℕ) (f : ℤ) (ts : List (ℕ × ℤ)) → AreNonzero ts → AreNonzero (add_term v f ts)
unfolding add_term
add_nonzero v f [] h = cons_nonzero v f [] tt
add_nonzero v f (t ∷ ts) h =
    add_by v f t ts AreNonzero (λ _. cons_nonzero v f (t ∷ ts) h) (λ _. cons_nonzero v (f +ℤ t.1) ts h.1) (λ _. (h.0, add_nonzero v f ts h.1))

pub collected-nonzero : (ts : List (ℕ × ℤ)) → AreNonzero (collected_terms ts)
unfolding collected_terms
collected-nonzero [] = tt
collected-nonzero (t ∷ ts) = add_nonzero t.0 t.1 (collected_terms ts) (collected-nonzero ts)

-- ---- the values fix the terms

same_var : (v : ℕ) → nat_eq v v ≡ true
same_var v = grind (arith, nat_tests)

factor-head : (t : ℕ × ℤ) (ts : List (ℕ × ℤ)) → Above t.0 ts → factor_of t.0 (t ∷ ts) ≡ t.1
factor-head t ts above =
    ap (λ (b : Bool). cond b (t.1 +ℤ factor_of t.0 ts) (factor_of t.0 ts)) (same_var t.0) ∙ omega (arith, ints, factor_of-above ts t.0 t.0 (omega arith) above)

-- terms of which the variable is none
factor-none : (v : ℕ) (t : ℕ × ℤ) (ts : List (ℕ × ℤ)) → v < t.0 → Above t.0 ts → factor_of v (t ∷ ts) ≡ pos 0
factor-none v t ts lt above =
    let other : nat_eq t.0 v ≡ false = grind (arith, nat_tests) in
    ap (λ (b : Bool). cond b (t.1 +ℤ factor_of v ts) (factor_of v ts)) other ∙ factor_of-above ts v t.0 (omega arith) above

factors : (xs ys : List (ℕ × ℤ)) → ((at : Env) → terms_at at xs ≡ terms_at at ys) → (v : ℕ) → factor_of v xs ≡ factor_of v ys
factors xs ys same v = factor_of-at v xs ∙ (same (unit v) ∙ sym (factor_of-at v ys))

not_none : (f : ℤ) → f ≡ pos 0 → 0 < unsigned_abs f → ⊥
not_none f none some = omega (arith, ints, ap unsigned_abs none)

order : (a b : ℕ) (P : Type 0) → (a < b → P) → (a ≡ b → P) → (b < a → P) → P
order a b P below same above =
    elim (nat_lt a b) as (λ t. nat_lt a b ≡ t → P) [
      | true ↦ (λ e. below (grind (arith, nat_tests)))
      | false ↦ (λ e. elim (nat_lt b a) as (λ u. nat_lt b a ≡ u → P) [
        | true ↦ (λ g. above (grind (arith, nat_tests)))
        | false ↦ (λ g. same (grind (arith, nat_tests)))
      ] refl)
    ] refl

pub unique : (xs ys : List (ℕ × ℤ)) → Rising xs → Rising ys → AreNonzero xs → AreNonzero ys → ((at : Env) → terms_at at xs ≡ terms_at at ys) → xs ≡ ys
unique [] [] rx ry nx ny same = refl
unique [] (y ∷ ys) rx ry nx ny same = absurd (not_none y.1 (sym (factor-head y ys ry.0) ∙ sym (factors [] (y ∷ ys) same y.0)) ny.0)
unique (x ∷ xs) [] rx ry nx ny same = absurd (not_none x.1 (sym (factor-head x xs rx.0) ∙ factors (x ∷ xs) [] same x.0) nx.0)
unique (x ∷ xs) (y ∷ ys) rx ry nx ny same =
    order x.0 y.0 (x ∷ xs ≡ y ∷ ys)
    (λ lt. absurd (not_none x.1 (sym (factor-head x xs rx.0) ∙ (factors (x ∷ xs) (y ∷ ys) same x.0 ∙ factor-none x.0 y ys lt ry.0)) nx.0))
    (λ e.
    let f : x.1 ≡ y.1 = sym (factor-head x xs rx.0) ∙ (factors (x ∷ xs) (y ∷ ys) same x.0 ∙ (ap (λ (v : ℕ). factor_of v (y ∷ ys)) e ∙ factor-head y ys ry.0)) in
    let head : x ≡ y = ap₂ (λ (v : ℕ) (g : ℤ). (v, g)) e f in
    let rest : (at : Env) → terms_at at xs ≡ terms_at at ys = λ at. omega (arith, ints, same at, ap (term_at at) head) in
    ap₂ (λ (t : ℕ × ℤ) (ts : List (ℕ × ℤ)). t ∷ ts) head (unique xs ys rx.1 ry.1 nx.1 ny.1 rest))
    (λ lt. absurd (not_none y.1 (sym (factor-head y ys ry.0) ∙ (sym (factors (x ∷ xs) (y ∷ ys) same y.0) ∙ factor-none y.0 x xs lt rx.0)) ny.0))

pub collected-same : (xs ys : List (ℕ × ℤ)) → ((at : Env) → terms_at at xs ≡ terms_at at ys) → collected_terms xs ≡ collected_terms ys
collected-same xs ys same =
    unique (collected_terms xs) (collected_terms ys) (collected-rising xs) (collected-rising ys) (collected-nonzero xs) (collected-nonzero ys)
    (λ at. collected-at at xs ∙ (same at ∙ sym (collected-at at ys)))

-- a sum of terms as a difference
difference : (at : Env) (ts : List (ℕ × ℤ)) → terms_at at ts +ℤ pos (sum_by (λ t. down (term_at at t)) ts) ≡ pos (sum_by (λ t. up (term_at at t)) ts)
difference at [] = omega (arith, ints)
difference at (t ∷ ts) = omega (arith, ints, difference at ts, sum_by-cons (λ t. down (term_at at t)) t ts, sum_by-cons (λ t. up (term_at at t)) t ts)

pub collected-permuted : (xs ys : List (ℕ × ℤ)) → IsPermutation xs ys → collected_terms ys ≡ collected_terms xs
collected-permuted xs ys p =
    collected-same ys xs (λ at. omega (arith, ints, difference at xs, difference at ys, sum_by-IsPermutation (λ t. down (term_at at t)) xs ys p, sum_by-IsPermutation (λ t. up (term_at at t)) xs ys p))

-- ---- one more term, at the end

pub collected-snoc : (ts : List (ℕ × ℤ)) (t : ℕ × ℤ) → collected_terms (ts ++ t ∷ []) ≡ add_term t.0 t.1 (collected_terms ts)
collected-snoc ts t =
    unique (collected_terms (ts ++ t ∷ [])) (add_term t.0 t.1 (collected_terms ts)) (collected-rising (ts ++ t ∷ [])) (add_rising t.0 t.1 (collected_terms ts) (collected-rising ts))
    (collected-nonzero (ts ++ t ∷ [])) (add_nonzero t.0 t.1 (collected_terms ts) (collected-nonzero ts))
    (λ at. omega (arith, ints, collected-at at (ts ++ t ∷ []), terms_at-append at ts (t ∷ []), add_at at t.0 t.1 (collected_terms ts), collected-at at ts))

-- no variable is above this one
abbrev pub AtMost : ℕ → List (ℕ × ℤ) → Type 0
AtMost v = AllByRecursion (λ t. t.0 ≤ v)

above_last : (w v : ℕ) (g : ℤ) (ts : List (ℕ × ℤ)) → Above w (ts ++ (v, g) ∷ []) → w < v
above_last w v g [] h = h.0
above_last w v g (t ∷ ts) h = above_last w v g ts h.1

at_most-last : (v w : ℕ) (g : ℤ) (ts : List (ℕ × ℤ)) → AtMost v (ts ++ (w, g) ∷ []) → w ≤ v
at_most-last v w g [] h = h.0
at_most-last v w g (t ∷ ts) h = at_most-last v w g ts h.1

pub add_same : (ts : List (ℕ × ℤ)) (v : ℕ) (f g : ℤ) → Rising (ts ++ (v, g) ∷ []) → add_term v f (ts ++ (v, g) ∷ []) ≡ ts ++ cons_term v (f +ℤ g) []
add_same [] v f g h = add_by v f (v, g) [] (λ us. us ≡ cons_term v (f +ℤ g) []) (λ lt. absurd (omega arith)) (λ _. refl) (λ lt. absurd (omega arith))
add_same (t ∷ ts) v f g h =
    let lt : t.0 < v = above_last t.0 v g ts h.0 in
    add_by v f t (ts ++ (v, g) ∷ []) (λ us. us ≡ t ∷ (ts ++ cons_term v (f +ℤ g) []))
    (λ below. absurd (omega arith)) (λ same. absurd (omega arith)) (λ _. ap (λ (us : List (ℕ × ℤ)). t ∷ us) (add_same ts v f g h.1))

-- each variable is below this one
abbrev pub AllBelow : ℕ → List (ℕ × ℤ) → Type 0
AllBelow v [] = Unit {0}
AllBelow v (t ∷ ts) = (t.0 < v) × AllBelow v ts

pub add_past : (ts : List (ℕ × ℤ)) (v : ℕ) (f : ℤ) → AllBelow v ts → add_term v f ts ≡ ts ++ cons_term v f []
unfolding add_term
add_past [] v f h = refl
add_past (t ∷ ts) v f h =
    add_by v f t ts (λ us. us ≡ t ∷ (ts ++ cons_term v f []))
    (λ below. absurd (omega (arith, h.0))) (λ same. absurd (omega (arith, h.0))) (λ _. ap (λ (us : List (ℕ × ℤ)). t ∷ us) (add_past ts v f h.1))

all_below : (ts : List (ℕ × ℤ)) (w v : ℕ) (g : ℤ) → w < v → Rising (ts ++ (w, g) ∷ []) → AllBelow v (ts ++ (w, g) ∷ [])
all_below [] w v g lt h = (lt, tt)
all_below (t ∷ ts) w v g lt h = (let b = above_last t.0 w g ts h.0 in omega arith, all_below ts w v g lt h.1)

pub add_later : (ts : List (ℕ × ℤ)) (w v : ℕ) (g f : ℤ) → w ≢ v → Rising (ts ++ (w, g) ∷ []) → AtMost v (ts ++ (w, g) ∷ []) → add_term v f (ts ++ (w, g) ∷ []) ≡ (ts ++ (w, g) ∷ []) ++ cons_term v f []
add_later ts w v g f other rising most =
    let le = at_most-last v w g ts most in
    add_past (ts ++ (w, g) ∷ []) v f (all_below ts w v g (omega arith) rising)

cons_each : (P : ℕ → Type 0) (v : ℕ) (f : ℤ) (ts : List (ℕ × ℤ)) → P v → AllByRecursion (λ (t : ℕ × ℤ). P t.0) ts → AllByRecursion (λ (t : ℕ × ℤ). P t.0) (cons_term v f ts)
cons_each P v f ts here h = cons_by v f ts (AllByRecursion (λ (t : ℕ × ℤ). P t.0)) (λ _. h) (λ _. (here, h))

add_each : (P : ℕ → Type 0) (v : ℕ) (f : ℤ) (ts : List (ℕ × ℤ)) → P v → AllByRecursion (λ (t : ℕ × ℤ). P t.0) ts → AllByRecursion (λ (t : ℕ × ℤ). P t.0) (add_term v f ts)
unfolding add_term
add_each P v f [] here h = cons_each P v f [] here tt
add_each P v f (t ∷ ts) here h =
    add_by v f t ts (AllByRecursion (λ (t : ℕ × ℤ). P t.0)) (λ _. cons_each P v f (t ∷ ts) here h) (λ _. cons_each P v (f +ℤ t.1) ts here h.1) (λ _. (h.0, add_each P v f ts here h.1))

-- what holds of the variables of the terms holds of those of the collected ones
pub collected-each : (P : ℕ → Type 0) (ts : List (ℕ × ℤ)) → AllByRecursion (λ (t : ℕ × ℤ). P t.0) ts → AllByRecursion (λ (t : ℕ × ℤ). P t.0) (collected_terms ts)
unfolding collected_terms
collected-each P [] h = tt
collected-each P (t ∷ ts) h = add_each P t.0 t.1 (collected_terms ts) h.0 (collected-each P ts h.1)

pub collected-most : (w : ℕ) (ts : List (ℕ × ℤ)) → AtMost w ts → AtMost w (collected_terms ts)
collected-most w = collected-each (λ v. v ≤ w)

most-append : (w : ℕ) (xs : List (ℕ × ℤ)) (t : ℕ × ℤ) → t.0 ≤ w → AtMost w xs → AtMost w (xs ++ t ∷ [])
most-append w [] t le h = (le, tt)
most-append w (x ∷ xs) t le h = (h.0, most-append w xs t le h.1)

-- where the variables do not fall, none before a place is above that at the place
pub most-before : (ts : List (ℕ × ℤ)) (i j : ℕ) (d : ℕ × ℤ) → IsNonDecreasingBy (λ (t : ℕ × ℤ). t.0) ts → i ≤ j → j < length ts → AtMost (slice_index_or ts j d).0 (take i ts)
most-before ts zero j d sorted le within = tt
most-before ts (suc i) j d sorted le within =
    let n = i + 1 in
    let e : take (suc i) ts ≡ take i ts ++ slice_index_or ts i d ∷ [] = (let f : suc i ≡ i + 1 = omega arith in ap (λ (k : ℕ). take k ts) f) ∙ take_more ts i d (omega arith) in
    subst (λ (us : List (ℕ × ℤ)). AtMost (slice_index_or ts j d).0 us) (sym e)
    (most-append (slice_index_or ts j d).0 (take i ts) (slice_index_or ts i d) (sorted i j d (omega arith) within) (most-before ts i j d sorted (omega arith) within))

-- ---- sizes

cons_size : (v : ℕ) (f : ℤ) (ts : List (ℕ × ℤ)) → sum_by (λ t. unsigned_abs t.1) (cons_term v f ts) ≤ unsigned_abs f + sum_by (λ t. unsigned_abs t.1) ts
cons_size v f ts =
    cons_by v f ts (λ us. sum_by (λ t. unsigned_abs t.1) us ≤ unsigned_abs f + sum_by (λ t. unsigned_abs t.1) ts) (λ _. omega arith)
    (λ _. omega (arith, sum_by-cons (λ t. unsigned_abs t.1) (v, f) ts))

add_size : (v : ℕ) (f : ℤ) (ts : List (ℕ × ℤ)) → sum_by (λ t. unsigned_abs t.1) (add_term v f ts) ≤ unsigned_abs f + sum_by (λ t. unsigned_abs t.1) ts
unfolding add_term
add_size v f [] = cons_size v f []
add_size v f (t ∷ ts) =
    let whole = sum_by-cons (λ t. unsigned_abs t.1) t ts in
    add_by v f t ts (λ us. sum_by (λ t. unsigned_abs t.1) us ≤ unsigned_abs f + sum_by (λ t. unsigned_abs t.1) (t ∷ ts))
    (λ _. cons_size v f (t ∷ ts))
    (λ _. omega (arith, whole, cons_size v (f +ℤ t.1) ts, abs-sum f t.1))
    (λ _. omega (arith, whole, sum_by-cons (λ t. unsigned_abs t.1) t (add_term v f ts), add_size v f ts))

pub collected-size : (ts : List (ℕ × ℤ)) → sum_by (λ t. unsigned_abs t.1) (collected_terms ts) ≤ sum_by (λ t. unsigned_abs t.1) ts
unfolding collected_terms
collected-size [] = omega arith
collected-size (t ∷ ts) = omega (arith, add_size t.0 t.1 (collected_terms ts), collected-size ts, sum_by-cons (λ t. unsigned_abs t.1) t ts)

-- ---- the last term taken off and put back

pub add_joined : (made front : List (ℕ × ℤ)) (v w : ℕ) (f g sum : ℤ) → made ≡ front ++ (w, g) ∷ [] → w ≡ v → sum ≡ f +ℤ g → Rising made → front ++ cons_term v sum [] ≡ add_term v f made
add_joined made front v w f g sum is same total rising =
    let whole : made ≡ front ++ (v, g) ∷ [] = is ∙ ap (λ (u : ℕ). front ++ (u, g) ∷ []) same in
    sym (ap (add_term v f) whole ∙ (add_same front v f g (subst Rising whole rising) ∙ ap (λ (z : ℤ). front ++ cons_term v z []) (sym total)))

pub add_behind : (made front : List (ℕ × ℤ)) (v w : ℕ) (f g : ℤ) → made ≡ front ++ (w, g) ∷ [] → w ≢ v → Rising made → AtMost v made → (front ++ (w, g) ∷ []) ++ cons_term v f [] ≡ add_term v f made
add_behind made front v w f g is other rising most = sym (ap (add_term v f) is ∙ add_later front w v g f other (subst Rising is rising) (subst (AtMost v) is most))

pub add_first : (made front : List (ℕ × ℤ)) (v : ℕ) (f : ℤ) → made ≡ [] → front ≡ [] → front ++ cons_term v f [] ≡ add_term v f made
add_first made front v f none empty = ap (λ (ts : List (ℕ × ℤ)). ts ++ cons_term v f []) empty ∙ (sym (add_past [] v f tt) ∙ ap (add_term v f) (sym none))

-- one more of the sorted terms
pub collected-next : (ts : List (ℕ × ℤ)) (i : ℕ) (d : ℕ × ℤ) → i < length ts → collected_terms (take (i + 1) ts) ≡ add_term (slice_index_or ts i d).0 (slice_index_or ts i d).1 (collected_terms (take i ts))
collected-next ts i d within = ap collected_terms (take_more ts i d within) ∙ collected-snoc (take i ts) (slice_index_or ts i d)

pub sized-next : (ts : List (ℕ × ℤ)) (i : ℕ) (d : ℕ × ℤ) → i < length ts → unsigned_abs (slice_index_or ts i d).1 + sum_by (λ t. unsigned_abs t.1) (collected_terms (take i ts)) ≤ sum_by (λ t. unsigned_abs t.1) ts
sized-next ts i d within =
    let more = ap (sum_by (λ (t : ℕ × ℤ). unsigned_abs t.1)) (take_more ts i d within) in
    omega (arith, more, collected-size (take i ts), sum_by_push (λ (t : ℕ × ℤ). unsigned_abs t.1) (take i ts) (slice_index_or ts i d), sum_by-take-le (λ (t : ℕ × ℤ). unsigned_abs t.1) ts (i + 1))

-- all of the sorted terms
pub collected-all : (ts sorted : List (ℕ × ℤ)) (i : ℕ) → IsPermutation ts sorted → length sorted ≤ i → collected_terms (take i sorted) ≡ collected_terms ts
collected-all ts sorted i moved all = ap collected_terms (take_all i sorted all) ∙ collected-permuted ts sorted moved
