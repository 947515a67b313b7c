-- The floors of a form, and what it counts.
use Rattle.std.proofs.Common.{◌≡◌, ℕ, ◌+◌, ◌-◌, ◌*◌, ◌/◌, ◌%◌, ◌^◌, ◌<◌, ℤ, pos, ◌*ℤ◌, List, [], ◌∷◌, ◌++◌, map, min, length, sum, sum_by, arith, refl, sym, ap, ap₂, ◌∙◌, subst, unsigned_abs, All, append_assoc, append-nil, take, get_or, Bool, true, false, nat_le}
use Rattle.std.specs.Prelude.{flat_map}
use Rattle.std.proofs.lemmas.Int.{ints}
use Rattle.std.proofs.lemmas.List.{take_more, flat_map_more}
use Rattle.std.proofs.lemmas.Bool.{leb-true, le-leb}
use Rattle.std.proofs.lemmas.Grind.{div_ceil_times}
use Rattle.std.proofs.Math.Nat.{div-eq_of_lt-le}
use Rattle.std.proofs.lemmas.List.Elements.{All-head, All-tail}
use Rattle.affine_rows.specs.declared.quasi.Quasi.{Quasi, Quasi-F, roll-Quasi, out-Quasi, roll-out-Quasi, fold-Quasi, fold_out-Quasi, fold-roll-Quasi, ind-Quasi, every_made-Quasi}
use Rattle.affine_rows.specs.declared.quasi.Floor.{Floor, Floor-F, roll-Floor, out-Floor, roll-out-Floor, fold-Floor, fold_out-Floor, fold-roll-Floor, every-Floor, every_made-Floor}
use Rattle.affine_rows.specs.Forms.{ceil_div, floor_count as counted_floor, sum_step, constant_step, sum_count, constant_count, IsSmall, IsQuotient, IsForm, IsFloor}
use Rattle.affine_rows.specs.Reach.{floor_sum, floor_constant}
use Rattle.affine_rows.proofs.FormEquations.{IsForm-small, IsFloor-inner}
use Rattle.quasi_forms.specs.Collected.{with_times}
use Rattle.quasi_forms.specs.Limits.{Inside, FloorInside, floor_inside, form_inside, floors_in, floors_within, floor_count, IsWithin}
use Rattle.quasi_forms.specs.Alike.{same_floor, distinct}

-- ---- the equations of what forms and floors count

pub sum_count-out : (q : Quasi) → sum_count q ≡ sum_by (λ t. unsigned_abs t.1) (out-Quasi q).terms + sum (map floor_sum (out-Quasi q).floors)
sum_count-out = fold_out-Quasi ℕ ℕ counted_floor sum_step

pub constant_count-out : (q : Quasi) → constant_count q ≡ unsigned_abs (out-Quasi q).constant + sum (map floor_constant (out-Quasi q).floors)
constant_count-out = fold_out-Quasi ℕ ℕ counted_floor constant_step

floor_sum-out : (f : Floor) → floor_sum f ≡ unsigned_abs (out-Floor f).times * ceil_div (sum_count (out-Floor f).inner) (unsigned_abs (out-Floor f).by)
floor_sum-out = fold_out-Floor ℕ ℕ counted_floor sum_step

pub floor_constant-out : (f : Floor) → floor_constant f ≡ unsigned_abs (out-Floor f).times * ceil_div (constant_count (out-Floor f).inner) (unsigned_abs (out-Floor f).by)
floor_constant-out = fold_out-Floor ℕ ℕ counted_floor constant_step

abbrev EveryFloor : Floor → Type 0
EveryFloor = every-Floor (λ f. IsQuotient f.times f.by) (λ layer. IsSmall (roll-Quasi layer))

-- ---- the floors in a form

abbrev FloorKept : Floor → Type 0
FloorKept f = (fold-Floor FloorInside Inside floor_inside form_inside f).floor ≡ f

abbrev FormKept : Quasi → Type 0
FormKept q = (fold-Quasi FloorInside Inside floor_inside form_inside q).form ≡ q

kept_all : (fs : List ((f : Floor) × FloorKept f)) → map (λ i. i.floor) (map (fold-Floor FloorInside Inside floor_inside form_inside) (map (λ e. e.0) fs)) ≡ map (λ e. e.0) fs
kept_all [] = refl
kept_all (f ∷ fs) = ap₂ (λ (x : Floor) (xs : List Floor). x ∷ xs) f.1 (kept_all fs)

floor_case : (y : Floor-F ((f : Floor) × FloorKept f) ((q : Quasi) × FormKept q)) → FloorKept (roll-Floor (record { times = y.times; inner = y.inner.0; by = y.by }))
floor_case y =
    ap (λ (i : FloorInside). i.floor) (fold-roll-Floor FloorInside Inside floor_inside form_inside (record { times = y.times; inner = y.inner.0; by = y.by }))
    ∙ ap (λ (q : Quasi). roll-Floor (record { times = y.times; inner = q; by = y.by })) y.inner.1

form_case : (y : Quasi-F ((f : Floor) × FloorKept f) ((q : Quasi) × FormKept q)) → FormKept (roll-Quasi (record { constant = y.constant; terms = y.terms; floors = map (λ e. e.0) y.floors }))
form_case y =
    ap (λ (i : Inside). i.form) (fold-roll-Quasi FloorInside Inside floor_inside form_inside (record { constant = y.constant; terms = y.terms; floors = map (λ e. e.0) y.floors }))
    ∙ ap (λ (fs : List Floor). roll-Quasi (record { constant = y.constant; terms = y.terms; floors = fs })) (kept_all y.floors)

form_kept : (q : Quasi) → FormKept q
form_kept = ind-Quasi FloorKept FormKept (λ x y is. subst (λ z. FloorKept (roll-Floor z)) is (floor_case y)) (λ x y is. subst (λ z. FormKept (roll-Quasi z)) is (form_case y))

flat_within : (fs : List Floor) → flat_map (λ i. i.floors) (map (fold-Floor FloorInside Inside floor_inside form_inside) fs) ≡ flat_map floors_within fs
unfolding floors_within
flat_within [] = refl
flat_within (f ∷ fs) = ap (λ (gs : List Floor). floors_within f ++ gs) (flat_within fs)

pub floors_in-out : (q : Quasi) → floors_in q ≡ flat_map floors_within (out-Quasi q).floors
unfolding floors_in
floors_in-out q = ap (λ (i : Inside). i.floors) (fold_out-Quasi FloorInside Inside floor_inside form_inside q) ∙ flat_within (out-Quasi q).floors

pub floors_within-out : (f : Floor) → floors_within f ≡ floors_in (out-Floor f).inner ++ f ∷ []
unfolding floors_within floors_in
floors_within-out f =
    ap (λ (i : FloorInside). i.floors) (fold_out-Floor FloorInside Inside floor_inside form_inside f)
    ∙ ap (λ (g : Floor). floors_in (out-Floor f).inner ++ g ∷ [])
    (ap (λ (q : Quasi). roll-Floor (record { times = (out-Floor f).times; inner = q; by = (out-Floor f).by })) (form_kept (out-Floor f).inner) ∙ roll-out-Floor f)

pub times-once : (f : Floor) → with_times (pos 1 *ℤ (out-Floor f).times) f ≡ f
times-once f =
    let one : pos 1 *ℤ (out-Floor f).times ≡ (out-Floor f).times = omega (arith, ints) in
    ap (λ (z : ℤ). with_times z f) one ∙ roll-out-Floor f

pub within_next : (f : Floor) (old inner made : List Floor) → inner ≡ old ++ flat_map floors_within (out-Quasi (out-Floor f).inner).floors → made ≡ inner ++ with_times (pos 1 *ℤ (out-Floor f).times) f ∷ [] → made ≡ old ++ floors_within f
within_next f old inner made e m =
    let whole : floors_within f ≡ flat_map floors_within (out-Quasi (out-Floor f).inner).floors ++ f ∷ [] = floors_within-out f ∙ ap (λ (gs : List Floor). gs ++ f ∷ []) (floors_in-out (out-Floor f).inner) in
    m ∙ (ap₂ (λ (xs : List Floor) (g : Floor). xs ++ g ∷ []) e (times-once f)
    ∙ (append_assoc old (flat_map floors_within (out-Quasi (out-Floor f).inner).floors) (f ∷ []) ∙ ap (λ (gs : List Floor). old ++ gs) (sym whole)))

-- ---- what is counted

pub ceil_is : (n by : ℕ) → 0 < by → n / by + min 1 (n % by) ≡ ceil_div n by
ceil_is n by positive =
    let times = div_ceil_times n by positive in
    let low = times.0 in
    let high = times.1 in
    sym (div-eq_of_lt-le by (omega (arith, high)) (omega (arith, low)))

pub floor_counted : (f : Floor) (times part by n : ℕ) → IsFloor f → times ≡ unsigned_abs (out-Floor f).times → by ≡ unsigned_abs (out-Floor f).by → part ≡ min (sum_count (out-Floor f).inner) (2 ^ 64 - 1) →
    n ≡ min (times * ceil_div part by) (2 ^ 64 - 1) → n ≡ min (floor_sum f) (2 ^ 64 - 1)
floor_counted f times part by n h t b p e =
    let small = (IsForm-small (out-Floor f).inner (IsFloor-inner f h)).sum in
    let whole : part ≡ sum_count (out-Floor f).inner = omega (arith, p, small) in
    e ∙ ap (λ (k : ℕ). min k (2 ^ 64 - 1)) (ap₂ (λ (x y : ℕ). x * ceil_div part y) t b ∙ (ap (λ (x : ℕ). unsigned_abs (out-Floor f).times * ceil_div x (unsigned_abs (out-Floor f).by)) whole ∙ sym (floor_sum-out f)))

pub floor_counted_constant : (f : Floor) (times part by n : ℕ) → IsFloor f → times ≡ unsigned_abs (out-Floor f).times → by ≡ unsigned_abs (out-Floor f).by → part ≡ min (constant_count (out-Floor f).inner) (2 ^ 64 - 1) →
    n ≡ min (times * ceil_div part by) (2 ^ 64 - 1) → n ≡ min (floor_constant f) (2 ^ 64 - 1)
floor_counted_constant f times part by n h t b p e =
    let small = (IsForm-small (out-Floor f).inner (IsFloor-inner f h)).constant in
    let whole : part ≡ constant_count (out-Floor f).inner = omega (arith, p, small) in
    e ∙ ap (λ (k : ℕ). min k (2 ^ 64 - 1)) (ap₂ (λ (x y : ℕ). x * ceil_div part y) t b ∙ (ap (λ (x : ℕ). unsigned_abs (out-Floor f).times * ceil_div x (unsigned_abs (out-Floor f).by)) whole ∙ sym (floor_constant-out f)))

pub form_counted : (q : Quasi) (a b n : ℕ) → a ≡ min (sum_by (λ t. unsigned_abs t.1) (out-Quasi q).terms) (2 ^ 64 - 1) → b ≡ min (sum (map floor_sum (out-Quasi q).floors)) (2 ^ 64 - 1) → n ≡ min (a + b) (2 ^ 64 - 1) → n ≡ min (sum_count q) (2 ^ 64 - 1)
form_counted q a b n h k e = omega (arith, sum_count-out q, h, k, e)

pub form_counted_constant : (q : Quasi) (a b n : ℕ) → a ≡ unsigned_abs (out-Quasi q).constant → b ≡ min (sum (map floor_constant (out-Quasi q).floors)) (2 ^ 64 - 1) → n ≡ min (a + b) (2 ^ 64 - 1) → n ≡ min (constant_count q) (2 ^ 64 - 1)
form_counted_constant q a b n h k e = omega (arith, constant_count-out q, h, k, e)

-- ---- forms made of floors within the limits

paired : (fs : List Floor) → All IsFloor fs → List ((f : Floor) × EveryFloor f)
paired [] all = []
paired (f ∷ fs) all = (f, (All-head IsFloor f fs all).layers) ∷ paired fs (All-tail IsFloor f fs all)

paired-is : (fs : List Floor) (all : All IsFloor fs) → map (λ e. e.0) (paired fs all) ≡ fs
unfolding paired
paired-is [] all = refl
paired-is (f ∷ fs) all = ap (λ (gs : List Floor). f ∷ gs) (paired-is fs (All-tail IsFloor f fs all))

pub form_made : (q : Quasi) → All IsFloor (out-Quasi q).floors → IsSmall q → IsForm q
form_made q all small =
    let layer : Quasi-F Floor Quasi = out-Quasi q in
    let same : record { constant = layer.constant; terms = layer.terms; floors = map (λ e. e.0) (paired layer.floors all) } ≡ layer = ap (λ (fs : List Floor). record { constant = layer.constant; terms = layer.terms; floors = fs }) (paired-is layer.floors all) in
    subst (λ z. IsForm z) (roll-out-Quasi q)
    (record { layers = every_made-Quasi (λ f. IsQuotient f.times f.by) (λ l. IsSmall (roll-Quasi l)) layer (record { constant = layer.constant; terms = layer.terms; floors = paired layer.floors all }) same (subst (λ z. IsSmall z) (sym (roll-out-Quasi q)) small) })

pub floor_made : (f : Floor) → IsForm (out-Floor f).inner → IsQuotient (out-Floor f).times (out-Floor f).by → IsFloor f
floor_made f inner quotient =
    let layer : Floor-F Floor Quasi = out-Floor f in
    subst (λ z. IsFloor z) (roll-out-Floor f)
    (record { layers = every_made-Floor (λ l. IsQuotient l.times l.by) (λ l. IsSmall (roll-Quasi l)) layer (record { times = layer.times; inner = (layer.inner, inner.layers); by = layer.by }) refl quotient })

-- ---- one form with few floors

floors_one : (q : Quasi) (fs : List Quasi) → fs ≡ q ∷ [] → flat_map floors_in fs ≡ floors_in q
floors_one q fs e = ap (flat_map floors_in) e ∙ append-nil (floors_in q)

few_is : (q : Quasi) (fs : List Quasi) (few : Bool) → fs ≡ q ∷ [] → few ≡ nat_le (length (distinct same_floor (flat_map floors_in fs))) 32 → few ≡ nat_le (floor_count q) 32
few_is q fs few e h = h ∙ ap (λ (gs : List Floor). nat_le (length (distinct same_floor gs)) 32) (floors_one q fs e)

pub few_within : (q : Quasi) (fs : List Quasi) (few : Bool) → fs ≡ q ∷ [] → few ≡ nat_le (length (distinct same_floor (flat_map floors_in fs))) 32 → All IsForm fs → few ≡ true → IsWithin q
few_within q fs few e h all so = record { form = All-head IsForm q [] (subst (λ (gs : List Quasi). All IsForm gs) e all); floors = leb-true (floor_count q) 32 (sym (few_is q fs few e h) ∙ so) }

pub many_not : (q : Quasi) (fs : List Quasi) (few : Bool) → fs ≡ q ∷ [] → few ≡ nat_le (length (distinct same_floor (flat_map floors_in fs))) 32 → few ≡ false → IsWithin q → ⊥
many_not q fs few e h shut within = let yes = le-leb (floor_count q) 32 within.floors in let clash : true ≡ false = sym yes ∙ (sym (few_is q fs few e h) ∙ shut) in cc

-- one form more
pub floors_next : (qs : List Quasi) (i : ℕ) (q : Quasi) (start old made : List Floor) → i < length qs → q ≡ get_or qs i q → old ≡ start ++ flat_map floors_in (take i qs) → made ≡ old ++ floors_in q → made ≡ start ++ flat_map floors_in (take (i + 1) qs)
floors_next qs i q start old made within is before m =
    m ∙ (ap (λ (fs : List Floor). fs ++ floors_in q) before
    ∙ (flat_map_more floors_in start (take i qs) q ∙ ap (λ (xs : List Quasi). start ++ flat_map floors_in xs) (sym (take_more qs i q within ∙ ap (λ (x : Quasi). take i qs ++ x ∷ []) (sym is)))))
