-- Collected floors: the first of those that are alike, one floor after the other.
use Rattle.std.proofs.Common.{◌≡◌, ℕ, ◌+◌, ◌<◌, ◌≤◌, length-drop, ℤ, pos, ◌+ℤ◌, Bool, true, false, not, cond, ◌&&◌, ◌||◌, List, [], ◌∷◌, ◌++◌, map, length, take, drop, get_or, arith, refl, sym, ap, ap₂, ◌∙◌, subst, unsigned_abs, sum_by, append_assoc, append-nil}
use Rattle.std.specs.List.{filter, list_any, list_all, position_or_len}
use Rattle.std.specs.Ordering.{int_eq}
use Rattle.std.proofs.lemmas.Int.{ints}
use Rattle.std.proofs.lemmas.List.Sums.{sum_by_push}
use Rattle.std.proofs.lemmas.Bool.Decides.{Decides-int_eq}
use Rattle.std.proofs.lemmas.List.{take_more, take_all, take-append-drop}
use Rattle.affine_rows.specs.declared.quasi.Floor.{Floor, out-Floor, out-roll-Floor}
use Rattle.affine_rows.specs.Forms.{total}
use Rattle.affine_rows.specs.Reduced.{fits_entry}
use Rattle.quasi_forms.specs.Alike.{same_floor, distinct}
use Rattle.quasi_forms.specs.Collected.{with_times, times_of, kept_floors, collected_floors}

-- ---- one more element

cond_push : {X : Type 0} (b : Bool) (y : X) (zs : List X) (g : X) → cond b (y ∷ (zs ++ g ∷ [])) (zs ++ g ∷ []) ≡ cond b (y ∷ zs) zs ++ g ∷ []
cond_push true y zs g = refl
cond_push false y zs g = refl

filter-skip : {X : Type 0} (p : X → Bool) (ys : List X) (g : X) → p g ≡ false → filter p (ys ++ g ∷ []) ≡ filter p ys
filter-skip p [] g h = ap (λ (b : Bool). cond b (g ∷ []) []) h
filter-skip {X} p (y ∷ ys) g h = ap (λ (zs : List X). cond (p y) (y ∷ zs) zs) (filter-skip p ys g h)

filter-push : {X : Type 0} (p : X → Bool) (ys : List X) (g : X) → p g ≡ true → filter p (ys ++ g ∷ []) ≡ filter p ys ++ g ∷ []
filter-push p [] g h = ap (λ (b : Bool). cond b (g ∷ []) []) h
filter-push {X} p (y ∷ ys) g h = ap (λ (zs : List X). cond (p y) (y ∷ zs) zs) (filter-push p ys g h) ∙ cond_push (p y) y (filter p ys) g

map-push : {X Y : Type 0} (f : X → Y) (ys : List X) (g : X) → map f (ys ++ g ∷ []) ≡ map f ys ++ f g ∷ []
map-push f [] g = refl
map-push {X} {Y} f (y ∷ ys) g = ap (λ (zs : List Y). f y ∷ zs) (map-push f ys g)

total-push : (zs : List ℤ) (z : ℤ) → total (zs ++ z ∷ []) ≡ total zs +ℤ z
total-push [] z = omega (arith, ints)
total-push (y ∷ zs) z = omega (arith, ints, total-push zs z)

either_true : (a b : Bool) (P : Type 0) → (a || b) ≡ true → (b ≡ true → P) → (a ≡ true → b ≡ false → P) → P
either_true true true P h later here = later refl
either_true true false P h later here = here refl refl
either_true false true P h later here = later refl
either_true false false P h later here = absurd (let no : false ≡ true = h in cc)

either_false : (a b : Bool) → (a || b) ≡ false → (a ≡ false) × (b ≡ false)
either_false false b h = (refl, h)
either_false true b h = absurd (let no : true ≡ false = h in cc)

pub distinct-new : {X : Type 0} (same : X → X → Bool) (xs : List X) (g : X) → list_any (λ x. same x g) xs ≡ false → distinct same (xs ++ g ∷ []) ≡ distinct same xs ++ g ∷ []
distinct-new same [] g h = refl
distinct-new {X} same (x ∷ xs) g h =
    let parts = either_false (same x g) (list_any (λ y. same y g) xs) h in
    ap (λ (zs : List X). x ∷ filter (λ y. not (same x y)) zs) (distinct-new same xs g parts.1)
    ∙ ap (λ (zs : List X). x ∷ zs) (filter-push (λ y. not (same x y)) (distinct same xs) g (ap not parts.0))

pub distinct-again : {X : Type 0} (same : X → X → Bool) (xs : List X) (g : X) → list_any (λ x. same x g) xs ≡ true → distinct same (xs ++ g ∷ []) ≡ distinct same xs
distinct-again same [] g h = absurd (let no : false ≡ true = h in cc)
distinct-again {X} same (x ∷ xs) g h =
    either_true (same x g) (list_any (λ y. same y g) xs) (distinct same (x ∷ (xs ++ g ∷ [])) ≡ distinct same (x ∷ xs)) h
    (λ later. ap (λ (zs : List X). x ∷ filter (λ y. not (same x y)) zs) (distinct-again same xs g later))
    (λ here none.
    ap (λ (zs : List X). x ∷ filter (λ y. not (same x y)) zs) (distinct-new same xs g none)
    ∙ ap (λ (zs : List X). x ∷ zs) (filter-skip (λ y. not (same x y)) (distinct same xs) g (ap not here)))

-- ---- one more floor

pub times-with : (times : ℤ) (f : Floor) → (out-Floor (with_times times f)).times ≡ times
times-with times f = simp out-roll-Floor refl

abbrev isnt_gone : Floor → Bool
isnt_gone f = not (int_eq (out-Floor f).times (pos 0))

pub kept-again : (all xs : List Floor) (g : Floor) → list_any (λ x. same_floor x g) xs ≡ true → kept_floors all (xs ++ g ∷ []) ≡ kept_floors all xs
kept-again all xs g h = ap (λ (fs : List Floor). filter isnt_gone (map (λ f. with_times (times_of all f) f) fs)) (distinct-again same_floor xs g h)

kept-pushed : (all xs : List Floor) (g : Floor) → list_any (λ x. same_floor x g) xs ≡ false →
    kept_floors all (xs ++ g ∷ []) ≡ filter isnt_gone (map (λ f. with_times (times_of all f) f) (distinct same_floor xs) ++ with_times (times_of all g) g ∷ [])
kept-pushed all xs g h =
    ap (λ (fs : List Floor). filter isnt_gone (map (λ f. with_times (times_of all f) f) fs)) (distinct-new same_floor xs g h)
    ∙ ap (filter isnt_gone) (map-push (λ f. with_times (times_of all f) f) (distinct same_floor xs) g)

pub kept-new : (all xs : List Floor) (g : Floor) → list_any (λ x. same_floor x g) xs ≡ false → int_eq (times_of all g) (pos 0) ≡ false → kept_floors all (xs ++ g ∷ []) ≡ kept_floors all xs ++ with_times (times_of all g) g ∷ []
kept-new all xs g h some =
    kept-pushed all xs g h
    ∙ filter-push isnt_gone (map (λ f. with_times (times_of all f) f) (distinct same_floor xs)) (with_times (times_of all g) g) (ap (λ (z : ℤ). not (int_eq z (pos 0))) (times-with (times_of all g) g) ∙ ap not some)

pub kept-gone : (all xs : List Floor) (g : Floor) → list_any (λ x. same_floor x g) xs ≡ false → int_eq (times_of all g) (pos 0) ≡ true → kept_floors all (xs ++ g ∷ []) ≡ kept_floors all xs
kept-gone all xs g h none =
    kept-pushed all xs g h
    ∙ filter-skip isnt_gone (map (λ f. with_times (times_of all f) f) (distinct same_floor xs)) (with_times (times_of all g) g) (ap (λ (z : ℤ). not (int_eq z (pos 0))) (times-with (times_of all g) g) ∙ ap not none)

-- ---- a test of all of them

both_true : (a b c : Bool) → (a && b) ≡ true → (b ≡ true → c ≡ true) → (a && c) ≡ true
both_true true b c h k = k h
both_true false b c h k = absurd (let no : false ≡ true = h in cc)

both_false : (a b c : Bool) → (a && b) ≡ false → (b ≡ false → c ≡ false) → (a && c) ≡ false
both_false true b c h k = k h
both_false false b c h k = refl

pub all-push : {X : Type 0} (p : X → Bool) (xs : List X) (g : X) → list_all p xs ≡ true → p g ≡ true → list_all p (xs ++ g ∷ []) ≡ true
all-push p [] g h k = ap (λ (b : Bool). b && true) k
all-push p (x ∷ xs) g h k = both_true (p x) (list_all p xs) (list_all p (xs ++ g ∷ [])) h (λ rest. all-push p xs g rest k)

fails-push : {X : Type 0} (p : X → Bool) (xs : List X) (g : X) → list_all p xs ≡ false → list_all p (xs ++ g ∷ []) ≡ false
fails-push p [] g h = absurd (let no : true ≡ false = h in cc)
fails-push p (x ∷ xs) g h = both_false (p x) (list_all p xs) (list_all p (xs ++ g ∷ [])) h (λ rest. fails-push p xs g rest)

false_right : (a b : Bool) → b ≡ false → (a && b) ≡ false
false_right true b h = h
false_right false b h = refl

pub fails-last : {X : Type 0} (p : X → Bool) (xs : List X) (g : X) → p g ≡ false → list_all p (xs ++ g ∷ []) ≡ false
fails-last p [] g h = ap (λ (b : Bool). b && true) h
fails-last p (x ∷ xs) g h = false_right (p x) (list_all p (xs ++ g ∷ [])) (fails-last p xs g h)

fails-next : (p : Floor → Bool) (all xs : List Floor) (g : Floor) → list_all p (kept_floors all xs) ≡ false → list_all p (kept_floors all (xs ++ g ∷ [])) ≡ false
fails-next p all xs g h =
    elim (list_any (λ x. same_floor x g) xs) as (λ a. list_any (λ x. same_floor x g) xs ≡ a → list_all p (kept_floors all (xs ++ g ∷ [])) ≡ false) [
      | true ↦ (λ again. ap (list_all p) (kept-again all xs g again) ∙ h)
      | false ↦ (λ new. elim (int_eq (times_of all g) (pos 0)) as (λ z. int_eq (times_of all g) (pos 0) ≡ z → list_all p (kept_floors all (xs ++ g ∷ [])) ≡ false) [
        | true ↦ (λ none. ap (list_all p) (kept-gone all xs g new none) ∙ h)
        | false ↦ (λ some. ap (list_all p) (kept-new all xs g new some) ∙ fails-push p (kept_floors all xs) (with_times (times_of all g) g) h)
      ] refl)
    ] refl

fails-more : (p : Floor → Bool) (all xs ys : List Floor) → list_all p (kept_floors all xs) ≡ false → list_all p (kept_floors all (xs ++ ys)) ≡ false
fails-more p all xs [] h = ap (λ (fs : List Floor). list_all p (kept_floors all fs)) (append-nil xs) ∙ h
fails-more p all xs (y ∷ ys) h =
    sym (ap (λ (fs : List Floor). list_all p (kept_floors all fs)) (append_assoc xs (y ∷ []) ys)) ∙ fails-more p all (xs ++ y ∷ []) ys (fails-next p all xs y h)

-- what fails at some of the floors fails at all
pub fails-all : (p : Floor → Bool) (fs : List Floor) (i : ℕ) → list_all p (kept_floors fs (take i fs)) ≡ false → list_all p (collected_floors fs) ≡ false
unfolding collected_floors
fails-all p fs i h = subst (λ (xs : List Floor). list_all p (kept_floors fs xs) ≡ false) (take-append-drop i fs) (fails-more p fs (take i fs) (drop i fs) h)

pub collected-whole : (fs : List Floor) (i : ℕ) → length fs ≤ i → kept_floors fs (take i fs) ≡ collected_floors fs
unfolding collected_floors
collected-whole fs i all = ap (kept_floors fs) (take_all i fs all)

-- ---- sums of factors

times-like : (fs : List Floor) (f g : Floor) → same_floor f g ≡ true → times_of (fs ++ g ∷ []) f ≡ times_of fs f +ℤ (out-Floor g).times
times-like fs f g h =
    ap (λ (gs : List Floor). total (map (λ x. (out-Floor x).times) gs)) (filter-push (same_floor f) fs g h)
    ∙ (ap total (map-push (λ x. (out-Floor x).times) (filter (same_floor f) fs) g) ∙ total-push (map (λ x. (out-Floor x).times) (filter (same_floor f) fs)) (out-Floor g).times)

times-unlike : (fs : List Floor) (f g : Floor) → same_floor f g ≡ false → times_of (fs ++ g ∷ []) f ≡ times_of fs f
times-unlike fs f g h = ap (λ (gs : List Floor). total (map (λ x. (out-Floor x).times) gs)) (filter-skip (same_floor f) fs g h)

pub times-next : (fs : List Floor) (f g : Floor) (r : ℤ) → (same_floor f g ≡ true → r ≡ (out-Floor g).times) → (same_floor f g ≡ false → r ≡ pos 0) → times_of (fs ++ g ∷ []) f ≡ times_of fs f +ℤ r
times-next fs f g r like unlike =
    elim (same_floor f g) as (λ s. same_floor f g ≡ s → times_of (fs ++ g ∷ []) f ≡ times_of fs f +ℤ r) [
      | true ↦ (λ e. times-like fs f g e ∙ ap (λ (z : ℤ). times_of fs f +ℤ z) (sym (like e)))
      | false ↦ (λ e. let z = unlike e in omega (arith, ints, times-unlike fs f g e, z))
    ] refl

pub size-next : (f g : Floor) (r : ℤ) → (same_floor f g ≡ true → r ≡ (out-Floor g).times) → (same_floor f g ≡ false → r ≡ pos 0) → unsigned_abs r ≤ unsigned_abs (out-Floor g).times
size-next f g r like unlike =
    elim (same_floor f g) as (λ s. same_floor f g ≡ s → unsigned_abs r ≤ unsigned_abs (out-Floor g).times) [
      | true ↦ (λ e. let z = ap unsigned_abs (like e) in omega (arith, z))
      | false ↦ (λ e. let z = ap unsigned_abs (unlike e) in omega (arith, z))
    ] refl

-- ---- at a place of the floors

pub take_next : (fs : List Floor) (i : ℕ) (g : Floor) → i < length fs → g ≡ get_or fs i g → take (i + 1) fs ≡ take i fs ++ g ∷ []
take_next fs i g within is = take_more fs i g within ∙ ap (λ (x : Floor). take i fs ++ x ∷ []) (sym is)

pub sum_next : (fs : List Floor) (i : ℕ) (f g : Floor) (sum r made : ℤ) → i < length fs → g ≡ get_or fs i g → (same_floor f g ≡ true → r ≡ (out-Floor g).times) → (same_floor f g ≡ false → r ≡ pos 0) →
    sum ≡ times_of (take i fs) f → made ≡ sum +ℤ r → made ≡ times_of (take (i + 1) fs) f
sum_next fs i f g sum r made within is like unlike e m =
    m ∙ (ap (λ (z : ℤ). z +ℤ r) e ∙ sym (ap (λ (gs : List Floor). times_of gs f) (take_next fs i g within is) ∙ times-next (take i fs) f g r like unlike))

pub small_next : (fs : List Floor) (i : ℕ) (f g : Floor) (sum r made : ℤ) → i < length fs → g ≡ get_or fs i g → (same_floor f g ≡ true → r ≡ (out-Floor g).times) → (same_floor f g ≡ false → r ≡ pos 0) →
    unsigned_abs sum ≤ sum_by (λ x. unsigned_abs (out-Floor x).times) (take i fs) → unsigned_abs made ≤ unsigned_abs sum + unsigned_abs r → unsigned_abs made ≤ sum_by (λ x. unsigned_abs (out-Floor x).times) (take (i + 1) fs)
small_next fs i f g sum r made within is like unlike small m =
    let all = ap (sum_by (λ (x : Floor). unsigned_abs (out-Floor x).times)) (take_next fs i g within is) in
    omega (arith, all, sum_by_push (λ (x : Floor). unsigned_abs (out-Floor x).times) (take i fs) g, size-next f g r like unlike, small, m)

-- a factor that does not fit is not 0
pub wide_some : (z : ℤ) → fits_entry z ≡ false → int_eq z (pos 0) ≡ false
unfolding fits_entry
wide_some z h =
    elim (int_eq z (pos 0)) as (λ b. int_eq z (pos 0) ≡ b → b ≡ false) [
      | true ↦ (λ e. absurd (let none = (Decides-int_eq z (pos 0)).0 e in let yes : fits_entry (pos 0) ≡ false = subst (λ (y : ℤ). fits_entry y ≡ false) none h in let no : true ≡ false = yes in cc))
      | false ↦ (λ _. refl)
    ] refl

-- ---- one turn

pub nonzero_test : (z : ℤ) → (z ≡ pos 0 → ⊥) → int_eq z (pos 0) ≡ false
nonzero_test z some =
    elim (int_eq z (pos 0)) as (λ b. int_eq z (pos 0) ≡ b → b ≡ false) [
      | true ↦ (λ e. absurd (some ((Decides-int_eq z (pos 0)).0 e)))
      | false ↦ (λ _. refl)
    ] refl

pub again_next : (fs : List Floor) (i : ℕ) (g : Floor) (made : List Floor) → i < length fs → g ≡ get_or fs i g → true ≡ list_any (λ x. same_floor x g) (take i fs) → made ≡ kept_floors fs (take i fs) → made ≡ kept_floors fs (take (i + 1) fs)
again_next fs i g made within is among m = m ∙ sym (ap (kept_floors fs) (take_next fs i g within is) ∙ kept-again fs (take i fs) g (sym among))

pub push_next : (fs : List Floor) (i : ℕ) (g f : Floor) (old made : List Floor) → i < length fs → g ≡ get_or fs i g → false ≡ list_any (λ x. same_floor x g) (take i fs) → old ≡ kept_floors fs (take i fs) →
    f ≡ with_times (times_of fs g) g → ((out-Floor f).times ≡ pos 0 → ⊥) → made ≡ old ++ f ∷ [] → made ≡ kept_floors fs (take (i + 1) fs)
push_next fs i g f old made within is among m whole some pushed =
    let times : (out-Floor f).times ≡ times_of fs g = ap (λ (x : Floor). (out-Floor x).times) whole ∙ times-with (times_of fs g) g in
    pushed ∙ (ap₂ (λ (xs : List Floor) (x : Floor). xs ++ x ∷ []) m whole
    ∙ sym (ap (kept_floors fs) (take_next fs i g within is) ∙ kept-new fs (take i fs) g (sym among) (nonzero_test (times_of fs g) (λ e. some (times ∙ e)))))

pub gone_next : (fs : List Floor) (i : ℕ) (g f : Floor) (made : List Floor) → i < length fs → g ≡ get_or fs i g → false ≡ list_any (λ x. same_floor x g) (take i fs) → made ≡ kept_floors fs (take i fs) →
    f ≡ with_times (times_of fs g) g → (out-Floor f).times ≡ pos 0 → made ≡ kept_floors fs (take (i + 1) fs)
gone_next fs i g f made within is among m whole none =
    let times : times_of fs g ≡ (out-Floor f).times = sym (ap (λ (x : Floor). (out-Floor x).times) whole ∙ times-with (times_of fs g) g) in
    m ∙ sym (ap (kept_floors fs) (take_next fs i g within is) ∙ kept-gone fs (take i fs) g (sym among) ((Decides-int_eq (times_of fs g) (pos 0)).1 (times ∙ none)))

pub fails_next : (fs : List Floor) (i : ℕ) (g : Floor) → i < length fs → g ≡ get_or fs i g → false ≡ list_any (λ x. same_floor x g) (take i fs) → fits_entry (times_of fs g) ≡ false →
    list_all (λ f. fits_entry (out-Floor f).times) (kept_floors fs (take (i + 1) fs)) ≡ false
fails_next fs i g within is among wide =
    ap (λ (xs : List Floor). list_all (λ f. fits_entry (out-Floor f).times) (kept_floors fs xs)) (take_next fs i g within is)
    ∙ (ap (list_all (λ f. fits_entry (out-Floor f).times)) (kept-new fs (take i fs) g (sym among) (wide_some (times_of fs g) wide))
    ∙ fails-last (λ f. fits_entry (out-Floor f).times) (kept_floors fs (take i fs)) (with_times (times_of fs g) g) (ap fits_entry (times-with (times_of fs g) g) ∙ wide))

pub fits_next : (g f : Floor) (t : ℤ) (old made : List Floor) → f ≡ with_times t g → fits_entry t ≡ true → made ≡ old ++ f ∷ [] →
    list_all (λ x. fits_entry (out-Floor x).times) old ≡ true → list_all (λ x. fits_entry (out-Floor x).times) made ≡ true
fits_next g f t old made whole fits pushed all =
    ap (list_all (λ (x : Floor). fits_entry (out-Floor x).times)) pushed
    ∙ all-push (λ x. fits_entry (out-Floor x).times) old f all (ap (λ (x : Floor). fits_entry (out-Floor x).times) whole ∙ (ap fits_entry (times-with t g) ∙ fits))

-- ---- those that are different

pub first_again : (fs : List Floor) (i : ℕ) (g : Floor) (made : List Floor) → i < length fs → g ≡ get_or fs i g → true ≡ list_any (λ x. same_floor x g) (take i fs) → made ≡ distinct same_floor (take i fs) → made ≡ distinct same_floor (take (i + 1) fs)
first_again fs i g made within is among m = m ∙ sym (ap (distinct same_floor) (take_next fs i g within is) ∙ distinct-again same_floor (take i fs) g (sym among))

pub first_new : (fs : List Floor) (i : ℕ) (g f : Floor) (old made : List Floor) → i < length fs → g ≡ get_or fs i g → false ≡ list_any (λ x. same_floor x g) (take i fs) → old ≡ distinct same_floor (take i fs) → f ≡ g → made ≡ old ++ f ∷ [] → made ≡ distinct same_floor (take (i + 1) fs)
first_new fs i g f old made within is among m same pushed =
    pushed ∙ (ap₂ (λ (xs : List Floor) (x : Floor). xs ++ x ∷ []) m same ∙ sym (ap (distinct same_floor) (take_next fs i g within is) ∙ distinct-new same_floor (take i fs) g (sym among)))

none_left : (p : Floor → Bool) (fs : List Floor) → length fs ≡ 0 → position_or_len p fs ≡ 0
none_left p [] h = refl
none_left p (f ∷ fs) h = absurd (omega arith)

-- no place is left
pub no_place : (p : Floor → Bool) (fs : List Floor) (i : ℕ) → i ≤ length fs → length fs ≤ i → i + position_or_len p (drop i fs) ≡ position_or_len p fs → length fs ≡ position_or_len p fs
no_place p fs i low high same = let none = none_left p (drop i fs) (omega (arith, length-drop i fs)) in omega arith
