-- There is one chosen point, and it is found where it is small.
use Rattle.std.specs.Prelude.{◌≡◌, ◌≢◌, ◌⊎◌, ℕ, zero, suc, ◌+◌, ◌-◌, ◌*◌, Bool, true, false, nat_eq, ◌^◌, ◌<◌, ◌≤◌, ℤ, pos, negsuc, ◌+ℤ◌, ◌*ℤ◌, ◌<ℤ◌, List, [], ◌∷◌, map, length, unsigned_abs}
use Rattle.std.specs.Int.{◌∣◌}
use Rattle.std.proofs.Common.{inl, inr, refl, sym, ap, ◌∙◌, subst, arith}
use Rattle.std.proofs.lemmas.Int.{ints, unsigned_abs-mul}
use Rattle.std.proofs.lemmas.Nat.Gcd.{dvd_antisymm}
use Rattle.std.proofs.lemmas.Bool.Decides.{nat_tests}
use Rattle.std.proofs.lemmas.List.{get_or_default}
use Rattle.wrap_words.proofs.Ring.{pos_assoc, scaled-cancel, swap}
use Rattle.affine_rows.specs.declared.point.Point.{Point}
use Rattle.affine_rows.specs.declared.row.Row.{Row}
use Rattle.affine_rows.specs.Rows.{Env, env_of}
use Rattle.affine_rows.specs.Reduced.{reduced_row}
use Rattle.elimination.specs.declared.fault.SetFault.{SetFault}
use Rattle.elimination.specs.Stages.{cancelled_from, shadow_rows}
use Rattle.elimination.specs.Shadows.{Each, HasPoints, moved}
use Rattle.elimination.specs.Points.{HasNone, IsChosen, IsFree, IsGreatestWhole, IsLeast, IsLeastWhole, IsNext, IsPast, IsPick, IsSmall, Values, moved_numbers, over_of}
use Rattle.elimination.specs.declared.finding.Found.TheVariants as found
use Rattle.elimination.specs.Finding.{IsTheChosen}
use Rattle.elimination.proofs.NextPoint.{length-moved, over_is, over_positive, product_positive, scaled_at}
use Rattle.elimination.proofs.PointStages.{origin_fixed}
use Rattle.elimination.proofs.Quotients.{product_above}
use Rattle.elimination.proofs.ShadowLaw.{reduced_rows-hold, shadow_AreShadow}

-- ---- one fraction is chosen

-- two fractions are the same number
abbrev Equal : ℤ → ℕ → ℤ → ℕ → Type 0
Equal n d m e = pos e *ℤ n ≡ pos d *ℤ m

equal_whole : (n m z w : ℤ) (d e : ℕ) → n ≡ pos d *ℤ z → m ≡ pos e *ℤ w → z ≡ w → Equal n d m e
equal_whole n m z w d e hn hm same = ap (λ (x : ℤ). pos e *ℤ x) hn ∙ (swap (pos e) (pos d) z ∙ ap (λ (x : ℤ). pos d *ℤ x) (ap (λ (x : ℤ). pos e *ℤ x) same ∙ sym hm))

least_once : (S : ℤ → ℕ → Type 0) (n m : ℤ) (d e : ℕ) → 0 < d → 0 < e → IsLeast S n d → IsPick S m e → Equal n d m e
least_once S n m d e pd pe h (inl k) = absurd (h.0 k.0 k.2)
least_once S n m d e pd pe h (inr (inl k)) = let low = h.2 m e pe k.1 in let high = k.2 n d pd h.1 in omega (arith, ints, low, high)
least_once S n m d e pd pe h (inr (inr (inl k))) = absurd (h.0 k.0 ((k.2 k.0).1 (omega (arith, ints))))
least_once S n m d e pd pe h (inr (inr (inr k))) = absurd (h.0 (pos 0) (k.1 (pos 0)))

whole_once : (S : ℤ → ℕ → Type 0) (n m : ℤ) (d e : ℕ) → IsLeastWhole S n d → IsPick S m e → Equal n d m e
whole_once S n m d e h (inl k) = let low = h.3 k.0 k.2 in let high = k.3 h.0 h.2 in equal_whole n m h.0 k.0 d e h.1 k.1 (omega (arith, ints, low, high))
whole_once S n m d e h (inr (inl k)) = absurd (k.0 h.0 h.2)
whole_once S n m d e h (inr (inr (inl k))) =
    let within = (k.2 h.0).0 h.2 in
    absurd (let no = h.3 (h.0 +ℤ negsuc 0) ((k.2 (h.0 +ℤ negsuc 0)).1 (omega (arith, ints, within))) in omega (arith, ints, no))
whole_once S n m d e h (inr (inr (inr k))) = absurd (let no = h.3 (h.0 +ℤ negsuc 0) (k.1 (h.0 +ℤ negsuc 0)) in omega (arith, ints, no))

greatest_once : (S : ℤ → ℕ → Type 0) (n m : ℤ) (d e : ℕ) → IsGreatestWhole S n d → IsPick S m e → Equal n d m e
greatest_once S n m d e h (inl k) =
    let within = (h.2 k.0).0 k.2 in
    absurd (let no = k.3 (k.0 +ℤ negsuc 0) ((h.2 (k.0 +ℤ negsuc 0)).1 (omega (arith, ints, within))) in omega (arith, ints, no))
greatest_once S n m d e h (inr (inl k)) = absurd (k.0 h.0 ((h.2 h.0).1 (omega (arith, ints))))
greatest_once S n m d e h (inr (inr (inl k))) =
    let low = (h.2 k.0).0 ((k.2 k.0).1 (omega (arith, ints))) in
    let high = (k.2 h.0).0 ((h.2 h.0).1 (omega (arith, ints))) in
    equal_whole n m h.0 k.0 d e h.1 k.1 (omega (arith, ints, low, high))
greatest_once S n m d e h (inr (inr (inr k))) = absurd (let no = (h.2 (h.0 +ℤ pos 1)).0 (k.1 (h.0 +ℤ pos 1)) in omega (arith, ints, no))

free_once : (S : ℤ → ℕ → Type 0) (n m : ℤ) (d e : ℕ) → IsFree S n d → IsPick S m e → Equal n d m e
free_once S n m d e h (inl k) = absurd (let no = k.3 (k.0 +ℤ negsuc 0) (h.1 (k.0 +ℤ negsuc 0)) in omega (arith, ints, no))
free_once S n m d e h (inr (inl k)) = absurd (k.0 (pos 0) (h.1 (pos 0)))
free_once S n m d e h (inr (inr (inl k))) = absurd (let no = (k.2 (k.0 +ℤ pos 1)).0 (h.1 (k.0 +ℤ pos 1)) in omega (arith, ints, no))
free_once S n m d e h (inr (inr (inr k))) = ap (λ (x : ℤ). pos e *ℤ x) h.0 ∙ (omega (arith, ints) ∙ sym (ap (λ (x : ℤ). pos d *ℤ x) k.0))

pick_once : (S : ℤ → ℕ → Type 0) (n m : ℤ) (d e : ℕ) → 0 < d → 0 < e → IsPick S n d → IsPick S m e → Equal n d m e
pick_once S n m d e pd pe (inl h) k = whole_once S n m d e h k
pick_once S n m d e pd pe (inr (inl h)) k = least_once S n m d e pd pe h k
pick_once S n m d e pd pe (inr (inr (inl h))) k = greatest_once S n m d e h k
pick_once S n m d e pd pe (inr (inr (inr h))) k = free_once S n m d e h k

-- ---- one next point

one_whole : (k j over : ℕ) (z : ℤ) → (q : ℤ) × (pos (j * over) *ℤ (pos k *ℤ z) ≡ pos (k * over) *ℤ q)
one_whole k j over z = (pos j *ℤ z, pos_assoc (j * over) k z ∙ (ap (λ (n : ℕ). pos n *ℤ z) (let e : j * over * k ≡ k * over * j = omega arith in e) ∙ sym (pos_assoc (k * over) j z)))

scaled_whole : (k j over : ℕ) (zs : List ℤ) → Each (λ z. (q : ℤ) × (pos (j * over) *ℤ z ≡ pos (k * over) *ℤ q)) (map (λ x. pos k *ℤ x) zs)
scaled_whole k j over [] = tt
scaled_whole k j over (z ∷ zs) = (one_whole k j over z, scaled_whole k j over zs)

-- the numbers are whole over the denominator that another choice has
moved_whole : (k j over v : ℕ) (y : ℤ) (at : List ℤ) → ((q : ℤ) × (pos (j * over) *ℤ y ≡ pos (k * over) *ℤ q)) → Each (λ z. (q : ℤ) × (pos (j * over) *ℤ z ≡ pos (k * over) *ℤ q)) (moved_numbers k v y at)
moved_whole k j over v y [] h = tt
moved_whole k j over zero y (z ∷ zs) h = (h, scaled_whole k j over zs)
moved_whole k j over (suc v) y (z ∷ zs) h = (one_whole k j over z, moved_whole k j over v y zs h)

-- the denominator of one choice divides that of the other
divides_other : (rows : List Row) (var : ℕ) (old new other : Point) (p : IsNext rows var old new) (q : IsNext rows var old other) → pos 0 <ℤ old.over → (p.times * over_of old) ∣ (q.times * over_of old)
divides_other rows var old new other p q positive =
    let over : over_of new ≡ p.times * over_of old = over_is old p.times new.over p.over in
    let over_other : over_of other ≡ q.times * over_of old = over_is old q.times other.over q.over in
    let some : 0 < over_of old = over_positive old.over positive in
    let one : 0 < over_of new = subst (λ (n : ℕ). 0 < n) (sym over) (product_above p.times (over_of old) p.positive some) in
    let two : 0 < over_of other = subst (λ (n : ℕ). 0 < n) (sym over_other) (product_above q.times (over_of old) q.positive some) in
    let same : pos (over_of other) *ℤ p.number ≡ pos (over_of new) *ℤ q.number = pick_once (Values rows var (over_of old) (env_of old.at)) p.number q.number (over_of new) (over_of other) one two p.pick q.pick in
    let whole : pos (q.times * over_of old) *ℤ p.number ≡ pos (p.times * over_of old) *ℤ q.number = ap (λ (n : ℕ). pos n *ℤ p.number) (sym over_other) ∙ (same ∙ ap (λ (n : ℕ). pos n *ℤ q.number) over) in
    subst (λ (n : ℕ). n ∣ q.times * over_of old) over
    (p.lowest (q.times * over_of old)
    (subst (λ (n : ℕ). Each (λ z. (x : ℤ) × (pos (q.times * over_of old) *ℤ z ≡ pos n *ℤ x)) new.at) (sym over)
    (subst (Each (λ z. (x : ℤ) × (pos (q.times * over_of old) *ℤ z ≡ pos (p.times * over_of old) *ℤ x))) (sym p.at)
    (moved_whole p.times q.times (over_of old) var p.number old.at (q.number, whole)))))

times_same : (a b n : ℕ) → 0 < n → a * n ≡ b * n → a ≡ b
times_same a b n positive h = let f : pos n *ℤ pos a ≡ pos n *ℤ pos b = omega (arith, ints, h) in let e : pos a ≡ pos b = scaled-cancel n (pos a) (pos b) positive f in cc

same_points : (p q : Point) → p.over ≡ q.over → p.at ≡ q.at → p ≡ q
same_points p q over at = ap (λ (z : ℤ). let r : Point = record { over = z; at = p.at } in r) over ∙ ap (λ (zs : List ℤ). let r : Point = record { over = q.over; at = zs } in r) at

next_once : (rows : List Row) (var : ℕ) (old new other : Point) → IsNext rows var old new → IsNext rows var old other → pos 0 <ℤ old.over → new ≡ other
next_once rows var old new other p q positive =
    let some : 0 < over_of old = over_positive old.over positive in
    let product : p.times * over_of old ≡ q.times * over_of old = dvd_antisymm (divides_other rows var old new other p q positive) (divides_other rows var old other new q p positive) in
    let times : p.times ≡ q.times = times_same p.times q.times (over_of old) some product in
    let over : over_of new ≡ p.times * over_of old = over_is old p.times new.over p.over in
    let over_other : over_of other ≡ q.times * over_of old = over_is old q.times other.over q.over in
    let one : 0 < over_of new = subst (λ (n : ℕ). 0 < n) (sym over) (product_above p.times (over_of old) p.positive some) in
    let same_over : over_of other ≡ over_of new = over_other ∙ (sym product ∙ sym over) in
    let two : 0 < over_of other = subst (λ (n : ℕ). 0 < n) (sym same_over) one in
    let same : pos (over_of other) *ℤ p.number ≡ pos (over_of new) *ℤ q.number = pick_once (Values rows var (over_of old) (env_of old.at)) p.number q.number (over_of new) (over_of other) one two p.pick q.pick in
    let number : p.number ≡ q.number = scaled-cancel (over_of new) p.number q.number one (ap (λ (n : ℕ). pos n *ℤ p.number) (sym same_over) ∙ same) in
    let overs : new.over ≡ other.over = p.over ∙ (ap (λ (n : ℕ). pos n *ℤ old.over) times ∙ sym q.over) in
    let ats : new.at ≡ other.at = p.at ∙ (ap (λ (n : ℕ). moved_numbers n var p.number old.at) times ∙ (ap (λ (y : ℤ). moved_numbers q.times var y old.at) number ∙ sym q.at)) in
    same_points new other overs ats

-- ---- one chosen point

chosen_positive : (width : ℕ) (rows : List Row) (v : ℕ) (p : Point) → IsChosen width rows v p → pos 0 <ℤ p.over
chosen_positive width rows zero p is = (origin_fixed width p is).positive
chosen_positive width rows (suc v) p is = subst (λ (z : ℤ). pos 0 <ℤ z) (sym is.2.over) (product_positive is.2.times is.0.over is.2.positive (chosen_positive width rows v is.0 is.1))

chosen_once : (width : ℕ) (rows : List Row) (v : ℕ) (p q : Point) → IsChosen width rows v p → IsChosen width rows v q → p ≡ q
chosen_once width rows zero p q hp hq = hp ∙ sym hq
chosen_once width rows (suc v) p q hp hq =
    let before : hq.0 ≡ hp.0 = chosen_once width rows v hq.0 hp.0 hq.1 hp.1 in
    next_once (shadow_rows (cancelled_from [] (v + 1) width) rows) v hp.0 p q hp.2 (subst (λ (old : Point). IsNext (shadow_rows (cancelled_from [] (v + 1) width) rows) v old q) before hq.2) (chosen_positive width rows v hp.0 hp.1)

-- ---- the points before a small one are small

moved_free : (k v w : ℕ) (y : ℤ) (at : List ℤ) → v < w → env_of at w ≡ pos 0 → env_of (moved_numbers k v y at) w ≡ pos 0
moved_free k v w y [] above free = refl
moved_free k v zero y (z ∷ zs) above free = absurd (omega arith)
moved_free k zero (suc w) y (z ∷ zs) above free = scaled_at k zs w ∙ (ap (λ (x : ℤ). pos k *ℤ x) free ∙ omega (arith, ints))
moved_free k (suc v) (suc w) y (z ∷ zs) above free = moved_free k v w y zs (omega (arith, above)) free

moved_other : (k v w : ℕ) (y : ℤ) (at : List ℤ) → w < length at → v ≢ w → env_of (moved_numbers k v y at) w ≡ pos k *ℤ env_of at w
moved_other k v w y [] within apart = absurd (omega arith)
moved_other k zero zero y (z ∷ zs) within apart = absurd (apart refl)
moved_other k zero (suc w) y (z ∷ zs) within apart = scaled_at k zs w
moved_other k (suc v) zero y (z ∷ zs) within apart = refl
moved_other k (suc v) (suc w) y (z ∷ zs) within apart = moved_other k v w y zs (omega arith) (λ e. apart (ap suc e))

same_or_apart : (v w : ℕ) → (v ≡ w) ⊎ (v ≢ w)
same_or_apart v w =
    elim (nat_eq v w) as (λ (b : Bool). nat_eq v w ≡ b → (v ≡ w) ⊎ (v ≢ w)) [
      | true ↦ (λ same. inl (grind (arith, nat_tests, same)))
      | false ↦ (λ apart. inr (λ same. grind (arith, nat_tests, apart, same)))
    ] refl

chosen_free : (width : ℕ) (rows : List Row) (v w : ℕ) (p : Point) → IsChosen width rows v p → v ≤ w → env_of p.at w ≡ pos 0
chosen_free width rows zero w p is above = (origin_fixed width p is).free w above
chosen_free width rows (suc v) w p is above =
    let before = chosen_free width rows v w is.0 is.1 (omega (arith, above)) in
    ap (λ (zs : List ℤ). env_of zs w) is.2.at ∙ moved_free is.2.times v w is.2.number is.0.at (omega (arith, above)) before

-- scaling does not make a number smaller
scaled_small : (k : ℕ) (z : ℤ) → 0 < k → unsigned_abs (pos k *ℤ z) ≤ 2 ^ 56 → unsigned_abs z ≤ 2 ^ 56
scaled_small zero z h small = absurd (omega arith)
scaled_small (suc k) z h small = omega (arith, small, unsigned_abs-mul (pos (suc k)) z)

small_at : (width : ℕ) (rows : List Row) (v w : ℕ) (old new : Point) → IsChosen width rows v old → (next : IsNext (shadow_rows (cancelled_from [] (v + 1) width) rows) v old new) → IsSmall new → w < length old.at → (v ≡ w) ⊎ (v ≢ w) → unsigned_abs (env_of old.at w) ≤ 2 ^ 56
small_at width rows v w old new is next small within (inl same) = subst (λ (z : ℤ). unsigned_abs z ≤ 2 ^ 56) (sym (chosen_free width rows v w old is (omega (arith, same)))) (omega arith)
small_at width rows v w old new is next small within (inr apart) =
    let here : env_of new.at w ≡ pos next.times *ℤ env_of old.at w = ap (λ (zs : List ℤ). env_of zs w) next.at ∙ moved_other next.times v w next.number old.at within apart in
    let le : unsigned_abs (env_of new.at w) ≤ 2 ^ 56 = small.at w (pos 0) (subst (λ (zs : List ℤ). w < length zs) (sym next.at) (omega (arith, within, length-moved next.times v next.number old.at))) in
    scaled_small next.times (env_of old.at w) next.positive (subst (λ (z : ℤ). unsigned_abs z ≤ 2 ^ 56) here le)

before_small : (width : ℕ) (rows : List Row) (v : ℕ) (old new : Point) → IsChosen width rows v old → IsNext (shadow_rows (cancelled_from [] (v + 1) width) rows) v old new → IsSmall new → IsSmall old
before_small width rows v old new is next small = record {
  over = scaled_small next.times old.over next.positive (subst (λ (z : ℤ). unsigned_abs z ≤ 2 ^ 56) next.over small.over);
  at = (λ w d within. subst (λ (z : ℤ). unsigned_abs z ≤ 2 ^ 56) (get_or_default old.at w (pos 0) d within) (small_at width rows v w old new is next small within (same_or_apart v w)));
}

-- ---- no chosen point passes 2^56 where the last does not

record SmallPrefix (width : ℕ) (rows : List Row) (v : ℕ) : Type 0 where
  point : Point
  chosen : IsChosen width rows v point
  small : IsSmall point

small_prefix : (width : ℕ) (rows : List Row) (n u v : ℕ) (p : Point) → u ≡ n + v → IsChosen width rows u p → IsSmall p → SmallPrefix width rows v
small_prefix width rows zero u v p sum is small = record { point = p; chosen = subst (λ (m : ℕ). IsChosen width rows m p) (let e : u ≡ v = omega (arith, sum) in e) is; small = small }
small_prefix width rows (suc n) zero v p sum is small = absurd (omega (arith, sum))
small_prefix width rows (suc n) (suc u) v p sum is small = small_prefix width rows n u v is.0 (omega (arith, sum)) is.1 (before_small width rows u is.0 p is.1 is.2 small)

pub none_past : (width : ℕ) (rows : List Row) (p : Point) (fault : SetFault) → IsChosen width rows width p → IsSmall p → IsPast width rows fault → ⊥
none_past width rows p fault is small past =
    let prefix : SmallPrefix width rows (suc past.place) = small_prefix width rows (width - suc past.place) width (suc past.place) p (omega (arith, past.below)) is small in
    let same : prefix.point ≡ past.point = chosen_once width rows (suc past.place) prefix.point past.point prefix.chosen (past.before, past.chosen, past.next) in
    past.past (subst IsSmall same prefix.small)

pub the_chosen : (width : ℕ) (rows : List Row) (p : Point) → IsChosen width rows width p → IsSmall p → IsTheChosen width rows (found.Point p)
the_chosen width rows p is small = (is, small, (λ q other. chosen_once width rows width q p other is))

pub last_chosen : (width : ℕ) (rows : List Row) (v : ℕ) (p : Point) → v ≡ width → IsChosen width rows v p → IsChosen width rows width p
last_chosen width rows v p same is = subst (λ (n : ℕ). IsChosen width rows n p) same is

-- ---- nor where there is no point

-- a set from which a fraction is chosen has one
picked_in : (S : ℤ → ℕ → Type 0) (n : ℤ) (d : ℕ) → 0 < d → IsPick S n d → (m : ℤ) × (e : ℕ) × (0 < e) × S m e
picked_in S n d positive (inl h) = (h.0, 1, omega arith, h.2)
picked_in S n d positive (inr (inl h)) = (n, d, positive, h.1)
picked_in S n d positive (inr (inr (inl h))) = (h.0, 1, omega arith, (h.2 h.0).1 (omega (arith, ints)))
picked_in S n d positive (inr (inr (inr h))) = (pos 0, 1, omega arith, h.1 (pos 0))

points_hold : (vs : List ℕ) (rows : List Row) (over : ℕ) (at : Env) → 0 < over → HasNone rows → HasPoints vs rows over at → ⊥
points_hold [] rows over at positive none h = none over at positive h
points_hold (v ∷ vs) rows over at positive none h = points_hold vs rows (h.0 * over) (moved h.0 v h.1 at) (product_above h.0 over h.2 positive) none h.3

pub empty_past : (width : ℕ) (rows : List Row) (fault : SetFault) → HasNone rows → IsPast width (map reduced_row rows) fault → ⊥
empty_past width rows fault none past =
    let reduced : List Row = map reduced_row rows in
    let before : 0 < over_of past.before = over_positive past.before.over (chosen_positive width (map reduced_row rows) past.place past.before past.chosen) in
    let over : over_of past.point ≡ past.next.times * over_of past.before = over_is past.before past.next.times past.point.over past.next.over in
    let some : 0 < over_of past.point = subst (λ (n : ℕ). 0 < n) (sym over) (product_above past.next.times (over_of past.before) past.next.positive before) in
    let stage : List Row = shadow_rows (cancelled_from [] (past.place + 1) width) (map reduced_row rows) in
    let here = picked_in (Values (shadow_rows (cancelled_from [] (past.place + 1) width) (map reduced_row rows)) past.place (over_of past.before) (env_of past.before.at)) past.next.number (over_of past.point) some past.next.pick in
    let positive : 0 < here.1 * over_of past.before = product_above here.1 (over_of past.before) here.2 before in
    let at : Env = moved here.1 past.place (pos (over_of past.before) *ℤ here.0) (env_of past.before.at) in
    let points = (shadow_AreShadow (cancelled_from [] (past.place + 1) width) (map reduced_row rows) (here.1 * over_of past.before) (moved here.1 past.place (pos (over_of past.before) *ℤ here.0) (env_of past.before.at)) positive).1 here.3 in
    points_hold (cancelled_from [] (past.place + 1) width) (map reduced_row rows) (here.1 * over_of past.before) (moved here.1 past.place (pos (over_of past.before) *ℤ here.0) (env_of past.before.at)) positive
    (λ o a po holds. none o a po ((reduced_rows-hold rows o a).0 holds))
    points
