-- The next point, from the number that is chosen.
use Rattle.std.specs.Prelude.{◌≡◌, ◌⊎◌, ℕ, zero, suc, ◌+◌, ◌*◌, ◌^◌, ◌<◌, ◌≤◌, ℤ, pos, negsuc, ◌*ℤ◌, ◌<ℤ◌, List, [], ◌∷◌, ◌++◌, Bool, true, false, cond, nat_eq, map, length, unsigned_abs, All}
use Rattle.std.specs.Int.{◌∣◌}
use Rattle.std.proofs.Common.{inl, inr, refl, sym, ap, ◌∙◌, subst, arith, get_or, take, ◌/◌}
use Rattle.std.proofs.Math.Nat.{mul-div_cancel', mul-dvd-mul_right}
use Rattle.std.proofs.lemmas.Int.{ints, unsigned_abs-mul}
use Rattle.std.proofs.lemmas.List.{take_more, length-map}
use Rattle.std.proofs.lemmas.List.Elements.{All-head, All-tail}
use Rattle.wrap_words.proofs.Ring.{distrib, pos_assoc, scaled-cancel, swap}
use Rattle.affine_rows.specs.declared.point.Point.{Point}
use Rattle.affine_rows.specs.declared.row.Row.{Row}
use Rattle.affine_rows.specs.Rows.{Env, env_of, terms_at, IsRow, IsTerm}
use Rattle.affine_rows.specs.Reduced.{value_over, HoldsOver}
use Rattle.affine_rows.proofs.Division.{met_scaled}
use Rattle.elimination.specs.declared.fractions.Fraction.{Fraction}
use Rattle.elimination.specs.declared.fault.SetFault.{SetFault}
use Rattle.elimination.specs.declared.fault.SetFault.TheVariants.{OutOfMemory, TooManyRows, TooWide}
use Rattle.elimination.specs.Shadows.{Each, AllHold, moved}
use Rattle.elimination.specs.Points.{AreSmall, HoldAt, IsLeastDenominator, IsNext, IsNextFault, IsWide, IsPick, Values, moved_numbers, over_of}
use Rattle.elimination.specs.Finding.{IsChoice, IsFixed}
use Rattle.elimination.proofs.StageRows.{Each-from}

-- ---- the same rational numbers

terms_alike : (width o n : ℕ) (at other : Env) (ts : List (ℕ × ℤ)) → ((v : ℕ) → v < width → pos n *ℤ at v ≡ pos o *ℤ other v) → All (IsTerm width) ts → pos n *ℤ terms_at at ts ≡ pos o *ℤ terms_at other ts
terms_alike width o n at other [] same all = omega (arith, ints)
terms_alike width o n at other (t ∷ ts) same all =
    let here : IsTerm width t = All-head (IsTerm width) t ts all in
    omega (
      arith,
      ints,
      terms_alike width o n at other ts same (All-tail (IsTerm width) t ts all),
      distrib (pos n) (t.1 *ℤ at t.0) (terms_at at ts),
      distrib (pos o) (t.1 *ℤ other t.0) (terms_at other ts),
      swap (pos n) t.1 (at t.0),
      swap (pos o) t.1 (other t.0),
      ap (λ (z : ℤ). t.1 *ℤ z) (same t.0 here.var),
    )

row_alike : (width o n : ℕ) (at other : Env) (r : Row) → 0 < o → 0 < n → ((v : ℕ) → v < width → pos n *ℤ at v ≡ pos o *ℤ other v) → IsRow width r → HoldsOver o at r → HoldsOver n other r
row_alike width o n at other r po pn same is holds =
    let values : pos n *ℤ value_over o at r ≡ pos o *ℤ value_over n other r =
    omega (
      arith,
      ints,
      terms_alike width o n at other r.terms same is.terms,
      distrib (pos n) (pos o *ℤ r.constant) (terms_at at r.terms),
      distrib (pos o) (pos n *ℤ r.constant) (terms_at other r.terms),
      swap (pos n) (pos o) r.constant,
    ) in
    (met_scaled o r.equal (value_over n other r) (pos n *ℤ value_over o at r) po (sym values)).1 ((met_scaled n r.equal (value_over o at r) (pos n *ℤ value_over o at r) pn refl).0 holds)

each_alike : (width o n : ℕ) (at other : Env) (rows : List Row) → 0 < o → 0 < n → ((v : ℕ) → v < width → pos n *ℤ at v ≡ pos o *ℤ other v) → Each (IsRow width) rows → AllHold o at rows → AllHold n other rows
each_alike width o n at other [] po pn same are holds = tt
each_alike width o n at other (r ∷ rows) po pn same are holds = (row_alike width o n at other r po pn same are.0 holds.0, each_alike width o n at other rows po pn same are.1 holds.1)

-- rows hold at equal rational numbers
pub alike_hold : (width o n : ℕ) (at other : Env) (rows : List Row) → 0 < o → 0 < n → ((v : ℕ) → v < width → pos n *ℤ at v ≡ pos o *ℤ other v) → All (IsRow width) rows → AllHold o at rows → AllHold n other rows
alike_hold width o n at other rows po pn same are holds = each_alike width o n at other rows po pn same (Each-from (IsRow width) rows are) holds

-- ---- the moved numbers

pub scaled_at : (k : ℕ) (zs : List ℤ) (w : ℕ) → env_of (map (λ x. pos k *ℤ x) zs) w ≡ pos k *ℤ env_of zs w
scaled_at k [] w = omega (arith, ints)
scaled_at k (z ∷ zs) zero = refl
scaled_at k (z ∷ zs) (suc w) = scaled_at k zs w

same_test : (w v : ℕ) → nat_eq (suc w) (suc v) ≡ nat_eq w v
same_test w v = grind arith

later_test : (w : ℕ) → nat_eq (suc w) zero ≡ false
later_test w = grind arith

first_test : (v : ℕ) → nat_eq zero (suc v) ≡ false
first_test v = grind arith

pub moved_at : (k v : ℕ) (y : ℤ) (at : List ℤ) (w : ℕ) → (v < length at) ⊎ (w < length at) → env_of (moved_numbers k v y at) w ≡ moved k v y (env_of at) w
moved_at k v y [] w (inl h) = absurd (omega arith)
moved_at k v y [] w (inr h) = absurd (omega arith)
moved_at k zero y (z ∷ zs) zero h = refl
moved_at k zero y (z ∷ zs) (suc w) h = scaled_at k zs w ∙ ap (λ (b : Bool). cond b y (pos k *ℤ env_of zs w)) (sym (later_test w))
moved_at k (suc v) y (z ∷ zs) zero h = ap (λ (b : Bool). cond b y (pos k *ℤ z)) (sym (first_test v))
moved_at k (suc v) y (z ∷ zs) (suc w) (inl h) = moved_at k v y zs w (inl (omega arith)) ∙ ap (λ (b : Bool). cond b y (pos k *ℤ env_of zs w)) (sym (same_test w v))
moved_at k (suc v) y (z ∷ zs) (suc w) (inr h) = moved_at k v y zs w (inr (omega arith)) ∙ ap (λ (b : Bool). cond b y (pos k *ℤ env_of zs w)) (sym (same_test w v))

pub length-moved : (k v : ℕ) (y : ℤ) (at : List ℤ) → length (moved_numbers k v y at) ≡ length at
length-moved k v y [] = refl
length-moved k zero y (z ∷ zs) = omega (arith, length-map zs (λ (x : ℤ). pos k *ℤ x))
length-moved k (suc v) y (z ∷ zs) = omega (arith, length-moved k v y zs)

-- ---- the least common denominator

abbrev IsWhole : ℕ → ℕ → ℤ → Type 0
IsWhole m over z = (q : ℤ) × (pos m *ℤ z ≡ pos over *ℤ q)

unscaled : (m k over : ℕ) (z : ℤ) → 0 < k → IsWhole m (k * over) (pos k *ℤ z) → IsWhole m over z
unscaled m k over z positive h = (
  h.0,
  scaled-cancel k (pos m *ℤ z) (pos over *ℤ h.0) positive (swap (pos k) (pos m) z ∙ (h.1 ∙ sym (pos_assoc k over h.0))),
)

unscaled_all : (m k over : ℕ) (zs : List ℤ) → 0 < k → Each (IsWhole m (k * over)) (map (λ x. pos k *ℤ x) zs) → Each (IsWhole m over) zs
unscaled_all m k over [] positive h = tt
unscaled_all m k over (z ∷ zs) positive h = (unscaled m k over z positive h.0, unscaled_all m k over zs positive h.1)

moved_parts : (m k over v : ℕ) (y : ℤ) (at : List ℤ) → 0 < k → v < length at → env_of at v ≡ pos 0 → Each (IsWhole m (k * over)) (moved_numbers k v y at) → IsWhole m (k * over) y × Each (IsWhole m over) at
moved_parts m k over v y [] positive within free h = absurd (omega arith)
moved_parts m k over zero y (z ∷ zs) positive within free h =
    let none : pos m *ℤ z ≡ pos over *ℤ pos 0 = ap (λ (x : ℤ). pos m *ℤ x) free ∙ omega (arith, ints) in
    (h.0, ((pos 0, none), unscaled_all m k over zs positive h.1))
moved_parts m k over (suc v) y (z ∷ zs) positive within free h =
    let more = moved_parts m k over v y zs positive (omega arith) free h.1 in
    (more.0, (unscaled m k over z positive h.0, more.1))

pub lowest_moved : (k over v : ℕ) (y : ℤ) (at : List ℤ) → 0 < k → 0 < over → v < length at → env_of at v ≡ pos 0 → ((t : ℕ) (q : ℤ) → pos t *ℤ y ≡ pos k *ℤ q → k ∣ t) → IsLeastDenominator over at → IsLeastDenominator (k * over) (moved_numbers k v y at)
lowest_moved k over v y at positive some within free reduced lowest m h =
    let parts = moved_parts m k over v y at positive within free h in
    let t : ℕ = m / over in
    let m_is : over * t ≡ m = mul-div_cancel' over (lowest m parts.1) in
    let left : pos over *ℤ (pos t *ℤ y) ≡ pos m *ℤ y = pos_assoc over t y ∙ ap (λ (n : ℕ). pos n *ℤ y) m_is in
    let right : pos over *ℤ (pos k *ℤ parts.0.0) ≡ pos (k * over) *ℤ parts.0.0 = pos_assoc over k parts.0.0 ∙ ap (λ (n : ℕ). pos n *ℤ parts.0.0) (let e : over * k ≡ k * over = omega arith in e) in
    let divides : k ∣ t = reduced t parts.0.0 (scaled-cancel over (pos t *ℤ y) (pos k *ℤ parts.0.0) some (left ∙ (parts.0.1 ∙ sym right))) in
    subst (λ (n : ℕ). k * over ∣ n) (let e : t * over ≡ m = omega (arith, m_is) in e) (mul-dvd-mul_right k divides over)

-- ---- the next point

pub product_positive : (k : ℕ) (z : ℤ) → 0 < k → pos 0 <ℤ z → pos 0 <ℤ (pos k *ℤ z)
product_positive zero z h positive = absurd (omega arith)
product_positive (suc k) (pos zero) h positive = absurd (omega (arith, ints))
product_positive (suc k) (pos (suc n)) h positive = let e : pos (suc k) *ℤ pos (suc n) ≡ pos (suc k * suc n) = omega (arith, ints) in let f : 0 < suc k * suc n = omega arith in omega (arith, ints, e, f)
product_positive (suc k) (negsuc n) h positive = absurd (omega (arith, ints))

pub over_is : (p : Point) (k : ℕ) (over : ℤ) → over ≡ pos k *ℤ p.over → unsigned_abs over ≡ k * over_of p
over_is p k over is = ap unsigned_abs is ∙ unsigned_abs-mul (pos k) p.over

pub over_positive : (z : ℤ) → pos 0 <ℤ z → 0 < unsigned_abs z
over_positive z h = omega (arith, ints, h)

pub next_is : (rows : List Row) (var width : ℕ) (old : Point) (f : Fraction) (over : ℤ) (at : List ℤ) → IsChoice rows var old f → IsFixed width var old → var < length old.at → over ≡ pos f.by *ℤ old.over → at ≡ moved_numbers f.by var f.number old.at → IsNext rows var old (record { over = over; at = at })
next_is rows var width old f over at choice fixed within over_same at_same =
    let size = over_is old f.by over over_same in
    record {
      times = f.by;
      number = f.number;
      positive = choice.positive;
      over = over_same;
      at = at_same;
      pick = subst (λ (n : ℕ). IsPick (Values rows var (over_of old) (env_of old.at)) f.number n) (sym size) choice.pick;
      lowest = subst (λ (n : ℕ). IsLeastDenominator n at) (sym size)
          (subst (IsLeastDenominator (f.by * over_of old)) (sym at_same)
          (lowest_moved f.by (over_of old) var f.number old.at choice.positive (over_positive old.over fixed.positive) within (fixed.free var (omega arith)) choice.reduced fixed.lowest));
    }

free_after : (k v : ℕ) (y : ℤ) (at : Env) (w : ℕ) (test : Bool) → nat_eq w v ≡ test → v + 1 ≤ w → at w ≡ pos 0 → cond test y (pos k *ℤ at w) ≡ pos 0
free_after k v y at w true e above none = absurd (let same : w ≡ v = grind (arith, e) in omega arith)
free_after k v y at w false e above none = ap (λ (z : ℤ). pos k *ℤ z) none ∙ omega (arith, ints)

pub next_fixed : (rows : List Row) (var width : ℕ) (old : Point) (f : Fraction) (over : ℤ) (at : List ℤ) → IsChoice rows var old f → IsFixed width var old → var < length old.at → over ≡ pos f.by *ℤ old.over → at ≡ moved_numbers f.by var f.number old.at →
    unsigned_abs over ≤ 2 ^ 56 → AreSmall at → IsFixed width (var + 1) (record { over = over; at = at })
next_fixed rows var width old f over at choice fixed within over_same at_same small_over small_at = record {
  positive = subst (λ (z : ℤ). pos 0 <ℤ z) (sym over_same) (product_positive f.by old.over choice.positive fixed.positive);
  long = ap length at_same ∙ (length-moved f.by var f.number old.at ∙ fixed.long);
  small = record { over = small_over; at = small_at };
  lowest = (next_is rows var width old f over at choice fixed within over_same at_same).lowest;
  free = (λ w above. ap (λ (zs : List ℤ). env_of zs w) at_same ∙ (moved_at f.by var f.number old.at w (inl within) ∙ free_after f.by var f.number (env_of old.at) w (nat_eq w var) refl above (fixed.free w (omega arith))));
}

pub next_holds : (rows : List Row) (var width : ℕ) (old : Point) (f : Fraction) (over : ℤ) (at : List ℤ) → IsChoice rows var old f → IsFixed width var old → var < length old.at → All (IsRow (length old.at)) rows → over ≡ pos f.by *ℤ old.over → at ≡ moved_numbers f.by var f.number old.at →
    HoldAt rows (record { over = over; at = at })
next_holds rows var width old f over at choice fixed within are over_same at_same =
    let size = over_is old f.by over over_same in
    let positive : 0 < f.by * over_of old = subst (λ (n : ℕ). 0 < n) size (over_positive over (subst (λ (z : ℤ). pos 0 <ℤ z) (sym over_same) (product_positive f.by old.over choice.positive fixed.positive))) in
    subst (λ (n : ℕ). AllHold n (env_of at) rows) (sym size)
    (alike_hold (length old.at) (f.by * over_of old) (f.by * over_of old) (moved f.by var f.number (env_of old.at)) (env_of at) rows positive positive
    (λ v _. ap (λ (z : ℤ). pos (f.by * over_of old) *ℤ z) (sym (ap (λ (zs : List ℤ). env_of zs v) at_same ∙ moved_at f.by var f.number old.at v (inl within))))
    are choice.holds)

-- ---- as the code makes the numbers

pub number_is : (k v i : ℕ) (y : ℤ) (at : List ℤ) (number result : ℤ) → i < length at → number ≡ get_or at i (pos 0) → result ≡ cond (nat_eq i v) y (pos k *ℤ number) → result ≡ get_or (moved_numbers k v y at) i (pos 0)
number_is k v i y at number result within is made =
    made ∙ (ap (λ (z : ℤ). cond (nat_eq i v) y (pos k *ℤ z)) is ∙ sym (moved_at k v y at i (inr within)))

pub numbers_more : (k v i : ℕ) (y : ℤ) (at made new : List ℤ) (x : ℤ) → i < length at → made ≡ take i (moved_numbers k v y at) → new ≡ made ++ x ∷ [] → x ≡ get_or (moved_numbers k v y at) i (pos 0) → new ≡ take (i + 1) (moved_numbers k v y at)
numbers_more k v i y at made new x within before pushed is =
    pushed ∙ (ap (λ (zs : List ℤ). zs ++ x ∷ []) before
    ∙ (ap (λ (z : ℤ). take i (moved_numbers k v y at) ++ z ∷ []) is
    ∙ sym (take_more (moved_numbers k v y at) i (pos 0) (omega (arith, within, length-moved k v y at)))))

pub number_past : (k v i : ℕ) (y : ℤ) (at : List ℤ) (x : ℤ) → i < length at → x ≡ get_or (moved_numbers k v y at) i (pos 0) → 2 ^ 56 < unsigned_abs x → AreSmall (moved_numbers k v y at) → ⊥
number_past k v i y at x within is past small =
    let le : unsigned_abs (get_or (moved_numbers k v y at) i (pos 0)) ≤ 2 ^ 56 = small i (pos 0) (omega (arith, within, length-moved k v y at)) in
    let same : unsigned_abs x ≡ unsigned_abs (get_or (moved_numbers k v y at) i (pos 0)) = ap unsigned_abs is in
    omega (arith, le, same, past)

pub wide_here : (k v i : ℕ) (y : ℤ) (at : List ℤ) (x : ℤ) (stage : ℕ) (fault : SetFault) → i < length at → x ≡ get_or (moved_numbers k v y at) i (pos 0) → (fault ≡ TooWide stage 0) × (2 ^ 56 < unsigned_abs x) → IsWide stage (moved_numbers k v y at) fault
wide_here k v i y at x stage fault within is past = subst (IsWide stage (moved_numbers k v y at)) (sym past.0) (refl, refl, number_past k v i y at x within is past.1)

pub small_same : (x number : ℤ) → x ≡ number → unsigned_abs number ≤ 2 ^ 56 → unsigned_abs x ≤ 2 ^ 56
small_same x number same small = subst (λ (z : ℤ). unsigned_abs z ≤ 2 ^ 56) (sym same) small

-- ---- a next point that is too wide

abbrev next_point : ℕ → ℕ → ℤ → Point → Point
next_point k v y old = record { over = pos k *ℤ old.over; at = moved_numbers k v y old.at }

pub over_wide : (rows : List Row) (var width : ℕ) (old : Point) (f : Fraction) (wide : ℤ) (stage : ℕ) (fault : SetFault) → IsChoice rows var old f → IsFixed width var old → var < length old.at → wide ≡ pos f.by *ℤ old.over → (fault ≡ TooWide stage 0) × (2 ^ 56 < unsigned_abs wide) → IsNextFault rows var old stage fault
over_wide rows var width old f wide stage fault choice fixed within is past =
    subst (IsNextFault rows var old stage) (sym past.0) (
      refl,
      refl,
      next_point f.by var f.number old,
      next_is rows var width old f (pos f.by *ℤ old.over) (moved_numbers f.by var f.number old.at) choice fixed within refl refl,
      (λ small. let le : unsigned_abs (pos f.by *ℤ old.over) ≤ 2 ^ 56 = small.over in omega (arith, le, past.1, ap unsigned_abs is)),
    )

pub numbers_wide : (rows : List Row) (var width : ℕ) (old : Point) (f : Fraction) (stage : ℕ) (fault : SetFault) → IsChoice rows var old f → IsFixed width var old → var < length old.at → IsWide stage (moved_numbers f.by var f.number old.at) fault → IsNextFault rows var old stage fault
numbers_wide rows var width old f stage OutOfMemory choice fixed within h = tt
numbers_wide rows var width old f stage (TooWide number row) choice fixed within h = (
  h.0,
  h.1,
  next_point f.by var f.number old,
  next_is rows var width old f (pos f.by *ℤ old.over) (moved_numbers f.by var f.number old.at) choice fixed within refl refl,
  (λ small. h.2 small.at),
)
numbers_wide rows var width old f stage (TooManyRows number) choice fixed within h = h
