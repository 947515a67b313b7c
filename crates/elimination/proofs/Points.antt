-- A row's value when one variable moves, and the shadow of rows.
use Rattle.std.specs.Prelude.{◌≡◌, ◌≢◌, ℕ, zero, suc, ◌*◌, ◌<◌, ℤ, pos, negsuc, ◌+ℤ◌, ◌*ℤ◌, ◌≤ℤ◌, neg_ℤ, List, [], ◌∷◌, Bool, true, false, cond, nat_eq, ◌↔◌}
use Rattle.std.proofs.Common.{refl, sym, ap, ◌∙◌, subst, arith}
use Rattle.std.proofs.lemmas.Int.{ints}
use Rattle.affine_rows.specs.declared.row.Row.{Row}
use Rattle.affine_rows.specs.Rows.{terms_at}
use Rattle.affine_rows.specs.Reduced.{value_over, IsMet, HoldsOver, factor_of}
use Rattle.elimination.specs.Shadows.{Each, moved, HasPoint, IsShadow}
use Rattle.wrap_words.proofs.Ring.{distrib, distrib_right, assoc, swap, pos_assoc, nonneg, nonneg-cancel, zero-cancel, neg_right}
use Rattle.elimination.proofs.Bounds.{Bound, LowerAt, UpperAt, Meets, Between, between, meets, Each-map}

-- where the row has not the variable, it holds
abbrev pub KeptHolds : ℕ → ℕ → (ℕ → ℤ) → Row → Type 0
KeptHolds var over at row = factor_of var row.terms ≡ pos 0 → HoldsOver over at row

-- where the first row bounds the variable from below and the second from above, their combination without it is at least 0
abbrev pub PairHolds : ℕ → ℕ → (ℕ → ℤ) → Row → Row → Type 0
PairHolds var over at lower upper =
    (a b : ℕ) → factor_of var lower.terms ≡ pos a → factor_of var upper.terms ≡ neg_ℤ (pos b) → 0 < a → 0 < b → pos 0 ≤ℤ (pos b *ℤ value_over over at lower +ℤ pos a *ℤ value_over over at upper)

-- the point with 0 for one variable
abbrev pub cleared : ℕ → (ℕ → ℤ) → ℕ → ℤ
cleared var at other = cond (nat_eq other var) (pos 0) (at other)

term_moved : (c y x f t : ℤ) (k : ℕ) (same : Bool) → c *ℤ cond same y (pos k *ℤ x) +ℤ (f *ℤ y +ℤ pos k *ℤ t) ≡ cond same (c +ℤ f) f *ℤ y +ℤ pos k *ℤ (c *ℤ cond same (pos 0) x +ℤ t)
term_moved c y x f t k true = omega (arith, ints, distrib_right c f y, distrib (pos k) (c *ℤ pos 0) t, swap c (pos k) (pos 0))
term_moved c y x f t k false = omega (arith, ints, swap c (pos k) x, distrib (pos k) (c *ℤ x) t)

terms_moved : (terms : List (ℕ × ℤ)) (k var : ℕ) (y : ℤ) (at : ℕ → ℤ) → terms_at (moved k var y at) terms ≡ factor_of var terms *ℤ y +ℤ pos k *ℤ terms_at (cleared var at) terms
terms_moved [] k var y at = omega (arith, ints)
terms_moved (term ∷ terms) k var y at =
    ap (λ (z : ℤ). term.1 *ℤ moved k var y at term.0 +ℤ z) (terms_moved terms k var y at)
    ∙ term_moved term.1 y (at term.0) (factor_of var terms) (terms_at (cleared var at) terms) k (nat_eq term.0 var)

-- what the other variables give
abbrev pub rest_at : ℕ → (ℕ → ℤ) → ℕ → Row → ℤ
rest_at over at var row = value_over over (cleared var at) row

pub value_moved : (row : Row) (k over var : ℕ) (y : ℤ) (at : ℕ → ℤ) → value_over (k * over) (moved k var y at) row ≡ factor_of var row.terms *ℤ y +ℤ pos k *ℤ rest_at over at var row
value_moved row k over var y at =
    omega (arith, ints, terms_moved row.terms k var y at, sym (pos_assoc k over row.constant), distrib (pos k) (pos over *ℤ row.constant) (terms_at (cleared var at) row.terms))

term_split : (c x f t : ℤ) (same : Bool) (v : ℤ) → (same ≡ true → x ≡ v) → c *ℤ x +ℤ (f *ℤ v +ℤ t) ≡ cond same (c +ℤ f) f *ℤ v +ℤ (c *ℤ cond same (pos 0) x +ℤ t)
term_split c x f t true v same = omega (arith, ints, distrib_right c f v, ap (λ (z : ℤ). c *ℤ z) (same refl))
term_split c x f t false v same = omega (arith, ints)

eq_at : (at : ℕ → ℤ) (a b : ℕ) → nat_eq a b ≡ true → at a ≡ at b
eq_at at a b h = ap at (grind (arith, h))

terms_split : (terms : List (ℕ × ℤ)) (var : ℕ) (at : ℕ → ℤ) → terms_at at terms ≡ factor_of var terms *ℤ at var +ℤ terms_at (cleared var at) terms
terms_split [] var at = omega (arith, ints)
terms_split (term ∷ terms) var at =
    ap (λ (z : ℤ). term.1 *ℤ at term.0 +ℤ z) (terms_split terms var at)
    ∙ term_split term.1 (at term.0) (factor_of var terms) (terms_at (cleared var at) terms) (nat_eq term.0 var) (at var) (eq_at at term.0 var)

pub value_split : (row : Row) (over var : ℕ) (at : ℕ → ℤ) → value_over over at row ≡ factor_of var row.terms *ℤ at var +ℤ rest_at over at var row
value_split row over var at = omega (arith, ints, terms_split row.terms var at)

-- ---- lower and upper bounds on the variable, from rows

abbrev pub as_lower : ℤ → ℤ → List Bound → List Bound
as_lower (pos zero) rest bounds = bounds
as_lower (pos (suc n)) rest bounds = (suc n, rest) ∷ bounds
as_lower (negsuc n) rest bounds = bounds

abbrev pub as_upper : ℤ → ℤ → List Bound → List Bound
as_upper (pos n) rest bounds = bounds
as_upper (negsuc n) rest bounds = (suc n, rest) ∷ bounds

abbrev pub lowers_of : ℕ → ℕ → (ℕ → ℤ) → List Row → List Bound
lowers_of var over at [] = []
lowers_of var over at (row ∷ rows) = as_lower (factor_of var row.terms) (rest_at over at var row) (lowers_of var over at rows)

abbrev pub uppers_of : ℕ → ℕ → (ℕ → ℤ) → List Row → List Bound
uppers_of var over at [] = []
uppers_of var over at (row ∷ rows) = as_upper (factor_of var row.terms) (rest_at over at var row) (uppers_of var over at rows)

-- what a row says of the number y over k, given its factor and its rest
abbrev pub Says : Bool → ℤ → ℤ → ℕ → ℤ → Type 0
Says equal factor rest k y = IsMet equal (factor *ℤ y +ℤ pos k *ℤ rest)

-- a row without the variable says the same at each k
kept_in : (equal : Bool) (k : ℕ) (y rest : ℤ) → IsMet equal rest → Says equal (pos 0) rest k y
kept_in true k y rest h = omega (arith, ints, ap (λ (z : ℤ). pos k *ℤ z) h)
kept_in false k y rest h = omega (arith, ints, nonneg k rest h)

kept_out : (equal : Bool) (k : ℕ) (y rest : ℤ) → 0 < k → Says equal (pos 0) rest k y → IsMet equal rest
kept_out true k y rest positive h = zero-cancel k rest positive (omega (arith, ints, h))
kept_out false k y rest positive h = nonneg-cancel k rest positive (omega (arith, ints, h))

upper_in : (n k : ℕ) (y rest : ℤ) → UpperAt k y (suc n, rest) → Says false (negsuc n) rest k y
upper_in n k y rest h = omega (arith, ints)

upper_out : (n k : ℕ) (y rest : ℤ) → Says false (negsuc n) rest k y → UpperAt k y (suc n, rest)
upper_out n k y rest h = omega (arith, ints)

-- what one row adds to both lists of bounds
one_in : (equal : Bool) (factor rest : ℤ) (lowers uppers : List Bound) (k : ℕ) (y : ℤ) → (factor ≡ pos 0 → IsMet equal rest) → (factor ≢ pos 0 → equal ≡ false) →
    Each (LowerAt k y) (as_lower factor rest lowers) → Each (UpperAt k y) (as_upper factor rest uppers) → Says equal factor rest k y × Each (LowerAt k y) lowers × Each (UpperAt k y) uppers
one_in equal (pos zero) rest lowers uppers k y kept single above below = (kept_in equal k y rest (kept refl), above, below)
one_in true (pos (suc n)) rest lowers uppers k y kept single above below = absurd (let no : true ≡ false = single (λ h. cc) in cc)
one_in false (pos (suc n)) rest lowers uppers k y kept single above below = (above.0, above.1, below)
one_in true (negsuc n) rest lowers uppers k y kept single above below = absurd (let no : true ≡ false = single (λ h. cc) in cc)
one_in false (negsuc n) rest lowers uppers k y kept single above below = (upper_in n k y rest below.0, above, below.1)

one_out : (equal : Bool) (factor rest : ℤ) (lowers uppers : List Bound) (k : ℕ) (y : ℤ) → 0 < k → (factor ≢ pos 0 → equal ≡ false) → Says equal factor rest k y →
    Each (LowerAt k y) lowers → Each (UpperAt k y) uppers → (factor ≡ pos 0 → IsMet equal rest) × Each (LowerAt k y) (as_lower factor rest lowers) × Each (UpperAt k y) (as_upper factor rest uppers)
one_out equal (pos zero) rest lowers uppers k y positive single says above below = (λ h. kept_out equal k y rest positive says, above, below)
one_out true (pos (suc n)) rest lowers uppers k y positive single says above below = absurd (let no : true ≡ false = single (λ h. cc) in cc)
one_out false (pos (suc n)) rest lowers uppers k y positive single says above below = (λ h. absurd (let no : pos (suc n) ≡ pos 0 = h in cc), (says, above), below)
one_out true (negsuc n) rest lowers uppers k y positive single says above below = absurd (let no : true ≡ false = single (λ h. cc) in cc)
one_out false (negsuc n) rest lowers uppers k y positive single says above below = (λ h. absurd (let no : negsuc n ≡ pos 0 = h in cc), above, (upper_out n k y rest says, below))

abbrev pub Kept : ℕ → ℕ → (ℕ → ℤ) → Row → Type 0
Kept var over at row = factor_of var row.terms ≡ pos 0 → IsMet row.equal (rest_at over at var row)

-- no equality has the variable
abbrev pub Single : ℕ → Row → Type 0
Single var row = factor_of var row.terms ≢ pos 0 → row.equal ≡ false

all_in : (rows : List Row) (var over k : ℕ) (y : ℤ) (at : ℕ → ℤ) → Each (Kept var over at) rows → Each (Single var) rows →
    Each (LowerAt k y) (lowers_of var over at rows) → Each (UpperAt k y) (uppers_of var over at rows) → Each (HoldsOver (k * over) (moved k var y at)) rows
all_in [] var over k y at kept single above below = tt
all_in (row ∷ rows) var over k y at kept single above below =
    let one = one_in row.equal (factor_of var row.terms) (rest_at over at var row) (lowers_of var over at rows) (uppers_of var over at rows) k y kept.0 single.0 above below in
    (subst (IsMet row.equal) (sym (value_moved row k over var y at)) one.0, all_in rows var over k y at kept.1 single.1 one.1 one.2)

all_out : (rows : List Row) (var over k : ℕ) (y : ℤ) (at : ℕ → ℤ) → 0 < k → Each (Single var) rows → Each (HoldsOver (k * over) (moved k var y at)) rows →
    Each (Kept var over at) rows × Each (LowerAt k y) (lowers_of var over at rows) × Each (UpperAt k y) (uppers_of var over at rows)
all_out [] var over k y at positive single holds = (tt, tt, tt)
all_out (row ∷ rows) var over k y at positive single holds =
    let more = all_out rows var over k y at positive single.1 holds.1 in
    let one = one_out row.equal (factor_of var row.terms) (rest_at over at var row) (lowers_of var over at rows) (uppers_of var over at rows) k y positive single.0
    (subst (IsMet row.equal) (value_moved row k over var y at) holds.0) more.1 more.2 in
    ((one.0, more.0), one.1, one.2)

positive_lower : (factor rest : ℤ) (bounds : List Bound) → Each (λ b. 0 < b.0) bounds → Each (λ b. 0 < b.0) (as_lower factor rest bounds)
positive_lower (pos zero) rest bounds h = h
positive_lower (pos (suc n)) rest bounds h = (omega arith, h)
positive_lower (negsuc n) rest bounds h = h

positive_upper : (factor rest : ℤ) (bounds : List Bound) → Each (λ b. 0 < b.0) bounds → Each (λ b. 0 < b.0) (as_upper factor rest bounds)
positive_upper (pos n) rest bounds h = h
positive_upper (negsuc n) rest bounds h = (omega arith, h)

positive_lowers : (rows : List Row) (var over : ℕ) (at : ℕ → ℤ) → Each (λ b. 0 < b.0) (lowers_of var over at rows)
positive_lowers [] var over at = tt
positive_lowers (row ∷ rows) var over at = positive_lower (factor_of var row.terms) (rest_at over at var row) (lowers_of var over at rows) (positive_lowers rows var over at)

positive_uppers : (rows : List Row) (var over : ℕ) (at : ℕ → ℤ) → Each (λ b. 0 < b.0) (uppers_of var over at rows)
positive_uppers [] var over at = tt
positive_uppers (row ∷ rows) var over at = positive_upper (factor_of var row.terms) (rest_at over at var row) (uppers_of var over at rows) (positive_uppers rows var over at)

-- the rows without the variable hold, and each lower bound meets each upper one
pub record Shadows (rows : List Row) (var over : ℕ) (at : ℕ → ℤ) : Type 0 where
  pub kept : Each (Kept var over at) rows
  pub meet : Each (λ lower. Each (Meets lower) (uppers_of var over at rows)) (lowers_of var over at rows)

pub HasPoint-shadows : (rows : List Row) (var over : ℕ) (at : ℕ → ℤ) → Each (Single var) rows → Shadows rows var over at → HasPoint var rows over at
HasPoint-shadows rows var over at single shadows =
    let b : Between (lowers_of var over at rows) (uppers_of var over at rows) = between (lowers_of var over at rows) (uppers_of var over at rows) (positive_lowers rows var over at) (positive_uppers rows var over at) shadows.meet in
    (b.over, b.number, b.positive, all_in rows var over b.over b.number at shadows.kept single b.above b.below)

all_meet : (lowers uppers : List Bound) (k : ℕ) (y : ℤ) → 0 < k → Each (LowerAt k y) lowers → Each (UpperAt k y) uppers → Each (λ lower. Each (Meets lower) uppers) lowers
all_meet [] uppers k y positive above below = tt
all_meet (lower ∷ lowers) uppers k y positive above below =
    (Each-map (UpperAt k y) (Meets lower) uppers (λ upper h. meets k y lower upper positive above.0 h) below, all_meet lowers uppers k y positive above.1 below)

pub shadows-HasPoint : (rows : List Row) (var over : ℕ) (at : ℕ → ℤ) → Each (Single var) rows → HasPoint var rows over at → Shadows rows var over at
shadows-HasPoint rows var over at single has =
    let out = all_out rows var over has.0 has.1 at has.2 single has.3 in
    record { kept = out.0; meet = all_meet (lowers_of var over at rows) (uppers_of var over at rows) has.0 has.1 has.2 out.1 out.2 }

-- ---- the same facts, as the loops of a stage say them

kept_value : (row : Row) (var over : ℕ) (at : ℕ → ℤ) → factor_of var row.terms ≡ pos 0 → value_over over at row ≡ rest_at over at var row
kept_value row var over at none = omega (arith, ints, value_split row over var at, ap (λ (z : ℤ). z *ℤ at var) none)

pub kept_from : (rows : List Row) (var over : ℕ) (at : ℕ → ℤ) → Each (KeptHolds var over at) rows → Each (Kept var over at) rows
kept_from rows var over at = Each-map (KeptHolds var over at) (Kept var over at) rows (λ row h none. subst (IsMet row.equal) (kept_value row var over at none) (h none))

pub kept_to : (rows : List Row) (var over : ℕ) (at : ℕ → ℤ) → Each (Kept var over at) rows → Each (KeptHolds var over at) rows
kept_to rows var over at = Each-map (Kept var over at) (KeptHolds var over at) rows (λ row h none. subst (IsMet row.equal) (sym (kept_value row var over at none)) (h none))

neg_times : (n : ℕ) (x : ℤ) → neg_ℤ (pos n) *ℤ x ≡ neg_ℤ (pos n *ℤ x)
neg_times zero x = omega (arith, ints)
neg_times (suc n) x = omega (arith, ints)

neg_product : (a b : ℕ) (x : ℤ) → (pos a *ℤ neg_ℤ (pos b)) *ℤ x ≡ neg_ℤ (pos (b * a) *ℤ x)
neg_product a b x = ap (λ (z : ℤ). z *ℤ x) (neg_right (pos a) (pos b) ∙ ap neg_ℤ (let e : pos a *ℤ pos b ≡ pos (b * a) = omega (arith, ints) in e)) ∙ neg_times (b * a) x

-- the variable goes out of a pair
pair_value : (a b : ℕ) (lower upper : Row) (var over : ℕ) (at : ℕ → ℤ) → factor_of var lower.terms ≡ pos a → factor_of var upper.terms ≡ neg_ℤ (pos b) →
    pos b *ℤ value_over over at lower +ℤ pos a *ℤ value_over over at upper ≡ pos b *ℤ rest_at over at var lower +ℤ pos a *ℤ rest_at over at var upper
pair_value a b lower upper var over at fl fu =
    omega (
      arith,
      ints,
      ap (λ (z : ℤ). pos b *ℤ z) (value_split lower over var at),
      ap (λ (z : ℤ). pos a *ℤ z) (value_split upper over var at),
      distrib (pos b) (factor_of var lower.terms *ℤ at var) (rest_at over at var lower),
      distrib (pos a) (factor_of var upper.terms *ℤ at var) (rest_at over at var upper),
      ap (λ (z : ℤ). pos b *ℤ (z *ℤ at var)) fl,
      ap (λ (z : ℤ). pos a *ℤ (z *ℤ at var)) fu,
      pos_assoc b a (at var),
      sym (assoc (pos a) (neg_ℤ (pos b)) (at var)),
      neg_product a b (at var),
    )

lower_in : (P : Bound → Type 0) (factor rest : ℤ) (bounds : List Bound) → ((n : ℕ) → factor ≡ pos (suc n) → P (suc n, rest)) → Each P bounds → Each P (as_lower factor rest bounds)
lower_in P (pos zero) rest bounds f h = h
lower_in P (pos (suc n)) rest bounds f h = (f n refl, h)
lower_in P (negsuc n) rest bounds f h = h

lower_out : (P : Bound → Type 0) (factor rest : ℤ) (bounds : List Bound) → Each P (as_lower factor rest bounds) → ((n : ℕ) → factor ≡ pos (suc n) → P (suc n, rest)) × Each P bounds
lower_out P (pos zero) rest bounds h = (λ n e. absurd (let no : pos zero ≡ pos (suc n) = e in cc), h)
lower_out P (pos (suc k)) rest bounds h = (λ n e. let same : suc k ≡ suc n = cc in subst (λ (m : ℕ). P (m, rest)) same h.0, h.1)
lower_out P (negsuc k) rest bounds h = (λ n e. absurd (let no : negsuc k ≡ pos (suc n) = e in cc), h)

upper_in_list : (P : Bound → Type 0) (factor rest : ℤ) (bounds : List Bound) → ((n : ℕ) → factor ≡ negsuc n → P (suc n, rest)) → Each P bounds → Each P (as_upper factor rest bounds)
upper_in_list P (pos n) rest bounds f h = h
upper_in_list P (negsuc n) rest bounds f h = (f n refl, h)

upper_out_list : (P : Bound → Type 0) (factor rest : ℤ) (bounds : List Bound) → Each P (as_upper factor rest bounds) → ((n : ℕ) → factor ≡ negsuc n → P (suc n, rest)) × Each P bounds
upper_out_list P (pos k) rest bounds h = (λ n e. absurd (let no : pos k ≡ negsuc n = e in cc), h)
upper_out_list P (negsuc k) rest bounds h = (λ n e. let same : k ≡ n = cc in subst (λ (m : ℕ). P (suc m, rest)) same h.0, h.1)

uppers_meet : (rows : List Row) (var over : ℕ) (at : ℕ → ℤ) (lower : Row) (n : ℕ) → factor_of var lower.terms ≡ pos (suc n) → Each (PairHolds var over at lower) rows → Each (Meets (suc n, rest_at over at var lower)) (uppers_of var over at rows)
uppers_meet [] var over at lower n fl h = tt
uppers_meet (row ∷ rows) var over at lower n fl h =
    upper_in_list (Meets (suc n, rest_at over at var lower)) (factor_of var row.terms) (rest_at over at var row) (uppers_of var over at rows)
    (λ m fu. subst (λ (z : ℤ). pos 0 ≤ℤ z) (pair_value (suc n) (suc m) lower row var over at fl fu) (h.0 (suc n) (suc m) fl fu (omega arith) (omega arith)))
    (uppers_meet rows var over at lower n fl h.1)

pub meet_from : (lowers rows : List Row) (var over : ℕ) (at : ℕ → ℤ) → Each (λ lower. Each (PairHolds var over at lower) rows) lowers → Each (λ lower. Each (Meets lower) (uppers_of var over at rows)) (lowers_of var over at lowers)
meet_from [] rows var over at h = tt
meet_from (row ∷ lowers) rows var over at h =
    lower_in (λ lower. Each (Meets lower) (uppers_of var over at rows)) (factor_of var row.terms) (rest_at over at var row) (lowers_of var over at lowers)
    (λ n fl. uppers_meet rows var over at row n fl h.0) (meet_from lowers rows var over at h.1)

pair_from : (var over : ℕ) (at : ℕ → ℤ) (lower upper : Row) → ((n m : ℕ) → factor_of var lower.terms ≡ pos (suc n) → factor_of var upper.terms ≡ negsuc m → Meets (suc n, rest_at over at var lower) (suc m, rest_at over at var upper)) → PairHolds var over at lower upper
pair_from var over at lower upper f zero b fl fu ha hb = absurd (omega arith)
pair_from var over at lower upper f (suc a) zero fl fu ha hb = absurd (omega arith)
pair_from var over at lower upper f (suc a) (suc b) fl fu ha hb = subst (λ (z : ℤ). pos 0 ≤ℤ z) (sym (pair_value (suc a) (suc b) lower upper var over at fl fu)) (f a b fl fu)

pairs_to : (rows : List Row) (var over : ℕ) (at : ℕ → ℤ) (lower : Row) → ((n : ℕ) → factor_of var lower.terms ≡ pos (suc n) → Each (Meets (suc n, rest_at over at var lower)) (uppers_of var over at rows)) → Each (PairHolds var over at lower) rows
pairs_to [] var over at lower f = tt
pairs_to (row ∷ rows) var over at lower f = (
  pair_from var over at lower row (λ n m fl fu. (upper_out_list (Meets (suc n, rest_at over at var lower)) (factor_of var row.terms) (rest_at over at var row) (uppers_of var over at rows) (f n fl)).0 m fu),
  pairs_to rows var over at lower (λ n fl. (upper_out_list (Meets (suc n, rest_at over at var lower)) (factor_of var row.terms) (rest_at over at var row) (uppers_of var over at rows) (f n fl)).1),
)

pub meet_to : (lowers rows : List Row) (var over : ℕ) (at : ℕ → ℤ) → Each (λ lower. Each (Meets lower) (uppers_of var over at rows)) (lowers_of var over at lowers) → Each (λ lower. Each (PairHolds var over at lower) rows) lowers
meet_to [] rows var over at h = tt
meet_to (row ∷ lowers) rows var over at h =
    let parts = lower_out (λ lower. Each (Meets lower) (uppers_of var over at rows)) (factor_of var row.terms) (rest_at over at var row) (lowers_of var over at lowers) h in
    (pairs_to rows var over at row parts.0, meet_to lowers rows var over at parts.1)

-- rows that hold exactly where the kept rows and all pairs do are a shadow
pub IsShadow-from : (rows shadow : List Row) (var : ℕ) → Each (Single var) rows →
    ((over : ℕ) (at : ℕ → ℤ) → Each (HoldsOver over at) shadow ↔ (Each (KeptHolds var over at) rows × Each (λ lower. Each (PairHolds var over at lower) rows) rows)) → IsShadow var rows shadow
IsShadow-from rows shadow var single same over at positive = (
  (λ has. let shadows = shadows-HasPoint rows var over at single has in (same over at).1 (kept_to rows var over at shadows.kept, meet_to rows rows var over at shadows.meet)),
  (λ holds. let parts = (same over at).0 holds in HasPoint-shadows rows var over at single (record { kept = kept_from rows var over at parts.0; meet = meet_from rows rows var over at parts.1 })),
)
