-- The ends of systems.
use Rattle.std.specs.Prelude.{◌≡◌, ℕ, zero, suc, ◌+◌, ◌<◌, ◌≤◌, ℤ, neg_ℤ, ◌≤ℤ◌, List, [], ◌∷◌, ◌++◌, Bool, true, false, cond, int_lt, map, take, length, Option, None, Some, All}
use Rattle.std.proofs.Common.{inl, inr, refl, sym, ap, ◌∙◌, subst, arith, get_or}
use Rattle.std.proofs.lemmas.Int.{ints}
use Rattle.std.proofs.lemmas.List.{map-append}
use Rattle.affine_rows.specs.declared.row.Row.{Row}
use Rattle.affine_rows.specs.declared.row.System.{System}
use Rattle.affine_rows.specs.Reduced.{tightened_row}
use Rattle.affine_rows.specs.Rows.{IsEntry, IsRow}
use Rattle.affine_rows.proofs.Division.{tightened_IsRow}
use Rattle.elimination.specs.declared.fault.SetFault.{SetFault}
use Rattle.elimination.specs.Shadows.{Each}
use Rattle.elimination.proofs.Bounds.{Each-map}
use Rattle.elimination.proofs.Pairing.{Each-append, filtered_from}
use Rattle.elimination.proofs.StageRows.{Each-from}
use Rattle.elimination.proofs.Steps.{take_item}
use Rattle.elimination.proofs.Substituting.{Each-mapped}
use Rattle.set_query.specs.declared.bounding.Side.{Side}
use Rattle.set_query.specs.Bounding.{bound_rows, bounds_on, halves, inequality, last_rows, opposite, tight_rows}
use Rattle.set_query.specs.Cases.{HasSome}
use Rattle.set_query.specs.Hulls.{IsHullFault, IsLeast, IsSmallEnd, IsSpanFault, IsSpanned, IsWidest, constants, lesser, opposite_end, wider}
use Rattle.set_query.proofs.Halving.{inequality_IsRow, opposite_IsRow}
use Rattle.set_query.proofs.Opening.{Each-put, at_place, take_place}

-- ---- some element

some_before : {A : Type 0} (P : A → Type 0) (xs ys : List A) → HasSome P xs → HasSome P (xs ++ ys)
some_before P [] ys h = absurd h
some_before P (x ∷ xs) ys (inl here) = inl here
some_before P (x ∷ xs) ys (inr rest) = inr (some_before P xs ys rest)

some_last : {A : Type 0} (P : A → Type 0) (xs : List A) (x : A) → P x → HasSome P (xs ++ x ∷ [])
some_last P [] x h = inl h
some_last P (y ∷ xs) x h = inr (some_last P xs x h)

some_map : {A : Type 0} (P Q : A → Type 0) (xs : List A) → ((x : A) → P x → Q x) → HasSome P xs → HasSome Q xs
some_map P Q [] f h = absurd h
some_map P Q (x ∷ xs) f (inl here) = inl (f x here)
some_map P Q (x ∷ xs) f (inr rest) = inr (some_map P Q xs f rest)

pub some_each : {A : Type 0} (P Q : A → Type 0) (B : Type 0) (xs : List A) → ((x : A) → P x → Q x → B) → HasSome P xs → Each Q xs → B
some_each P Q B [] f h k = absurd h
some_each P Q B (x ∷ xs) f (inl here) k = f x here k.0
some_each P Q B (x ∷ xs) f (inr rest) k = some_each P Q B xs f rest k.1

-- ---- the least number

lesser_by : (zs : List ℤ) (y z : ℤ) (test : Bool) → int_lt z y ≡ test → IsLeast zs (Some y) → IsLeast (zs ++ z ∷ []) (Some (cond test z y))
lesser_by zs y z true e h = (
  some_last (λ x. x ≡ z) zs z refl,
  Each-append (λ x. z ≤ℤ x) zs (z ∷ []) (Each-map (λ x. y ≤ℤ x) (λ x. z ≤ℤ x) zs (λ x k. grind (arith, ints, e, k)) h.1) (omega (arith, ints), tt),
)
lesser_by zs y z false e h = (
  some_before (λ x. x ≡ y) zs (z ∷ []) h.0,
  Each-append (λ x. y ≤ℤ x) zs (z ∷ []) h.1 (grind (arith, ints, e), tt),
)

least_by : (zs : List ℤ) (least : Option ℤ) (z : ℤ) → IsLeast zs least → IsLeast (zs ++ z ∷ []) (lesser least z)
least_by zs None z h = subst (λ (xs : List ℤ). IsLeast (xs ++ z ∷ []) (Some z)) (sym h) (inl refl, (omega (arith, ints), tt))
least_by zs (Some y) z h = lesser_by zs y z (int_lt z y) refl h

pub least_more : (rows : List Row) (i : ℕ) (row : Row) (least result : Option ℤ) → i < length rows → row ≡ get_or rows i row → IsLeast (map (λ r. r.constant) (take i rows)) least → result ≡ lesser least row.constant → IsLeast (map (λ r. r.constant) (take (i + 1) rows)) result
least_more rows i row least result inside is h made =
    let more : map (λ r. r.constant) (take (i + 1) rows) ≡ map (λ r. r.constant) (take i rows) ++ row.constant ∷ [] =
    ap (λ (xs : List Row). map (λ r. r.constant) xs) (take_item rows i row inside is) ∙ map-append (λ r. r.constant) (take i rows) (row ∷ []) in
    subst (λ (zs : List ℤ). IsLeast zs result) (sym more)
    (subst (λ (end : Option ℤ). IsLeast (map (λ r. r.constant) (take i rows) ++ row.constant ∷ []) end) (sym made) (least_by (map (λ r. r.constant) (take i rows)) least row.constant h))

-- ---- the constants are small

halves_are : (width : ℕ) (r : Row) (equal : Bool) → IsRow width r → Each (IsRow width) (cond equal (inequality r ∷ opposite r ∷ []) (inequality r ∷ []))
halves_are width r true h = (inequality_IsRow width r h, (opposite_IsRow width r h, tt))
halves_are width r false h = (inequality_IsRow width r h, tt)

tight_are : (side : Side) (var width : ℕ) (rows : List Row) → Each (IsRow width) rows → Each (IsRow width) (tight_rows side var rows)
unfolding tight_rows
tight_are side var width rows h =
    filtered_from (IsRow width) tightened_row (bounds_on side var) rows (Each-map (IsRow width) (λ r. bounds_on side var r ≡ true → IsRow width (tightened_row r)) rows (λ r k on. tightened_IsRow width r k) h)

pub bounds_are : (side : Side) (var width : ℕ) (rows : List Row) → Each (IsRow width) rows → Each (IsRow width) (bound_rows side var rows)
unfolding bound_rows
bounds_are side var width [] h = tt
bounds_are side var width (r ∷ rows) h = Each-append (IsRow width) (tight_rows side var (halves r)) (bound_rows side var rows) (tight_are side var width (halves r) (halves_are width r r.equal h.0)) (bounds_are side var width rows h.1)

least_small : (rows : List Row) (width : ℕ) (end : Option ℤ) → Each (IsRow width) rows → IsLeast (map (λ r. r.constant) rows) end → IsSmallEnd end
least_small rows width None h k = tt
least_small rows width (Some z) h k =
    some_each (λ y. y ≡ z) IsEntry (IsEntry z) (map (λ r. r.constant) rows) (λ y e entry. subst IsEntry e entry) k.0
    (Each-mapped IsEntry (λ r. r.constant) rows (Each-map (IsRow width) (λ r. IsEntry r.constant) rows (λ r is. is.constant) h))

pub end_small : (side : Side) (var width : ℕ) (rows made : List Row) (end : Option ℤ) → All (IsRow width) rows → made ≡ bound_rows side var rows → IsLeast (map (λ r. r.constant) made) end → IsSmallEnd end
end_small side var width rows made end h is least =
    least_small (bound_rows side var rows) width end (bounds_are side var width rows (Each-from (IsRow width) rows h)) (subst (λ (xs : List Row). IsLeast (map (λ r. r.constant) xs) end) is least)

-- ---- the widest end

pub one_end : (side : Side) (var : ℕ) (s : System) (end : Option ℤ) → IsLeast (constants side var s) end → IsWidest side var (s ∷ []) end
one_end side var s None h = inr (inl h)
one_end side var s (Some z) h = (inl h, ((z, h, omega (arith, ints)), tt))

least_up : (x y z : ℤ) → int_lt y z ≡ true → x ≤ℤ y → x ≤ℤ z
least_up x y z e h = grind (arith, ints, e, h)

not_up : (y z : ℤ) → int_lt y z ≡ false → z ≤ℤ y
not_up y z e = grind (arith, ints, e)

pub end_of_rows : (side : Side) (var : ℕ) (s : System) (width : ℕ) (last slice made list : List Row) (end : Option ℤ) → last ≡ last_rows (var ∷ []) s → All (IsRow width) last → slice ≡ last → made ≡ bound_rows side var slice → list ≡ made →
    IsLeast (map (λ r. r.constant) list) end → IsWidest side var (s ∷ []) end × IsSmallEnd end
end_of_rows side var s width last slice made list end is rows same bound all least =
    let from_last : list ≡ bound_rows side var last = all ∙ (bound ∙ ap (λ (xs : List Row). bound_rows side var xs) same) in
    let whole : list ≡ bound_rows side var (last_rows (var ∷ []) s) = from_last ∙ ap (λ (xs : List Row). bound_rows side var xs) is in (
      one_end side var s end (subst (λ (xs : List Row). IsLeast (map (λ r. r.constant) xs) end) whole least),
      end_small side var width last list end rows from_last least,
    )

wider_by : (side : Side) (var : ℕ) (systems : List System) (s : System) (y z : ℤ) (test : Bool) → int_lt y z ≡ test → IsWidest side var systems (Some y) → IsLeast (constants side var s) (Some z) → IsWidest side var (systems ++ s ∷ []) (Some (cond test z y))
wider_by side var systems s y z true e h k = (
  some_last (λ t. IsLeast (constants side var t) (Some z)) systems s k,
  Each-append (λ t. (x : ℤ) × IsLeast (constants side var t) (Some x) × (x ≤ℤ z)) systems (s ∷ [])
      (Each-map (λ t. (x : ℤ) × IsLeast (constants side var t) (Some x) × (x ≤ℤ y)) (λ t. (x : ℤ) × IsLeast (constants side var t) (Some x) × (x ≤ℤ z)) systems (λ t m. (m.0, m.1, least_up m.0 y z e m.2)) h.1)
      ((z, k, omega (arith, ints)), tt),
)
wider_by side var systems s y z false e h k = (
  some_before (λ t. IsLeast (constants side var t) (Some y)) systems (s ∷ []) h.0,
  Each-append (λ t. (x : ℤ) × IsLeast (constants side var t) (Some x) × (x ≤ℤ y)) systems (s ∷ []) h.1 ((z, k, not_up y z e), tt),
)

none_more : (side : Side) (var : ℕ) (systems : List System) (s : System) → (systems ≡ [] → ⊥) → IsWidest side var systems None → IsWidest side var (systems ++ s ∷ []) None
none_more side var systems s some (inl none) = absurd (some none)
none_more side var systems s some (inr h) = inr (some_before (λ t. IsLeast (constants side var t) None) systems (s ∷ []) h)

widest_by : (side : Side) (var : ℕ) (systems : List System) (s : System) (a b : Option ℤ) → (systems ≡ [] → ⊥) → IsWidest side var systems a → IsLeast (constants side var s) b → IsWidest side var (systems ++ s ∷ []) (wider a b)
widest_by side var systems s None b some h k = none_more side var systems s some h
widest_by side var systems s (Some y) None some h k = inr (some_last (λ t. IsLeast (constants side var t) None) systems s k)
widest_by side var systems s (Some y) (Some z) some h k = wider_by side var systems s y z (int_lt y z) refl h k

least_of_one : (side : Side) (var : ℕ) (s : System) (end : Option ℤ) → IsWidest side var (s ∷ []) end → IsLeast (constants side var s) end
least_of_one side var s None (inl none) = absurd (cc none)
least_of_one side var s None (inr (inl h)) = h
least_of_one side var s None (inr (inr h)) = absurd h
least_of_one side var s (Some z) (inl h, rest) = h
least_of_one side var s (Some z) (inr h, rest) = absurd h

not_empty : (systems : List System) (i : ℕ) → 1 ≤ i → i < length systems → take i systems ≡ [] → ⊥
not_empty [] i one inside e = omega arith
not_empty (s ∷ systems) zero one inside e = omega arith
not_empty (s ∷ systems) (suc i) one inside e = cc e

pub widest_more : (side : Side) (var : ℕ) (systems : List System) (i : ℕ) (s : System) (a b end : Option ℤ) → 1 ≤ i → i < length systems → s ≡ get_or systems i s → IsWidest side var (take i systems) a → IsWidest side var (s ∷ []) b → end ≡ wider a b → IsWidest side var (take (i + 1) systems) end
widest_more side var systems i s a b end one inside is h k made =
    subst (λ (xs : List System). IsWidest side var xs end) (sym (take_place systems i s inside is))
    (subst (λ (o : Option ℤ). IsWidest side var (take i systems ++ s ∷ []) o) (sym made) (widest_by side var (take i systems) s a b (not_empty systems i one inside) h (least_of_one side var s b k)))

pub twice_opposite : (end : Option ℤ) → end ≡ opposite_end (opposite_end end)
twice_opposite None = refl
twice_opposite (Some z) = ap Some (let e : z ≡ neg_ℤ (neg_ℤ z) = omega (arith, ints) in e)

-- ---- limits and refusals

pub spanned_more : (var : ℕ) (systems : List System) (i : ℕ) (s : System) → i < length systems → s ≡ get_or systems i s → Each (IsSpanned var) (take i systems) → IsSpanned var s → Each (IsSpanned var) (take (i + 1) systems)
spanned_more var systems i s inside is h k =
    subst (λ (xs : List System). Each (IsSpanned var) xs) (sym (take_place systems i s inside is)) (Each-put (IsSpanned var) (take i systems) s h k)

pub span_refused : (var : ℕ) (systems : List System) (i : ℕ) (s : System) (fault : SetFault) → i < length systems → s ≡ get_or systems i s → Each (IsSpanned var) (take i systems) → IsSpanFault var fault s → IsHullFault var systems fault
span_refused var systems i s fault inside is before h = (i, record { before = before; system = s; is = at_place systems i s inside is; holds = h })

pub first_taken : (systems : List System) (s : System) → 0 < length systems → s ≡ get_or systems 0 s → take 1 systems ≡ s ∷ []
first_taken systems s inside is = take_place systems 0 s inside is
