-- A system implies a row where its denial has no point.
use Rattle.std.specs.Prelude.{◌≡◌, ◌↔◌, ℕ, ◌<◌, ℤ, pos, neg_ℤ, ◌+ℤ◌, ◌*ℤ◌, ◌≤ℤ◌, ◌<ℤ◌, List, [], ◌∷◌, ◌++◌, Bool, true, false, ◌&&◌, IsTrue, MatchBool, map, unsigned_abs}
use Rattle.std.proofs.Common.{inl, inr, refl, sym, ap, ◌∙◌, subst, arith}
use Rattle.std.proofs.lemmas.Int.{ints, by_lt_z}
use Rattle.std.proofs.lemmas.List.Elements.{All-nil}
use Rattle.affine_rows.specs.declared.fault.RowFault.{RowFault}
use Rattle.affine_rows.specs.declared.fault.RowFault.TheVariants as row_fault
use Rattle.affine_rows.specs.declared.row.Row.{Row}
use Rattle.affine_rows.specs.declared.row.System.{System}
use Rattle.affine_rows.specs.Rows.{Env, Holds, IsRow, IsTerm, env_of, row_at}
use Rattle.affine_rows.specs.Reduced.{HoldsOver, IsMet, fits_row, mixed_row, reduced_row, value_over}
use Rattle.affine_rows.proofs.Division.{reduced_holds}
use Rattle.affine_rows.proofs.Combining.{equal-mixed, mixed_IsRow, mixed_value}
use Rattle.affine_rows.proofs.Mixing.{increasing}
use Rattle.elimination.specs.declared.fault.SetFault.{SetFault}
use Rattle.elimination.specs.declared.finding.Found.{Found}
use Rattle.elimination.specs.declared.finding.Found.TheVariants as found
use Rattle.elimination.specs.Finding.{IsFound}
use Rattle.elimination.specs.Points.{HasNone, IsPointFault, IsPointOf, over_of}
use Rattle.affine_rows.specs.declared.point.Point.{Point}
use Rattle.elimination.specs.Shadows.{AllHold, Each}
use Rattle.elimination.specs.Stages.{IsSystem}
use Rattle.elimination.proofs.Pairing.{Each-append}
use Rattle.set_query.specs.Cases.{with_row}
use Rattle.set_query.specs.Implications.{HoldsThere, Implies, IsHalfFault, IsHalfWithin, IsImplied, IsImpliedFault, IsWideDenial, asked_of, denied, never, wide_denial}
use Rattle.set_query.proofs.CaseSystems.{with_row-IsSystem}
use Rattle.set_query.proofs.Integers.{rational_point}

never_IsRow : (width : ℕ) → IsRow width never
never_IsRow width = record { constant = omega arith; terms = All-nil (IsTerm width); rising = increasing [] tt }

pub denied_fault : (times : ℤ) (r : Row) (fault : RowFault) (made : SetFault) → (fault ≡ row_fault.Wide → fits_row (reduced_row (mixed_row times r (pos 1) never)) ≡ false) → made ≡ wide_denial fault → IsWideDenial times r made
unfolding denied
denied_fault times r row_fault.OutOfMemory made wide is = inl is
denied_fault times r row_fault.Wide made wide is = inr (is, wide refl)

pub asked_IsSystem : (s asked : System) (times : ℤ) (r made : Row) → IsSystem s → IsRow s.width r → made ≡ reduced_row (denied times r) → fits_row (reduced_row (denied times r)) ≡ true → asked ≡ with_row s made → IsSystem asked
unfolding denied
asked_IsSystem s asked times r made h k is fits same =
    subst (λ (t : System). IsSystem t) (sym (same ∙ ap (with_row s) is)) (with_row-IsSystem s (reduced_row (denied times r)) h (mixed_IsRow s.width times r (pos 1) never k (never_IsRow s.width) fits))

pub asked_is : (s asked : System) (times : ℤ) (r made : Row) → made ≡ reduced_row (denied times r) → asked ≡ with_row s made → asked ≡ asked_of s times r
asked_is s asked times r made is same = same ∙ ap (with_row s) is

-- ---- what is found of the system with the denial

plain_row : (rows : List Row) (r : Row) (over : ℕ) (at : Env) → AllHold over at (rows ++ reduced_row r ∷ []) ↔ AllHold over at (rows ++ r ∷ [])
plain_row [] r over at = ((λ h. ((reduced_holds r over at).0 h.0, tt)), (λ h. ((reduced_holds r over at).1 h.0, tt)))
plain_row (x ∷ rows) r over at = let rest = plain_row rows r over at in ((λ h. (h.0, rest.0 h.1)), (λ h. (h.0, rest.1 h.1)))

found_empty : (width : ℕ) (rows : List Row) (times : ℤ) (r : Row) → HasNone (rows ++ reduced_row (denied times r) ∷ []) → Implies rows times r
found_empty width rows times r none over at positive h = none over at positive ((plain_row rows (denied times r) over at).1 h)

over_positive : (n : ℤ) → pos 0 <ℤ n → 0 < unsigned_abs n
over_positive n h = omega (arith, ints, h)

found_point : (width : ℕ) (rows : List Row) (times : ℤ) (r : Row) (p : Point) → IsPointOf width (rows ++ reduced_row (denied times r) ∷ []) p → Implies rows times r → ⊥
found_point width rows times r p point none = none (over_of p) (env_of p.at) (over_positive p.over point.positive) ((plain_row rows (denied times r) (over_of p) (env_of p.at)).0 point.holds)

by_found : (width : ℕ) (rows : List Row) (times : ℤ) (r : Row) (f : Found) → IsFound width (rows ++ reduced_row (denied times r) ∷ []) f → (f ≡ found.Empty) ↔ Implies rows times r
by_found width rows times r found.Empty h = ((λ e. found_empty width rows times r h), (λ e. refl))
by_found width rows times r (found.Point p) h = ((λ e. absurd (cc e)), (λ none. absurd (found_point width rows times r p h none)))

pub half_is : (s asked : System) (times : ℤ) (r : Row) (f : Found) (b : Bool) → asked ≡ asked_of s times r → IsFound asked.width asked.rows f → IsTrue b ↔ (f ≡ found.Empty) → IsTrue b ↔ Implies s.rows times r
half_is s asked times r f b same h is =
    let k = by_found s.width s.rows times r f (subst (λ (t : System). IsFound t.width t.rows f) same h) in
    ((λ e. k.0 (is.0 e)), (λ e. is.1 (k.1 e)))

pub half_fault : (s asked : System) (times : ℤ) (r : Row) (fault : SetFault) → asked ≡ asked_of s times r → fits_row (reduced_row (denied times r)) ≡ true → IsPointFault asked.width (map reduced_row asked.rows) fault → IsHalfFault s times r fault
half_fault s asked times r fault same fits h = inr (fits, subst (λ (t : System). IsPointFault t.width (map reduced_row t.rows) fault) same h)

-- ---- integer points

denied_value : (times : ℤ) (r : Row) (at : Env) → value_over 1 at (denied times r) ≡ times *ℤ row_at at r +ℤ neg_ℤ (pos 1)
unfolding denied
denied_value times r at =
    let e = mixed_value 1 at times r (pos 1) never in
    let one : value_over 1 at r ≡ row_at at r = omega (arith, ints) in
    e ∙ (ap (λ (v : ℤ). times *ℤ v +ℤ pos 1 *ℤ value_over 1 at never) one ∙ (let k : pos 1 *ℤ value_over 1 at never ≡ neg_ℤ (pos 1) = omega (arith, ints) in ap (λ (v : ℤ). times *ℤ row_at at r +ℤ v) k))

and_never : (b : Bool) → (b && false) ≡ false
and_never true = refl
and_never false = refl

denied_unequal : (times : ℤ) (r : Row) → (denied times r).equal ≡ false
unfolding denied
denied_unequal times r = equal-mixed times r (pos 1) never ∙ and_never r.equal

denied_holds : (times : ℤ) (r : Row) (at : Env) → pos 1 ≤ℤ (times *ℤ row_at at r) → HoldsOver 1 at (denied times r)
denied_holds times r at h =
    subst (λ (e : Bool). IsMet e (value_over 1 at (denied times r))) (sym (denied_unequal times r))
    (let e = denied_value times r at in omega (arith, ints, e, h))

no_more : (rows : List Row) (times : ℤ) (r : Row) (at : Env) → Implies rows times r → Each (Holds at) rows → pos 1 ≤ℤ (times *ℤ row_at at r) → ⊥
no_more rows times r at none h more = none 1 at (omega arith) (Each-append (HoldsOver 1 at) rows (denied times r ∷ []) (rational_point at rows h) (denied_holds times r at more, tt))

holds_by : (equal : Bool) (v : ℤ) → (pos 1 ≤ℤ (neg_ℤ (pos 1) *ℤ v) → ⊥) → (equal ≡ true → pos 1 ≤ℤ (pos 1 *ℤ v) → ⊥) → MatchBool equal (v ≡ pos 0) (pos 0 ≤ℤ v)
holds_by true v below above =
    by_lt_z v (pos 0)
    (λ less. absurd (below (omega (arith, ints, less))))
    (λ rest. by_lt_z (pos 0) v (λ more. absurd (above refl (omega (arith, ints, more)))) (λ most. omega (arith, ints, rest, most)))
holds_by false v below above =
    by_lt_z v (pos 0)
    (λ less. absurd (below (omega (arith, ints, less))))
    (λ rest. rest)

pub implied_holds : (rows : List Row) (r : Row) → IsImplied rows r → HoldsThere rows r
implied_holds rows r implied at h =
    holds_by r.equal (row_at at r)
    (λ more. no_more rows (neg_ℤ (pos 1)) r at implied.first h more)
    (λ e more. no_more rows (pos 1) r at (implied.second e) h more)

-- ---- both halves

-- the first half is implied where the test says so
first_half : (rows : List Row) (r : Row) (first : Bool) → first ≡ true → IsTrue first ↔ Implies rows (neg_ℤ (pos 1)) r → Implies rows (neg_ℤ (pos 1)) r
first_half rows r true so is = is.0 refl
first_half rows r false so is = absurd (cc so)

pub by_first : (rows : List Row) (r : Row) (first : Bool) → first ≡ true → r.equal ≡ false → IsTrue first ↔ Implies rows (neg_ℤ (pos 1)) r → IsTrue true ↔ IsImplied rows r
by_first rows r first so plain is = ((λ e. record { first = first_half rows r first so is; second = (λ equal. absurd (let clash = sym equal ∙ plain in cc clash)) }), (λ h. refl))

pub by_second : (rows : List Row) (r : Row) (first second : Bool) → first ≡ true → r.equal ≡ true → IsTrue first ↔ Implies rows (neg_ℤ (pos 1)) r → IsTrue second ↔ Implies rows (pos 1) r → IsTrue second ↔ IsImplied rows r
by_second rows r first second so equal is other = ((λ e. record { first = first_half rows r first so is; second = (λ also. other.0 e) }), (λ h. other.1 (h.second equal)))

pub second_fault : (s : System) (r : Row) (first : Bool) (fault : SetFault) → first ≡ true → r.equal ≡ true → IsTrue first ↔ Implies s.rows (neg_ℤ (pos 1)) r → IsHalfWithin s (neg_ℤ (pos 1)) r → IsHalfFault s (pos 1) r fault → IsImpliedFault s r fault
second_fault s r first fault so equal is within h = inr (within, record { equal = equal; first = first_half s.rows r first so is }, h)
