-- The cases are systems over the same variables.
use Rattle.std.specs.Prelude.{◌≡◌, ◌≢◌, ℕ, ◌<◌, ℤ, pos, neg_ℤ, List, [], ◌∷◌, Bool, false, true, cond, nat_lt, All}
use Rattle.std.proofs.Common.{refl, sym, arith}
use Rattle.std.proofs.lemmas.Bool.Decides.{nat_tests}
use Rattle.std.proofs.lemmas.List.Elements.{All-nil, All-cons, All-head, All-tail}
use Rattle.std.proofs.lemmas.List.Elements.{All-push}
use Rattle.affine_rows.specs.declared.row.Row.{Row}
use Rattle.affine_rows.specs.declared.row.System.{System}
use Rattle.affine_rows.specs.Rows.{IsRow, IsTerm}
use Rattle.affine_rows.proofs.Mixing.{Rising, increasing}
use Rattle.elimination.specs.Stages.{IsSystem}
use Rattle.set_query.specs.declared.pair.Differ.{Differ}
use Rattle.set_query.specs.declared.pair.Differ.TheVariants.{Free, Among}
use Rattle.set_query.specs.Cases.{AreTwo, AreVariables, cases_among, cases_of, difference, equal_row, less_row, with_row}

plus_one : (width x : ℕ) → x < width → IsTerm width (x, pos 1)
plus_one width x h = record { var = h; entry = omega arith; nonzero = omega arith }

minus_one : (width x : ℕ) → x < width → IsTerm width (x, neg_ℤ (pos 1))
minus_one width x h = record { var = h; entry = omega arith; nonzero = omega arith }

-- terms over the width in rising order
record AreTerms (width : ℕ) (ts : List (ℕ × ℤ)) : Type 0 where
  all : All (IsTerm width) ts
  rising : Rising ts

two : (width : ℕ) (s t : ℕ × ℤ) → IsTerm width s → IsTerm width t → s.0 < t.0 → AreTerms width (s ∷ t ∷ [])
two width s t first second less = record {
  all = All-cons (IsTerm width) s (t ∷ []) first (All-cons (IsTerm width) t [] second (All-nil (IsTerm width)));
  rising = ((less, tt), (tt, tt));
}

difference_by : (width : ℕ) (test : Bool) (x y : ℕ) → nat_lt x y ≡ test → x < width → y < width → x ≢ y → AreTerms width (cond test ((x, neg_ℤ (pos 1)) ∷ (y, pos 1) ∷ []) ((y, pos 1) ∷ (x, neg_ℤ (pos 1)) ∷ []))
difference_by width true x y e h k other = two width (x, neg_ℤ (pos 1)) (y, pos 1) (minus_one width x h) (plus_one width y k) (grind (arith, nat_tests, e))
difference_by width false x y e h k other = two width (y, pos 1) (x, neg_ℤ (pos 1)) (plus_one width y k) (minus_one width x h) (grind (arith, nat_tests, e, other))

difference_are : (width x y : ℕ) → x < width → y < width → x ≢ y → AreTerms width (difference x y)
difference_are width x y h k other = difference_by width (nat_lt x y) x y refl h k other

less_IsRow : (width x y : ℕ) → x < width → y < width → x ≢ y → IsRow width (less_row x y)
unfolding less_row
less_IsRow width x y h k other =
    let terms = difference_are width x y h k other in
    record { constant = omega arith; terms = terms.all; rising = increasing (difference x y) terms.rising }

equal_IsRow : (width x y : ℕ) → x < width → y < width → x ≢ y → IsRow width (equal_row x y)
unfolding equal_row
equal_IsRow width x y h k other =
    let terms = difference_are width y x k h (λ e. other (sym e)) in
    record { constant = omega arith; terms = terms.all; rising = increasing (difference y x) terms.rising }

pub with_row-IsSystem : (s : System) (r : Row) → IsSystem s → IsRow s.width r → IsSystem (with_row s r)
with_row-IsSystem s r h k = record { few = h.few; rows = All-push (IsRow s.width) s.rows r h.rows k }

among_are : (s : System) (ps : List (ℕ × ℕ)) → IsSystem s → All (AreTwo s.width) ps → All IsSystem (cases_among s ps)
among_are s [] h two = All-nil IsSystem
among_are s (p ∷ ps) h two =
    let here = All-head (AreTwo s.width) p ps two in
    let below = with_row-IsSystem s (less_row p.0 p.1) h (less_IsRow s.width p.0 p.1 here.first here.second here.other) in
    let above = with_row-IsSystem s (less_row p.1 p.0) h (less_IsRow s.width p.1 p.0 here.second here.first (λ e. here.other (sym e))) in
    let equal = with_row-IsSystem s (equal_row p.0 p.1) h (equal_IsRow s.width p.0 p.1 here.first here.second here.other) in
    let rest = among_are (with_row s (equal_row p.0 p.1)) ps equal (All-tail (AreTwo s.width) p ps two) in
    All-cons IsSystem (with_row s (less_row p.0 p.1)) (with_row s (less_row p.1 p.0) ∷ cases_among (with_row s (equal_row p.0 p.1)) ps) below
    (All-cons IsSystem (with_row s (less_row p.1 p.0)) (cases_among (with_row s (equal_row p.0 p.1)) ps) above rest)

pub cases_are : (s : System) (differ : Differ) → IsSystem s → AreVariables s.width differ → All IsSystem (cases_of s differ)
cases_are s Free h vars = All-cons IsSystem s [] h (All-nil IsSystem)
cases_are s (Among pairs) h vars = among_are s pairs h vars
