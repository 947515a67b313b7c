-- How large a row's value at a point gets.
use Rattle.std.proofs.Common.{◌≡◌, ℕ, ◌+◌, ◌*◌, ◌^◌, ◌≤◌, ℤ, pos, ◌+ℤ◌, ◌-ℤ◌, ◌*ℤ◌, List, [], ◌∷◌, length, arith, ap, ◌∙◌, unsigned_abs, All}
use Rattle.std.specs.Prelude.{◌<ℤ◌}
use Rattle.std.proofs.lemmas.Int.{ints}
use Rattle.std.proofs.lemmas.List.Elements.{All-head, All-tail}
use Rattle.affine_rows.specs.declared.point.Point.{Point}
use Rattle.affine_rows.specs.declared.row.Row.{Row}
use Rattle.affine_rows.specs.Rows.{env_of, row_at, terms_at, IsRow, IsTerm}
use Rattle.affine_rows.specs.Reduced.{value_over}
use Rattle.affine_rows.proofs.Sums.{abs-product, abs-sum, rising-short}
use Rattle.wrap_words.proofs.Ring.{comm, distrib_right}
use Rattle.elimination.specs.Points.{over_of}

terms_small : (at : List ℤ) (ts : List (ℕ × ℤ)) → All (IsTerm (length at)) ts → All (λ z. unsigned_abs z ≤ 2 ^ 56) at → unsigned_abs (terms_at (env_of at) ts) ≤ length ts * 2 ^ 118
terms_small at [] all small = omega arith
terms_small at (t ∷ ts) all small =
    let here : IsTerm (length at) t = All-head (IsTerm (length at)) t ts all in
    let number : unsigned_abs (env_of at t.0) ≤ 2 ^ 56 = small t.0 (pos 0) here.var in
    let product = abs-product t.1 (env_of at t.0) (2 ^ 62) (2 ^ 56) here.entry number in
    let more = terms_small at ts (All-tail (IsTerm (length at)) t ts all) small in
    omega (arith, product, more, abs-sum (t.1 *ℤ env_of at t.0) (terms_at (env_of at) ts))

pub row_small : (at : List ℤ) (r : Row) (value : ℤ) → IsRow (length at) r → length at ≤ 128 → All (λ z. unsigned_abs z ≤ 2 ^ 56) at → value ≡ row_at (env_of at) r → unsigned_abs value ≤ 2 ^ 125 + 2 ^ 62
row_small at r value is few small same =
    rw same
    (omega (arith, abs-sum r.constant (terms_at (env_of at) r.terms), is.constant, terms_small at r.terms is.terms small, rising-short (length at) r.terms is.terms is.rising))

product_more : (over less c n : ℤ) → n ≡ over → less ≡ over -ℤ pos 1 → n *ℤ c ≡ c *ℤ less +ℤ c
product_more over less c n hn hl =
    let sum : n ≡ less +ℤ pos 1 = omega (arith, ints, hn, hl) in
    ap (λ (z : ℤ). z *ℤ c) sum ∙ omega (arith, ints, distrib_right less (pos 1) c, comm less c)

-- the row's value at a rational point, from the value with its constant once
pub over_from : (p : Point) (r : Row) (value less result : ℤ) → pos 0 <ℤ p.over → value ≡ row_at (env_of p.at) r → less ≡ p.over -ℤ pos 1 → result ≡ value +ℤ r.constant *ℤ less → result ≡ value_over (over_of p) (env_of p.at) r
over_from p r value less result positive hv hl hr =
    let over : pos (over_of p) ≡ p.over = omega (arith, ints, positive) in
    let once : pos (over_of p) *ℤ r.constant ≡ r.constant *ℤ less +ℤ r.constant = product_more p.over less r.constant (pos (over_of p)) over hl in
    omega (arith, ints, hv, hr, once)
