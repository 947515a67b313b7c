-- More digits write no smaller number.
use Rattle.std.proofs.Common.{◌≡◌, ◌≤◌, ◌<◌, ◌+◌, ◌-◌, ◌*◌, ◌^◌, ℕ, List, [], ◌∷◌, length, drop, get_or, sym, ap, ◌∙◌, subst, add-one, drop-cons, arith, Option, None}
use Rattle.std.specs.Option.{MatchOption}
use Rattle.text_reader.specs.Numbers.{value_after, value_of}

value_grows : (n : ℕ) (cs : List ℕ) → n ≤ value_after n cs
value_grows n [] = omega arith
value_grows n (c ∷ cs) = omega (arith, value_grows (10 * n + (c - 48)) cs)

pub too_large : (n : ℕ) (digits : List ℕ) (i : ℕ) → i < length digits → value_after n (drop i digits) ≡ value_of digits → 2 ^ 64 ≤ 10 * n + (get_or digits i 0 - 48) → 2 ^ 64 ≤ value_of digits
too_large n digits i within e h =
    let d : drop i digits ≡ get_or digits i 0 ∷ drop (i + 1) digits = rw add-one (drop-cons digits i 0 within) in
    let v : value_after (10 * n + (get_or digits i 0 - 48)) (drop (i + 1) digits) ≡ value_of digits = ap (value_after n) (sym d) ∙ e in
    omega (arith, value_grows (10 * n + (get_or digits i 0 - 48)) (drop (i + 1) digits))

pub at_none : {A : Type 0} (P : Type 0) (Q : A → Type 0) (r : Option A) → r ≡ None → P → MatchOption r P Q
at_none P Q r e p = subst (λ (o : Option _). MatchOption o P Q) (sym e) p
