-- The ranges of bounds, as the count of steps and the launch numbers take them.
use Rattle.std.specs.Prelude.{ℕ, ◌^◌, ℤ, pos, neg_ℤ, ◌+ℤ◌, ◌-ℤ◌, ◌*ℤ◌, Bool, true, false, if◌then◌else◌, int_lt, unsigned_abs, List, [], ◌∷◌, ◌++◌, map}
use Rattle.std.specs.Int.{int_div_euclid}
use Rattle.affine_rows.specs.Rows.{Env}
use Rattle.affine_rows.specs.declared.quasi.Quasi.{Quasi, Quasi-F, fold-Quasi}
use Rattle.affine_rows.specs.declared.quasi.Floor.{Floor-F}
use Rattle.code_tree.specs.declared.code.Bound.{Bound, Bound-F, fold-Bound}
use Rattle.code_meaning.specs.Exact.{lesser, greater}

-- the least and the greatest number
abbrev pub Range : Type 0
Range = ℤ × ℤ

-- brought into 64 signed bits
abbrev pub near : ℤ → ℤ
near z = greater (neg_ℤ (pos (2 ^ 63))) (lesser z (pos (2 ^ 63) -ℤ pos 1))

-- the sum of two ranges
abbrev pub range_plus : Range → Range → Range
range_plus a b = (near (a.0 +ℤ b.0), near (a.1 +ℤ b.1))

-- times a number
abbrev pub range_times : ℤ → Range → Range
range_times k a = if int_lt k (pos 0) then (near (k *ℤ a.1), near (k *ℤ a.0)) else (near (k *ℤ a.0), near (k *ℤ a.1))

-- with the sign of the number
abbrev pub range_signed : ℤ → Range → Range
range_signed k a = if int_lt k (pos 0) then (neg_ℤ a.1, neg_ℤ a.0) else a

-- the sum with one part more, in the order of products and sums in which a code works it out
abbrev pub range_part : Bool → Range → ℤ → Range → Range
range_part true sum factor number = range_times factor number
range_part false sum factor number = range_plus sum (range_signed factor (range_times (pos (unsigned_abs factor)) number))

-- all parts, one after the other
abbrev pub range_sum : Bool → Range → List (ℤ × Range) → Range
range_sum first sum [] = sum
range_sum first sum (part ∷ parts) = range_sum false (range_part first sum part.0 part.1) parts

-- divided by a number of at least 1, rounded down
abbrev pub range_divided : Range → ℤ → Range
range_divided a by = (int_div_euclid a.0 by, int_div_euclid a.1 by)

-- a floor's factor, and the floor's range
abbrev pub range_floor : Floor-F (ℤ × Range) Range → ℤ × Range
range_floor f = (f.times, range_divided f.inner f.by)

-- the terms, then the floors, then the constant
abbrev pub range_form : (ℕ → Range) → Quasi-F (ℤ × Range) Range → Range
range_form of q = range_plus (range_sum true (pos 0, pos 0) (map (λ t. (t.1, of t.0)) q.terms ++ q.floors)) (q.constant, q.constant)

-- a form's range, by the ranges of the variables
abbrev pub form_range : (ℕ → Range) → Quasi → Range
form_range of = fold-Quasi (ℤ × Range) Range range_floor (range_form of)

-- the ranges of a list's bounds brought together from its end
abbrev pub range_choice : (ℤ → ℤ → ℤ) → List Range → Range
range_choice choice [] = (pos 0, pos 0)
range_choice choice (b ∷ []) = b
range_choice choice (b ∷ c ∷ bs) = let rest = range_choice choice (c ∷ bs) in (choice b.0 rest.0, choice b.1 rest.1)

-- one bound, with the ranges of the bounds of a list in their place
abbrev pub range_bound : (ℕ → Range) → Bound-F Range → Range
range_bound of (Bound-F.Form q) = form_range of q
range_bound of (Bound-F.FloorOf q by) = range_divided (form_range of q) by
range_bound of (Bound-F.MinusFloorOf q by) = range_times (neg_ℤ (pos 1)) (range_divided (form_range of q) by)
range_bound of (Bound-F.Least bounds) = range_choice lesser bounds
range_bound of (Bound-F.Greatest bounds) = range_choice greater bounds

-- a bound's range
abbrev pub bound_range : (ℕ → Range) → Bound → Range
bound_range of = fold-Bound Range (range_bound of)

-- a bound's number at given numbers, each part brought into 64 signed bits
abbrev pub near_bound : Env → Bound → ℤ
near_bound env bound = (bound_range (λ v. (env v, env v)) bound).0
