-- The texts of numbers and of sums.
use Rattle.std.specs.Prelude.{ℕ, ℤ, pos, Bool, true, false, if◌then◌else◌, int_lt, List, [], ◌∷◌, ◌++◌, unsigned_abs, ◌==◌, codes}
use Rattle.std.specs.Ordering.{int_eq}
use Rattle.std.specs.Fmt.{decimal}
use Rattle.text_writer.specs.Bytes.{Bytes}

-- the sign before a part of a sum; the first part has one only where it is negative
abbrev pub sign_text : Bool → ℤ → Bytes
sign_text true z = if int_lt z (pos 0) then codes "-" else []
sign_text false z = if int_lt z (pos 0) then codes " - " else codes " + "

-- a number
abbrev pub number_text : ℤ → Bytes
number_text z = sign_text true z ++ decimal (unsigned_abs z)

-- the factor before a name or a floor, where 1 is not written
abbrev pub factor_text : ℕ → Bytes
factor_text n = if n == 1 then [] else decimal n ++ codes "*"

-- a part of a sum: the factor, and the text of what it multiplies
abbrev pub part_text : Bool → ℤ × Bytes → Bytes
part_text first part = sign_text first part.0 ++ factor_text (unsigned_abs part.0) ++ part.1

-- the constant of a sum, which is written alone, or after the parts where it is not 0
abbrev pub constant_text : Bool → ℤ → Bytes
constant_text true z = number_text z
constant_text false z = if int_eq z (pos 0) then [] else sign_text false z ++ decimal (unsigned_abs z)

-- the parts and then the constant; `first` says that nothing stands before them
abbrev pub sum_text : Bool → List (ℤ × Bytes) → ℤ → Bytes
sum_text first [] constant = constant_text first constant
sum_text first (part ∷ parts) constant = part_text first part ++ sum_text false parts constant
