-- Index expressions as they are collected.
use Rattle.std.specs.Prelude.{ℤ, pos, neg_ℤ, int_le, Bool, not, ◌&&◌, ◌||◌, if◌then◌else◌, Option, Some, None}
use Rattle.affine_rows.specs.declared.quasi.Quasi.{Quasi}
use Rattle.kernel_grammar.specs.declared.step.Infix.{Infix}
use Rattle.kernel_grammar.specs.declared.step.Infix.TheVariants.{Add, Subtract, Multiply, Divide, Remainder}
use Rattle.quasi_forms.specs.Collected.{constant_form, sum_form, floor_form}
use Rattle.quasi_forms.specs.Affine.{number_of_form, times_form}
use Rattle.quasi_forms.specs.Within.{is_within}
use Rattle.untyped.specs.declared.index.Collected.{Collected}

-- what stands for an index expression that is refused
abbrev pub one : Quasi
one = constant_form (pos 1)

-- a form that is collected, and whether it passes a limit
abbrev pub collected : Bool → Quasi → Collected
collected constant f = record { form = if is_within f then f else one; constant = constant; over = not (is_within f) }

-- a product, of which one side is a number: any index expression in which no variable is written
abbrev pub product : Quasi → Bool → Quasi → Bool → Option Collected
product f c g d =
    if c then Some (collected (c && d) (times_form f g)) else
    if d then Some (collected (c && d) (times_form g f)) else None

-- the positive number that is written as an index expression, if it is one
abbrev pub divisor : Quasi → Bool → Option ℤ
divisor g d = if d && int_le (pos 1) (number_of_form g) then Some (number_of_form g) else None

-- a quotient rounded down
abbrev pub quotient : Quasi → Bool → Option ℤ → Option Collected
quotient f c None = None
quotient f c (Some by) = Some (collected c (floor_form f by))

-- what is left of the form without the multiple of its quotient
abbrev pub left : Quasi → Collected → ℤ → Collected
left f q by = let r = collected q.constant (sum_form f (neg_ℤ by) q.form) in record r { over = q.over || r.over }

abbrev pub remainder : Quasi → Bool → Option ℤ → Option Collected
remainder f c None = None
remainder f c (Some by) = Some (left f (collected c (floor_form f by)) by)

-- an operation on two index expressions, if it is one
abbrev pub operated : Infix → Quasi → Bool → Quasi → Bool → Option Collected
operated Add f c g d = Some (collected (c && d) (sum_form f (pos 1) g))
operated Subtract f c g d = Some (collected (c && d) (sum_form f (neg_ℤ (pos 1)) g))
operated Multiply f c g d = product f c g d
operated Divide f c g d = quotient f c (divisor g d)
operated Remainder f c g d = remainder f c (divisor g d)
operated _ f c g d = None

abbrev pub negated : Quasi → Bool → Collected
negated f c = collected c (sum_form (constant_form (pos 0)) (neg_ℤ (pos 1)) f)
