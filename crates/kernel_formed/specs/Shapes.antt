-- How many parts the steps of an expression leave.
use Rattle.std.specs.Prelude.{ℕ, ◌+◌, ◌-◌, Bool, true, false, ◌&&◌, nat_le, nat_lt, nat_eq, if◌then◌else◌, List, [], ◌∷◌, length, Option, Some, None, option_and_then}
use Rattle.kernel_grammar.specs.declared.step.Step.{Step}
use Rattle.kernel_grammar.specs.declared.step.Step.TheVariants as step

-- how many parts a step takes off as its operands
abbrev pub operands : Step → ℕ
operands (step.Number n) = 0
operands (step.Name name) = 0
operands (step.Index name places) = places
operands (step.Call name arguments) = arguments
operands (step.Prefix p) = 1
operands (step.Infix op) = 2
operands (step.ShiftLeft by) = 1
operands (step.ShiftRight by) = 1
operands (step.Cast kind) = 1
operands step.Choose = 3
operands (step.Fold how names) = 1
operands (step.ExtremeOf which name) = 1

-- a reduction has one name or more
abbrev pub has_names : Step → Bool
has_names (step.Fold how names) = nat_lt 0 (length names)
has_names _ = true

-- how many parts there are behind a step, where there are that many operands: its own stands in their place
abbrev pub after_step : Step → ℕ → Option ℕ
after_step s n = if has_names s && nat_le (operands s) n then Some (n - operands s + 1) else None

abbrev pub after_steps : List Step → ℕ → Option ℕ
after_steps [] n = Some n
after_steps (s ∷ ss) n = option_and_then (after_steps ss) (after_step s n)

abbrev pub is_one : Option ℕ → Bool
is_one None = false
is_one (Some n) = nat_eq n 1

-- from no part exactly one is made
abbrev pub is_whole : List Step → Bool
is_whole steps = is_one (after_steps steps 0)
