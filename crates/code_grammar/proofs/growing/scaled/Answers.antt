use Rattle.std.proofs.Common.{◌∙◌, ◌-◌, ◌*◌, ◌^◌, ap, min, ℕ}
use Rattle.quasi_forms.proofs.FormLimits.{ceil_is}
use Rattle.code_grammar.proofs.growing.scaled.Goals as goal

pub returns : goal.returns
returns c = c.saturating_mul.ensures ∙ ap (λ (k : ℕ). min (c.args.times * k) (2 ^ 64 - 1)) (c.div_ceil.ensures ∙ ceil_is c.args.part c.args.by c.requires.positive)
