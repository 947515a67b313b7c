use Rattle.std.proofs.Common.{◌≡◌, true, false, rules}
use Rattle.affine_rows.proofs.FormEquations.{IsForm-small}
use Rattle.quasi_forms.proofs.FormLimits.{form_made}
use Rattle.quasi_forms.proofs.limits.small.Goals as goal

pub returns-then-not-is_small-clause-limit : goal.returns-then-not-is_small-clause-limit
returns-then-not-is_small-clause-limit c = λ limit form. absurd (let clash : false ≡ true = c.if-not-is_small.ensures.1 (IsForm-small c.args.quasi form) in cc)

pub new-requires : goal.new-requires
new-requires c = form_made c.args.quasi c.requires (c.if-not-is_small.ensures.0 (search rules))
