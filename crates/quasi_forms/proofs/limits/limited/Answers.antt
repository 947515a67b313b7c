use Rattle.std.proofs.Common.{rules}
use Rattle.quasi_forms.proofs.FormLimits.{few_within, many_not}
use Rattle.quasi_forms.proofs.limits.limited.Goals as goal

pub returns-then-not-few-clause-limit : goal.returns-then-not-few-clause-limit
returns-then-not-few-clause-limit c = λ limit within. many_not c.args.form c.from_ref.result.now c.in_ok-few.few (search rules) c.in_ok-few.ensures.few (search rules) within

pub returns-clause-within : goal.returns-clause-within
returns-clause-within c = few_within c.args.form c.from_ref.result.now c.in_ok-few.few (search rules) c.in_ok-few.ensures.few c.in_ok-few.ensures.forms (search rules)
