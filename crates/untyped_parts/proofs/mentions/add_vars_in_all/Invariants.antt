use Rattle.std.proofs.Common.{◌≡◌, ◌++◌, drop}
use Rattle.untyped_parts.specs.Mentions.{vars_in_all}
use Rattle.untyped_parts.proofs.mentions.add_vars_in_all.Given as goal

abbrev pub invariant-loop-form : goal.invariant-loop-form
invariant-loop-form l = l.vars.items ++ vars_in_all (drop l.form-index l.forms) ≡ l.initial.vars.items ++ vars_in_all l.forms
