use Rattle.std.proofs.Common.{◌≡◌, ◌++◌, map, drop}
use Rattle.type_infer.specs.Tables.{rules_in}
use Rattle.type_infer.proofs.tables.uses_of.Given as goal

abbrev pub invariant-loop-rule : goal.invariant-loop-rule
invariant-loop-rule l = l.uses ++ map (λ r. rules_in r.body) (drop l.rule-index l.rules) ≡ map (λ r. rules_in r.body) l.rules
