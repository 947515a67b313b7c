use Rattle.std.proofs.Common.{◌≡◌, drop}
use Rattle.type_infer.specs.Tables.{known_by}
use Rattle.type_infer.specs.Typing.{rules_refusal}
use Rattle.type_infer.proofs.refuse.check_rules.Given as goal

abbrev pub invariant-loop-at : goal.invariant-loop-at
invariant-loop-at l =
    rules_refusal l.kernel (known_by l.kernel l.rules) l.at (drop l.at l.kernel.rules) ≡ rules_refusal l.kernel (known_by l.kernel l.rules) 0 l.kernel.rules
