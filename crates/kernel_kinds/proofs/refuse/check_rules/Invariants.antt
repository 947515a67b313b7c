use Rattle.std.proofs.Common.{◌≡◌, drop}
use Rattle.type_infer.specs.Orders.{marked_at}
use Rattle.kernel_kinds.specs.Kinds.{rules_refusal}
use Rattle.kernel_kinds.specs.Tables.{known_by}
use Rattle.kernel_kinds.proofs.refuse.check_rules.Given as goal

abbrev pub invariant-loop-at : goal.invariant-loop-at
invariant-loop-at l =
    rules_refusal (known_by l.cells l.table) (marked_at l.marks) l.at (drop l.at l.rules) ≡ rules_refusal (known_by l.cells l.table)
    (marked_at l.marks) 0 l.rules
