use Rattle.type_infer.proofs.RowFacts.{cast_is_no_int32, literal_is_too_large, rule_at_two_kinds, five_has_no_kind}
use Rattle.type_infer.proofs.laws.small_rows.Goals as goal

pub returns-clause-cast : goal.returns-clause-cast
returns-clause-cast c = cast_is_no_int32

pub returns-clause-literal : goal.returns-clause-literal
returns-clause-literal c = literal_is_too_large

pub returns-clause-rule : goal.returns-clause-rule
returns-clause-rule c = rule_at_two_kinds

pub returns-clause-temporary : goal.returns-clause-temporary
returns-clause-temporary c = five_has_no_kind
