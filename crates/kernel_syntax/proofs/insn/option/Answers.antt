use Rattle.kernel_syntax.proofs.Leads.{ends_through, stops_through, any_rest}
use Rattle.kernel_syntax.proofs.InsnEnds.{option_id, option_dep, option_inames, option_condition, option_rest, option_none, option_other, next_is}
use Rattle.std.proofs.Common.{refl, codes}
use Rattle.kernel_expressions.specs.Settled.{ends_level}
use Rattle.kernel_syntax.specs.Behinds.{ends_dep, is_other}
use Rattle.kernel_syntax.proofs.insn.option.Goals as goal

pub returns-in-Some-clause-ends : goal.returns-in-Some-clause-ends
returns-in-Some-clause-ends c = ends_through _ _ _ (option_condition _ _ c.in-Some.ensures.1) (option_rest (ends_level 1) refl refl) c.condition.ensures.read c.condition.ensures.ends

pub returns-in-Some-clause-stops : goal.returns-in-Some-clause-stops
returns-in-Some-clause-stops c = λ within. stops_through _ _ (option_condition _ _ c.in-Some.ensures.1) (option_rest (ends_level 1) refl refl) c.condition.ensures.stops

pub returns-in_default-name_at-clause-stops : goal.returns-in_default-name_at-clause-stops
returns-in_default-name_at-clause-stops c = λ within. option_none _ _ within c.in_default.ensures c.in_default-name_at.ensures

pub returns-then-eq-clause-ends : goal.returns-then-eq-clause-ends
returns-then-eq-clause-ends c = ends_through _ _ _ (option_id _ _ (next_is _ _ _ (codes "id") c.in-Some-name_at.ensures c.if-eq.ensures)) (any_rest _) c.id.ensures.read c.id.ensures.ends

pub returns-then-eq-clause-stops : goal.returns-then-eq-clause-stops
returns-then-eq-clause-stops c = λ within. stops_through _ _ (option_id _ _ (next_is _ _ _ (codes "id") c.in-Some-name_at.ensures c.if-eq.ensures)) (any_rest _) c.id.ensures.stops

pub returns-then-eq-2-clause-ends : goal.returns-then-eq-2-clause-ends
returns-then-eq-2-clause-ends c = ends_through _ _ _ (option_dep _ _ (next_is _ _ _ (codes "dep") c.in-Some-name_at.ensures c.if-eq-2.ensures)) (option_rest ends_dep refl refl) c.dep.ensures.read c.dep.ensures.ends

pub returns-then-eq-2-clause-stops : goal.returns-then-eq-2-clause-stops
returns-then-eq-2-clause-stops c = λ within. stops_through _ _ (option_dep _ _ (next_is _ _ _ (codes "dep") c.in-Some-name_at.ensures c.if-eq-2.ensures)) (option_rest ends_dep refl refl) c.dep.ensures.stops

pub returns-then-eq-3-clause-ends : goal.returns-then-eq-3-clause-ends
returns-then-eq-3-clause-ends c = ends_through _ _ _ (option_inames _ _ (next_is _ _ _ (codes "inames") c.in-Some-name_at.ensures c.if-eq-3.ensures)) (option_rest (is_other (codes ":")) refl refl) c.inames.ensures.read c.inames.ensures.ends

pub returns-then-eq-3-clause-stops : goal.returns-then-eq-3-clause-stops
returns-then-eq-3-clause-stops c = λ within. stops_through _ _ (option_inames _ _ (next_is _ _ _ (codes "inames") c.in-Some-name_at.ensures c.if-eq-3.ensures)) (option_rest (is_other (codes ":")) refl refl) c.inames.ensures.stops

pub returns-else-eq-3-clause-stops : goal.returns-else-eq-3-clause-stops
returns-else-eq-3-clause-stops c = λ within. option_other _ _ _ within c.in-Some-name_at.ensures c.in-Some-name_at.word.free c.if-eq.ensures c.if-eq-2.ensures c.if-eq-3.ensures
