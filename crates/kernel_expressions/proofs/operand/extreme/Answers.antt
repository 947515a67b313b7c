use Rattle.std.proofs.Common.{refl, rules, arith}
use Rattle.kernel_expressions.proofs.Moving.{opened_moves}
use Rattle.kernel_expressions.proofs.Heads.{part_first, part_extreme}
use Rattle.kernel_expressions.proofs.Refusing.{inames_lead, inames_never, inames_ends, refused, hand_on, extreme_one, extreme_begins, head_within}
use Rattle.kernel_expressions.proofs.Agreeing.{passed_on, past_halts}
use Rattle.kernel_expressions.proofs.Operands.{body_on, opens_goes}
use Rattle.kernel_expressions.proofs.Inames.{extreme_open, extreme_first, extreme_body, extreme_never, halts_both, inames_long}
use Rattle.kernel_expressions.proofs.operand.extreme.Goals as goal

pub returns-then-not-are_inames-clause-moves : goal.returns-then-not-are_inames-clause-moves
returns-then-not-are_inames-clause-moves c = opened_moves _ _ _ _ _ _ _ c.opened.ensures.opens (part_first _ _ _ _ _ c.requires c.in_ok-start.ensures.read.0 c.in_ok-start.ensures.read.1) refl refl

pub returns-clause-moves : goal.returns-clause-moves
returns-clause-moves c = opened_moves _ _ _ _ _ _ _ c.opened-2.ensures.opens (part_extreme _ _ _ _ _ _ _ c.requires c.in_ok-start.ensures.read.0 c.in_ok-start.ensures.read.1 c.in_ok-inames.ensures.read) tt refl

pub returns-in_err-start-clause-begun : goal.returns-in_err-start-clause-begun
returns-in_err-start-clause-begun c = refused _ _ _ _ _ _ _ (search rules) c.in_err-start.ensures.stops (extreme_one _ _ _ c.requires)

pub returns-in_err-inames-clause-begun : goal.returns-in_err-inames-clause-begun
returns-in_err-inames-clause-begun c = hand_on _ _ c.in_err-inames.field-0.0 _ (search rules) (c.in_err-inames.ensures.stops (omega (arith, c.in_ok-start.ensures.read.0, c.in_ok-start.ensures.read.1.within)))
    (λ last h. head_within _ _ _ last _ _ c.requires c.in_ok-start.ensures.read.0 c.in_ok-start.ensures.read.1 (inames_lead _ _ last h) (extreme_begins _))

pub returns-in_err-start-clause-none : goal.returns-in_err-start-clause-none
returns-in_err-start-clause-none c = passed_on _ _ c.from_residual.ensures.1 c.in_err-start.ensures.stops (λ last h least some within. past_halts (extreme_open c.args.extreme _ _ least _ _) h)

pub returns-then-not-are_inames-clause-goes : goal.returns-then-not-are_inames-clause-goes
returns-then-not-are_inames-clause-goes c = extreme_first c.args.extreme _ c.args.part.now c.opened.new.part _ _ _ c.opened.ensures.opens c.in_ok-start.ensures.read.0 c.if-not-are_inames.ensures

pub returns-in_err-inames-clause-none : goal.returns-in_err-inames-clause-none
returns-in_err-inames-clause-none c = passed_on _ _ c.from_residual-in_err-inames.ensures.1 (halts_both _ _ _ (inames_never _ _ c.in_err-inames.field-0.0 (c.in_err-inames.ensures.stops (omega (arith, c.in_ok-start.ensures.read.0, c.in_ok-start.ensures.read.1.within)))) (c.in_err-inames.ensures.beyond c.if-not-are_inames.ensures))
    (λ last h least some within. extreme_never c.args.extreme _ _ least _ _ last _ c.in_ok-start.ensures.read.0 c.if-not-are_inames.ensures h.1 h.0)

pub returns-clause-goes : goal.returns-clause-goes
returns-clause-goes c = opens_goes _ _ c.args.part.now c.opened-2.new.part _ _ _ _ c.opened-2.ensures.opens (λ least. body_on
    (extreme_body c.args.extreme _ _ least _ _ _ _ c.in_ok-start.ensures.read.0 c.if-not-are_inames.ensures (inames_long _ _ _ _ _ c.in_ok-inames.ensures.read) (inames_ends _ _ _ c.in_ok-inames.ensures.ends)))
