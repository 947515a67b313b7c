use Rattle.std.proofs.Common.{◌≡◌, List, [], ℕ, Bool, refl, subst, sym, rules, arith}
use Rattle.kernel_grammar.specs.Lexicals.{Lexical}
use Rattle.kernel_grammar.specs.declared.step.Folding.{Folding}
use Rattle.kernel_grammar.specs.declared.step.Step.TheVariants as step
use Rattle.kernel_expressions.specs.declared.frame.Frame.TheVariants as frame
use Rattle.kernel_expressions.specs.Reads.{Reads}
use Rattle.kernel_expressions.specs.Frames.{Part}
use Rattle.kernel_expressions.specs.Turns.{folding_of}
use Rattle.kernel_expressions.proofs.Moving.{opened_moves}
use Rattle.kernel_expressions.proofs.Heads.{part_fold}
use Rattle.kernel_expressions.proofs.Refusing.{over_lead, over_never, over_ends, refused, hand_on, fold_one, fold_begins, fold_open, head_within}
use Rattle.kernel_expressions.proofs.Agreeing.{passed_on, past_on, past_halts}
use Rattle.kernel_expressions.proofs.Operands.{fold_open as fold_shape, joins_on, joins_halts, any_rest, body_on, opens_goes}
use Rattle.kernel_expressions.proofs.operand.fold.Goals as goal

with_folding : (S : Type 0) (all : List Lexical) (at next : ℕ) (is_sum : Bool) (f : Folding) (inames : List (List ℕ)) → f ≡ folding_of is_sum → Reads all at next (Part S (frame.Body (step.Fold (folding_of is_sum) inames)) [])
    → Reads all at next (Part S (frame.Body (step.Fold f inames)) [])
with_folding S all at next is_sum f inames e h = subst (λ (g : Folding). Reads all at next (Part S (frame.Body (step.Fold g inames)) [])) (sym e) h

pub returns-clause-moves : goal.returns-clause-moves
returns-clause-moves c = opened_moves _ _ _ _ _ _ _ c.opened.ensures.opens
    (with_folding _ _ _ _ c.args.is_sum _ _ c.folding_of-folding.ensures (part_fold _ _ _ _ _ _ _ _ c.requires c.in_ok-at.ensures.read.0 c.in_ok-at.ensures.read.1 c.in_ok-inames.ensures.read c.in_ok-at-2.ensures.read.0 c.in_ok-at-2.ensures.read.1)) tt refl

pub returns-in_err-at-clause-begun : goal.returns-in_err-at-clause-begun
returns-in_err-at-clause-begun c = refused _ _ _ _ _ _ _ (search rules) c.in_err-at.ensures.stops (fold_one _ _ c.args.is_sum c.requires)

pub returns-in_err-inames-clause-begun : goal.returns-in_err-inames-clause-begun
returns-in_err-inames-clause-begun c = hand_on _ _ c.in_err-inames.field-0.0 _ (search rules) (c.in_err-inames.ensures.stops (omega (arith, c.in_ok-at.ensures.read.0, c.in_ok-at.ensures.read.1.within)))
    (λ last h. head_within _ _ _ last _ _ c.requires c.in_ok-at.ensures.read.0 c.in_ok-at.ensures.read.1 (over_lead _ _ last h) (fold_begins c.args.is_sum))

pub returns-in_err-at-2-clause-begun : goal.returns-in_err-at-2-clause-begun
returns-in_err-at-2-clause-begun c = refused _ _ _ _ _ _ _ (search rules) c.in_err-at-2.ensures.stops (fold_open _ _ _ _ _ _ c.args.is_sum c.requires c.in_ok-at.ensures.read.0 c.in_ok-at.ensures.read.1 c.in_ok-inames.ensures.read)

pub returns-in_err-at-clause-none : goal.returns-in_err-at-clause-none
returns-in_err-at-clause-none c = passed_on _ _ c.from_residual.ensures.1 c.in_err-at.ensures.stops (λ last h least some within. past_halts (fold_shape c.args.is_sum _ _ least _ _) h)

pub returns-in_err-inames-clause-none : goal.returns-in_err-inames-clause-none
returns-in_err-inames-clause-none c = passed_on _ _ c.from_residual-in_err-inames.ensures.1 (over_never _ _ c.in_err-inames.field-0.0 (c.in_err-inames.ensures.stops (omega (arith, c.in_ok-at.ensures.read.0, c.in_ok-at.ensures.read.1.within)))) (λ last h least some within. joins_halts
    (past_on (fold_shape c.args.is_sum _ _ least _ _) c.in_ok-at.ensures.read.0) h (any_rest _))

pub returns-in_err-at-2-clause-none : goal.returns-in_err-at-2-clause-none
returns-in_err-at-2-clause-none c = passed_on _ _ c.from_residual-in_err-at-2.ensures.1 c.in_err-at-2.ensures.stops (λ last h least some within. past_halts
    (joins_on (past_on (fold_shape c.args.is_sum _ _ least _ _) c.in_ok-at.ensures.read.0) c.in_ok-inames.ensures.read.on (over_ends _ _ _ c.in_ok-inames.ensures.ends) (any_rest _)) h)

pub returns-clause-goes : goal.returns-clause-goes
returns-clause-goes c = opens_goes _ _ c.args.part.now c.opened.new.part _ _ _ _ c.opened.ensures.opens (λ least. body_on
    (past_on (joins_on (past_on (fold_shape c.args.is_sum _ _ least _ _) c.in_ok-at.ensures.read.0) c.in_ok-inames.ensures.read.on (over_ends _ _ _ c.in_ok-inames.ensures.ends) (any_rest _)) c.in_ok-at-2.ensures.read.0))
