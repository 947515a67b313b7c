use Rattle.std.proofs.Common.{refl}
use Rattle.kernel_expressions.proofs.Moving.{goes_on_whole, part_goes}
use Rattle.kernel_grammar.specs.Lexicals.{mark}
use Rattle.kernel_expressions.proofs.Agreeing.{passed_on}
use Rattle.kernel_expressions.proofs.Shutting.{test_past, shut_opens, shut_never}
use Rattle.kernel_expressions.proofs.operator.test.Goals as goal

pub returns-clause-moves : goal.returns-clause-moves
returns-clause-moves c = goes_on_whole _ _ _ _ _ _ _ _ _ c.opened.ensures.opens c.in_ok-at.ensures.read.0 c.in_ok-at.ensures.read.1 refl refl tt
    (λ l made steps t u short part tree tight. part_goes _ _ l made steps t u part tree tight)

pub returns-in_err-at-clause-none : goal.returns-in_err-at-clause-none
returns-in_err-at-clause-none c = passed_on _ _ c.from_residual.ensures.1 c.in_err-at.ensures.stops (λ last h. shut_never h (λ least t. test_past least _ t))

pub returns-clause-goes : goal.returns-clause-goes
returns-clause-goes c = shut_opens _ c.args.part.now c.args.part.now c.opened.new.part _ _ (mark ",") _ _ _ c.opened.ensures.opens refl c.in_ok-at.ensures.read.0 (λ least t. test_past least _ t)
