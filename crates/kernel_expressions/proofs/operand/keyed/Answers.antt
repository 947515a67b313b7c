use Rattle.std.proofs.Common.{arith, ap, ◌∙◌}
use Rattle.kernel_expressions.proofs.Refusing.{none_begun, none_read}
use Rattle.kernel_expressions.proofs.operand.keyed.Goals as goal
use Rattle.kernel_grammar.specs.Lexicals.{word}
use Rattle.kernel_expressions.specs.Follows.{start}
use Rattle.kernel_expressions.specs.Keys.{key_text}
use Rattle.kernel_expressions.specs.declared.key.Key.{Key}
use Rattle.kernel_expressions.proofs.Firsts.{extreme_word, keyed_goes, keyed_halts}

pub returns-in-Not-clause-begun : goal.returns-in-Not-clause-begun
returns-in-Not-clause-begun c = none_begun _ _ _ (omega (arith, c.requires.within)) c.not.ensures.begun

pub returns-in_default-clause-begun : goal.returns-in_default-clause-begun
returns-in_default-clause-begun c = none_read _ _ (omega (arith, c.requires.within))

pub returns-in-Sum-clause-goes : goal.returns-in-Sum-clause-goes
returns-in-Sum-clause-goes c = keyed_goes _ _ _ _ c.args.part.now c.fold.new.part _ _ (ap (λ (k : Key). start (word (key_text k))) c.in-Sum.is) c.fold.ensures.goes

pub returns-in-Sum-clause-none : goal.returns-in-Sum-clause-none
returns-in-Sum-clause-none c = keyed_halts _ _ _ _ c.args.part.now _ _ (ap (λ (k : Key). start (word (key_text k))) c.in-Sum.is) c.fold.ensures.none

pub returns-in-Product-clause-goes : goal.returns-in-Product-clause-goes
returns-in-Product-clause-goes c = keyed_goes _ _ _ _ c.args.part.now c.fold-in-Product.new.part _ _ (ap (λ (k : Key). start (word (key_text k))) c.in-Product.is) c.fold-in-Product.ensures.goes

pub returns-in-Product-clause-none : goal.returns-in-Product-clause-none
returns-in-Product-clause-none c = keyed_halts _ _ _ _ c.args.part.now _ _ (ap (λ (k : Key). start (word (key_text k))) c.in-Product.is) c.fold-in-Product.ensures.none

pub returns-in-Extreme-clause-goes : goal.returns-in-Extreme-clause-goes
returns-in-Extreme-clause-goes c = keyed_goes _ _ _ _ c.args.part.now c.extreme.new.part _ _ (ap (λ (k : Key). start (word (key_text k))) c.in-Extreme.is ∙ extreme_word c.in-Extreme.which) c.extreme.ensures.goes

pub returns-in-Extreme-clause-none : goal.returns-in-Extreme-clause-none
returns-in-Extreme-clause-none c = keyed_halts _ _ _ _ c.args.part.now _ _ (ap (λ (k : Key). start (word (key_text k))) c.in-Extreme.is ∙ extreme_word c.in-Extreme.which) c.extreme.ensures.none

pub returns-in-Cast-clause-goes : goal.returns-in-Cast-clause-goes
returns-in-Cast-clause-goes c = keyed_goes _ _ _ _ c.args.part.now c.cast.new.part _ _ (ap (λ (k : Key). start (word (key_text k))) c.in-Cast.is) c.cast.ensures.goes

pub returns-in-Cast-clause-none : goal.returns-in-Cast-clause-none
returns-in-Cast-clause-none c = keyed_halts _ _ _ _ c.args.part.now _ _ (ap (λ (k : Key). start (word (key_text k))) c.in-Cast.is) c.cast.ensures.none

pub returns-in-If-clause-goes : goal.returns-in-If-clause-goes
returns-in-If-clause-goes c = keyed_goes _ _ _ _ c.args.part.now c.choice.new.part _ _ (ap (λ (k : Key). start (word (key_text k))) c.in-If.is) c.choice.ensures.goes

pub returns-in-If-clause-none : goal.returns-in-If-clause-none
returns-in-If-clause-none c = keyed_halts _ _ _ _ c.args.part.now _ _ (ap (λ (k : Key). start (word (key_text k))) c.in-If.is) c.choice.ensures.none
