use Rattle.std.proofs.Common.{[], ◌++◌, map, refl, arith}
use Rattle.kernel_grammar.specs.Words.{keywords}
use Rattle.kernel_grammar.specs.Lexicals.{word}
use Rattle.kernel_expressions.specs.Texts.{text_of}
use Rattle.kernel_syntax.specs.Candidates.{signs_known, kinds_known}
use Rattle.kernel_syntax.proofs.Candidates.{sign_token, key_token, kind_token, longer_next, longer_last, others_five, others_in}
use Rattle.kernel_syntax.proofs.place.longest.Goals as goal

pub loop-sign-preserved : goal.loop-sign-preserved
loop-sign-preserved c = λ within. longer_next sign_token [] _ c.loop-sign.sign-index _ _ (omega (arith, c.loop-sign-test.true)) refl (c.loop-sign.invariant within) (c.in_ok-most.ensures within)

pub loop-key-init : goal.loop-key-init
loop-key-init c = λ within. longer_last sign_token [] _ c.loop-sign.sign-index (omega (arith, c.loop-sign-test.false)) (c.loop-sign.invariant within)

pub loop-key-preserved : goal.loop-key-preserved
loop-key-preserved c = λ within. longer_next key_token signs_known _ c.loop-key.key-index _ _ (omega (arith, c.loop-key-test.true)) refl (c.loop-key.invariant within) (c.in_ok-most-2.ensures within)

pub loop-kind-init : goal.loop-kind-init
loop-kind-init c = λ within. longer_last key_token signs_known _ c.loop-key.key-index (omega (arith, c.loop-key-test.false)) (c.loop-key.invariant within)

pub loop-kind-preserved : goal.loop-kind-preserved
loop-kind-preserved c = λ within. longer_next kind_token (signs_known ++ map word keywords) _ c.loop-kind.kind-index _ _ (omega (arith, c.loop-kind-test.true)) refl (c.loop-kind.invariant within) (c.in_ok-most-3.ensures within)

pub loop-other-init : goal.loop-other-init
loop-other-init c = λ within. longer_last kind_token (signs_known ++ map word keywords) _ c.loop-kind.kind-index (omega (arith, c.loop-kind-test.false)) (c.loop-kind.invariant within)

pub loop-other-preserved : goal.loop-other-preserved
loop-other-preserved c = λ within. longer_next text_of ((signs_known ++ map word keywords) ++ kinds_known) c.others-other-items.result c.loop-other.other-index _ c.other-item.result {c = c.in_ok-most-4.most} (omega (arith, c.loop-other-test.true, others_five c.others-other-items.result c.others-other-items.ensures)) refl (c.loop-other.invariant within) (c.in_ok-most-4.ensures within)

pub returns : goal.returns
returns c = λ within. others_in ((signs_known ++ map word keywords) ++ kinds_known) c.others-other-items.result c.others-other-items.ensures c.loop-other-test.false (c.loop-other.invariant within)
