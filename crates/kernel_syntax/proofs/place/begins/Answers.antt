use Rattle.std.proofs.Common.{◌⊎◌, inl, inr, ◌≤◌, length, arith}
use Rattle.kernel_syntax.proofs.Candidates.{gathered, front_length, file_goes, refused_tells}
use Rattle.kernel_syntax.proofs.place.begins.Goals as goal
use Rattle.kernel_syntax.proofs.place.begins.Goals.{then-tokens-test+else-count-lexemes, else-tokens-test}

pub returns-in-Ok : goal.returns-in-Ok
returns-in-Ok c = λ within.
    let past : (length c.args.lexemes.now ≤ c.tokens.count) ⊎ (c.args.at ≤ c.tokens.count) = elim c.tokens-test.branch [ then-tokens-test+else-count-lexemes w ↦ inl (omega (arith, w.if-count-lexemes.false)) | else-tokens-test w ↦ inr (omega (arith, w.tokens-test.false)) ] in
    file_goes _ _ (gathered c.args.lexemes.now c.args.next c.tokens.invariant.0 c.tokens.invariant.1 past c.in_ok-push-2.ensures.items c.deref.ensures.value) c.in-Ok.ensures.read

pub returns-in-Err-Refused : goal.returns-in-Err-Refused
returns-in-Err-Refused c = λ within.
    let past : (length c.args.lexemes.now ≤ c.tokens.count) ⊎ (c.args.at ≤ c.tokens.count) = elim c.tokens-test.branch [ then-tokens-test+else-count-lexemes w ↦ inl (omega (arith, w.if-count-lexemes.false)) | else-tokens-test w ↦ inr (omega (arith, w.tokens-test.false)) ] in
    refused_tells _ _ (gathered c.args.lexemes.now c.args.next c.tokens.invariant.0 c.tokens.invariant.1 past c.in_ok-push-2.ensures.items c.deref.ensures.value) (front_length _ _ within) c.in-Err-Refused.field-0-is c.in-Err-Refused.ensures.stops
