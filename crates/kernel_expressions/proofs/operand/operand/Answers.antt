use Rattle.kernel_expressions.proofs.Refusing.{none_begun, none_read}
use Rattle.kernel_expressions.proofs.operand.operand.Goals as goal
use Rattle.std.proofs.Common.{refl}
use Rattle.kernel_expressions.specs.Signs.{sign_text}
use Rattle.kernel_expressions.proofs.Firsts.{past_all, at_token, at_name, at_sign, token_never, no_number, no_key, no_kind, no_end, kind_none, goes_from, halts_from, goes_each, halts_each}

pub returns-in-Number-clause-begun : goal.returns-in-Number-clause-begun
returns-in-Number-clause-begun c = λ within. none_begun _ _ _ within c.number.ensures.begun

pub returns-in-Name-clause-begun : goal.returns-in-Name-clause-begun
returns-in-Name-clause-begun c = λ within. none_begun _ _ _ within c.named.ensures.begun

pub returns-in-Sign-clause-begun : goal.returns-in-Sign-clause-begun
returns-in-Sign-clause-begun c = λ within. none_begun _ _ _ within c.signed.ensures.begun

pub returns-in_default-clause-begun : goal.returns-in_default-clause-begun
returns-in_default-clause-begun c = λ within. none_read _ _ within

pub returns-in-Kind-clause-begun : goal.returns-in-Kind-clause-begun
returns-in-Kind-clause-begun c = λ within. none_read _ _ within

pub returns-in-LineEnd-clause-begun : goal.returns-in-LineEnd-clause-begun
returns-in-LineEnd-clause-begun c = λ within. none_read _ _ within

pub returns-in_default-clause-none : goal.returns-in_default-clause-none
returns-in_default-clause-none c = past_all c.in_default.ensures

pub returns-in-Kind-clause-none : goal.returns-in-Kind-clause-none
returns-in-Kind-clause-none c = token_never (rw c.in-Kind.is at c.in-Some.ensures) (no_kind c.in-Kind.field-0) (kind_none c.in-Kind.field-0)

pub returns-in-LineEnd-clause-none : goal.returns-in-LineEnd-clause-none
returns-in-LineEnd-clause-none c = token_never (rw c.in-LineEnd.is at c.in-Some.ensures) no_end refl

pub returns-in-Number-clause-goes : goal.returns-in-Number-clause-goes
returns-in-Number-clause-goes c = goes_each _ _ _ _ _ _ _ (at_token (rw c.in-Number.is at c.in-Some.ensures) (no_number c.in-Number.field-0.now)) c.number.ensures.goes

pub returns-in-Number-clause-none : goal.returns-in-Number-clause-none
returns-in-Number-clause-none c = halts_each _ _ _ _ _ _ (at_token (rw c.in-Number.is at c.in-Some.ensures) (no_number c.in-Number.field-0.now)) c.number.ensures.none

pub returns-in-Name-clause-goes : goal.returns-in-Name-clause-goes
returns-in-Name-clause-goes c = goes_each _ _ _ _ _ _ _ (at_name c.in-Name.field-0.free (rw c.in-Name.is at c.in-Some.ensures)) c.named.ensures.goes

pub returns-in-Name-clause-none : goal.returns-in-Name-clause-none
returns-in-Name-clause-none c = halts_each _ _ _ _ _ _ (at_name c.in-Name.field-0.free (rw c.in-Name.is at c.in-Some.ensures)) c.named.ensures.none

pub returns-in-Sign-clause-goes : goal.returns-in-Sign-clause-goes
returns-in-Sign-clause-goes c = goes_each _ _ _ _ _ _ _ (at_sign _ _ _ _ (sign_text c.in-Sign.sign) (rw c.in-Sign.is at c.in-Some.ensures)) c.signed.ensures.goes

pub returns-in-Sign-clause-none : goal.returns-in-Sign-clause-none
returns-in-Sign-clause-none c = halts_each _ _ _ _ _ _ (at_sign _ _ _ _ (sign_text c.in-Sign.sign) (rw c.in-Sign.is at c.in-Some.ensures)) c.signed.ensures.none

pub returns-in-Key-clause-goes : goal.returns-in-Key-clause-goes
returns-in-Key-clause-goes c = goes_from _ _ _ _ _ _ _ (at_token (rw c.in-Key.is at c.in-Some.ensures) (no_key c.in-Key.key)) c.keyed.ensures.goes

pub returns-in-Key-clause-none : goal.returns-in-Key-clause-none
returns-in-Key-clause-none c = halts_from _ _ _ _ _ _ (at_token (rw c.in-Key.is at c.in-Some.ensures) (no_key c.in-Key.key)) c.keyed.ensures.none
