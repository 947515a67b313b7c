use Rattle.kernel_syntax.proofs.Leads.{ended, sign_on, kind_on, no_sign, no_kind, tok_in, passes}
use Rattle.kernel_syntax.proofs.InsnEnds.{undeclared_ends, declared_opens, declared_inferred, declared_of}
use Rattle.kernel_grammar.specs.Lexicals.{mark}
use Rattle.std.proofs.Common.{refl, []}
use Rattle.kernel_syntax.specs.Parts.{Is}
use Rattle.kernel_syntax.proofs.insn.declared.Goals as goal

pub returns-in_default-clause-ends : goal.returns-in_default-clause-ends
returns-in_default-clause-ends c = undeclared_ends _ _ c.requires c.in_default.ensures

pub returns-in-Some-behind_sign-clause-ends : goal.returns-in-Some-behind_sign-clause-ends
returns-in-Some-behind_sign-clause-ends c = ended (sign_on (declared_inferred (sign_on (declared_opens _ _ c.in-Some.ensures.1) c.in-Some.ensures) c.in-Some-behind_sign.ensures.1) c.in-Some-behind_sign.ensures)

pub returns-in_err-kind-clause-stops : goal.returns-in_err-kind-clause-stops
returns-in_err-kind-clause-stops c = passes _ _ _ c.from_residual.ensures.1 (no_kind _ (declared_of (sign_on (declared_opens _ _ c.in-Some.ensures.1) c.in-Some.ensures) c.in_default-behind_sign.ensures) (tok_in (mark ">") (Is []) [] refl) c.in_err-kind.ensures.stops)

pub returns-in_err-sign-clause-stops : goal.returns-in_err-sign-clause-stops
returns-in_err-sign-clause-stops c = passes _ _ _ c.from_residual-in_err-sign.ensures.1 (no_sign _ (kind_on _ (declared_of (sign_on (declared_opens _ _ c.in-Some.ensures.1) c.in-Some.ensures) c.in_default-behind_sign.ensures) c.in_ok-kind.ensures.read) refl c.in_err-sign.ensures.stops)

pub returns-clause-ends : goal.returns-clause-ends
returns-clause-ends c = ended (sign_on (kind_on _ (declared_of (sign_on (declared_opens _ _ c.in-Some.ensures.1) c.in-Some.ensures) c.in_default-behind_sign.ensures) c.in_ok-kind.ensures.read) c.in_ok-sign.ensures.read)
