use Rattle.std.proofs.Common.{◌≡◌, None, sym, subst, rules}
use Rattle.kernel_ir.specs.Refusals.{IsFault}
use Rattle.kernel_ir.specs.Valid.{IsFormed, IsValid}
use Rattle.type_infer.specs.Inferred.{inferred_kind}
use Rattle.type_infer.specs.Judged.{known_in}
use Rattle.type_infer.specs.Typing.{kinds_refusal}
use Rattle.type_infer.proofs.InferredFormed.{formed_kept}
use Rattle.type_infer.proofs.Validity.{valid}
use Rattle.type_infer.proofs.inference.infer.Goals as goal

pub check-requires-clause-formed : goal.check-requires-clause-formed
check-requires-clause-formed c = subst IsFormed (sym c.in_ok-kernel.ensures) (formed_kept c.args.kernel (inferred_kind c.args.kernel) c.requires.formed)

pub returns-in_err-check-clause-refused : goal.returns-in_err-check-clause-refused
returns-in_err-check-clause-refused c =
    let h = subst (λ k. IsFault (kinds_refusal k (known_in k)) c.in_err-check.field-0.0) c.in_ok-kernel.ensures c.in_err-check.ensures in
    search (rules, h)

pub returns-clause-valid : goal.returns-clause-valid
returns-clause-valid c =
    let accepted = subst (λ k. kinds_refusal k (known_in k) ≡ None) c.in_ok-kernel.ensures c.in_ok-check.ensures in
    subst IsValid (sym c.in_ok-kernel.ensures) (valid c.args.kernel c.requires accepted)

pub returns-clause-refused : goal.returns-clause-refused
returns-clause-refused c = subst (λ k. kinds_refusal k (known_in k) ≡ None) c.in_ok-kernel.ensures c.in_ok-check.ensures
