use Rattle.std.proofs.Common.{subst, ap, ◌∙◌}
use Rattle.kernel_ir.specs.Refusals.{Refuses}
use Rattle.type_infer.specs.Tables.{known_by}
use Rattle.type_infer.specs.Typing.{kinds_refusal}
use Rattle.type_infer.proofs.inference.check.Goals as goal

pub returns : goal.returns
returns c =
    subst (λ w. Refuses (kinds_refusal c.args.kernel.now w) c.check_kinds.result) (ap (known_by c.args.kernel.now) c.as_slice-2.ensures.value ∙ c.in_ok-rules.ensures) c.check_kinds.ensures
