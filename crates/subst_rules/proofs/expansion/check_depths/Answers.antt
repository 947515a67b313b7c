use Rattle.std.proofs.Common.{◌∙◌, ap₂, subst, List, Option}
use Rattle.kernel_ir.specs.declared.fault.Refusal.{Refusal}
use Rattle.kernel_ir.specs.declared.kernel.SubstRule.{SubstRule}
use Rattle.kernel_ir.specs.Refusals.{Refuses}
use Rattle.subst_rules.specs.declared.sizes.Size.{Size}
use Rattle.kernel_limits.specs.Asked.{first_in}
use Rattle.subst_rules.specs.Refused.{body_refusal_by}
use Rattle.subst_rules.proofs.Limiting.{bodies_by_size}
use Rattle.subst_rules.proofs.expansion.check_depths.Goals as goal

pub returns : goal.returns
returns c = subst (λ (r : Option Refusal). Refuses r c.check_bodies.result)
    (ap₂ (λ (t : List Size) (rs : List SubstRule). first_in (body_refusal_by t) rs) c.requires c.as_slice.ensures ∙ bodies_by_size c.args.kernel.now) c.check_bodies.ensures
