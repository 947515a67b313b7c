use Rattle.std.proofs.Common.{◌∙◌, ap, subst, List, Option}
use Rattle.kernel_ir.specs.declared.fault.Refusal.{Refusal}
use Rattle.kernel_ir.specs.Refusals.{Refuses}
use Rattle.subst_rules.specs.declared.sizes.Size.{Size}
use Rattle.subst_rules.specs.Refused.{size_refusal_by}
use Rattle.subst_rules.proofs.Limiting.{by_sizes}
use Rattle.subst_rules.proofs.expansion.check_size.Goals as goal

pub returns : goal.returns
returns c = subst (λ (r : Option Refusal). Refuses r c.check_insn.result) (ap (λ (t : List Size). size_refusal_by t c.args.insn.now) c.requires ∙ by_sizes c.args.kernel.now c.args.insn.now) c.check_insn.ensures
