use Rattle.std.proofs.Common.{◌∙◌, sym, ap, Some}
use Rattle.kernel_ir.specs.declared.fault.Refusal.{Refusal}
use Rattle.kernel_ir.proofs.Lookups.{taken_if}
use Rattle.kernel_ir.proofs.kernel.Kernel.fresh.Goals as goal

pub returns-then-taken-clause-refused : goal.returns-then-taken-clause-refused
returns-then-taken-clause-refused c =
    taken_if c.args.self.now.names c.position.result c.args.name.now (sym c.is_some-taken.ensures ∙ c.if-taken.true) c.position.ensures.there
    ∙ ap (λ (r : Refusal). Some r) (sym c.in_ok-taken.ensures)
