use Rattle.std.proofs.Common.{ap, ◌∙◌}
use Rattle.kernel_expressions.specs.Texts.{texts}
use Rattle.kernel_syntax.proofs.RefusedPlaces.{whole_refused, read_refused, tries_of, clamped}
use Rattle.kernel_syntax.proofs.place.fault_at.Goals as goal

pub returns-clause-whole : goal.returns-clause-whole
returns-clause-whole c = whole_refused c.args.bytes.now c.args.tokens.now c.args.at c.args.left c.refused-from.result.0 c.refused-from.result.1.now c.in_ok-count.count _ c.refused-from.ensures
    (tries_of _ (texts c.deref.result.now) _ _ c.begun.result _ (ap texts c.deref.ensures.value ∙ c.in_ok-all.ensures) c.in_ok-count.was c.begun.ensures)
    (clamped _ _ _ _ c.requires.short c.saturating_add.ensures c.fault_behind.ensures)

pub returns-clause-read : goal.returns-clause-read
returns-clause-read c = read_refused c.args.bytes.now c.args.tokens.now c.args.at c.args.left c.refused-from.result.0 c.refused-from.result.1.now c.in_ok-count.count _ c.refused-from.ensures
    (tries_of _ (texts c.deref.result.now) _ _ c.begun.result _ (ap texts c.deref.ensures.value ∙ c.in_ok-all.ensures) c.in_ok-count.was c.begun.ensures)
    (clamped _ _ _ _ c.requires.short c.saturating_add.ensures c.fault_behind.ensures)
