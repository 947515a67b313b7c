use Rattle.std.proofs.Common.{sym, ◌∙◌}
use Rattle.kernel_syntax.proofs.ReadPlaces.{stuck_so, refused_so}
use Rattle.kernel_syntax.proofs.reader.text_fault.Goals as goal

pub returns-in-Ok-clause-place : goal.returns-in-Ok-clause-place
returns-in-Ok-clause-place c = λ none. c.fault_at.ensures.read (refused_so _ c.deref.result.now _ _ _ c.in-Ok.field-0 (c.deref-in-Ok.ensures.value ∙ sym c.deref.ensures.value) (c.len.ensures ∙ sym c.deref-in-Ok.ensures.len) c.in-Ok.ensures.read
    (stuck_so _ c.in_ok-tokens.field-0.place c.in_ok-tokens.field-0.tokens.items _ c.saturating_add.result _ c.deref-in-Ok.ensures.value c.requires c.saturating_add.ensures c.min.ensures c.in_ok-tokens.ensures.read c.in_ok-tokens.ensures.longest none))

pub returns-clause-place : goal.returns-clause-place
returns-clause-place c = λ none. c.in-Err.ensures.stuck (stuck_so _ c.in_ok-tokens.field-0.place c.in_ok-tokens.field-0.tokens.items _ c.saturating_add.result _ c.deref.ensures.value c.requires c.saturating_add.ensures c.min.ensures c.in_ok-tokens.ensures.read c.in_ok-tokens.ensures.longest none)
