use Rattle.kernel_syntax.proofs.Leads.{part_on, name_on, no_part, no_name, no_last, ends_on, exactly, spelled, a_spelling, passes}
use Rattle.kernel_syntax.proofs.InsnEnds.{insn_start, cell_follows, stored_follows, options_follow, line_end_rest, some_cell, some_place, some_stored, some_value}
use Rattle.kernel_syntax.proofs.LineSteps.{insn_read}
use Rattle.std.proofs.Common.{refl, codes, None}
use Rattle.kernel_grammar.specs.Lines.{declared_text, stored_text, options_text}
use Rattle.kernel_syntax.specs.Behinds.{is_other}
use Rattle.kernel_syntax.proofs.insn.insn.Goals as goal

pub returns-clause-read : goal.returns-clause-read
returns-clause-read c = insn_read _ _ _ _ _ _ _ _ _ _ _ _ _ _ _ c.in_ok-declared.ensures.read c.in_ok-name.ensures.read c.in_ok-place.ensures.read c.in_ok-stored.ensures.read c.in_ok-value.ensures.read c.in_ok-options.ensures.read

pub returns-in_err-declared-clause-stops : goal.returns-in_err-declared-clause-stops
returns-in_err-declared-clause-stops c = let h = (insn_start _ _ c.requires) in passes _ _ _ c.from_residual.ensures.1 (no_part _ _ h some_cell cell_follows c.in_err-declared.ensures.stops)

pub returns-in_err-name-clause-stops : goal.returns-in_err-name-clause-stops
returns-in_err-name-clause-stops c = let h = (part_on (insn_start _ _ c.requires) (exactly declared_text _ c.in_ok-declared.ensures.read) c.in_ok-declared.ensures.ends cell_follows) in passes _ _ _ c.from_residual-in_err-name.ensures.1 (no_name _ h some_place c.in_err-name.ensures.stops)

pub returns-in_err-place-clause-stops : goal.returns-in_err-place-clause-stops
returns-in_err-place-clause-stops c = let h = (name_on (part_on (insn_start _ _ c.requires) (exactly declared_text _ c.in_ok-declared.ensures.read) c.in_ok-declared.ensures.ends cell_follows) c.in_ok-name.ensures.read c.in_ok-name.ensures.next) in passes _ _ _ c.from_residual-in_err-place.ensures.1 (no_part _ _ h some_stored stored_follows c.in_err-place.ensures.stops)

pub returns-in_err-stored-clause-stops : goal.returns-in_err-stored-clause-stops
returns-in_err-stored-clause-stops c = let h = (part_on (name_on (part_on (insn_start _ _ c.requires) (exactly declared_text _ c.in_ok-declared.ensures.read) c.in_ok-declared.ensures.ends cell_follows) c.in_ok-name.ensures.read c.in_ok-name.ensures.next) (spelled c.in_ok-place.ensures.read) c.in_ok-place.ensures.ends stored_follows) in passes _ _ _ c.from_residual-in_err-stored.ensures.1 (no_part _ _ h some_value (λ text rest q b. tt) (c.in_err-stored.ensures.stops h.within))

pub returns-in_err-value-clause-stops : goal.returns-in_err-value-clause-stops
returns-in_err-value-clause-stops c = let h = (part_on (part_on (name_on (part_on (insn_start _ _ c.requires) (exactly declared_text _ c.in_ok-declared.ensures.read) c.in_ok-declared.ensures.ends cell_follows) c.in_ok-name.ensures.read c.in_ok-name.ensures.next) (spelled c.in_ok-place.ensures.read) c.in_ok-place.ensures.ends stored_follows) (exactly stored_text _ c.in_ok-stored.ensures.read) c.in_ok-stored.ensures.ends (λ text rest q b. tt)) in passes _ _ _ c.from_residual-in_err-value.ensures.1 (no_part _ _ h (a_spelling options_text None) options_follow (c.in_err-value.ensures.stops h.within))

pub returns-in_err-options-clause-stops : goal.returns-in_err-options-clause-stops
returns-in_err-options-clause-stops c = let h = (part_on (part_on (part_on (name_on (part_on (insn_start _ _ c.requires) (exactly declared_text _ c.in_ok-declared.ensures.read) c.in_ok-declared.ensures.ends cell_follows) c.in_ok-name.ensures.read c.in_ok-name.ensures.next) (spelled c.in_ok-place.ensures.read) c.in_ok-place.ensures.ends stored_follows) (exactly stored_text _ c.in_ok-stored.ensures.read) c.in_ok-stored.ensures.ends (λ text rest q b. tt)) (spelled c.in_ok-value.ensures.read) c.in_ok-value.ensures.ends options_follow) in passes _ _ _ c.from_residual-in_err-options.ensures.1 (no_last _ h (line_end_rest (is_other (codes "{")) refl) c.in_err-options.ensures.stops)

pub returns-clause-ends : goal.returns-clause-ends
returns-clause-ends c = ends_on (part_on (part_on (part_on (name_on (part_on (insn_start _ _ c.requires) (exactly declared_text _ c.in_ok-declared.ensures.read) c.in_ok-declared.ensures.ends cell_follows) c.in_ok-name.ensures.read c.in_ok-name.ensures.next) (spelled c.in_ok-place.ensures.read) c.in_ok-place.ensures.ends stored_follows) (exactly stored_text _ c.in_ok-stored.ensures.read) c.in_ok-stored.ensures.ends (λ text rest q b. tt)) (spelled c.in_ok-value.ensures.read) c.in_ok-value.ensures.ends options_follow) c.in_ok-options.ensures.read.on c.in_ok-options.ensures.ends (line_end_rest (is_other (codes "{")) refl)
