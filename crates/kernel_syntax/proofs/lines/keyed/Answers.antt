use Rattle.kernel_syntax.proofs.Leads.{ends_through, stops_through, any_rest}
use Rattle.kernel_syntax.proofs.LineEnds.{domain_line, assume_line, input_line, output_line, temp_line, key_stop, this_key}
use Rattle.kernel_syntax.proofs.InsnEnds.{line_end_rest}
use Rattle.kernel_syntax.specs.Behinds.{ends_conditions, is_other}
use Rattle.std.proofs.Common.{refl, codes}
use Rattle.kernel_syntax.proofs.lines.keyed.Goals as goal

pub returns-in-Domain-clause-ends : goal.returns-in-Domain-clause-ends
returns-in-Domain-clause-ends c = ends_through _ _ _ (domain_line _ _ (this_key _ _ _ _ c.in-Domain.is c.requires)) (any_rest _) c.domain.ensures.read c.domain.ensures.ends

pub returns-in-Domain-clause-stops : goal.returns-in-Domain-clause-stops
returns-in-Domain-clause-stops c = stops_through _ _ (domain_line _ _ (this_key _ _ _ _ c.in-Domain.is c.requires)) (any_rest _) c.domain.ensures.stops

pub returns-in-Assume-clause-ends : goal.returns-in-Assume-clause-ends
returns-in-Assume-clause-ends c = ends_through _ _ _ (assume_line _ _ (this_key _ _ _ _ c.in-Assume.is c.requires)) (line_end_rest ends_conditions refl) c.assume.ensures.read c.assume.ensures.ends

pub returns-in-Assume-clause-stops : goal.returns-in-Assume-clause-stops
returns-in-Assume-clause-stops c = stops_through _ _ (assume_line _ _ (this_key _ _ _ _ c.in-Assume.is c.requires)) (line_end_rest ends_conditions refl) c.assume.ensures.stops

pub returns-in-Input-clause-ends : goal.returns-in-Input-clause-ends
returns-in-Input-clause-ends c = ends_through _ _ _ (input_line _ _ (this_key _ _ _ _ c.in-Input.is c.requires)) (any_rest _) c.array.ensures.read c.array.ensures.ends

pub returns-in-Input-clause-stops : goal.returns-in-Input-clause-stops
returns-in-Input-clause-stops c = stops_through _ _ (input_line _ _ (this_key _ _ _ _ c.in-Input.is c.requires)) (any_rest _) c.array.ensures.stops

pub returns-in-Output-clause-ends : goal.returns-in-Output-clause-ends
returns-in-Output-clause-ends c = ends_through _ _ _ (output_line _ _ (this_key _ _ _ _ c.in-Output.is c.requires)) (any_rest _) c.array-in-Output.ensures.read c.array-in-Output.ensures.ends

pub returns-in-Output-clause-stops : goal.returns-in-Output-clause-stops
returns-in-Output-clause-stops c = stops_through _ _ (output_line _ _ (this_key _ _ _ _ c.in-Output.is c.requires)) (any_rest _) c.array-in-Output.ensures.stops

pub returns-in-Temp-clause-ends : goal.returns-in-Temp-clause-ends
returns-in-Temp-clause-ends c = ends_through _ _ _ (temp_line _ _ (this_key _ _ _ _ c.in-Temp.is c.requires)) (line_end_rest (is_other (codes "[")) refl) c.temp.ensures.read c.temp.ensures.ends

pub returns-in-Temp-clause-stops : goal.returns-in-Temp-clause-stops
returns-in-Temp-clause-stops c = stops_through _ _ (temp_line _ _ (this_key _ _ _ _ c.in-Temp.is c.requires)) (line_end_rest (is_other (codes "[")) refl) c.temp.ensures.stops

pub returns-in_default-clause-stops : goal.returns-in_default-clause-stops
returns-in_default-clause-stops c = key_stop _ _ _ c.requires c.in_default.not-Domain c.in_default.not-Assume c.in_default.not-Input c.in_default.not-Output c.in_default.not-Temp
