use Rattle.kernel_syntax.proofs.Leads.{part_on, ends_on, no_part, no_last, same_rest, a_spelling, passes}
use Rattle.kernel_syntax.proofs.LineEnds.{temp_opens, spelled_pair}
use Rattle.kernel_grammar.specs.Lines.{numbers_text}
use Rattle.kernel_syntax.proofs.LineSteps.{temp_read}
use Rattle.std.proofs.Common.{[]}
use Rattle.kernel_syntax.proofs.lines.temp.Goals as goal

pub returns-clause-read : goal.returns-clause-read
returns-clause-read c = temp_read _ _ _ _ _ _ _ _ c.requires c.in_ok-name.ensures.read c.in_ok-shape.ensures.read

pub returns-in_err-name-clause-stops : goal.returns-in_err-name-clause-stops
returns-in_err-name-clause-stops c = let h = temp_opens _ _ c.requires in passes _ _ _ c.from_residual.ensures.1 (no_part _ _ h (a_spelling numbers_text []) (λ text rest q b. tt) (c.in_err-name.ensures.stops h.within))

pub returns-in_err-shape-clause-stops : goal.returns-in_err-shape-clause-stops
returns-in_err-shape-clause-stops c = let h = (part_on (temp_opens _ _ c.requires) (spelled_pair _ c.in_ok-name.ensures.read) c.in_ok-name.ensures.ends (λ text rest q b. tt)) in passes _ _ _ c.from_residual-in_err-shape.ensures.1 (no_last _ h (same_rest _) (c.in_err-shape.ensures.stops h.within))

pub returns-clause-ends : goal.returns-clause-ends
returns-clause-ends c = ends_on (part_on (temp_opens _ _ c.requires) (spelled_pair _ c.in_ok-name.ensures.read) c.in_ok-name.ensures.ends (λ text rest q b. tt)) c.in_ok-shape.ensures.read.on c.in_ok-shape.ensures.ends (same_rest _)
