use Rattle.kernel_syntax.proofs.Leads.{ended, sign_on, part_on, no_sign, no_part, spelled_list, tok_in, passes}
use Rattle.kernel_syntax.proofs.InsnEnds.{no_options, options_open, options_closed, options_some as some_options, sign_follows}
use Rattle.kernel_syntax.proofs.LineSteps.{options_some, options_empty}
use Rattle.kernel_grammar.specs.Lexicals.{mark}
use Rattle.std.proofs.Common.{refl, [], codes}
use Rattle.kernel_expressions.specs.Settled.{is_mark}
use Rattle.kernel_syntax.specs.Parts.{Is}
use Rattle.kernel_syntax.proofs.insn.options.Goals as goal

pub returns-clause-read : goal.returns-clause-read
returns-clause-read c = options_some _ _ _ _ _ _ _ c.in-Some.ensures.0 c.in-Some.ensures.1 c.in_ok-options.ensures.read c.in_ok-sign.ensures.read.0 c.in_ok-sign.ensures.read.1

pub returns-in-Some-behind_sign-clause-read : goal.returns-in-Some-behind_sign-clause-read
returns-in-Some-behind_sign-clause-read c = options_empty _ _ _ _ _ _ c.new-in-Some-behind_sign.ensures c.in-Some.ensures.0 c.in-Some.ensures.1 c.in-Some-behind_sign.ensures.0 c.in-Some-behind_sign.ensures.1

pub returns-in-Some-behind_sign-clause-ends : goal.returns-in-Some-behind_sign-clause-ends
returns-in-Some-behind_sign-clause-ends c = ended (sign_on (options_closed (sign_on (options_open _ _ c.in-Some.ensures.1) c.in-Some.ensures) c.in-Some-behind_sign.ensures.1) c.in-Some-behind_sign.ensures)

pub returns-in_default-clause-ends : goal.returns-in_default-clause-ends
returns-in_default-clause-ends c = no_options _ _ c.requires c.in_default.ensures

pub returns-in_err-options-clause-stops : goal.returns-in_err-options-clause-stops
returns-in_err-options-clause-stops c = let h = (some_options (sign_on (options_open _ _ c.in-Some.ensures.1) c.in-Some.ensures) c.in_default-behind_sign.ensures) in passes _ _ _ c.from_residual.ensures.1 (no_part _ _ h (tok_in (mark "}") (Is []) [] refl) (sign_follows (mark "}") (Is []) _ (is_mark (codes "}")) refl) (c.in_err-options.ensures.stops h.within))

pub returns-in_err-sign-clause-stops : goal.returns-in_err-sign-clause-stops
returns-in_err-sign-clause-stops c = passes _ _ _ c.from_residual-in_err-sign.ensures.1 (no_sign _ (part_on (some_options (sign_on (options_open _ _ c.in-Some.ensures.1) c.in-Some.ensures) c.in_default-behind_sign.ensures) (spelled_list c.in_ok-options.ensures.read) c.in_ok-options.ensures.ends (sign_follows (mark "}") (Is []) _ (is_mark (codes "}")) refl)) refl c.in_err-sign.ensures.stops)

pub returns-clause-ends : goal.returns-clause-ends
returns-clause-ends c = ended (sign_on (part_on (some_options (sign_on (options_open _ _ c.in-Some.ensures.1) c.in-Some.ensures) c.in_default-behind_sign.ensures) (spelled_list c.in_ok-options.ensures.read) c.in_ok-options.ensures.ends (sign_follows (mark "}") (Is []) _ (is_mark (codes "}")) refl)) c.in_ok-sign.ensures.read)
