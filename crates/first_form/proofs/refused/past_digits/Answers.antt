use Rattle.std.proofs.Common.{sym}
use Rattle.std.specs.Char.{is_ascii_digit}
use Rattle.first_form.proofs.Runs.{run_rest}
use Rattle.first_form.proofs.refused.past_digits.Goals as goal

pub returns : goal.returns
returns c = sym (run_rest is_ascii_digit _ _ _ c.run.ensures)
