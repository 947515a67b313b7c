use Rattle.first_form.proofs.Runs.{run_is}
use Rattle.first_form.proofs.scan.run.Goals as goal

pub returns : goal.returns
returns c = run_is _ _ _ _ _ c.run_length.ensures c.split_at.ensures.front c.split_at.ensures.back
