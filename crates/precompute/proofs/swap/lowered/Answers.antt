use Rattle.std.proofs.Common.{ap, Err}
use Rattle.quasi_forms.proofs.Deciding.{form_fits, fits_not}
use Rattle.precompute.specs.Swapped.{lowered}
use Rattle.precompute.proofs.swap.lowered.Goals as goal

pub returns-in-Ok-clause-within : goal.returns-in-Ok-clause-within
returns-in-Ok-clause-within c = form_fits (lowered c.args.place.now c.args.origin.now) c.in-Ok.ensures.small

pub returns-in-Err-Limit-clause-limit : goal.returns-in-Err-Limit-clause-limit
returns-in-Err-Limit-clause-limit c _ = fits_not (lowered c.args.place.now c.args.origin.now) (c.in-Err-Limit.ensures.limit (ap Err c.in-Err-Limit.field-0-is))
