use Rattle.std.proofs.Common.{ap, Err}
use Rattle.quasi_forms.specs.Fits.{fits}
use Rattle.kernel_edits.proofs.Bools.{not_true}
use Rattle.quasi_forms.proofs.Deciding.{fits_made, fits_seen}
use Rattle.kernel_edits.proofs.change.Change.put.Goals as goal

pub returns-in-Ok-clause-fits : goal.returns-in-Ok-clause-fits
returns-in-Ok-clause-fits c = fits_seen c.args.self.now.vars.now c.args.self.now.forms.now c.args.form.now c.in-Ok.ensures.within

pub returns-in-Err-Limit-clause-limit : goal.returns-in-Err-Limit-clause-limit
returns-in-Err-Limit-clause-limit c _ = not_true (fits c.args.self.now.vars.now c.args.self.now.forms.now c.args.form.now)
    (λ h. c.in-Err-Limit.ensures.limit (ap Err c.in-Err-Limit.field-0-is) (fits_made c.args.self.now.vars.now c.args.self.now.forms.now c.args.form.now h))
