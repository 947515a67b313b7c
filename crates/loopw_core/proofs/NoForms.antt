-- Files that are not of the one form.
use Rattle.std.specs.Prelude.{◌≡◌, ℕ, List}
use Rattle.std.proofs.Common.{subst}
use Rattle.first_form.specs.declared.fault.FormFault.{FormFault}
use Rattle.first_form.specs.declared.fault.FormFault.TheVariants.{NotBuilt}
use Rattle.first_form.specs.Refusals.{IsRefusal, IsRefusedWith}
use Rattle.first_form.proofs.FormTexts.{refused_is_no_file}
use Rattle.loopw_core.specs.Written.{IsOfNoForm}

stops_form : (bytes : List ℕ) (line : ℕ) (word : List ℕ) → IsRefusedWith bytes line word → IsOfNoForm bytes
stops_form bytes line word refused = λ form file. refused_is_no_file bytes line refused.rest refused.stops form file

pub no_form : (bytes : List ℕ) (fault : FormFault) (line : ℕ) (word : List ℕ) → fault ≡ NotBuilt line word → IsRefusal bytes fault → IsOfNoForm bytes
no_form bytes fault line word e refused = stops_form bytes line word (subst (IsRefusal bytes) e refused)
