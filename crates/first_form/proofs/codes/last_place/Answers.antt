-- Said outright, so that a body with another number is refused at once.
use Rattle.std.proofs.Common.{ap}
use Rattle.affine_rows.specs.declared.quasi.Quasi.{Quasi}
use Rattle.code_tree.specs.declared.code.Bound.TheVariants as bound
use Rattle.first_form.proofs.codes.last_place.Goals as goal

pub returns : goal.returns
returns c = ap (λ (form : Quasi). bound.Form form) c.in_ok-shifted.ensures
