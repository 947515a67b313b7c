use Rattle.std.proofs.Common.{◌≡◌, pos, rules}
use Rattle.quasi_forms.specs.Collected.{constant_form}
use Rattle.quasi_forms.proofs.AffineParts.{number_made}
use Rattle.quasi_forms.proofs.affine.number.Goals as goal

pub returns : goal.returns
returns c =
    let is : c.affine.result ≡ constant_form (pos c.args.number) = search rules in
    number_made c.args.number c.affine.result c.requires is
