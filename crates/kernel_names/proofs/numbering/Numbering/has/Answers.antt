use Rattle.std.proofs.Common.{ap, ◌∙◌, bytes_eq, is_some}
use Rattle.kernel_names.proofs.NameLaws.{is_some-position}
use Rattle.kernel_names.proofs.numbering.Numbering.has.Goals as goal

pub returns : goal.returns
returns c = c.is_some.ensures ∙ (ap is_some c.position.ensures ∙ is_some-position (bytes_eq c.args.name.now) c.args.self.now)
