use Rattle.std.proofs.Common.{◌∙◌}
use Rattle.kind_faults.specs.Leads.{leading_at}
use Rattle.type_infer.specs.Inferred.{stored_leading}
use Rattle.type_infer.proofs.TempKinds.{same_kinds}
use Rattle.type_infer.proofs.temps.inferred_kind.Goals as goal

pub returns : goal.returns
returns c = c.temp_kind.ensures ∙ same_kinds c.args.kernel.now (leading_at c.args.stored.now) (stored_leading c.args.kernel.now) c.requires c.args.temp
