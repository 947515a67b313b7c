use Rattle.std.proofs.Common.{◌≡◌, drop}
use Rattle.std.specs.Option.{option_or, option_copied}
use Rattle.kernel_names.specs.Ids.{written_id}
use Rattle.kernel_names.proofs.ids.written_id.Given as goal

abbrev pub invariant-options : goal.invariant-options
invariant-options l = option_or (written_id (drop l.option-index l.options)) (option_copied l.id) ≡ written_id l.options
