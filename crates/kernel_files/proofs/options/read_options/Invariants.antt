use Rattle.std.proofs.Common.{◌≡◌, drop}
use Rattle.kernel_files.specs.Options.{no_options, options_behind}
use Rattle.kernel_files.proofs.options.read_options.Given as goal

abbrev pub invariant-options : goal.invariant-options
invariant-options l = options_behind l.declarations l.ids.ids l.read (drop l.option-index l.options) ≡ options_behind l.declarations l.ids.ids no_options l.options
