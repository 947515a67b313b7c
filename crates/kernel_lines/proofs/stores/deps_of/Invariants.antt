use Rattle.std.proofs.Common.{◌≡◌, ◌++◌, drop}
use Rattle.kernel_lines.specs.Stores.{deps_of}
use Rattle.kernel_lines.proofs.stores.deps_of.Given as goal

abbrev pub invariant-options : goal.invariant-options
invariant-options l = l.ids ++ deps_of (drop l.option-index l.options) ≡ deps_of l.options
