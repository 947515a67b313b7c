use Rattle.std.proofs.Common.{◌≡◌, drop}
use Rattle.kernel_names.specs.Lines.{entries_limit}
use Rattle.kernel_names.proofs.shapes.entries_limit.Given as goal

abbrev pub invariant-entries : goal.invariant-entries
invariant-entries l = entries_limit (drop l.entry-index l.shape) ≡ entries_limit l.shape
