use Rattle.std.proofs.Common.{◌≡◌, ◌++◌, drop, length}
use Rattle.std.specs.Prelude.{flat_map}
use Rattle.kernel_names.specs.Ids.{ids_from, ids_of, insn_options}
use Rattle.kernel_names.proofs.ids.ids_in.Given as goal

abbrev pub invariant-entries : goal.invariant-entries
invariant-entries l = l.ids ++ ids_from (length l.ids) (flat_map (λ e. insn_options e.item) (drop l.entry-index l.entries)) ≡ ids_of l.entries
