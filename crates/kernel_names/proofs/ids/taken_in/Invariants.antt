use Rattle.std.proofs.Common.{◌≡◌, ◌++◌, [], take, drop, bytes_eq}
use Rattle.quasi_forms.specs.Alike.{distinct}
use Rattle.kernel_names.specs.Ids.{taken_behind}
use Rattle.kernel_names.proofs.ids.taken_in.Given as goal

abbrev pub invariant-ids : goal.invariant-ids
invariant-ids l = record {
  taken : l.taken ++ taken_behind (take l.id-index l.ids) (drop l.id-index l.ids) ≡ taken_behind [] l.ids;
  known : l.known ≡ distinct bytes_eq (take l.id-index l.ids);
}
