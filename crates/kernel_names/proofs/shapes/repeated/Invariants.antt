use Rattle.std.proofs.Common.{◌≡◌, [], take, drop, bytes_eq}
use Rattle.quasi_forms.specs.Alike.{distinct}
use Rattle.kernel_names.specs.Lines.{repeated_behind}
use Rattle.kernel_names.proofs.shapes.repeated.Given as goal

abbrev pub invariant-names : goal.invariant-names
invariant-names l = record {
  first : repeated_behind (take l.name-index l.names) (drop l.name-index l.names) ≡ repeated_behind [] l.names;
  before : l.before ≡ distinct bytes_eq (take l.name-index l.names);
}
