use Rattle.std.proofs.Common.{◌≡◌, ◌++◌, drop}
use Rattle.kernel_names.specs.Lines.{first_faults}
use Rattle.kernel_lines.specs.Places.{forms_of, forms_faults}
use Rattle.kernel_lines.proofs.places.read_forms.Given as goal

abbrev pub invariant-items : goal.invariant-items
invariant-items g l = record {
  forms : l.forms ++ forms_of (g.S.Scope.roles l.scope) (drop l.steps-index l.items) ≡ forms_of (g.S.Scope.roles l.scope) l.items;
  faults : first_faults l.faults (forms_faults (g.S.Scope.roles l.scope) l.word (drop l.steps-index l.items)) ≡ forms_faults (g.S.Scope.roles l.scope) l.word l.items;
}
