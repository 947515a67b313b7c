use Rattle.std.proofs.Common.{◌≡◌, ◌++◌, map, drop}
use Rattle.std.specs.List.{list_all}
use Rattle.kernel_edits.specs.Changing.{changed_form, changes_within}
use Rattle.kernel_edits.proofs.change.Change.changed_forms.Given as goal

abbrev pub invariant-loop-form : goal.invariant-loop-form
invariant-loop-form l = record {
  made : l.made ++ map (changed_form l.self.vars.now l.self.forms.now) (drop l.form-index l.forms) ≡ map (changed_form l.self.vars.now l.self.forms.now) l.forms;
  within : list_all (changes_within l.self.vars.now l.self.forms.now) (drop l.form-index l.forms) ≡ list_all (changes_within l.self.vars.now l.self.forms.now) l.forms;
}
