use Rattle.std.proofs.Common.{◌≡◌, ◌++◌, map, drop}
use Rattle.std.specs.List.{list_all}
use Rattle.quasi_forms.specs.Collected.{put_form}
use Rattle.quasi_forms.specs.Fits.{fits}
use Rattle.subst_rules.proofs.replace.Putting.put_each.Given as goal

abbrev pub invariant-loop-form : goal.invariant-loop-form
invariant-loop-form l = record {
  made : l.made ++ map (put_form l.self.vars.now l.self.forms.now) (drop l.form-index l.forms) ≡ map (put_form l.self.vars.now l.self.forms.now) l.forms;
  fits : list_all (fits l.self.vars.now l.self.forms.now) (drop l.form-index l.forms) ≡ list_all (fits l.self.vars.now l.self.forms.now) l.forms;
}
