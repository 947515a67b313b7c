use Rattle.std.proofs.Common.{◌≡◌, ◌∙◌, ◌++◌, sym, ap₂, subst, IfOk, List}
use Rattle.std.specs.Prelude.{flat_map}
use Rattle.affine_rows.specs.declared.quasi.Floor.{Floor}
use Rattle.quasi_forms.specs.Alike.{same_floor, distinct}
use Rattle.quasi_forms.specs.Limits.{floors_in, floors_within}
use Rattle.quasi_forms.proofs.FormLimits.{floors_in-out}
use Rattle.quasi_forms.proofs.limits.floors_of.Goals as goal

pub returns : goal.returns
returns c =
    let all : c.deref.result.now ≡ floors_in c.args.form.now = c.deref.ensures.value ∙ (c.in_ok-add_floors.ensures ∙ (ap₂ (λ (xs : List Floor) (ys : List Floor). xs ++ flat_map floors_within ys) c.new-floors.ensures.items c.as_slice.ensures ∙ sym (floors_in-out c.args.form.now))) in
    subst (λ (fs : List Floor). IfOk c.different.result (λ made. made.items ≡ distinct same_floor fs)) all c.different.ensures
