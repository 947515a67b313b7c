use Rattle.std.proofs.Common.{◌≡◌, ◌∙◌, ◌++◌, sym, ap, ap₂, subst, OnOk, List, append_assoc}
use Rattle.std.specs.Prelude.{flat_map}
use Rattle.affine_rows.specs.declared.quasi.Quasi.{Quasi, out-Quasi}
use Rattle.affine_rows.specs.declared.quasi.Floor.{Floor}
use Rattle.quasi_forms.specs.Limits.{floors_in, floors_within}
use Rattle.quasi_forms.specs.Systems.{difference_floors}
use Rattle.quasi_forms.proofs.Errors.{on_ok}
use Rattle.quasi_forms.proofs.FormLimits.{floors_in-out}
use Rattle.quasi_forms.proofs.systems.add_row_floors.Goals as goal

pub returns-clause-floors : goal.returns-clause-floors
returns-clause-floors c =
    let first : c.add_floors.new.made.items ≡ c.args.made.now.items ++ floors_in c.args.row.now.form =
    c.in_ok-add_floors.ensures ∙ ap (λ (ys : List Floor). c.args.made.now.items ++ ys) (ap (flat_map floors_within) (c.as_slice.ensures ∙ ap (λ (q : Quasi). (out-Quasi q).floors) c.quasi.ensures.same) ∙ sym (floors_in-out c.args.row.now.form)) in
    let second : flat_map floors_within c.as_slice-2.result.now ≡ floors_in c.args.row.now.less =
    ap (flat_map floors_within) (c.as_slice-2.ensures ∙ ap (λ (q : Quasi). (out-Quasi q).floors) c.quasi-2.ensures.same) ∙ sym (floors_in-out c.args.row.now.less) in
    on_ok c.add_floors-2.result
    (c.add_floors-2.new.made.items ≡ c.add_floors.new.made.items ++ flat_map floors_within c.as_slice-2.result.now)
    (c.add_floors-2.new.made.items ≡ c.args.made.now.items ++ difference_floors c.args.row.now)
    (λ e. e ∙ (ap₂ (λ (xs : List Floor) (ys : List Floor). xs ++ ys) first second ∙ append_assoc c.args.made.now.items (floors_in c.args.row.now.form) (floors_in c.args.row.now.less)))
    c.add_floors-2.ensures
