use Rattle.std.proofs.Common.{◌≡◌, ◌∙◌, not, List, ℤ, ap, sym, subst}
use Rattle.std.specs.Prelude.{filter}
use Rattle.std.specs.Int.{w64}
use Rattle.std.proofs.lemmas.Int.{to_z-of_z}
use Rattle.affine_rows.specs.declared.quasi.Quasi.{out-Quasi, roll-Quasi}
use Rattle.affine_rows.specs.declared.quasi.Floor.{Floor}
use Rattle.affine_rows.specs.Forms.{IsForm}
use Rattle.kernel_rules.specs.Pairs.{has_floor}
use Rattle.kernel_rules.proofs.KeptFloors.{fewer_floors, form_constant}
use Rattle.kernel_rules.proofs.cancelling.without_floors.Goals as goal

pub new-requires : goal.new-requires
new-requires c =
    let copied = c.in_ok-copied.copied in
    let same : copied ≡ c.args.form.now = c.in_ok-copied.ensures ∙ c.quasi.ensures.same in
    let floors : c.from_vec.result ≡ filter (λ f. not (has_floor c.args.floors.now f)) (out-Quasi copied).floors =
    c.from_vec.ensures ∙ c.keep_others.ensures ∙ ap (λ (fs : List Floor). filter (λ f. not (has_floor c.args.floors.now f)) fs) c.into_vec-kept.ensures in
    subst (λ (z : ℤ). IsForm (roll-Quasi (record { constant = z; terms = (out-Quasi copied).terms; floors = c.from_vec.result })))
    (sym (to_z-of_z w64 (out-Quasi copied).constant (form_constant c.args.form.now copied c.quasi.ensures.form same)))
    (fewer_floors (λ f. not (has_floor c.args.floors.now f)) c.args.form.now copied c.from_vec.result c.quasi.ensures.form same floors)
