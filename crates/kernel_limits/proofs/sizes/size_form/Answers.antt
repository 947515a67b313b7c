use Rattle.std.proofs.Common.{◌≡◌, ◌∙◌, ◌∷◌, true, false, Bool, None, Option, List, sym, ap, subst, rules}
use Rattle.affine_rows.specs.declared.quasi.Quasi.{Quasi}
use Rattle.quasi_forms.specs.Affine.{is_constant}
use Rattle.kernel_limits.specs.Sizes.{joins}
use Rattle.kernel_limits.specs.SizeForms.{small_size_form}
use Rattle.kernel_limits.proofs.SizeSteps.{no_row}
use Rattle.kernel_limits.proofs.sizes.size_form.Goals as goal

pub returns-then-not-joins : goal.returns-then-not-joins
returns-then-not-joins c =
    let cons : c.args.shape.now ≡ c.in-Some.entry.now ∷ c.in-Some.others.now = search rules in
    let own : c.is_constant-constant.result ≡ is_constant c.in-Some.entry.now = c.is_constant-constant.ensures ∙ ap is_constant c.quasi.ensures.same in
    let shut : c.joins.result ≡ false = search rules in
    subst (λ (qs : List Quasi). None ≡ small_size_form qs) (sym cons)
    (no_row c.in-Some.entry.now c.in-Some.others.now (ap (λ (b : Bool). joins b c.in-Some.others.now) (sym own) ∙ (sym c.joins.ensures ∙ shut)))
