use Rattle.std.proofs.Common.{◌≡◌, ◌∙◌, false, true, ap, rules, List}
use Rattle.std.specs.List.{list_all}
use Rattle.affine_rows.specs.declared.quasi.Floor.{Floor, out-Floor}
use Rattle.quasi_forms.specs.Affine.{is_constant}
use Rattle.quasi_forms.proofs.AffineParts.{no_terms, some_terms}
use Rattle.quasi_forms.proofs.affine.+constant.Goals as goal

pub is_constant-returns-then-is_empty : goal.is_constant-returns-then-is_empty
is_constant-returns-then-is_empty t c =
    no_terms c.args.form.now c.are_constant.result (c.is_empty.ensures.0 (search rules))
    (c.are_constant.ensures ∙ ap (λ (fs : List Floor). list_all (λ f. is_constant (out-Floor f).inner) fs) c.as_slice.ensures)

pub is_constant-returns-else-is_empty : goal.is_constant-returns-else-is_empty
is_constant-returns-else-is_empty t c =
    let no : c.is_empty.result ≡ false = search rules in
    no ∙ some_terms c.args.form.now (λ e. absurd (let yes : c.is_empty.result ≡ true = c.is_empty.ensures.1 e in cc))
