use Rattle.std.proofs.Common.{◌≡◌, [], ◌∷◌, true, nat_lt, pos, sym, subst}
use Rattle.affine_rows.specs.declared.quasi.Quasi.{Quasi, the_lemmas}
use Rattle.affine_rows.specs.Forms.{affine}
use Rattle.expr_tree.specs.Scenes.{each_var}
use Rattle.quasi_forms.proofs.FloorWidths.{below_floor}
use Rattle.tree_tests.proofs.index_forms.each_floor_has_two_rows.Goals as goal

below_variable : each_var (λ v. nat_lt v 1) (affine (pos 0) ((0, pos 1) ∷ [])) ≡ true
below_variable = search the_lemmas

pub rows_of-requires-clause-below : goal.rows_of-requires-clause-below
rows_of-requires-clause-below g c =
    let below : Quasi → Type 0 = λ q. each_var (λ v. nat_lt v 1) q ≡ true in
    let own = subst below (sym c.in_ok-variable.ensures) below_variable in
    let half = subst below (sym c.in_ok-half.ensures.form) (below_floor 1 _ (pos 2) own) in
    subst below (sym c.in_ok-sixth.ensures.form) (below_floor 1 _ (pos 3) half)
