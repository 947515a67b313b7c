use Rattle.std.proofs.Common.{FitsSigned, map, pos, subst, ℤ, sym, ap, ◌∙◌}
use Rattle.std.specs.Int.{w64}
use Rattle.std.proofs.lemmas.List.{get_or-map, length-map}
use Rattle.std.proofs.lemmas.List.Elements.{All-get_or}
use Rattle.affine_rows.specs.Forms.{form_at}
use Rattle.expr_tree.proofs.value.places.Goals as goal

pub subscript-requires : goal.subscript-requires
subscript-requires g c =
    let f = form_at (g.V.Vars.number c.args.vars.now) in
    let fit = All-get_or (FitsSigned w64) (map f c.args.forms.now) c.loop-i.i (pos 0) (rw length-map c.loop-i-test.true) c.requires.fit in
    let here = get_or-map f c.args.forms.now c.loop-i.i c.index-forms-i.result (pos 0) c.loop-i-test.true in
    subst (λ (z : ℤ). FitsSigned w64 z) (here ∙ ap f (sym c.index-forms-i.is)) fit
