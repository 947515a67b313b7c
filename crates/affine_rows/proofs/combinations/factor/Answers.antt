use Rattle.std.proofs.Common.{◌∙◌, sym, arith, rules}
use Rattle.std.specs.Prelude.{slice_index_or, pos, FitsSigned}
use Rattle.std.proofs.lemmas.Int.{to_z-of_z}
use Rattle.std.specs.Int.{w64}
use Rattle.affine_rows.proofs.Mixing.{Rising-from, Rising-drop}
use Rattle.affine_rows.proofs.Combining.{factor_found, factor_later}
use Rattle.affine_rows.proofs.combinations.factor.Goals as goal

pub returns-then-other-var : goal.returns-then-other-var
returns-then-other-var c =
    let fits : FitsSigned w64 (slice_index_or c.args.terms.now c.loop-other.other-index (0, pos 0)).1 = search rules in
    to_z-of_z w64 _ fits ∙ sym (c.loop-other.invariant ∙ factor_found c.args.terms.now c.loop-other.other-index c.args.var c.loop-other-test.true (Rising-drop c.args.terms.now c.loop-other.other-index (Rising-from c.args.terms.now c.requires)) (omega arith))

pub loop-other-preserved : goal.loop-other-preserved
loop-other-preserved c =
    c.loop-other.invariant ∙ factor_later c.args.terms.now c.loop-other.other-index c.args.var c.loop-other-test.true (Rising-drop c.args.terms.now c.loop-other.other-index (Rising-from c.args.terms.now c.requires)) (grind arith)
