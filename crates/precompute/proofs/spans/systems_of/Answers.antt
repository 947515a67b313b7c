use Rattle.std.proofs.Common.{◌∷◌, [], List, All, subst, sym}
use Rattle.std.proofs.lemmas.List.Elements.{All-append, All-cons, All-nil}
use Rattle.affine_rows.specs.declared.row.System.{System}
use Rattle.elimination.specs.Stages.{IsSystem}
use Rattle.precompute.proofs.spans.systems_of.Goals as goal

pub loop-part-preserved : goal.loop-part-preserved
loop-part-preserved c = subst (λ (made : List System). All IsSystem made) (sym c.in_ok-push.ensures.ok)
    (All-append IsSystem c.loop-part.systems (c.in_ok-system.system ∷ []) c.loop-part.invariant
    (All-cons IsSystem c.in_ok-system.system [] c.in_ok-system.ensures (All-nil IsSystem)))
