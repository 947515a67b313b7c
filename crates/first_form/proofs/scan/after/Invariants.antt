use Rattle.std.proofs.Common.{map, drop}
use Rattle.std.specs.List.{concat}
use Rattle.first_form.proofs.Fronts.{GoesOn}
use Rattle.first_form.proofs.scan.after.Given as goal

abbrev pub invariant-loop-text : goal.invariant-loop-text
invariant-loop-text l = GoesOn l.bytes (concat (map (λ t. t.now) l.texts)) l.rest (concat (map (λ t. t.now) (drop l.text-index l.texts)))
