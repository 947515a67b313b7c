use Rattle.std.proofs.Common.{◌≡◌, ◌++◌, drop}
use Rattle.std.specs.Prelude.{flat_map}
use Rattle.affine_rows.specs.declared.quasi.Floor.{out-Floor}
use Rattle.untyped_parts.specs.Mentions.{vars_in}
use Rattle.untyped_parts.proofs.mentions.+vars.Given as goal

abbrev pub invariant-add_floor_vars-loop-floor : goal.invariant-add_floor_vars-loop-floor
invariant-add_floor_vars-loop-floor l =
    l.vars.items ++ flat_map (λ f. vars_in (out-Floor f).inner) (drop l.floor-index l.floors) ≡ l.initial.vars.items ++ flat_map (λ f. vars_in (out-Floor f).inner) l.floors
