use Rattle.std.proofs.Common.{rules, ◌≤◌, min, length}
use Rattle.kernel_rules.proofs.EqualPlaces.{all_done}
use Rattle.kernel_rules.proofs.pairs.add_equal_places.Goals as goal

pub returns : goal.returns
returns c =
    let done : min (length c.args.first.now) (length c.args.second.now) ≤ c.loop-at.at = search rules in
    all_done c.args.vars.now.first.items c.args.vars.now.second.items c.args.first.now c.args.second.now c.loop-at.at c.loop-at.made.items c.args.made.now.items done c.loop-at.invariant
