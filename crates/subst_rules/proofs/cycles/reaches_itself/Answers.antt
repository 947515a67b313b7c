use Rattle.std.proofs.Common.{◌∙◌, ℕ, ◌<◌, false, sym, subst}
use Rattle.std.proofs.lemmas.List.{get_or_default}
use Rattle.subst_rules.proofs.Walking.{found_exactly}
use Rattle.subst_rules.proofs.cycles.reaches_itself.Goals as goal

pub returns : goal.returns
returns c =
    let e = c.in_ok-walk.ensures in
    found_exactly c.args.bodies.now c.args.rule c.in_ok-walk.walk.work.items e.walked c.index.result.now c.requires
    (sym (e.walk.same c.args.rule) ∙ (get_or_default c.in_ok-walk.walk.marks.items c.args.rule false c.index.result.now (subst (λ (n : ℕ). c.args.rule < n) (sym e.count) c.requires) ∙ sym c.index.ensures))
