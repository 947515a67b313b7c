use Rattle.std.proofs.Common.{◌≡◌, arith, sym, subst}
use Rattle.std.proofs.lemmas.Grind.{common_steps}
use Rattle.untyped.specs.Depths.{IsMeasured}
use Rattle.untyped.specs.Readings.{untyped_of}
use Rattle.untyped.proofs.Depths.{measured}
use Rattle.untyped.proofs.steps.read_untyped.Goals as goal

pub returns-clause-measured : goal.returns-clause-measured
returns-clause-measured g c =
    let same : c.take_top.result ≡ untyped_of (g.S.Scope.roles c.args.scope.now) c.args.steps.now = grind (arith, common_steps) in
    subst IsMeasured (sym same) (measured (g.S.Scope.roles c.args.scope.now) c.args.steps.now)
