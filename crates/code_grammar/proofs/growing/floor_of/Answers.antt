use Rattle.std.proofs.Common.{FitsSigned}
use Rattle.std.specs.Int.{w64}
use Rattle.std.proofs.lemmas.Int.{to_z-of_z}
use Rattle.code_grammar.proofs.Counted.{floor_within}
use Rattle.code_grammar.proofs.growing.floor_of.Goals as goal

pub returns-clause-within : goal.returns-clause-within
returns-clause-within c =
    let times_fit : FitsSigned w64 c.args.times = c.ranges.times in
    let by_fits : FitsSigned w64 c.args.by = c.ranges.by in
    simp to_z-of_z (floor_within c.args.times c.into_quasi.result c.args.by c.into_quasi.ensures.form c.requires.positive c.requires.entry)
