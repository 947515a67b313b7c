use Rattle.std.proofs.Common.{rules, FitsSigned}
use Rattle.std.specs.Int.{w64}
use Rattle.std.proofs.lemmas.Int.{to_z-of_z}
use Rattle.code_grammar.proofs.Counted.{form_of}
use Rattle.code_grammar.proofs.growing.Growing.into_quasi.Goals as goal

pub returns-clause-form : goal.returns-clause-form
returns-clause-form c =
    let fits : FitsSigned w64 c.self.inside.constant = search rules in
    simp to_z-of_z (form_of _ _ _ _ _ _ c.self.invariant)
