use Rattle.std.proofs.Common.{◌∙◌, ap, ℕ, ◌+◌, rules, FitsSigned}
use Rattle.std.specs.Int.{w64}
use Rattle.std.proofs.lemmas.Int.{to_z-of_z}
use Rattle.affine_rows.specs.Forms.{constant_count}
use Rattle.code_grammar.proofs.Counted.{constant_of}
use Rattle.code_grammar.proofs.growing.Growing.whole_constant.Goals as goal

pub returns : goal.returns
returns c =
    let fits : FitsSigned w64 c.self.inside.constant = search rules in
    let value = simp to_z-of_z at c.unsigned_abs.ensures.value in
    ap (λ (n : ℕ). n + c.self.inside.floors_constant) value ∙ (constant_of _ _ _ _ _ _ c.self.invariant ∙ ap constant_count c.self.view_is)
