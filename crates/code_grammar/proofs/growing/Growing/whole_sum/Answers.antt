use Rattle.std.proofs.Common.{◌∙◌, ap}
use Rattle.affine_rows.specs.Forms.{sum_count}
use Rattle.code_grammar.proofs.Counted.{size_of}
use Rattle.code_grammar.proofs.growing.Growing.whole_sum.Goals as goal

pub returns : goal.returns
returns c = size_of _ _ _ _ _ _ c.self.invariant ∙ ap sum_count c.self.view_is
