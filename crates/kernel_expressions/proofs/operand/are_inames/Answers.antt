use Rattle.kernel_expressions.proofs.Inames.{inames_begin}
use Rattle.kernel_expressions.proofs.operand.are_inames.Goals as goal

pub returns : goal.returns
returns c = inames_begin _ _ _ _ c.in-Some-name_at._word.free c.in-Some.ensures.0 c.in-Some.ensures.1 c.in-Some-name_at.ensures c.in-Some-behind_sign.ensures.1
