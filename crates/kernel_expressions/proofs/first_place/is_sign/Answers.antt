use Rattle.std.proofs.Common.{ap}
use Rattle.kernel_expressions.specs.Texts.{text_of}
use Rattle.kernel_expressions.proofs.first_place.is_sign.Goals as goal

pub returns-in-Sign : goal.returns-in-Sign
returns-in-Sign c = (_, ap text_of c.in-Sign.is)
