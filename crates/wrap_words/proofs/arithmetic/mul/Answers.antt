use Rattle.std.proofs.Common.{ap}
use Rattle.wrap_words.proofs.Products.{product_bits}
use Rattle.wrap_words.proofs.arithmetic.mul.Goals as goal

pub returns-clause-value : goal.returns-clause-value
returns-clause-value c =
    rw (c.from.ensures, c.from-2.ensures, c.modulus.ensures) (ap (λ b. record { bits = b }) (product_bits c.args.kind c.args.a c.args.b))
