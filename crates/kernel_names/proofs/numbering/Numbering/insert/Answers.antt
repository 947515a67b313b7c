use Rattle.std.proofs.Common.{arith}
use Rattle.kernel_names.proofs.NameLaws.{numbered_more}
use Rattle.kernel_names.proofs.numbering.Numbering.insert.Goals as goal

pub invariant_of-self-2 : goal.invariant_of-self-2
invariant_of-self-2 c = numbered_more c.self.inside.names c.insert.new.self c.args.name.now c.self.invariant (omega (arith, c.if-len.false, c.len.ensures)) (rw (← c.in_ok-copy.ensures) c.in_ok-insert.ensures.names)
