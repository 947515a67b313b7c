-- What is written, followed by the times that are left, is the whole.
use Rattle.std.proofs.Common.{◌≡◌, ◌-◌, ◌++◌}
use Rattle.text_writer.specs.Bytes.{repeated}
use Rattle.text_writer.proofs.pieces.put_repeated.Given as goal

abbrev pub invariant-loop : goal.invariant-loop
invariant-loop l = l.out.items ++ repeated l.text (l.count - l.counter) ≡ l.fn.out.items ++ repeated l.text l.count
