-- What is written, followed by what is left, is the whole.
use Rattle.std.proofs.Common.{◌≡◌, ◌++◌, drop, map, true, codes}
use Rattle.text_writer.specs.Bytes.{separated}
use Rattle.std.specs.Fmt.{decimal}
use Rattle.kernel_printer.proofs.lines.write_numbers.Given as goal

abbrev pub invariant-loop-number : goal.invariant-loop-number
invariant-loop-number l = l.out.items ++ separated l.first (codes ", ") (map decimal (drop l.number-index l.numbers)) ≡ l.fn.out.items ++ separated true (codes ", ") (map decimal l.numbers)
