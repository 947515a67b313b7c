-- What is written, followed by what is left, is the whole.
use Rattle.std.proofs.Common.{◌≡◌, ◌++◌, drop, map}
use Rattle.text_writer.specs.Bytes.{separated}
use Rattle.kernel_ir.specs.NameSpace.{name_of}
use Rattle.kernel_printer.specs.Spelling.{vars_text}
use Rattle.kernel_printer.proofs.spelling.write_vars.Given as goal

abbrev pub invariant-loop-var : goal.invariant-loop-var
invariant-loop-var l = l.out.items ++ separated l.first l.gap (map (name_of l.kernel) (drop l.var-index l.vars)) ≡ l.fn.out.items ++ vars_text l.kernel l.gap l.vars
