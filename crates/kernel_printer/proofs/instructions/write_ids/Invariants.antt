-- What is written, followed by what is left, is the whole.
use Rattle.std.proofs.Common.{◌≡◌, ◌∷◌, [], ◌++◌, drop, true}
use Rattle.text_writer.specs.Bytes.{separated}
use Rattle.kernel_printer.proofs.instructions.write_ids.Given as goal

abbrev pub invariant-loop-id : goal.invariant-loop-id
invariant-loop-id l = l.out.items ++ separated l.first (58 ∷ []) (drop l.id-index l.ids) ≡ l.fn.out.items ++ separated true (58 ∷ []) l.ids
