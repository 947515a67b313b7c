-- What is written, followed by what is left, is the whole list.
use Rattle.std.proofs.Common.{◌≡◌, ◌++◌, drop, map, codes, true}
use Rattle.text_writer.specs.Bytes.{separated}
use Rattle.code_text.specs.SignatureText.{param_text, array_text, entries_of}
use Rattle.code_text.proofs.signature.write_entries.Given as goal

abbrev pub invariant-loop-param : goal.invariant-loop-param
invariant-loop-param l =
    l.out.items ++ separated l.first (codes ", ") (map (param_text l.code) (drop l.param-index l.param-items) ++ map (array_text l.code.target) l.code.arrays)
    ≡ l.fn.out.items ++ separated true (codes ", ") (entries_of l.code)

abbrev pub invariant-loop-array : goal.invariant-loop-array
invariant-loop-array l =
    l.out.items ++ separated l.first (codes ", ") (map (array_text l.code.target) (drop l.array-index l.array-items))
    ≡ l.fn.out.items ++ separated true (codes ", ") (entries_of l.code)
