-- What is written, the bounds that are left and the parentheses that are open make the whole list.
use Rattle.std.proofs.Common.{◌≡◌, ◌++◌, map, drop, codes}
use Rattle.text_writer.specs.Bytes.{repeated}
use Rattle.code_text.specs.BoundText.{bound_text, list_text}
use Rattle.code_text.specs.Names.{name_text}
use Rattle.code_text.proofs.bounds.+bound.Given as goal

abbrev pub invariant-write_list-loop-i : goal.invariant-write_list-loop-i
invariant-write_list-loop-i l =
    l.out.items ++ (list_text l.call (map (bound_text (name_text l.code)) (drop l.i l.bounds)) ++ repeated (codes ")") l.i)
    ≡ l.fn.out.items ++ list_text l.call (map (bound_text (name_text l.code)) l.bounds)
