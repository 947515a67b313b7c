-- What is written, followed by the turns that are left, is the whole subscript.
use Rattle.std.proofs.Common.{◌≡◌, ◌+◌, ◌++◌, map, drop}
use Rattle.code_text.specs.FormText.{form_text}
use Rattle.code_text.specs.BoundText.{places_text}
use Rattle.code_text.specs.Names.{name_text}
use Rattle.code_text.proofs.Lists.{turns}
use Rattle.code_text.proofs.bounds.write_places.Given as goal

abbrev pub invariant-loop-i : goal.invariant-loop-i
invariant-loop-i l =
    l.out.items ++ turns (map (form_text (name_text l.code)) (drop (l.i + 1) l.places)) (map (form_text (name_text l.code)) (drop l.i l.shapes))
    ≡ l.fn.out.items ++ places_text (map (form_text (name_text l.code)) l.places) (map (form_text (name_text l.code)) l.shapes)
