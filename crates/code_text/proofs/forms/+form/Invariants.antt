-- What is written, followed by what is left of the sum, is the whole sum.
use Rattle.std.proofs.Common.{◌≡◌, ◌++◌, drop, map}
use Rattle.affine_rows.specs.declared.quasi.Quasi.{out-Quasi}
use Rattle.text_writer.specs.NumberText.{sum_text}
use Rattle.code_text.specs.FormText.{term_part, floor_part, form_text}
use Rattle.code_text.specs.Names.{name_text}
use Rattle.code_text.proofs.forms.+form.Given as goal

abbrev pub invariant-write_form-loop-term : goal.invariant-write_form-loop-term
invariant-write_form-loop-term l =
    l.out.items ++ sum_text l.first (map (term_part (name_text l.code)) (drop l.term-index l.terms) ++ map (floor_part (name_text l.code)) l.floors) (out-Quasi l.form).constant
    ≡ l.fn.out.items ++ form_text (name_text l.code) l.form

abbrev pub invariant-write_form-loop-floor : goal.invariant-write_form-loop-floor
invariant-write_form-loop-floor l =
    l.out.items ++ sum_text l.first (map (floor_part (name_text l.code)) (drop l.floor-index l.floors)) (out-Quasi l.form).constant
    ≡ l.fn.out.items ++ form_text (name_text l.code) l.form
