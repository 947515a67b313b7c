-- What is written, followed by what is left of the sum, is the whole sum.
use Rattle.std.proofs.Common.{◌≡◌, ◌++◌, drop, map}
use Rattle.affine_rows.specs.declared.quasi.Quasi.{out-Quasi}
use Rattle.text_writer.specs.NumberText.{sum_text}
use Rattle.kernel_ir.specs.NameSpace.{name_of}
use Rattle.kernel_printer.specs.FormText.{term_part, floor_part, form_text}
use Rattle.kernel_printer.specs.Spelled.{spelling_of}
use Rattle.kernel_printer.proofs.forms.+form.Given as goal

abbrev pub invariant-write_quasi-loop-term : goal.invariant-write_quasi-loop-term
invariant-write_quasi-loop-term l =
    l.out.items ++ sum_text l.first (map (term_part (name_of l.spelling.kernel.now)) (drop l.term-index l.terms) ++ map (floor_part (spelling_of l.spelling)) l.floors) (out-Quasi l.form).constant
    ≡ l.fn.out.items ++ form_text (spelling_of l.spelling) l.form

abbrev pub invariant-write_quasi-loop-floor : goal.invariant-write_quasi-loop-floor
invariant-write_quasi-loop-floor l =
    l.out.items ++ sum_text l.first (map (floor_part (spelling_of l.spelling)) (drop l.floor-index l.floors)) (out-Quasi l.form).constant
    ≡ l.fn.out.items ++ form_text (spelling_of l.spelling) l.form
