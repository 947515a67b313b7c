-- What is written, followed by what is left, is the whole.
use Rattle.std.proofs.Common.{◌≡◌, ◌++◌, drop, map, codes}
use Rattle.text_writer.specs.Bytes.{separated}
use Rattle.kernel_printer.specs.FormText.{form_text, forms_text}
use Rattle.kernel_printer.specs.Spelled.{spelling_of}
use Rattle.kernel_printer.proofs.forms.write_forms.Given as goal

abbrev pub invariant-loop-form : goal.invariant-loop-form
invariant-loop-form l = l.out.items ++ separated l.first (codes ", ") (map (form_text (spelling_of l.spelling)) (drop l.form-index l.forms)) ≡ l.fn.out.items ++ forms_text (spelling_of l.spelling) l.forms
