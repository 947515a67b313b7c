-- The spelling that the code hands round.
use Rattle.kernel_ir.specs.NameSpace.{name_of}
use Rattle.kernel_printer.specs.declared.spelling.Spelling as held
use Rattle.kernel_printer.specs.FormText.{Spelling}

abbrev pub spelling_of : held.Spelling → Spelling
spelling_of s = record { name = name_of s.kernel.now; order = s.order.now }
