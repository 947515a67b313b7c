-- Which of its texts an expression has where it stands.
use Rattle.expr_tree.specs.declared.tree.Op.{Op}
use Rattle.expr_tree.specs.declared.tree.Op.TheVariants.{Min, Max}
use Rattle.text_writer.specs.Bytes.{Bytes}
use Rattle.kernel_printer.specs.declared.values.Standing.{Standing}
use Rattle.kernel_printer.specs.declared.values.Standing.TheVariants.{Alone, Below, First}
use Rattle.kernel_printer.specs.ValueText.{ValueText}

abbrev pub standing_text : Standing → ValueText → Bytes
standing_text Alone t = t.whole
standing_text Below t = t.operand
standing_text First t = t.first

-- where the first of two values stands
abbrev pub first_standing : Op → Standing
first_standing Min = First
first_standing Max = First
first_standing _ = Below
