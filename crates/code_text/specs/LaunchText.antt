-- The first lines of a text.
use Rattle.std.specs.Prelude.{ℕ, zero, suc, ℤ, pos, ◌+ℤ◌, List, [], ◌∷◌, ◌++◌, length, Option, Some, None, codes}
use Rattle.std.specs.Fmt.{decimal}
use Rattle.affine_rows.specs.declared.quasi.Quasi.{Quasi, Quasi-F, out-Quasi}
use Rattle.affine_rows.specs.declared.quasi.Floor.{Floor}
use Rattle.code_tree.specs.declared.code.Bound.{Bound, Bound-F, out-Bound}
use Rattle.code_tree.specs.declared.code.Code.{Code}
use Rattle.code_tree.specs.declared.code.Target.{Target}
use Rattle.code_tree.specs.declared.code.Target.TheVariants.{C, OpenCl}
use Rattle.text_writer.specs.Bytes.{Bytes}
use Rattle.text_writer.specs.NumberText.{number_text}
use Rattle.code_text.specs.BoundText.{bound_text}
use Rattle.code_text.specs.Names.{name_text}

-- the number of a bound that is one
abbrev pub constant_of : List (ℕ × ℤ) → ℕ → ℤ → Option ℤ
constant_of [] zero constant = Some constant
constant_of [] (suc floors) constant = None
constant_of (t ∷ ts) floors constant = None

abbrev pub form_number : Quasi-F Floor Quasi → Option ℤ
form_number q = constant_of q.terms (length q.floors) q.constant

abbrev pub bound_case : Bound-F Bound → Option ℤ
bound_case (Bound-F.Form q) = form_number (out-Quasi q)
bound_case (Bound-F.FloorOf q by) = None
bound_case (Bound-F.MinusFloorOf q by) = None
bound_case (Bound-F.Least bounds) = None
bound_case (Bound-F.Greatest bounds) = None

abbrev pub bound_number : Bound → Option ℤ
bound_number b = bound_case (out-Bound b)

-- a launch number, 1 more than its bound: a number where the bound is one
abbrev pub launch_number : Bytes → Option ℤ → Bytes
launch_number text None = codes "[lp_max(1, 1 + " ++ text ++ codes ")]"
launch_number text (Some number) = codes "[" ++ number_text (number +ℤ pos 1) ++ codes "]"

abbrev pub group_text : (ℕ → Bytes) → Bound → Bytes
group_text names b = launch_number (bound_text names b) (bound_number b)

-- the items of a local axis
abbrev pub items_text : ℕ → Bytes
items_text items = codes " [" ++ decimal items ++ codes "]"

-- the three group axes
abbrev pub groups_text : Code → Bytes
groups_text code =
    group_text (name_text code) code.g0 ++ codes " " ++ group_text (name_text code) code.g1 ++ codes " " ++ group_text (name_text code) code.g2

-- the three local axes
abbrev pub all_items : Code → Bytes
all_items code = items_text code.l0 ++ items_text code.l1 ++ items_text code.l2

-- the launch line
abbrev pub launch_text : Code → Bytes
launch_text code = codes "/* loopw opencl groups " ++ groups_text code ++ codes " items" ++ all_items code ++ codes " */\n"

-- what stands before the functions
abbrev pub title_text : Code → Target → Bytes
title_text code C = codes "/* loopw c */\n#include <stdint.h>\n"
title_text code OpenCl = launch_text code
