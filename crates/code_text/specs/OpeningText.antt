-- The axes and the local cells, which open a body.
use Rattle.std.specs.Prelude.{List, [], ◌∷◌, ◌++◌, codes}
use Rattle.code_tree.specs.declared.code.CodeCell.{CodeCell}
use Rattle.code_tree.specs.declared.code.Target.{Target}
use Rattle.code_tree.specs.declared.code.Target.TheVariants.{C, OpenCl}
use Rattle.text_writer.specs.Bytes.{Bytes}
use Rattle.code_text.specs.StatementText.{blanks, declared_text}

-- an axis, by the call that tells it
abbrev pub axis_line : Bytes → Bytes → Bytes
axis_line name call = codes "  const long " ++ name ++ codes " = (long)" ++ call ++ codes ";\n"

-- what stands behind the signature
abbrev pub axis_lines : Target → Bytes
axis_lines C = []
axis_lines OpenCl =
    axis_line (codes "lp_g0") (codes "get_group_id(0)") ++ axis_line (codes "lp_g1") (codes "get_group_id(1)")
    ++ axis_line (codes "lp_g2") (codes "get_group_id(2)") ++ axis_line (codes "lp_l0") (codes "get_local_id(0)")
    ++ axis_line (codes "lp_l1") (codes "get_local_id(1)") ++ axis_line (codes "lp_l2") (codes "get_local_id(2)")

-- the local cells
abbrev pub local_line : Target → CodeCell → Bytes
local_line target c = blanks 1 ++ codes "__local " ++ declared_text target c ++ codes ";\n"

abbrev pub local_lines : Target → List CodeCell → Bytes
local_lines target [] = []
local_lines target (c ∷ cs) = local_line target c ++ local_lines target cs
