-- How the variables of a code are spelled.
use Rattle.std.specs.Prelude.{ℕ, ◌-◌, Bool, false, ◌&&◌, nat_le, nat_lt, if◌then◌else◌, [], ◌∷◌, ◌++◌, length, slice_get, slice_index_or, unwrap_or, codes}
use Rattle.code_tree.specs.declared.code.Code.{Code}
use Rattle.code_tree.specs.declared.code.Target.{Target}
use Rattle.code_tree.specs.declared.code.Target.TheVariants.{C, OpenCl}
use Rattle.text_writer.specs.Bytes.{Bytes}

-- the axes of OpenCL: three of groups, three of items in a group
abbrev pub axis_text : ℕ → Bytes
axis_text n = slice_index_or (codes "lp_g0" ∷ codes "lp_g1" ∷ codes "lp_g2" ∷ codes "lp_l0" ∷ codes "lp_l1" ∷ codes "lp_l2" ∷ []) n []

-- the variable is one of the six that follow the parameters
abbrev pub is_axis : Target → ℕ → ℕ → Bool
is_axis C params v = false
is_axis OpenCl params v = nat_le params v && nat_lt (v - params) 6

-- the spelling of a variable
abbrev pub name_text : Code → ℕ → Bytes
name_text code v =
    if is_axis code.target (length code.params) v then axis_text (v - length code.params) else codes "v_" ++ unwrap_or (slice_get code.names v) []
