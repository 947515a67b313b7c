-- What may be meant in the parts of a kernel.
use Rattle.std.specs.Prelude.{ℕ, false, nat_lt, List, ◌++◌, length}
use Rattle.expr_tree.specs.Scenes.{is_among}
use Rattle.kernel_ir.specs.declared.kernel.Kernel.{Kernel}
use Rattle.kernel_ir.specs.NameSpace.{iname_vars}
use Rattle.kernel_ir.specs.Mentions.{has_cell}
use Rattle.kernel_formed.specs.Sound.{Meant}

-- in instructions and rows: parameters and inames
abbrev pub meant_in_insns : Kernel → Meant
meant_in_insns K = record {
  var = is_among (K.params ++ iname_vars K);
  cell = has_cell K;
  rule = λ r. nat_lt r (length K.rules);
  iname = is_among (iname_vars K);
}

-- over these variables and the kernel's parameters, without reductions: in a rule's body, and in shapes and assumptions
abbrev pub meant_over : Kernel → List ℕ → Meant
meant_over K own = record {
  var = is_among (own ++ K.params);
  cell = has_cell K;
  rule = λ r. nat_lt r (length K.rules);
  iname = λ v. false;
}
