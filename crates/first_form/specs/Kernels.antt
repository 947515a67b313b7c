-- The kernel for which a file of the one form stands.
use Rattle.std.specs.Prelude.{ℕ, pos, negsuc, true, false, [], ◌∷◌, None, codes}
use Rattle.wrap_words.specs.declared.kind.Kind.TheVariants.{I32}
use Rattle.affine_rows.specs.declared.quasi.Quasi.{Quasi}
use Rattle.affine_rows.specs.Forms.{affine}
use Rattle.expr_tree.specs.declared.tree.Cell.TheVariants.{Array}
use Rattle.expr_tree.specs.declared.tree.Op.TheVariants.{Mul}
use Rattle.expr_tree.specs.declared.tree.Node.{Node}
use Rattle.expr_tree.specs.declared.tree.Node.TheVariants as node
use Rattle.expr_tree.specs.declared.tree.Expr.{Expr}
use Rattle.expr_tree.specs.declared.row.QuasiRow.{QuasiRow}
use Rattle.kernel_ir.specs.declared.kernel.Tag.TheVariants.{Plain as no_axis}
use Rattle.kernel_ir.specs.declared.kernel.Storing.TheVariants.{Plain}
use Rattle.kernel_ir.specs.declared.kernel.Insn.{Insn}
use Rattle.kernel_ir.specs.declared.kernel.Kernel.{Kernel}
use Rattle.first_form.specs.declared.form.FirstForm.{FirstForm}

-- the parameter is variable 0, the iname is variable 1
abbrev pub param_form : Quasi
param_form = affine (pos 0) ((0, pos 1) ∷ [])

abbrev pub iname_form : Quasi
iname_form = affine (pos 0) ((1, pos 1) ∷ [])

abbrev pub at_least_zero : Quasi → QuasiRow
at_least_zero form = record { form = form; equal = false }

abbrev pub of_node : Node → Expr
of_node n = record { node = n }

-- N*A[I]
abbrev pub product_of : ℕ → Expr
product_of factor = of_node (node.Bin Mul (of_node (node.Leaf (affine (pos factor) []))) (of_node (node.Read (Array 0) (iname_form ∷ []))))

-- O[I] = N*A[I], on the fifth line
abbrev pub the_store : ℕ → Insn
the_store factor = record {
  id = codes "insn_0";
  line = 5;
  inames = 1 ∷ [];
  rows = [];
  test = None;
  cell = Array 1;
  place = iname_form ∷ [];
  storing = Plain;
  value = product_of factor;
  deps = [];
  auto = true;
}

abbrev pub kernel_of : FirstForm → Kernel
kernel_of f = record {
  names = f.param ∷ f.iname ∷ f.input ∷ f.output ∷ [];
  params = 0 ∷ [];
  inames = record { var = 1; tag = no_axis } ∷ [];
  priority = 1 ∷ [];
  rows = at_least_zero iname_form ∷ at_least_zero (affine (negsuc 0) ((0, pos 1) ∷ (1, negsuc 0) ∷ [])) ∷ [];
  assumptions = [];
  arrays =
      record { name = f.input; kind = I32; shape = param_form ∷ []; stored = false }
      ∷ record { name = f.output; kind = I32; shape = param_form ∷ []; stored = true }
      ∷ [];
  temps = [];
  rules = [];
  insns = the_store f.factor ∷ [];
}
