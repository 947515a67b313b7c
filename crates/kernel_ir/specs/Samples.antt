-- A small kernel.
use Rattle.std.specs.Prelude.{ℕ, pos, negsuc, Bool, true, false, List, [], ◌∷◌, None, codes}
use Rattle.wrap_words.specs.declared.kind.Kind.TheVariants.{I32}
use Rattle.affine_rows.specs.declared.quasi.Quasi.{Quasi}
use Rattle.affine_rows.specs.Forms.{affine}
use Rattle.expr_tree.specs.declared.tree.Cell.TheVariants.{Array}
use Rattle.expr_tree.specs.declared.tree.Op.TheVariants.{Mul}
use Rattle.expr_tree.specs.declared.tree.Node.TheVariants as node
use Rattle.expr_tree.specs.declared.tree.Expr.{Expr}
use Rattle.expr_tree.specs.declared.row.QuasiRow.{QuasiRow}
use Rattle.expr_tree.specs.Rewritten.{tree_of}
use Rattle.kernel_ir.specs.declared.kernel.Tag.TheVariants.{Plain as no_axis}
use Rattle.kernel_ir.specs.declared.kernel.Storing.TheVariants.{Plain}
use Rattle.kernel_ir.specs.declared.kernel.Insn.{Insn}
use Rattle.kernel_ir.specs.declared.kernel.Array as array
use Rattle.kernel_ir.specs.declared.kernel.Kernel.{Kernel}

-- the one iname is variable 0
abbrev pub iname_form : Quasi
iname_form = affine (pos 0) ((0, pos 1) ∷ [])

abbrev pub eight : Quasi
eight = affine (pos 8) []

abbrev pub at_least_zero : Quasi → QuasiRow
at_least_zero form = record { form = form; equal = false }

-- an array of eight words
abbrev pub eight_words : List ℕ → Bool → array.Array
eight_words name stored = record { name = name; kind = I32; shape = eight ∷ []; stored = stored }

-- `2*a[i]`
abbrev pub doubled : Expr
doubled = tree_of (node.Bin Mul (tree_of (node.Leaf (affine (pos 2) []))) (tree_of (node.Read (Array 0) (iname_form ∷ []))))

-- `out[i] = 2*a[i]`, repeated over these inames
abbrev pub doubling_insn : List ℕ → Insn
doubling_insn inames = record {
  id = codes "insn_0";
  line = 1;
  inames = inames;
  rows = [];
  test = None;
  cell = Array 1;
  place = iname_form ∷ [];
  storing = Plain;
  value = doubled;
  deps = [];
  auto = true;
}

-- `out[i] = 2*a[i]` for i from 0 to 7, with an instruction that has these inames
abbrev pub doubling : List ℕ → Kernel
doubling inames = record {
  names = codes "i" ∷ codes "a" ∷ codes "out" ∷ [];
  params = [];
  inames = record { var = 0; tag = no_axis } ∷ [];
  priority = 0 ∷ [];
  rows = at_least_zero iname_form ∷ at_least_zero (affine (pos 7) ((0, negsuc 0) ∷ [])) ∷ [];
  assumptions = [];
  arrays = eight_words (codes "a") false ∷ eight_words (codes "out") true ∷ [];
  temps = [];
  rules = [];
  insns = doubling_insn inames ∷ [];
}
