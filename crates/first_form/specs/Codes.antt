-- The code of a kernel of the one form: one loop round one assignment.
use Rattle.std.specs.Prelude.{ℕ, pos, negsuc, true, false, [], ◌∷◌, Some}
use Rattle.wrap_words.specs.declared.kind.Kind.TheVariants.{I32}
use Rattle.affine_rows.specs.Forms.{affine}
use Rattle.expr_tree.specs.declared.tree.Cell.TheVariants.{Array}
use Rattle.expr_tree.specs.declared.tree.Op.TheVariants.{Mul}
use Rattle.expr_tree.specs.declared.tree.Node.TheVariants as node
use Rattle.expr_tree.specs.declared.tree.Expr.{Expr}
use Rattle.code_tree.specs.declared.code.Bound.{Bound}
use Rattle.code_tree.specs.declared.code.Bound.TheVariants as bound
use Rattle.code_tree.specs.declared.code.Flat.{Flat}
use Rattle.code_tree.specs.declared.code.Flat.TheVariants as flat
use Rattle.code_tree.specs.declared.code.Target.TheVariants.{C}
use Rattle.code_tree.specs.declared.code.Block.{Block, roll-Block}
use Rattle.code_tree.specs.declared.code.Stmt.{Stmt}
use Rattle.code_tree.specs.declared.code.Stmt.TheVariants as stmt
use Rattle.code_tree.specs.declared.code.Code.{Code}
use Rattle.first_form.specs.declared.form.FirstForm.{FirstForm}
use Rattle.first_form.specs.Kernels.{of_node, iname_form}

-- N*A[I], whose subscript is entry 0 of the code's subscripts
abbrev pub code_value : ℕ → Expr
code_value factor = of_node (node.Bin Mul (of_node (node.Literal factor)) (of_node (node.Read (Array 0) (affine (pos 0) [] ∷ []))))

abbrev pub loop_subscript : Flat
loop_subscript = flat.Form iname_form

abbrev pub assignment : ℕ → Stmt
assignment factor = stmt.Set (Array 1) (Some loop_subscript) (code_value factor)

-- a block without cells that holds one statement
abbrev pub block_of : Stmt → Block
block_of one = roll-Block (record { cells = []; children = one ∷ [] })

-- I from 0 to P - 1
abbrev pub the_loop : ℕ → Stmt
the_loop factor = stmt.Loop 1 (bound.Form (affine (pos 0) [])) (bound.Form (affine (negsuc 0) ((0, pos 1) ∷ []))) (block_of (assignment factor))

-- the bound of an axis that is not in use
abbrev pub no_axis : Bound
no_axis = bound.Form (affine (pos 0) [])

abbrev pub code_of : FirstForm → Code
code_of f = record {
  target = C;
  names = f.param ∷ f.iname ∷ [];
  params = 0 ∷ [];
  arrays = record { name = f.input; kind = I32; stored = false } ∷ record { name = f.output; kind = I32; stored = true } ∷ [];
  g0 = no_axis;
  g1 = no_axis;
  g2 = no_axis;
  l0 = 1;
  l1 = 1;
  l2 = 1;
  locals = [];
  flats = loop_subscript ∷ [];
  body = block_of (the_loop f.factor);
}
