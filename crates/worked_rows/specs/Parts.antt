-- Parts of which the kernels are made.
use Rattle.std.specs.Prelude.{ℕ, ℤ, pos, negsuc, Bool, true, false, List, [], ◌∷◌, map, None}
use Rattle.wrap_words.specs.declared.kind.Kind.TheVariants.{I32}
use Rattle.wrap_words.specs.declared.kind.Word.{Word}
use Rattle.wrap_words.specs.Words.{word_of}
use Rattle.affine_rows.specs.declared.quasi.Quasi.{Quasi}
use Rattle.affine_rows.specs.Forms.{affine}
use Rattle.expr_tree.specs.declared.tree.Op.{Op}
use Rattle.expr_tree.specs.declared.tree.Cell.{Cell}
use Rattle.expr_tree.specs.declared.tree.Cell.TheVariants.{Array, Temp}
use Rattle.expr_tree.specs.declared.tree.Node.TheVariants as node
use Rattle.expr_tree.specs.declared.tree.Expr.{Expr}
use Rattle.expr_tree.specs.declared.row.QuasiRow.{QuasiRow}
use Rattle.expr_tree.specs.Rewritten.{tree_of}
use Rattle.kernel_ir.specs.declared.kernel.Array as array
use Rattle.kernel_ir.specs.declared.kernel.Insn.{Insn}
use Rattle.kernel_ir.specs.declared.kernel.Iname.{Iname}
use Rattle.kernel_ir.specs.declared.kernel.Tag.TheVariants.{Plain as no_axis}
use Rattle.kernel_ir.specs.declared.kernel.Storing.{Storing}

-- the words of numbers
abbrev pub int32s : List ℤ → List Word
int32s zs = map (word_of I32) zs

-- a number and a variable as index forms
abbrev pub number : ℕ → Quasi
number n = affine (pos n) []

abbrev pub variable : ℕ → Quasi
variable v = affine (pos 0) ((v, pos 1) ∷ [])

-- a variable plus a number
abbrev pub further : ℕ → ℕ → Quasi
further v n = affine (pos n) ((v, pos 1) ∷ [])

abbrev pub at_least_zero : Quasi → QuasiRow
at_least_zero form = record { form = form; equal = false }

-- the rows of `0 <= v < u`
abbrev pub below : ℕ → ℕ → List QuasiRow
below v u = at_least_zero (variable v) ∷ at_least_zero (affine (negsuc 0) ((u, pos 1) ∷ (v, negsuc 0) ∷ [])) ∷ []

-- an iname that is on no axis
abbrev pub plain : ℕ → Iname
plain v = record { var = v; tag = no_axis }

-- an index form as a value, and the read of an array at a place
abbrev pub leaf : Quasi → Expr
leaf form = tree_of (node.Leaf form)

abbrev pub read : ℕ → Quasi → Expr
read n place = tree_of (node.Read (Array n) (place ∷ []))

-- the read of a temporary without subscripts
abbrev pub read_temp : ℕ → Expr
read_temp n = tree_of (node.Read (Temp n) [])

-- an operator on two values, and the use of a rule of one parameter
abbrev pub combination : Op → Expr → Expr → Expr
combination op x y = tree_of (node.Bin op x y)

abbrev pub call : ℕ → Quasi → Expr
call rule argument = tree_of (node.Call rule (argument ∷ []))

-- an array of signed words of 32 bits, of one subscript
abbrev pub int32_array : Bool → List ℕ → Quasi → array.Array
int32_array stored name size = record { name = name; kind = I32; shape = size ∷ []; stored = stored }

abbrev pub input : List ℕ → Quasi → array.Array
input = int32_array false

abbrev pub output : List ℕ → Quasi → array.Array
output = int32_array true

-- an instruction without rows of its own and without a data test
abbrev pub instruction : List ℕ → ℕ → List ℕ → Cell → List Quasi → Storing → Expr → List (List ℕ) → Insn
instruction id line inames cell place storing value deps = record {
  id = id;
  line = line;
  inames = inames;
  rows = [];
  test = None;
  cell = cell;
  place = place;
  storing = storing;
  value = value;
  deps = deps;
  auto = true;
}
