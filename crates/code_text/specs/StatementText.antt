-- The texts of statements.
use Rattle.std.specs.Prelude.{ℕ, ◌+◌, true, if◌then◌else◌, List, [], ◌∷◌, ◌++◌, map, Option, Some, None, codes}
use Rattle.std.specs.Fmt.{decimal}
use Rattle.wrap_words.specs.declared.kind.Kind.{Kind}
use Rattle.wrap_words.specs.declared.kind.Kind.TheVariants.{I32}
use Rattle.expr_tree.specs.declared.tree.Cell.{Cell}
use Rattle.expr_tree.specs.declared.tree.Expr.{Expr}
use Rattle.expr_tree.specs.declared.tree.Test.{Test}
use Rattle.expr_tree.specs.declared.row.QuasiRow.{QuasiRow}
use Rattle.code_tree.specs.declared.code.Bound.{Bound}
use Rattle.code_tree.specs.declared.code.Flat.{Flat}
use Rattle.code_tree.specs.declared.code.CodeCell.{CodeCell}
use Rattle.code_tree.specs.declared.code.Code.{Code}
use Rattle.code_tree.specs.declared.code.Target.{Target}
use Rattle.code_tree.specs.declared.code.Block.{Block, fold-Block}
use Rattle.code_tree.specs.declared.code.Stmt.{Stmt, fold-Stmt}
use Rattle.code_tree.specs.declared.code.Stmt.TheOpen.{Block-F, Stmt-F}
use Rattle.code_tree.specs.Cells.{kind_in}
use Rattle.text_writer.specs.Bytes.{Bytes, in_square, repeated, separated}
use Rattle.code_text.specs.KindText.{type_text, index_text}
use Rattle.code_text.specs.FormText.{form_text}
use Rattle.code_text.specs.BoundText.{bound_text}
use Rattle.code_text.specs.Names.{name_text}
use Rattle.code_text.specs.ValueText.{store_text, subscript_text, text_of_value, text_of_test}

-- two spaces for each block round a line
abbrev pub blanks : ℕ → Bytes
blanks depth = repeated (codes "  ") depth

abbrev pub line : ℕ → Bytes → Bytes
line depth text = blanks depth ++ text ++ codes "\n"

abbrev pub row_text : (ℕ → Bytes) → QuasiRow → Bytes
row_text names row = form_text names row.form ++ (if row.equal then codes " == 0" else codes " >= 0")

-- the rows of a guard
abbrev pub rows_text : (ℕ → Bytes) → List QuasiRow → Bytes
rows_text names rows = separated true (codes " && ") (map (row_text names) rows)

-- the length of a cell, where it has one
abbrev pub length_text : Option ℕ → Bytes
length_text None = []
length_text (Some n) = in_square (decimal n)

-- the first value of a cell
abbrev pub zero_text : Option ℕ → Bytes
zero_text None = codes " = 0;"
zero_text (Some n) = codes " = {0};"

-- a type and a name of a cell, with its length
abbrev pub declared_text : Target → CodeCell → Bytes
declared_text target c = type_text target c.kind ++ codes " v_" ++ c.name ++ length_text c.length

abbrev pub cell_lines : Target → ℕ → List CodeCell → Bytes
cell_lines target depth [] = []
cell_lines target depth (c ∷ cs) = line depth (declared_text target c ++ zero_text c.length) ++ cell_lines target depth cs

-- What a part of a body stands for: the target of its first assignment, and its lines at a depth.
pub record Lines : Type 0 where
  pub first : Option Cell
  pub at : ℕ → Bytes

abbrev pub first_known : Option Cell → Option Cell → Option Cell
first_known None o = o
first_known (Some cell) o = Some cell

abbrev pub no_lines : Lines
no_lines = record { first = None; at = λ depth. [] }

-- one part and then another
abbrev pub then_lines : Lines → Lines → Lines
then_lines a b = record { first = first_known a.first b.first; at = λ depth. a.at depth ++ b.at depth }

abbrev pub all_lines : List Lines → Lines
all_lines [] = no_lines
all_lines (a ∷ more) = then_lines a (all_lines more)

-- a block: its cells, and its statements
abbrev pub block_lines : Code → Block-F Lines Lines → Lines
block_lines code b = record {
  first = (all_lines b.children).first;
  at = λ depth. cell_lines code.target depth b.cells ++ (all_lines b.children).at depth;
}

-- a block in braces, one deeper than the head before it
abbrev pub inside_text : (ℕ → Bytes) → ℕ → Bytes
inside_text body depth = codes " {\n" ++ body (depth + 1) ++ line depth (codes "}")

-- a head with a block
abbrev pub braced : Bytes → Lines → Lines
braced head body = record { first = body.first; at = λ depth. blanks depth ++ head ++ inside_text body.at depth }

abbrev pub for_text : Code → ℕ → Bound → Bound → Bytes
for_text code var lower upper =
    codes "for (" ++ index_text code.target ++ codes " " ++ name_text code var ++ codes " = " ++ bound_text (name_text code) lower
    ++ codes "; " ++ name_text code var ++ codes " <= " ++ bound_text (name_text code) upper ++ codes "; ++" ++ name_text code var ++ codes ")"

-- the kind that is asked of a data test: that of the first assignment inside, and int32 where there is none
abbrev pub asked_kind : Code → Option Cell → Kind
asked_kind code None = I32
asked_kind code (Some cell) = kind_in code cell

-- the heads of a guard and of a data test, and an assignment
abbrev pub guard_text : Code → List QuasiRow → Bytes
guard_text code rows = codes "if (" ++ rows_text (name_text code) rows ++ codes ")"

abbrev pub check_text : Code → Kind → Test → Bytes
check_text code kind test = codes "if " ++ (text_of_test code test).at kind

abbrev pub set_text : Code → Cell → Option Flat → Expr → Bytes
set_text code target subscript value =
    store_text code target ++ subscript_text (name_text code) subscript ++ codes " = " ++ (text_of_value code value).at (kind_in code target) ++ codes ";"

abbrev pub barrier_text : Bytes
barrier_text = codes "barrier(CLK_LOCAL_MEM_FENCE | CLK_GLOBAL_MEM_FENCE);"

-- One statement, with what its block stands for in the block's place.
abbrev pub stmt_lines : Code → Stmt-F Lines Lines → Lines
stmt_lines code (Stmt-F.Loop var lower upper body) = braced (for_text code var lower upper) body
stmt_lines code (Stmt-F.When rows body) = braced (guard_text code rows) body
stmt_lines code (Stmt-F.Check test body) = braced (check_text code (asked_kind code body.first) test) body
stmt_lines code (Stmt-F.Set target subscript value) =
    record { first = Some target; at = λ depth. line depth (set_text code target subscript value) }
stmt_lines code Stmt-F.Barrier = record { first = None; at = λ depth. line depth barrier_text }

abbrev pub lines_of : Code → Block → Lines
lines_of code = fold-Block Lines Lines (stmt_lines code) (block_lines code)

abbrev pub lines_of_stmt : Code → Stmt → Lines
lines_of_stmt code = fold-Stmt Lines Lines (stmt_lines code) (block_lines code)
