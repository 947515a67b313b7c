-- The texts of values and of tests.
use Rattle.std.specs.Prelude.{ℕ, List, [], ◌∷◌, ◌++◌, slice_get, codes}
use Rattle.std.specs.Fmt.{decimal}
use Rattle.affine_rows.specs.declared.quasi.Quasi.{Quasi}
use Rattle.expr_tree.specs.declared.tree.Op.{Op}
use Rattle.expr_tree.specs.declared.tree.Op.TheVariants.{Add, Mul, Min, Max, Sub, And, Or, Xor}
use Rattle.expr_tree.specs.declared.tree.Rel.{Rel}
use Rattle.expr_tree.specs.declared.tree.Rel.TheVariants.{Less, LessEqual, Equal, NotEqual}
use Rattle.expr_tree.specs.declared.tree.Node.{Node, fold-Node}
use Rattle.expr_tree.specs.declared.tree.Node.TheOpen.{Node-F, Test-F, Expr-F}
use Rattle.expr_tree.specs.declared.tree.Test.{Test, fold-Test}
use Rattle.expr_tree.specs.declared.tree.Expr.{Expr, fold-Expr}
use Rattle.text_writer.specs.Bytes.{Bytes, in_round}
use Rattle.kernel_ir.specs.declared.kernel.Kernel.{Kernel}
use Rattle.kernel_ir.specs.NameSpace.{name_of}
use Rattle.kind_faults.specs.Words.{kind_word}
use Rattle.kernel_printer.specs.Spelling.{cell_name, rule_name, vars_text}
use Rattle.kernel_printer.specs.FormText.{Spelling, form_text, forms_text, place_text, operand_text, first_text}

-- Where an expression stands: alone, below a node, or as the first of two values of `min` or `max`.
pub record ValueText : Type 0 where
  pub whole : Bytes
  pub operand : Bytes
  pub first : Bytes

-- what is no leaf has one text
abbrev pub everywhere : Bytes → ValueText
everywhere text = record { whole = text; operand = text; first = text }

abbrev pub leaf_text : Spelling → Quasi → ValueText
leaf_text s q = record { whole = form_text s q; operand = operand_text s q; first = first_text s q }

-- `(X + Y)`, or `min(X, Y)`
abbrev pub opening_text : Op → Bytes
opening_text Min = codes "min("
opening_text Max = codes "max("
opening_text _ = codes "("

abbrev pub infix_text : Op → Bytes
infix_text Add = codes " + "
infix_text Mul = codes " * "
infix_text Min = codes ", "
infix_text Max = codes ", "
infix_text Sub = codes " - "
infix_text And = codes " & "
infix_text Or = codes " | "
infix_text Xor = codes " ^ "

abbrev pub first_of : Op → ValueText → Bytes
first_of Min a = a.first
first_of Max a = a.first
first_of _ a = a.operand

abbrev pub operation_text : Op → ValueText → ValueText → Bytes
operation_text op a b = opening_text op ++ first_of op a ++ infix_text op ++ b.operand ++ codes ")"

-- how a reduction combines; the first four operators do
abbrev pub folding_text : Op → Bytes
folding_text Add = codes "sum"
folding_text Mul = codes "product"
folding_text Min = codes "min"
folding_text Max = codes "max"
folding_text _ = []

-- the inames of a reduction: one bare, several in parentheses
abbrev pub over_text : Kernel → List ℕ → Bytes
over_text K (v ∷ []) = name_of K v
over_text K vars = in_round (vars_text K (codes ", ") vars)

abbrev pub comparison_text : Rel → Bytes
comparison_text Less = codes " < "
comparison_text LessEqual = codes " <= "
comparison_text Equal = codes " == "
comparison_text NotEqual = codes " != "

-- One node, with the texts of each child in its place.
abbrev pub node_text : Kernel → Spelling → Node-F ValueText Bytes ValueText → ValueText
node_text K s (Node-F.Literal n) = everywhere (decimal n)
node_text K s (Node-F.Leaf form) = leaf_text s form
node_text K s (Node-F.Read cell place) = everywhere (cell_name K cell ++ place_text s place)
node_text K s (Node-F.Call rule arguments) = everywhere (rule_name (slice_get K.rules rule) ++ in_round (forms_text s arguments))
node_text K s (Node-F.Neg a) = everywhere (codes "-" ++ a.operand)
node_text K s (Node-F.Inv a) = everywhere (codes "~" ++ a.operand)
node_text K s (Node-F.Shl a by) = everywhere (codes "(" ++ a.operand ++ codes " << " ++ decimal by ++ codes ")")
node_text K s (Node-F.Shr a by) = everywhere (codes "(" ++ a.operand ++ codes " >> " ++ decimal by ++ codes ")")
node_text K s (Node-F.Bin op a b) = everywhere (operation_text op a b)
node_text K s (Node-F.Pick t a b) = everywhere (codes "if(" ++ t ++ codes ", " ++ a.operand ++ codes ", " ++ b.operand ++ codes ")")
node_text K s (Node-F.Cast kind a) = everywhere (codes "cast(" ++ kind_word kind ++ codes ", " ++ a.operand ++ codes ")")
node_text K s (Node-F.Fold op inames a) = everywhere (folding_text op ++ codes "(" ++ over_text K inames ++ codes ", " ++ a.operand ++ codes ")")

-- One test, likewise. Each has parentheses.
abbrev pub test_text : Kernel → Spelling → Test-F ValueText Bytes ValueText → Bytes
test_text K s (Test-F.Words rel a b) = codes "(" ++ a.operand ++ comparison_text rel ++ b.operand ++ codes ")"
test_text K s (Test-F.Index rel a b) = codes "(" ++ operand_text s a ++ comparison_text rel ++ operand_text s b ++ codes ")"
test_text K s (Test-F.All p q) = codes "(" ++ p ++ codes " and " ++ q ++ codes ")"
test_text K s (Test-F.Any p q) = codes "(" ++ p ++ codes " or " ++ q ++ codes ")"
test_text K s (Test-F.Not p) = codes "(not " ++ p ++ codes ")"

abbrev pub expr_text : Expr-F ValueText Bytes ValueText → ValueText
expr_text e = e.node

abbrev pub text_of_node : Kernel → Spelling → Node → ValueText
text_of_node K s = fold-Node ValueText Bytes ValueText (node_text K s) (test_text K s) expr_text

abbrev pub text_of_test : Kernel → Spelling → Test → Bytes
text_of_test K s = fold-Test ValueText Bytes ValueText (node_text K s) (test_text K s) expr_text

abbrev pub text_of_value : Kernel → Spelling → Expr → ValueText
text_of_value K s = fold-Expr ValueText Bytes ValueText (node_text K s) (test_text K s) expr_text
