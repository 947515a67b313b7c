-- The texts of values and of tests.
use Rattle.std.specs.Prelude.{ℕ, zero, suc, ◌%◌, ℤ, List, [], ◌∷◌, ◌++◌, length, Option, Some, None, unwrap_or, slice_get, unsigned_abs, codes}
use Rattle.std.specs.Fmt.{decimal}
use Rattle.wrap_words.specs.declared.kind.Kind.{Kind}
use Rattle.wrap_words.specs.Words.{modulus_of, residue}
use Rattle.affine_rows.specs.declared.quasi.Quasi.{Quasi, Quasi-F, out-Quasi}
use Rattle.affine_rows.specs.declared.quasi.Floor.{Floor}
use Rattle.expr_tree.specs.declared.tree.Cell.{Cell}
use Rattle.expr_tree.specs.declared.tree.Cell.TheVariants.{Array, Temp}
use Rattle.expr_tree.specs.declared.tree.Op.{Op}
use Rattle.expr_tree.specs.declared.tree.Op.TheVariants.{Add, Mul, Min, Max, Sub, And, Or, Xor}
use Rattle.expr_tree.specs.declared.tree.Rel.{Rel}
use Rattle.expr_tree.specs.declared.tree.Rel.TheVariants.{Less, LessEqual, Equal, NotEqual}
use Rattle.expr_tree.specs.declared.tree.Node.{Node, fold-Node}
use Rattle.expr_tree.specs.declared.tree.Node.TheOpen.{Node-F, Test-F, Expr-F}
use Rattle.expr_tree.specs.declared.tree.Test.{Test, fold-Test}
use Rattle.expr_tree.specs.declared.tree.Expr.{Expr, fold-Expr}
use Rattle.expr_tree.specs.Value.{first_of_two}
use Rattle.code_tree.specs.declared.code.Flat.{Flat}
use Rattle.code_tree.specs.declared.code.CodeCell.{CodeCell}
use Rattle.code_tree.specs.declared.code.CodeArray.{CodeArray}
use Rattle.code_tree.specs.declared.code.Code.{Code}
use Rattle.code_tree.specs.declared.code.Target.{Target}
use Rattle.code_tree.specs.Cells.{cells_of, kind_in}
use Rattle.text_writer.specs.Bytes.{Bytes, in_round, in_square}
use Rattle.code_text.specs.KindText.{suffix_text, unsigned_kind, cast_text}
use Rattle.code_text.specs.FormText.{form_text}
use Rattle.code_text.specs.BoundText.{flat_text}
use Rattle.code_text.specs.Names.{name_text}

abbrev pub array_name : Option CodeArray → Bytes
array_name None = []
array_name (Some a) = codes "v_" ++ a.name

abbrev pub cell_name : Option CodeCell → Bytes
cell_name None = []
cell_name (Some c) = codes "v_" ++ c.name

-- the name of an array, or of a private or local cell
abbrev pub store_text : Code → Cell → Bytes
store_text code (Array k) = array_name (slice_get code.arrays k)
store_text code (Temp k) = cell_name (slice_get (cells_of code) k)

-- a subscript, where there is one
abbrev pub subscript_text : (ℕ → Bytes) → Option Flat → Bytes
subscript_text names None = []
subscript_text names (Some flat) = in_square (flat_text names flat)

-- the subscript of a read: the place of a read is a number that names an entry of the code's subscripts
abbrev pub place_text : Code → List Quasi → Bytes
place_text code [] = []
place_text code (q ∷ qs) = subscript_text (name_text code) (slice_get code.flats (unsigned_abs (out-Quasi q).constant))

-- a number of a kind
abbrev pub literal_text : Target → Kind → ℕ → Bytes
literal_text target kind n = cast_text target kind ++ decimal (n % modulus_of kind) ++ codes "u"

-- a leaf: a literal where the form is a constant, and else the form converted
abbrev pub leaf_text : Target → Kind → Bytes → List (ℕ × ℤ) → ℕ → ℤ → Bytes
leaf_text target kind text [] zero constant = literal_text target kind (residue constant (modulus_of kind))
leaf_text target kind text [] (suc floors) constant = cast_text target kind ++ in_round text
leaf_text target kind text (t ∷ ts) floors constant = cast_text target kind ++ in_round text

abbrev pub leaf_of : Target → Kind → Bytes → Quasi-F Floor Quasi → Bytes
leaf_of target kind text q = leaf_text target kind text q.terms (length q.floors) q.constant

-- before the first value of an operation; one that wraps is done over the unsigned kind and converted back
abbrev pub wrapping_text : Target → Kind → Bytes
wrapping_text target kind = cast_text target kind ++ codes "(" ++ cast_text target (unsigned_kind kind)

abbrev pub before_text : Target → Op → Kind → Bytes
before_text target Add kind = wrapping_text target kind
before_text target Mul kind = wrapping_text target kind
before_text target Min kind = codes "lp_min_" ++ suffix_text kind ++ codes "("
before_text target Max kind = codes "lp_max_" ++ suffix_text kind ++ codes "("
before_text target Sub kind = wrapping_text target kind
before_text target And kind = wrapping_text target kind
before_text target Or kind = wrapping_text target kind
before_text target Xor kind = wrapping_text target kind

-- between its two values
abbrev pub between_text : Target → Op → Kind → Bytes
between_text target Add kind = codes " + " ++ cast_text target (unsigned_kind kind)
between_text target Mul kind = codes " * " ++ cast_text target (unsigned_kind kind)
between_text target Min kind = codes ", "
between_text target Max kind = codes ", "
between_text target Sub kind = codes " - " ++ cast_text target (unsigned_kind kind)
between_text target And kind = codes " & " ++ cast_text target (unsigned_kind kind)
between_text target Or kind = codes " | " ++ cast_text target (unsigned_kind kind)
between_text target Xor kind = codes " ^ " ++ cast_text target (unsigned_kind kind)

-- `(T)((U)X + (U)Y)`, or `lp_min_i32(X, Y)`
abbrev pub operation_text : Target → Op → Kind → Bytes → Bytes → Bytes
operation_text target op kind a b = before_text target op kind ++ a ++ between_text target op kind ++ b ++ codes ")"

abbrev pub relation_text : Rel → Bytes
relation_text Less = codes " < "
relation_text LessEqual = codes " <= "
relation_text Equal = codes " == "
relation_text NotEqual = codes " != "

-- What a subtree stands for: the kind of its first read or cast outside inner tests, and its text at a kind.
pub record ExprText : Type 0 where
  pub first : Option Kind
  pub at : Kind → Bytes

pub record TestText : Type 0 where
  pub at : Kind → Bytes

-- One node, with what each child stands for in its place. A code has no use of a rule and no reduction.
abbrev pub node_text : Code → Node-F ExprText TestText ExprText → ExprText
node_text code (Node-F.Literal n) = record { first = None; at = λ k. literal_text code.target k n }
node_text code (Node-F.Leaf form) =
    record { first = None; at = λ k. leaf_of code.target k (form_text (name_text code) form) (out-Quasi form) }
node_text code (Node-F.Read cell place) =
    record { first = Some (kind_in code cell); at = λ k. store_text code cell ++ place_text code place }
node_text code (Node-F.Call rule arguments) = record { first = None; at = λ k. [] }
node_text code (Node-F.Neg a) = record {
  first = a.first;
  at = λ k. cast_text code.target k ++ codes "(0u - " ++ cast_text code.target (unsigned_kind k) ++ a.at k ++ codes ")";
}
node_text code (Node-F.Inv a) = record {
  first = a.first;
  at = λ k. cast_text code.target k ++ codes "(~" ++ cast_text code.target (unsigned_kind k) ++ a.at k ++ codes ")";
}
node_text code (Node-F.Shl a by) =
    record { first = a.first; at = λ k. wrapping_text code.target k ++ a.at k ++ codes " << " ++ decimal by ++ codes ")" }
node_text code (Node-F.Shr a by) =
    record { first = a.first; at = λ k. wrapping_text code.target k ++ a.at k ++ codes " >> " ++ decimal by ++ codes ")" }
node_text code (Node-F.Bin op a b) =
    record { first = first_of_two a.first b.first; at = λ k. operation_text code.target op k (a.at k) (b.at k) }
node_text code (Node-F.Pick test a b) = record {
  first = first_of_two a.first b.first;
  at = λ k. codes "(" ++ test.at k ++ codes " ? " ++ a.at k ++ codes " : " ++ b.at k ++ codes ")";
}
node_text code (Node-F.Cast to a) =
    record { first = Some to; at = λ k. cast_text code.target to ++ a.at (unwrap_or a.first to) }
node_text code (Node-F.Fold op inames a) = record { first = a.first; at = λ k. [] }

-- the kind of the two sides of a comparison of words, where nothing else tells it the kind that is asked
abbrev pub side_kind : ExprText → ExprText → Kind → Kind
side_kind a b k = unwrap_or (first_of_two a.first b.first) k

-- One test, likewise.
abbrev pub test_text : Code → Test-F ExprText TestText ExprText → TestText
test_text code (Test-F.Words rel a b) =
    record { at = λ k. codes "(" ++ a.at (side_kind a b k) ++ relation_text rel ++ b.at (side_kind a b k) ++ codes ")" }
test_text code (Test-F.Index rel a b) =
    record { at = λ k. codes "(" ++ form_text (name_text code) a ++ relation_text rel ++ form_text (name_text code) b ++ codes ")" }
test_text code (Test-F.All p q) = record { at = λ k. codes "(" ++ p.at k ++ codes " && " ++ q.at k ++ codes ")" }
test_text code (Test-F.Any p q) = record { at = λ k. codes "(" ++ p.at k ++ codes " || " ++ q.at k ++ codes ")" }
test_text code (Test-F.Not p) = record { at = λ k. codes "(!" ++ p.at k ++ codes ")" }

abbrev pub expr_text : Expr-F ExprText TestText ExprText → ExprText
expr_text e = e.node

abbrev pub text_of_node : Code → Node → ExprText
text_of_node code = fold-Node ExprText TestText ExprText (node_text code) (test_text code) expr_text

abbrev pub text_of_test : Code → Test → TestText
text_of_test code = fold-Test ExprText TestText ExprText (node_text code) (test_text code) expr_text

abbrev pub text_of_value : Code → Expr → ExprText
text_of_value code = fold-Expr ExprText TestText ExprText (node_text code) (test_text code) expr_text
