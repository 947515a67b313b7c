-- What the tests evaluate, and how they rewrite.
use Rattle.std.specs.Prelude.{◌≡◌, ℕ, ◌^◌, nat_eq, ℤ, pos, Bool, true, false, if◌then◌else◌, List, [], ◌∷◌, Option, Some, None, Ok, All, FitsSigned}
use Rattle.std.specs.Int.{w64}
use Rattle.std.proofs.lemmas.Bool.{true≢false}
use Rattle.std.proofs.lemmas.List.Elements.{All-nil}
use Rattle.std.proofs.Common.{sym}
use Rattle.wrap_words.specs.declared.kind.Kind.{Kind}
use Rattle.wrap_words.specs.declared.kind.Kind.TheVariants.{I32, U32}
use Rattle.wrap_words.specs.declared.kind.Word.{Word}
use Rattle.affine_rows.specs.declared.quasi.Quasi.{Quasi}
use Rattle.affine_rows.specs.Forms.{affine}
use Rattle.expr_tree.specs.declared.tree.Op.TheVariants.{Add, Mul}
use Rattle.expr_tree.specs.declared.tree.Rel.TheVariants.{Less}
use Rattle.expr_tree.specs.declared.tree.Cell.{Cell}
use Rattle.expr_tree.specs.declared.tree.Cell.TheVariants.{Array, Temp}
use Rattle.expr_tree.specs.declared.tree.Node.{Node, out-Node}
use Rattle.expr_tree.specs.declared.tree.Node.TheOpen.{Node-F}
use Rattle.expr_tree.specs.declared.tree.Node.TheVariants as node
use Rattle.expr_tree.specs.declared.tree.Test.{Test}
use Rattle.expr_tree.specs.declared.tree.Test.TheVariants as test
use Rattle.expr_tree.specs.declared.tree.Expr.{Expr}
use Rattle.expr_tree.specs.Value.{Store}
use Rattle.expr_tree.specs.Rewritten.{Rules, tree_of}

-- the place without subscripts, which fits 64 bits
abbrev pub no_subscripts : List ℤ → Bool
no_subscripts [] = true
no_subscripts (z ∷ zs) = false

abbrev pub no_subscripts_fit : (place : List ℤ) → no_subscripts place ≡ true → All (FitsSigned w64) place
no_subscripts_fit [] h = All-nil (FitsSigned w64)
no_subscripts_fit (z ∷ zs) h = absurd (true≢false (sym h))

-- the kind and the word of a cell
abbrev pub sample_kind : Cell → Kind
sample_kind (Array n) = U32
sample_kind (Temp n) = I32

abbrev pub sample_word : Cell → Word
sample_word (Array n) = record { bits = 2 ^ 31 }
sample_word (Temp n) = record { bits = 5 }

-- arrays without subscripts that hold 2^31, and temporaries that hold 5
abbrev pub sample_store : Store
sample_store = record { kind = sample_kind; has = λ c p. no_subscripts p; word = λ c p. sample_word c }

-- `(1 < a ? (u32)(-t) : 0) + 7`
abbrev pub sample_value : Expr
sample_value = tree_of (node.Bin Add
    (tree_of (node.Pick (test.Words Less (tree_of (node.Literal 1)) (tree_of (node.Read (Array 0) [])))
    (tree_of (node.Cast U32 (tree_of (node.Neg (tree_of (node.Read (Temp 0) []))))))
    (tree_of (node.Literal 0))))
    (tree_of (node.Literal 7)))

-- one subscript, the first variable
abbrev pub sample_place : List Quasi
sample_place = affine (pos 0) ((0, pos 1) ∷ []) ∷ []

-- the read of a cell plus a number
abbrev pub sample_sum : Cell → List Quasi → ℕ → Expr
sample_sum cell place n = tree_of (node.Bin Add (tree_of (node.Read cell place)) (tree_of (node.Literal n)))

-- `(a[i] + 1)*(b[i] + 2)`
abbrev pub sample_product : List Quasi → Expr
sample_product place = tree_of (node.Bin Mul (sample_sum (Array 0) place 1) (sample_sum (Array 1) place 2))

-- the tree that is put for a read of the array of this number: that of the ninth array
abbrev pub renamed_cell : ℕ → Cell → List Quasi → Option Expr
renamed_cell from (Array n) place = if nat_eq n from then Some (tree_of (node.Read (Array 9) place)) else None
renamed_cell from (Temp n) place = None

-- one node, of which only reads are replaced
abbrev pub renamed : ℕ → Node-F Node Test Expr → Option Expr
renamed from (Node-F.Read cell place) = renamed_cell from cell place
renamed from _ = None

-- besides, each form of a test becomes 7, and the inames of a reduction become 8
abbrev pub renaming : ℕ → Rules
renaming from = record {
  leaf = λ n. Ok (renamed from (out-Node n));
  form = λ q. Ok (Some (affine (pos 7) []));
  over = λ inames. Ok (Some (8 ∷ []));
}
