-- The value of an expression with rule uses and reductions.
use Rattle.std.specs.Prelude.{ℕ, ◌-◌, ◌^◌, ℤ, pos, Bool, true, false, ◌&&◌, List, [], ◌∷◌, map, Option}
use Rattle.std.specs.List.{list_all}
use Rattle.wrap_words.specs.declared.kind.Kind.{Kind}
use Rattle.wrap_words.specs.declared.kind.Kind.TheVariants.{I32, I64, U32, U64}
use Rattle.wrap_words.specs.declared.kind.Word.{Word}
use Rattle.wrap_words.specs.Words.{word_of}
use Rattle.affine_rows.specs.Forms.{form_at}
use Rattle.expr_tree.specs.declared.tree.Op.{Op}
use Rattle.expr_tree.specs.declared.tree.Op.TheVariants.{Add, Mul, Min, Max}
use Rattle.expr_tree.specs.declared.tree.Node.{Node, fold-Node, map-Node}
use Rattle.expr_tree.specs.declared.tree.Node.TheOpen.{Node-F, Test-F, Expr-F}
use Rattle.expr_tree.specs.declared.tree.Test.{Test, fold-Test, map-Test}
use Rattle.expr_tree.specs.declared.tree.Expr.{Expr, fold-Expr}
use Rattle.expr_tree.specs.Value.{Store, Sense, TestSense, node_sense, test_sense, apply}
use Rattle.expr_tree.specs.Scenes.{Scene}

-- the first four operators combine
abbrev pub combines : Op → Bool
combines Add = true
combines Mul = true
combines Min = true
combines Max = true
combines _ = false

-- the greatest and the least number of a kind
abbrev pub greatest_word : Kind → Word
greatest_word I32 = record { bits = 2 ^ 31 - 1 }
greatest_word I64 = record { bits = 2 ^ 63 - 1 }
greatest_word U32 = record { bits = 2 ^ 32 - 1 }
greatest_word U64 = record { bits = 2 ^ 64 - 1 }

abbrev pub least_word : Kind → Word
least_word I32 = record { bits = 2 ^ 31 }
least_word I64 = record { bits = 2 ^ 63 }
least_word U32 = record { bits = 0 }
least_word U64 = record { bits = 0 }

-- the word from which a reduction begins
abbrev pub neutral : Op → Kind → Word
neutral Mul k = word_of k (pos 1)
neutral Min k = greatest_word k
neutral Max k = least_word k
neutral _ k = word_of k (pos 0)

-- the words combined with the first one, in their order
abbrev pub combined : Op → Kind → Word → List Word → Word
combined op k w [] = w
combined op k w (v ∷ vs) = combined op k (apply op k w v) vs

-- what a reduction means, of which the senses are those of its expression at its points
abbrev pub reduced : Op → Option Kind → List Sense → Sense
reduced op first senses = record {
  first = first;
  has = λ k. combines op && list_all (λ s. s.has k) senses;
  at = λ k. combined op k (neutral op k) (map (λ s. s.at k) senses);
}

-- What an expression is evaluated in: cells, what the use of a rule means, and the points of a reduction.
pub record World : Type 0 where
  pub store : Store
  pub call : ℕ → List ℤ → Scene → Sense
  pub points : List ℕ → Scene → List Scene

-- One node, with what each child means in its place: a reduction combines the child at each of its points, and all else is as in one scene.
abbrev pub node_meaning : World → Node-F (Scene → Sense) (Scene → TestSense) (Scene → Sense) → Scene → Sense
node_meaning w (Node-F.Call rule arguments) at = w.call rule (map (form_at at.env) arguments) at
node_meaning w (Node-F.Fold op inames a) at = reduced op (a at).first (map a (w.points inames at))
node_meaning w n at = node_sense at.env w.store (map-Node _ _ _ _ _ _ (λ a. a at) (λ t. t at) (λ e. e at) n)

abbrev pub test_meaning : World → Test-F (Scene → Sense) (Scene → TestSense) (Scene → Sense) → Scene → TestSense
test_meaning w t at = test_sense at.env w.store (map-Test _ _ _ _ _ _ (λ a. a at) (λ t. t at) (λ e. e at) t)

abbrev pub expr_meaning : Expr-F (Scene → Sense) (Scene → TestSense) (Scene → Sense) → Scene → Sense
expr_meaning e = e.node

abbrev pub meaning_of_node : World → Node → Scene → Sense
meaning_of_node w = fold-Node (Scene → Sense) (Scene → TestSense) (Scene → Sense) (node_meaning w) (test_meaning w) expr_meaning

abbrev pub meaning_of_test : World → Test → Scene → TestSense
meaning_of_test w = fold-Test (Scene → Sense) (Scene → TestSense) (Scene → Sense) (node_meaning w) (test_meaning w) expr_meaning

abbrev pub meaning_of : World → Expr → Scene → Sense
meaning_of w = fold-Expr (Scene → Sense) (Scene → TestSense) (Scene → Sense) (node_meaning w) (test_meaning w) expr_meaning

-- without rule uses and reductions
abbrev pub plain_node : Node-F Bool Bool Bool → Bool
plain_node (Node-F.Literal n) = true
plain_node (Node-F.Leaf form) = true
plain_node (Node-F.Read cell place) = true
plain_node (Node-F.Call rule arguments) = false
plain_node (Node-F.Neg a) = a
plain_node (Node-F.Inv a) = a
plain_node (Node-F.Shl a by) = a
plain_node (Node-F.Shr a by) = a
plain_node (Node-F.Bin op a b) = a && b
plain_node (Node-F.Pick t a b) = t && (a && b)
plain_node (Node-F.Cast kind a) = a
plain_node (Node-F.Fold op inames a) = false

abbrev pub plain_test : Test-F Bool Bool Bool → Bool
plain_test (Test-F.Words rel a b) = a && b
plain_test (Test-F.Index rel a b) = true
plain_test (Test-F.All p q) = p && q
plain_test (Test-F.Any p q) = p && q
plain_test (Test-F.Not p) = p

abbrev pub plain_expr : Expr-F Bool Bool Bool → Bool
plain_expr e = e.node

abbrev pub is_plain_node : Node → Bool
is_plain_node = fold-Node Bool Bool Bool plain_node plain_test plain_expr

abbrev pub is_plain_test : Test → Bool
is_plain_test = fold-Test Bool Bool Bool plain_node plain_test plain_expr

abbrev pub is_plain : Expr → Bool
is_plain = fold-Expr Bool Bool Bool plain_node plain_test plain_expr
