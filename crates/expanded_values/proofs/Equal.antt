-- Folds that see no difference between a tree and the tree with forms put in, or with uses of rules replaced.
use Rattle.std.specs.Prelude.{◌≡◌, ℕ, Bool, true, false, List, map, Option, unwrap_or}
use Rattle.std.proofs.Common.{refl, ap, ap₂, ◌∙◌}
use Rattle.affine_rows.specs.declared.quasi.Quasi.{Quasi}
use Rattle.expr_tree.specs.declared.tree.Rel.{Rel}
use Rattle.expr_tree.specs.declared.tree.Cell.{Cell}
use Rattle.expr_tree.specs.declared.tree.Node.TheOpen.{Node-F, Test-F}
use Rattle.expr_tree.specs.declared.tree.Node.TheVariants as node
use Rattle.expr_tree.specs.declared.tree.Test.{Test}
use Rattle.expr_tree.specs.declared.tree.Expr.{Expr}
use Rattle.expr_tree.specs.Rewritten.{tree_of, rewritten, rewritten_test}
use Rattle.expr_tree.specs.Keeping.{all_parts}
use Rattle.expr_tree.proofs.AllParts.{all_made, all_tests_made}
use Rattle.quasi_forms.specs.Collected.{put_form}
use Rattle.kernel_ir.specs.Expanded.{putting, expanding}
use Rattle.expr_tree.proofs.Made.{of_expr, of_test, made-Literal, made-Leaf, made-Read, made-Call}
use Rattle.subst_rules.proofs.Expanding.{leaf_new}
use Rattle.expanded_values.proofs.Related.{Related, related, related_test}
use Rattle.expanded_values.proofs.Standing.{put_new}

module _ (A T : Type 0) (nd : Node-F A T A → A) (ts : Test-F A T A → T) where
  abbrev Same : A → A → Type 0
  Same a b = a ≡ b

  abbrev SameTest : T → T → Type 0
  SameTest t u = t ≡ u

  module _ (vs : List ℕ) (fs : List Quasi)
      (leaf : (q : Quasi) → nd (Node-F.Leaf (put_form vs fs q)) ≡ nd (Node-F.Leaf q))
      (read : (cell : Cell) (place : List Quasi) → nd (Node-F.Read cell (map (put_form vs fs) place)) ≡ nd (Node-F.Read cell place))
      (call : (rule : ℕ) (arguments : List Quasi) → nd (Node-F.Call rule (map (put_form vs fs) arguments)) ≡ nd (Node-F.Call rule arguments))
      (index : (rel : Rel) (a b : Quasi) → ts (Test-F.Index rel (put_form vs fs a) (put_form vs fs b)) ≡ ts (Test-F.Index rel a b)) where
    put_layers : Related (putting vs fs) all_parts A T A T nd ts nd ts Same SameTest
    put_layers = record {
      literal = λ n made. ap (of_expr A T nd ts) (put_new vs fs (node.Literal n) (Node-F.Literal n) (node.outs-Literal n)) ∙ made-Literal A T nd ts n;
      leaf = λ q made. ap (of_expr A T nd ts) (put_new vs fs (node.Leaf q) (Node-F.Leaf q) (node.outs-Leaf q)) ∙ (made-Leaf A T nd ts (put_form vs fs q) ∙ leaf q);
      read = λ cell place made. ap (of_expr A T nd ts) (put_new vs fs (node.Read cell place) (Node-F.Read cell place) (node.outs-Read cell place)) ∙ (made-Read A T nd ts cell (map (put_form vs fs) place) ∙ read cell place);
      call = λ rule arguments made. ap (of_expr A T nd ts) (put_new vs fs (node.Call rule arguments) (Node-F.Call rule arguments) (node.outs-Call rule arguments))
          ∙ (made-Call A T nd ts rule (map (put_form vs fs) arguments) ∙ call rule arguments);
      neg = λ a b h. ap (λ (x : A). nd (Node-F.Neg x)) h;
      inv = λ a b h. ap (λ (x : A). nd (Node-F.Inv x)) h;
      shl = λ a b by h. ap (λ (x : A). nd (Node-F.Shl x by)) h;
      shr = λ a b by h. ap (λ (x : A). nd (Node-F.Shr x by)) h;
      bin = λ op a b c d h g. ap₂ (λ (x y : A). nd (Node-F.Bin op x y)) h g;
      pick = λ t u a b c d f h g. ap (λ (x : T). nd (Node-F.Pick x a c)) f ∙ ap₂ (λ (x y : A). nd (Node-F.Pick u x y)) h g;
      cast = λ kind a b h. ap (λ (x : A). nd (Node-F.Cast kind x)) h;
      fold = λ op inames a b made h. ap (λ (x : A). nd (Node-F.Fold op inames x)) h;
      words = λ rel a b c d h g. ap₂ (λ (x y : A). ts (Test-F.Words rel x y)) h g;
      index = λ rel a b made more. index rel a b;
      all = λ t u v w h g. ap₂ (λ (x y : T). ts (Test-F.All x y)) h g;
      any = λ t u v w h g. ap₂ (λ (x y : T). ts (Test-F.Any x y)) h g;
      not = λ t u h. ap (λ (x : T). ts (Test-F.Not x)) h;
    }

    pub put_equal : (e : Expr) → of_expr A T nd ts (rewritten (putting vs fs) e) ≡ of_expr A T nd ts e
    put_equal e = related (putting vs fs) all_parts A T A T nd ts nd ts Same SameTest put_layers e (all_made e)

  -- whether the layer is no use of a rule
  abbrev pub uses_none : Node-F A T A → Bool
  uses_none (Node-F.Call rule arguments) = false
  uses_none _ = true

  module _ (at : ℕ → List Quasi → Option Expr) (old : Node-F A T A → A) (same : (y : Node-F A T A) → uses_none y ≡ true → nd y ≡ old y)
      (call : (rule : ℕ) (arguments : List Quasi) → of_expr A T nd ts (unwrap_or (at rule arguments) (tree_of (node.Call rule arguments))) ≡ old (Node-F.Call rule arguments)) where
    expanded_layers : Related (expanding at) all_parts A T A T nd ts old ts Same SameTest
    expanded_layers = record {
      literal = λ n made. ap (of_expr A T nd ts) (leaf_new at (node.Literal n) (Node-F.Literal n) (node.outs-Literal n)) ∙ (made-Literal A T nd ts n ∙ same (Node-F.Literal n) refl);
      leaf = λ q made. ap (of_expr A T nd ts) (leaf_new at (node.Leaf q) (Node-F.Leaf q) (node.outs-Leaf q)) ∙ (made-Leaf A T nd ts q ∙ same (Node-F.Leaf q) refl);
      read = λ cell place made. ap (of_expr A T nd ts) (leaf_new at (node.Read cell place) (Node-F.Read cell place) (node.outs-Read cell place)) ∙ (made-Read A T nd ts cell place ∙ same (Node-F.Read cell place) refl);
      call = λ rule arguments made. ap (of_expr A T nd ts) (leaf_new at (node.Call rule arguments) (Node-F.Call rule arguments) (node.outs-Call rule arguments)) ∙ call rule arguments;
      neg = λ a b h. ap (λ (x : A). nd (Node-F.Neg x)) h ∙ same (Node-F.Neg b) refl;
      inv = λ a b h. ap (λ (x : A). nd (Node-F.Inv x)) h ∙ same (Node-F.Inv b) refl;
      shl = λ a b by h. ap (λ (x : A). nd (Node-F.Shl x by)) h ∙ same (Node-F.Shl b by) refl;
      shr = λ a b by h. ap (λ (x : A). nd (Node-F.Shr x by)) h ∙ same (Node-F.Shr b by) refl;
      bin = λ op a b c d h g. ap₂ (λ (x y : A). nd (Node-F.Bin op x y)) h g ∙ same (Node-F.Bin op b d) refl;
      pick = λ t u a b c d f h g. ap (λ (x : T). nd (Node-F.Pick x a c)) f ∙ (ap₂ (λ (x y : A). nd (Node-F.Pick u x y)) h g ∙ same (Node-F.Pick u b d) refl);
      cast = λ kind a b h. ap (λ (x : A). nd (Node-F.Cast kind x)) h ∙ same (Node-F.Cast kind b) refl;
      fold = λ op inames a b made h. ap (λ (x : A). nd (Node-F.Fold op inames x)) h ∙ same (Node-F.Fold op inames b) refl;
      words = λ rel a b c d h g. ap₂ (λ (x y : A). ts (Test-F.Words rel x y)) h g;
      index = λ rel a b made more. refl;
      all = λ t u v w h g. ap₂ (λ (x y : T). ts (Test-F.All x y)) h g;
      any = λ t u v w h g. ap₂ (λ (x y : T). ts (Test-F.Any x y)) h g;
      not = λ t u h. ap (λ (x : T). ts (Test-F.Not x)) h;
    }

    pub expanded_equal : (e : Expr) → of_expr A T nd ts (rewritten (expanding at) e) ≡ of_expr A T old ts e
    expanded_equal e = related (expanding at) all_parts A T A T nd ts old ts Same SameTest expanded_layers e (all_made e)

    pub expanded_test_equal : (t : Test) → of_test A T nd ts (rewritten_test (expanding at) t) ≡ of_test A T old ts t
    expanded_test_equal t = related_test (expanding at) all_parts A T A T nd ts old ts Same SameTest expanded_layers t (all_tests_made t)
