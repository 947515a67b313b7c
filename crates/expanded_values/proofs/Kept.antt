-- The kinds of expressions and their reductions are the same once uses of rules are replaced.
use Rattle.std.specs.Prelude.{◌≡◌, ℕ, zero, suc, Bool, true, false, ◌&&◌, List, [], ◌++◌, slice_get, Option, Some, None, unwrap_or}
use Rattle.std.proofs.Common.{refl, ap, ap₂, ◌∙◌}
use Rattle.wrap_words.specs.declared.kind.Kind.{Kind}
use Rattle.affine_rows.specs.declared.quasi.Quasi.{Quasi}
use Rattle.expr_tree.specs.declared.tree.Node.TheOpen.{Node-F}
use Rattle.expr_tree.specs.declared.tree.Node.TheVariants as node
use Rattle.expr_tree.specs.declared.tree.Test.{Test}
use Rattle.expr_tree.specs.declared.tree.Expr.{Expr}
use Rattle.expr_tree.specs.Meaning.{combines}
use Rattle.expr_tree.specs.Rewritten.{tree_of, rewritten, rewritten_test}
use Rattle.expr_tree.specs.Keeping.{all_parts}
use Rattle.expr_tree.proofs.AllParts.{all_made}
use Rattle.kernel_ir.specs.declared.kernel.Kernel.{Kernel}
use Rattle.kernel_ir.specs.declared.kernel.SubstRule.{SubstRule}
use Rattle.kernel_ir.specs.Expanded.{putting, body_at, expanding_to}
use Rattle.kernel_ir.specs.Kinds.{Typing, Kinds, node_typing, test_typing, typing_of, typing_of_test, rule_typing, kinds_to}
use Rattle.kernel_ir.specs.Mentions.{Listing, node_listed, test_listed, listed, listed_in_test, node_allowed, test_allowed, is_allowed}
use Rattle.kernel_ir.specs.Valid.{in_rule}
use Rattle.subst_rules.proofs.Bools.{first_of_both, second_of_both}
use Rattle.expr_tree.proofs.Made.{made-Literal, made-Leaf, made-Read, made-Call}
use Rattle.subst_rules.proofs.Expanding.{end_is, test_end_is}
use Rattle.expanded_values.proofs.Standing.{tree_at}
use Rattle.expanded_values.proofs.Related.{Related, nothing, related_folds}
use Rattle.expanded_values.proofs.Equal.{put_equal, expanded_equal, expanded_test_equal, uses_none}

-- ---- kinds

abbrev TestTyping : Type 0
TestTyping = Kind → Bool

put_typing : (w : Kinds) (vs : List ℕ) (fs : List Quasi) (e : Expr) → typing_of w (rewritten (putting vs fs) e) ≡ typing_of w e
put_typing w vs fs = put_equal Typing TestTyping (node_typing w) test_typing vs fs (λ q. refl) (λ cell place. refl) (λ rule arguments. refl) (λ rel a b. refl)

module _ (K : Kernel) where
  same_typing : (n : ℕ) (y : Node-F Typing TestTyping Typing) → uses_none Typing TestTyping (node_typing (kinds_to K zero)) test_typing y ≡ true → node_typing (kinds_to K zero) y ≡ node_typing (kinds_to K (suc n)) y
  same_typing n (Node-F.Call rule arguments) h = absurd (cc)
  same_typing n _ h = refl

  abbrev Typed : ℕ → Type 0
  Typed n = (e : Expr) → typing_of (kinds_to K zero) (rewritten (expanding_to K n) e) ≡ typing_of (kinds_to K n) e

  use_typing : (n rule : ℕ) (arguments : List Quasi) (o : Option SubstRule) → Typed n → typing_of (kinds_to K zero) (unwrap_or (body_at (expanding_to K n) o arguments) (tree_of (node.Call rule arguments))) ≡ rule_typing (kinds_to K n) o
  use_typing n rule arguments None typed = made-Call Typing TestTyping (node_typing (kinds_to K zero)) test_typing rule arguments
  use_typing n rule arguments (Some r) typed = typed (rewritten (putting r.params arguments) r.body) ∙ put_typing (kinds_to K n) r.params arguments r.body

  pub typed_to : (n : ℕ) → Typed n
  typed_to zero e = ap (typing_of (kinds_to K zero)) (end_is K e)
  typed_to (suc n) e = expanded_equal Typing TestTyping (node_typing (kinds_to K zero)) test_typing (tree_at K n) (node_typing (kinds_to K (suc n))) (same_typing n) (λ rule arguments. use_typing n rule arguments (slice_get K.rules rule) (typed_to n)) e

  pub test_typed_to : (n : ℕ) (t : Test) → typing_of_test (kinds_to K zero) (rewritten_test (expanding_to K n) t) ≡ typing_of_test (kinds_to K n) t
  test_typed_to zero t = ap (typing_of_test (kinds_to K zero)) (test_end_is K t)
  test_typed_to (suc n) t = expanded_test_equal Typing TestTyping (node_typing (kinds_to K zero)) test_typing (tree_at K n) (node_typing (kinds_to K (suc n))) (same_typing n) (λ rule arguments. use_typing n rule arguments (slice_get K.rules rule) (typed_to n)) t

-- ---- reductions

module _ (X : Type 0) (of : List ℕ → List X) where
  -- of the reductions alone
  abbrev pub of_folds : Listing X
  of_folds = record { leaf = λ q. []; read = λ cell place. []; call = λ rule arguments. []; index = λ a b. []; fold = of }

  put_listed : (vs : List ℕ) (fs : List Quasi) (e : Expr) → listed of_folds (rewritten (putting vs fs) e) ≡ listed of_folds e
  put_listed vs fs = put_equal (List X) (List X) (node_listed of_folds) (test_listed of_folds) vs fs (λ q. refl) (λ cell place. refl) (λ rule arguments. refl) (λ rel a b. refl)

  abbrev NoneIn : List ℕ → List X → (List ℕ → Bool) → Type 0
  NoneIn vars a b = b vars ≡ true → a ≡ []

  both_none : (a b : List X) → a ≡ [] → b ≡ [] → a ++ b ≡ []
  both_none a b h g = ap₂ (λ (x y : List X). x ++ y) h g

  module _ (K : Kernel) (vars : List ℕ) where
    none_layers : Related nothing all_parts (List X) (List X) (List ℕ → Bool) (List ℕ → Bool) (node_listed of_folds) (test_listed of_folds) (node_allowed (in_rule K)) test_allowed (NoneIn vars) (NoneIn vars)
    none_layers = record {
      literal = λ n made h. made-Literal (List X) (List X) (node_listed of_folds) (test_listed of_folds) n;
      leaf = λ q made h. made-Leaf (List X) (List X) (node_listed of_folds) (test_listed of_folds) q;
      read = λ cell place made h. made-Read (List X) (List X) (node_listed of_folds) (test_listed of_folds) cell place;
      call = λ rule arguments made h. made-Call (List X) (List X) (node_listed of_folds) (test_listed of_folds) rule arguments;
      neg = λ a b h k. h k;
      inv = λ a b h k. h k;
      shl = λ a b by h k. h k;
      shr = λ a b by h k. h k;
      bin = λ op a b c d h g k. both_none a c (h (first_of_both (b vars) (d vars) k)) (g (second_of_both (b vars) (d vars) k));
      pick = λ t u a b c d f h g k. let k2 = second_of_both (u vars) (b vars && d vars) k in both_none t (a ++ c) (f (first_of_both (u vars) (b vars && d vars) k)) (both_none a c (h (first_of_both (b vars) (d vars) k2)) (g (second_of_both (b vars) (d vars) k2)));
      cast = λ kind a b h k. h k;
      fold = λ op inames a b made h k. absurd (let clash : false ≡ true = second_of_both (combines op) (false && b (vars ++ inames)) k in cc);
      words = λ rel a b c d h g k. both_none a c (h (first_of_both (b vars) (d vars) k)) (g (second_of_both (b vars) (d vars) k));
      index = λ rel a b made more k. refl;
      all = λ t u v w h g k. both_none t v (h (first_of_both (u vars) (w vars) k)) (g (second_of_both (u vars) (w vars) k));
      any = λ t u v w h g k. both_none t v (h (first_of_both (u vars) (w vars) k)) (g (second_of_both (u vars) (w vars) k));
      not = λ t u h k. h k;
    }

    none_listed : (e : Expr) → is_allowed (in_rule K) e vars ≡ true → listed of_folds e ≡ []
    none_listed e h = related_folds all_parts (List X) (List X) (List ℕ → Bool) (List ℕ → Bool) (node_listed of_folds) (test_listed of_folds) (node_allowed (in_rule K)) test_allowed (NoneIn vars) (NoneIn vars) none_layers e (all_made e) h

  module _ (K : Kernel) (bodies : (rule : ℕ) (r : SubstRule) → slice_get K.rules rule ≡ Some r → is_allowed (in_rule K) r.body (r.params ++ K.params) ≡ true) where
    abbrev ListedTo : ℕ → Type 0
    ListedTo n = (e : Expr) → listed of_folds (rewritten (expanding_to K n) e) ≡ listed of_folds e

    use_listed : (n rule : ℕ) (arguments : List Quasi) (o : Option SubstRule) → ListedTo n → slice_get K.rules rule ≡ o → listed of_folds (unwrap_or (body_at (expanding_to K n) o arguments) (tree_of (node.Call rule arguments))) ≡ []
    use_listed n rule arguments None same is = made-Call (List X) (List X) (node_listed of_folds) (test_listed of_folds) rule arguments
    use_listed n rule arguments (Some r) same is =
        same (rewritten (putting r.params arguments) r.body) ∙ (put_listed r.params arguments r.body ∙ none_listed K (r.params ++ K.params) r.body (bodies rule r is))

    pub listed_to : (n : ℕ) → ListedTo n
    listed_to zero e = ap (listed of_folds) (end_is K e)
    listed_to (suc n) e = expanded_equal (List X) (List X) (node_listed of_folds) (test_listed of_folds) (tree_at K n) (node_listed of_folds) (λ y h. refl) (λ rule arguments. use_listed n rule arguments (slice_get K.rules rule) (listed_to n) refl) e

    pub listed_in_test_to : (n : ℕ) (t : Test) → listed_in_test of_folds (rewritten_test (expanding_to K n) t) ≡ listed_in_test of_folds t
    listed_in_test_to zero t = ap (listed_in_test of_folds) (test_end_is K t)
    listed_in_test_to (suc n) t = expanded_test_equal (List X) (List X) (node_listed of_folds) (test_listed of_folds) (tree_at K n) (node_listed of_folds) (λ y h. refl) (λ rule arguments. use_listed n rule arguments (slice_get K.rules rule) (listed_to n) refl) t
