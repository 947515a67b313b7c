-- Of what parts the expressions of a formed kernel are made.
use Rattle.std.specs.Prelude.{◌≡◌, ℕ, nat_eq, nat_lt, Bool, true, false, not, ◌&&◌, List, [], ◌∷◌, ◌++◌, map, length, slice_get, Option, unwrap_or}
use Rattle.std.specs.List.{list_all}
use Rattle.std.proofs.Common.{refl, sym, ap, ◌∙◌}
use Rattle.std.proofs.lemmas.List.{length-map}
use Rattle.affine_rows.specs.declared.quasi.Quasi.{Quasi}
use Rattle.expr_tree.specs.declared.tree.Node.{Node, out-Node}
use Rattle.expr_tree.specs.declared.tree.Node.TheOpen.{Node-F, Test-F}
use Rattle.expr_tree.specs.declared.tree.Node.TheVariants as node
use Rattle.expr_tree.specs.declared.tree.Test.{Test}
use Rattle.expr_tree.specs.declared.tree.Expr.{Expr}
use Rattle.expr_tree.specs.Scenes.{is_among, mentions_only}
use Rattle.expr_tree.specs.Meaning.{combines}
use Rattle.expr_tree.specs.Rewritten.{tree_of, answered, rewritten}
use Rattle.expr_tree.specs.Keeping.{Parts, all_parts, parts_of_node, parts_of_test, is_made_of, test_is_made_of}
use Rattle.expr_tree.proofs.AllParts.{all_made}
use Rattle.quasi_forms.specs.Collected.{put_form}
use Rattle.kernel_ir.specs.declared.kernel.Kernel.{Kernel}
use Rattle.kernel_ir.specs.Expanded.{putting, put_in_layer, body_at, expanding_to}
use Rattle.kernel_ir.specs.Mentions.{node_allowed, test_allowed, is_allowed, is_allowed_test, has_cell}
use Rattle.kernel_ir.specs.NameSpace.{iname_vars}
use Rattle.kernel_ir.specs.Valid.{params_of, has_rule, may_fold, in_insn, in_rule}
use Rattle.subst_rules.proofs.Bools.{both, first_of_both, second_of_both}
use Rattle.expr_tree.proofs.Made.{made-Literal, made-Leaf, made-Read, made-Call}
use Rattle.expanded_values.proofs.Passing.{passes_use, passing}
use Rattle.expanded_values.proofs.Related.{Related, nothing, related, related_folds, related_test_folds}

abbrev Scoped : Type 0
Scoped = List ℕ → Bool

abbrev pub layer_mentions : List ℕ → Node-F Node Test Expr → Bool
layer_mentions vars (Node-F.Leaf q) = mentions_only vars q
layer_mentions vars (Node-F.Read cell place) = list_all (mentions_only vars) place
layer_mentions vars (Node-F.Call rule arguments) = list_all (mentions_only vars) arguments
layer_mentions vars _ = true

-- forms over these variables, and no reductions
abbrev pub body_parts : List ℕ → Parts
body_parts vars = record { leaf = λ n. layer_mentions vars (out-Node n); form = mentions_only vars; over = λ inames. false }

weaker : (p q : ℕ → Bool) → ((v : ℕ) → p v ≡ true → q v ≡ true) → (vs : List ℕ) → list_all p vs ≡ true → list_all q vs ≡ true
weaker p q each [] h = refl
weaker p q each (v ∷ vs) h = both (q v) (list_all q vs) (each v (first_of_both (p v) (list_all p vs) h)) (weaker p q each vs (second_of_both (p v) (list_all p vs) h))

-- a node with forms put in
pub put_new : (vs : List ℕ) (fs : List Quasi) (n : Node) (y : Node-F Node Test Expr) → out-Node n ≡ y → (answered ((putting vs fs).leaf n) (tree_of n)).new ≡ unwrap_or (put_in_layer (put_form vs fs) y) (tree_of n)
put_new vs fs n y is = ap (λ (z : Node-F Node Test Expr). unwrap_or (put_in_layer (put_form vs fs) z) (tree_of n)) is

module _ (K : Kernel) where
  -- what is put for a use at the depth n + 1
  abbrev pub tree_at : ℕ → ℕ → List Quasi → Option Expr
  tree_at n = λ rule arguments. body_at (expanding_to K n) (slice_get K.rules rule) arguments

  -- as many arguments as the rule has parameters
  abbrev pub is_right : ℕ × ℕ → Bool
  is_right c = nat_eq c.1 (length (params_of (slice_get K.rules c.0)))

  -- inames that are no parameters
  abbrev pub no_params : List ℕ → Bool
  no_params inames = list_all (λ v. not (is_among K.params v)) inames

  abbrev pub insn_parts : Parts
  insn_parts = record { leaf = λ n. passes_use is_right (out-Node n); form = λ q. true; over = no_params }

  -- ---- the body of a rule

  module _ (vars : List ℕ) where
    abbrev body_node : Node-F Bool Bool Bool → Bool
    body_node = parts_of_node (body_parts vars)

    abbrev body_test : Test-F Bool Bool Bool → Bool
    body_test = parts_of_test (body_parts vars)

    abbrev HoldsIn : Bool → Scoped → Type 0
    HoldsIn a b = b vars ≡ true → a ≡ true

    no_fold : (c d : Bool) → (c && (false && d)) ≡ true → false ≡ true
    no_fold c d h = second_of_both c (false && d) h

    body_layers : Related nothing all_parts Bool Bool Scoped Scoped body_node body_test (node_allowed (in_rule K)) test_allowed HoldsIn HoldsIn
    body_layers = record {
      literal = λ n made h. made-Literal Bool Bool body_node body_test n ∙ ap (layer_mentions vars) (node.outs-Literal n);
      leaf = λ q made h. made-Leaf Bool Bool body_node body_test q ∙ (ap (layer_mentions vars) (node.outs-Leaf q) ∙ h);
      read = λ cell place made h. made-Read Bool Bool body_node body_test cell place ∙ (ap (layer_mentions vars) (node.outs-Read cell place) ∙ second_of_both (has_cell K cell (length place)) (list_all (mentions_only vars) place) h);
      call = λ rule arguments made h. made-Call Bool Bool body_node body_test rule arguments
          ∙ (ap (layer_mentions vars) (node.outs-Call rule arguments) ∙ second_of_both (has_rule K rule (length arguments)) (list_all (mentions_only vars) arguments) h);
      neg = λ a b h k. h k;
      inv = λ a b h k. h k;
      shl = λ a b by h k. h k;
      shr = λ a b by h k. h k;
      bin = λ op a b c d h g k. both a c (h (first_of_both (b vars) (d vars) k)) (g (second_of_both (b vars) (d vars) k));
      pick = λ t u a b c d f h g k. let k2 = second_of_both (u vars) (b vars && d vars) k in both t (a && c) (f (first_of_both (u vars) (b vars && d vars) k)) (both a c (h (first_of_both (b vars) (d vars) k2)) (g (second_of_both (b vars) (d vars) k2)));
      cast = λ kind a b h k. h k;
      fold = λ op inames a b made h k. absurd (let clash : false ≡ true = no_fold (combines op) (b (vars ++ inames)) k in cc);
      words = λ rel a b c d h g k. both a c (h (first_of_both (b vars) (d vars) k)) (g (second_of_both (b vars) (d vars) k));
      index = λ rel a b made more k. k;
      all = λ t u v w h g k. both t v (h (first_of_both (u vars) (w vars) k)) (g (second_of_both (u vars) (w vars) k));
      any = λ t u v w h g k. both t v (h (first_of_both (u vars) (w vars) k)) (g (second_of_both (u vars) (w vars) k));
      not = λ t u h k. h k;
    }

    pub body_made : (e : Expr) → is_allowed (in_rule K) e vars ≡ true → is_made_of (body_parts vars) e ≡ true
    body_made e h = related_folds all_parts Bool Bool Scoped Scoped body_node body_test (node_allowed (in_rule K)) test_allowed HoldsIn HoldsIn body_layers e (all_made e) h

    -- ---- with forms put in

    module _ (vs : List ℕ) (fs : List Quasi) where
      abbrev node_parts : Node-F Bool Bool Bool → Bool
      node_parts = parts_of_node insn_parts

      abbrev test_parts : Test-F Bool Bool Bool → Bool
      test_parts = parts_of_test insn_parts

      abbrev parts_in : Expr → Bool
      parts_in = is_made_of insn_parts

      put_layers : Related (putting vs fs) (passing is_right) Bool Bool Scoped Scoped node_parts test_parts (node_allowed (in_rule K)) test_allowed HoldsIn HoldsIn
      put_layers = record {
        literal = λ n made h. ap parts_in (put_new vs fs (node.Literal n) (Node-F.Literal n) (node.outs-Literal n)) ∙ (made-Literal Bool Bool node_parts test_parts n ∙ ap (passes_use is_right) (node.outs-Literal n));
        leaf = λ q made h. ap parts_in (put_new vs fs (node.Leaf q) (Node-F.Leaf q) (node.outs-Leaf q)) ∙ (made-Leaf Bool Bool node_parts test_parts (put_form vs fs q) ∙ ap (passes_use is_right) (node.outs-Leaf (put_form vs fs q)));
        read = λ cell place made h. ap parts_in (put_new vs fs (node.Read cell place) (Node-F.Read cell place) (node.outs-Read cell place))
            ∙ (made-Read Bool Bool node_parts test_parts cell (map (put_form vs fs) place) ∙ ap (passes_use is_right) (node.outs-Read cell (map (put_form vs fs) place)));
        call = λ rule arguments made h. ap parts_in (put_new vs fs (node.Call rule arguments) (Node-F.Call rule arguments) (node.outs-Call rule arguments))
            ∙ (made-Call Bool Bool node_parts test_parts rule (map (put_form vs fs) arguments) ∙ (ap (passes_use is_right) (node.outs-Call rule (map (put_form vs fs) arguments))
            ∙ (ap (λ (n : ℕ). is_right (rule, n)) (length-map arguments (put_form vs fs)) ∙ (sym (ap (passes_use is_right) (node.outs-Call rule arguments)) ∙ made))));
        neg = λ a b h k. h k;
        inv = λ a b h k. h k;
        shl = λ a b by h k. h k;
        shr = λ a b by h k. h k;
        bin = λ op a b c d h g k. both a c (h (first_of_both (b vars) (d vars) k)) (g (second_of_both (b vars) (d vars) k));
        pick = λ t u a b c d f h g k. let k2 = second_of_both (u vars) (b vars && d vars) k in both t (a && c) (f (first_of_both (u vars) (b vars && d vars) k)) (both a c (h (first_of_both (b vars) (d vars) k2)) (g (second_of_both (b vars) (d vars) k2)));
        cast = λ kind a b h k. h k;
        fold = λ op inames a b made h k. absurd (let clash : false ≡ true = no_fold (combines op) (b (vars ++ inames)) k in cc);
        words = λ rel a b c d h g k. both a c (h (first_of_both (b vars) (d vars) k)) (g (second_of_both (b vars) (d vars) k));
        index = λ rel a b made more k. refl;
        all = λ t u v w h g k. both t v (h (first_of_both (u vars) (w vars) k)) (g (second_of_both (u vars) (w vars) k));
        any = λ t u v w h g k. both t v (h (first_of_both (u vars) (w vars) k)) (g (second_of_both (u vars) (w vars) k));
        not = λ t u h k. h k;
      }

      pub put_made : (e : Expr) → is_made_of (passing is_right) e ≡ true → is_allowed (in_rule K) e vars ≡ true → is_made_of insn_parts (rewritten (putting vs fs) e) ≡ true
      put_made e made h = related (putting vs fs) (passing is_right) Bool Bool Scoped Scoped node_parts test_parts (node_allowed (in_rule K)) test_allowed HoldsIn HoldsIn put_layers e made h

  -- ---- the expressions of an instruction

  module _ (apart : (v : ℕ) → is_among (iname_vars K) v ≡ true → not (is_among K.params v) ≡ true) where
    abbrev own_node : Node-F Bool Bool Bool → Bool
    own_node = parts_of_node insn_parts

    abbrev own_test : Test-F Bool Bool Bool → Bool
    own_test = parts_of_test insn_parts

    abbrev Holds : Bool → Scoped → Type 0
    Holds a b = (scope : List ℕ) → b scope ≡ true → a ≡ true

    folds_apart : (scope inames : List ℕ) → may_fold K scope inames ≡ true → no_params inames ≡ true
    folds_apart scope inames h = weaker (λ v. is_among (iname_vars K) v && not (is_among scope v)) (λ v. not (is_among K.params v))
        (λ v k. apart v (first_of_both (is_among (iname_vars K) v) (not (is_among scope v)) k)) inames (second_of_both (nat_lt 0 (length inames)) (list_all (λ v. is_among (iname_vars K) v && not (is_among scope v)) inames) h)

    own_layers : Related nothing (passing is_right) Bool Bool Scoped Scoped own_node own_test (node_allowed (in_insn K)) test_allowed Holds Holds
    own_layers = record {
      literal = λ n made scope h. made-Literal Bool Bool own_node own_test n ∙ ap (passes_use is_right) (node.outs-Literal n);
      leaf = λ q made scope h. made-Leaf Bool Bool own_node own_test q ∙ ap (passes_use is_right) (node.outs-Leaf q);
      read = λ cell place made scope h. made-Read Bool Bool own_node own_test cell place ∙ ap (passes_use is_right) (node.outs-Read cell place);
      call = λ rule arguments made scope h. made-Call Bool Bool own_node own_test rule arguments ∙ made;
      neg = λ a b h scope k. h scope k;
      inv = λ a b h scope k. h scope k;
      shl = λ a b by h scope k. h scope k;
      shr = λ a b by h scope k. h scope k;
      bin = λ op a b c d h g scope k. both a c (h scope (first_of_both (b scope) (d scope) k)) (g scope (second_of_both (b scope) (d scope) k));
      pick = λ t u a b c d f h g scope k. let k2 = second_of_both (u scope) (b scope && d scope) k in both t (a && c) (f scope (first_of_both (u scope) (b scope && d scope) k)) (both a c (h scope (first_of_both (b scope) (d scope) k2)) (g scope (second_of_both (b scope) (d scope) k2)));
      cast = λ kind a b h scope k. h scope k;
      fold = λ op inames a b made h scope k.
          let k2 = second_of_both (combines op) (may_fold K scope inames && b (scope ++ inames)) k in
          both (no_params inames) a (folds_apart scope inames (first_of_both (may_fold K scope inames) (b (scope ++ inames)) k2)) (h (scope ++ inames) (second_of_both (may_fold K scope inames) (b (scope ++ inames)) k2));
      words = λ rel a b c d h g scope k. both a c (h scope (first_of_both (b scope) (d scope) k)) (g scope (second_of_both (b scope) (d scope) k));
      index = λ rel a b made more scope k. refl;
      all = λ t u v w h g scope k. both t v (h scope (first_of_both (u scope) (w scope) k)) (g scope (second_of_both (u scope) (w scope) k));
      any = λ t u v w h g scope k. both t v (h scope (first_of_both (u scope) (w scope) k)) (g scope (second_of_both (u scope) (w scope) k));
      not = λ t u h scope k. h scope k;
    }

    pub own_made : (e : Expr) (scope : List ℕ) → is_made_of (passing is_right) e ≡ true → is_allowed (in_insn K) e scope ≡ true → is_made_of insn_parts e ≡ true
    own_made e scope made h = related_folds (passing is_right) Bool Bool Scoped Scoped own_node own_test (node_allowed (in_insn K)) test_allowed Holds Holds own_layers e made scope h

    pub own_test_made : (t : Test) (scope : List ℕ) → test_is_made_of (passing is_right) t ≡ true → is_allowed_test (in_insn K) t scope ≡ true → test_is_made_of insn_parts t ≡ true
    own_test_made t scope made h = related_test_folds (passing is_right) Bool Bool Scoped Scoped own_node own_test (node_allowed (in_insn K)) test_allowed Holds Holds own_layers t made scope h
