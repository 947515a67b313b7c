-- In the expanded kernel no rule is used.
use Rattle.std.specs.Prelude.{◌≡◌, ℕ, zero, suc, nat_lt, Bool, true, false, ◌&&◌, List, [], ◌∷◌, ◌++◌, map, length, slice_get, Option, Some, None, unwrap_or}
use Rattle.std.specs.List.{list_all}
use Rattle.std.proofs.Common.{refl, sym, ap, ◌∙◌, arith, inl, inr}
use Rattle.std.proofs.lemmas.Bool.{ltb-true}
use Rattle.std.proofs.lemmas.Option.{slice_get_cases}
use Rattle.std.proofs.lemmas.List.{length-map}
use Rattle.affine_rows.specs.declared.quasi.Quasi.{Quasi}
use Rattle.expr_tree.specs.declared.tree.Node.TheOpen.{Node-F, Test-F}
use Rattle.expr_tree.specs.declared.tree.Node.TheVariants as node
use Rattle.expr_tree.specs.declared.tree.Test.{Test}
use Rattle.expr_tree.specs.declared.tree.Expr.{Expr}
use Rattle.expr_tree.specs.Scenes.{mentions_only}
use Rattle.expr_tree.specs.Meaning.{combines}
use Rattle.expr_tree.specs.Rewritten.{tree_of, rewritten, rewritten_test}
use Rattle.expr_tree.specs.Keeping.{all_parts, parts_of_node, parts_of_test, is_made_of, test_is_made_of}
use Rattle.expr_tree.proofs.AllParts.{all_made, all_tests_made}
use Rattle.quasi_forms.specs.Collected.{put_form}
use Rattle.kernel_ir.specs.declared.kernel.Kernel.{Kernel}
use Rattle.kernel_ir.specs.declared.kernel.SubstRule.{SubstRule}
use Rattle.kernel_ir.specs.Expanded.{putting, expanding, body_at, expanding_to}
use Rattle.kernel_ir.specs.Mentions.{Allowed, node_allowed, test_allowed, is_allowed, is_allowed_test, listed, calls}
use Rattle.kernel_ir.specs.Valid.{body_calls}
use Rattle.subst_rules.proofs.Bools.{both, first_of_both, second_of_both}
use Rattle.expr_tree.proofs.Made.{made-Literal, made-Leaf, made-Read, made-Call}
use Rattle.subst_rules.proofs.Expanding.{leaf_new}
use Rattle.expanded_values.proofs.Passing.{passes_use, passing, passes}
use Rattle.expanded_values.proofs.Related.{Related, nothing, related, related_test, related_folds, related_test_folds}
use Rattle.expanded_values.proofs.Standing.{tree_at, is_right}
use Rattle.expanded_values.proofs.Equal.{put_equal}
use Rattle.expanded_values.proofs.Ends.{ends}

-- ---- what may be used passes

module _ (w : Allowed) (q : ℕ × ℕ → Bool) (each : (rule n : ℕ) → w.call rule n ≡ true → q (rule, n) ≡ true) where
  abbrev nd : Node-F Bool Bool Bool → Bool
  nd = parts_of_node (passing q)

  abbrev ts : Test-F Bool Bool Bool → Bool
  ts = parts_of_test (passing q)

  abbrev Holds : Bool → (List ℕ → Bool) → Type 0
  Holds a b = (scope : List ℕ) → b scope ≡ true → a ≡ true

  layers : Related nothing all_parts Bool Bool (List ℕ → Bool) (List ℕ → Bool) nd ts (node_allowed w) test_allowed Holds Holds
  layers = record {
    literal = λ n made scope h. made-Literal Bool Bool nd ts n ∙ ap (passes_use q) (node.outs-Literal n);
    leaf = λ f made scope h. made-Leaf Bool Bool nd ts f ∙ ap (passes_use q) (node.outs-Leaf f);
    read = λ cell place made scope h. made-Read Bool Bool nd ts cell place ∙ ap (passes_use q) (node.outs-Read cell place);
    call = λ rule arguments made scope h. made-Call Bool Bool nd ts rule arguments
        ∙ (ap (passes_use q) (node.outs-Call rule arguments) ∙ each rule (length arguments) (first_of_both (w.call rule (length arguments)) (list_all (mentions_only scope) arguments) h));
    neg = λ a b h scope k. h scope k;
    inv = λ a b h scope k. h scope k;
    shl = λ a b by h scope k. h scope k;
    shr = λ a b by h scope k. h scope k;
    bin = λ op a b c d h g scope k. both a c (h scope (first_of_both (b scope) (d scope) k)) (g scope (second_of_both (b scope) (d scope) k));
    pick = λ t u a b c d f h g scope k. let k2 = second_of_both (u scope) (b scope && d scope) k in both t (a && c) (f scope (first_of_both (u scope) (b scope && d scope) k)) (both a c (h scope (first_of_both (b scope) (d scope) k2)) (g scope (second_of_both (b scope) (d scope) k2)));
    cast = λ kind a b h scope k. h scope k;
    fold = λ op inames a b made h scope k. h (scope ++ inames) (second_of_both (w.fold scope inames) (b (scope ++ inames)) (second_of_both (combines op) (w.fold scope inames && b (scope ++ inames)) k));
    words = λ rel a b c d h g scope k. both a c (h scope (first_of_both (b scope) (d scope) k)) (g scope (second_of_both (b scope) (d scope) k));
    index = λ rel a b made more scope k. refl;
    all = λ t u v w h g scope k. both t v (h scope (first_of_both (u scope) (w scope) k)) (g scope (second_of_both (u scope) (w scope) k));
    any = λ t u v w h g scope k. both t v (h scope (first_of_both (u scope) (w scope) k)) (g scope (second_of_both (u scope) (w scope) k));
    not = λ t u h scope k. h scope k;
  }

  pub allowed_passes : (e : Expr) (scope : List ℕ) → is_allowed w e scope ≡ true → is_made_of (passing q) e ≡ true
  allowed_passes e scope h = related_folds all_parts Bool Bool (List ℕ → Bool) (List ℕ → Bool) nd ts (node_allowed w) test_allowed Holds Holds layers e (all_made e) scope h

  pub allowed_test_passes : (t : Test) (scope : List ℕ) → is_allowed_test w t scope ≡ true → test_is_made_of (passing q) t ≡ true
  allowed_test_passes t scope h = related_test_folds all_parts Bool Bool (List ℕ → Bool) (List ℕ → Bool) nd ts (node_allowed w) test_allowed Holds Holds layers t (all_tests_made t) scope h

-- ---- with forms put in

pub put_passing : (q : ℕ × ℕ → Bool) (vs : List ℕ) (fs : List Quasi) (e : Expr) → is_made_of (passing q) (rewritten (putting vs fs) e) ≡ is_made_of (passing q) e
put_passing q vs fs = put_equal Bool Bool (parts_of_node (passing q)) (parts_of_test (passing q)) vs fs
    (λ f. ap (passes_use q) (node.outs-Leaf (put_form vs fs f)) ∙ sym (ap (passes_use q) (node.outs-Leaf f)))
    (λ cell place. ap (passes_use q) (node.outs-Read cell (map (put_form vs fs) place)) ∙ sym (ap (passes_use q) (node.outs-Read cell place)))
    (λ rule arguments. ap (passes_use q) (node.outs-Call rule (map (put_form vs fs) arguments)) ∙ (ap (λ (n : ℕ). q (rule, n)) (length-map arguments (put_form vs fs)) ∙ sym (ap (passes_use q) (node.outs-Call rule arguments))))
    (λ rel a b. refl)

-- ---- uses that end

pub all_three : (p q r : ℕ × ℕ → Bool) (cs : List (ℕ × ℕ)) → list_all p cs ≡ true → list_all q cs ≡ true → list_all r cs ≡ true → list_all (λ c. p c && (q c && r c)) cs ≡ true
all_three p q r [] h g f = refl
all_three p q r (c ∷ cs) h g f =
    both (p c && (q c && r c)) (list_all (λ c. p c && (q c && r c)) cs)
    (both (p c) (q c && r c) (first_of_both (p c) (list_all p cs) h) (both (q c) (r c) (first_of_both (q c) (list_all q cs) g) (first_of_both (r c) (list_all r cs) f)))
    (all_three p q r cs (second_of_both (p c) (list_all p cs) h) (second_of_both (q c) (list_all q cs) g) (second_of_both (r c) (list_all r cs) f))

-- no use at all
abbrev pub never : ℕ × ℕ → Bool
never c = false

module _ (K : Kernel) where
  abbrev pub is_known : ℕ × ℕ → Bool
  is_known c = nat_lt c.0 (length K.rules)

  -- the rule is there, has as many parameters as there are arguments, and has no use left after n depths
  abbrev pub is_good : ℕ → ℕ × ℕ → Bool
  is_good n c = is_right K c && (is_known c && ends K n c.0)

  abbrev free_node : Node-F Bool Bool Bool → Bool
  free_node = parts_of_node (passing never)

  abbrev free_test : Test-F Bool Bool Bool → Bool
  free_test = parts_of_test (passing never)

  abbrev IsTrueOf : Bool → Bool → Type 0
  IsTrueOf a b = a ≡ true

  abbrev free : Expr → Bool
  free = is_made_of (passing never)

  module _ (at : ℕ → List Quasi → Option Expr) (q : ℕ × ℕ → Bool) (free_use : (rule : ℕ) (arguments : List Quasi) → q (rule, length arguments) ≡ true → free (unwrap_or (at rule arguments) (tree_of (node.Call rule arguments))) ≡ true) where
    free_layers : Related (expanding at) (passing q) Bool Bool Bool Bool free_node free_test free_node free_test IsTrueOf IsTrueOf
    free_layers = record {
      literal = λ n made. ap free (leaf_new at (node.Literal n) (Node-F.Literal n) (node.outs-Literal n)) ∙ (made-Literal Bool Bool free_node free_test n ∙ ap (passes_use never) (node.outs-Literal n));
      leaf = λ f made. ap free (leaf_new at (node.Leaf f) (Node-F.Leaf f) (node.outs-Leaf f)) ∙ (made-Leaf Bool Bool free_node free_test f ∙ ap (passes_use never) (node.outs-Leaf f));
      read = λ cell place made. ap free (leaf_new at (node.Read cell place) (Node-F.Read cell place) (node.outs-Read cell place)) ∙ (made-Read Bool Bool free_node free_test cell place ∙ ap (passes_use never) (node.outs-Read cell place));
      call = λ rule arguments made. ap free (leaf_new at (node.Call rule arguments) (Node-F.Call rule arguments) (node.outs-Call rule arguments)) ∙ free_use rule arguments (sym (ap (passes_use q) (node.outs-Call rule arguments)) ∙ made);
      neg = λ a b h. h;
      inv = λ a b h. h;
      shl = λ a b by h. h;
      shr = λ a b by h. h;
      bin = λ op a b c d h g. both a c h g;
      pick = λ t u a b c d f h g. both t (a && c) f (both a c h g);
      cast = λ kind a b h. h;
      fold = λ op inames a b made h. h;
      words = λ rel a b c d h g. both a c h g;
      index = λ rel a b made more. refl;
      all = λ t u v w h g. both t v h g;
      any = λ t u v w h g. both t v h g;
      not = λ t u h. h;
    }

    free_expr : (e : Expr) → is_made_of (passing q) e ≡ true → free (rewritten (expanding at) e) ≡ true
    free_expr = related (expanding at) (passing q) Bool Bool Bool Bool free_node free_test free_node free_test IsTrueOf IsTrueOf free_layers

    free_in_test : (t : Test) → test_is_made_of (passing q) t ≡ true → test_is_made_of (passing never) (rewritten_test (expanding at) t) ≡ true
    free_in_test = related_test (expanding at) (passing q) Bool Bool Bool Bool free_node free_test free_node free_test IsTrueOf IsTrueOf free_layers

  abbrev first_tree : ℕ → List Quasi → Option Expr
  first_tree = λ rule arguments. None

  no_good : (rule : ℕ) (arguments : List Quasi) → is_good zero (rule, length arguments) ≡ true → free (tree_of (node.Call rule arguments)) ≡ true
  no_good rule arguments h =
      absurd (let clash : false ≡ true = second_of_both (is_known (rule, length arguments)) false (second_of_both (is_right K (rule, length arguments)) (is_known (rule, length arguments) && false) h) in cc)

  pub is_there : (rule : ℕ) → nat_lt rule (length K.rules) ≡ true → slice_get K.rules rule ≡ None → ⊥
  is_there rule below none = elim (slice_get_cases K.rules rule).1 [
    | inl found ↦ (let e : Some found.0 ≡ None = sym found.2 ∙ none in cc)
    | inr past ↦ (let less = ltb-true rule (length K.rules) below in let more = past.0 in absurd (omega (arith, less, more)))
  ]

  module _ (bodies : (rule : ℕ) (r : SubstRule) → slice_get K.rules rule ≡ Some r → (list_all (is_right K) (listed calls r.body) && list_all is_known (listed calls r.body)) ≡ true) where
    abbrev FreeTo : ℕ → Type 0
    FreeTo n = (e : Expr) → is_made_of (passing (is_good n)) e ≡ true → free (rewritten (expanding_to K n) e) ≡ true

    pub body_good : (n rule : ℕ) (r : SubstRule) → slice_get K.rules rule ≡ Some r → ends K (suc n) rule ≡ true → is_made_of (passing (is_good n)) r.body ≡ true
    body_good n rule r is end =
        let known = bodies rule r is in
        let last : list_all (λ c. ends K n c.0) (listed calls r.body) ≡ true = ap (λ (o : Option SubstRule). list_all (λ c. ends K n c.0) (body_calls o)) (sym is) ∙ end in
        sym (passes (is_good n) r.body)
        ∙ all_three (is_right K) is_known (λ c. ends K n c.0) (listed calls r.body) (first_of_both (list_all (is_right K) (listed calls r.body)) (list_all is_known (listed calls r.body)) known)
        (second_of_both (list_all (is_right K) (listed calls r.body)) (list_all is_known (listed calls r.body)) known) last

    use_free : (n rule : ℕ) (arguments : List Quasi) (o : Option SubstRule) → FreeTo n → slice_get K.rules rule ≡ o → is_good (suc n) (rule, length arguments) ≡ true → free (unwrap_or (body_at (expanding_to K n) o arguments) (tree_of (node.Call rule arguments))) ≡ true
    use_free n rule arguments None to is good =
        absurd (is_there rule (first_of_both (is_known (rule, length arguments)) (ends K (suc n) rule) (second_of_both (is_right K (rule, length arguments)) (is_known (rule, length arguments) && ends K (suc n) rule) good)) is)
    use_free n rule arguments (Some r) to is good =
        let end = second_of_both (is_known (rule, length arguments)) (ends K (suc n) rule) (second_of_both (is_right K (rule, length arguments)) (is_known (rule, length arguments) && ends K (suc n) rule) good) in
        to (rewritten (putting r.params arguments) r.body) (put_passing (is_good n) r.params arguments r.body ∙ body_good n rule r is end)

    pub free_to : (n : ℕ) → FreeTo n
    free_to zero e good = free_expr first_tree (is_good zero) no_good e good
    free_to (suc n) e good = free_expr (tree_at K n) (is_good (suc n)) (λ rule arguments own. use_free n rule arguments (slice_get K.rules rule) (free_to n) refl own) e good

    pub test_free_to : (n : ℕ) (t : Test) → test_is_made_of (passing (is_good n)) t ≡ true → test_is_made_of (passing never) (rewritten_test (expanding_to K n) t) ≡ true
    test_free_to zero t good = free_in_test first_tree (is_good zero) no_good t good
    test_free_to (suc n) t good = free_in_test (tree_at K n) (is_good (suc n)) (λ rule arguments own. use_free n rule arguments (slice_get K.rules rule) (free_to n) refl own) t good
