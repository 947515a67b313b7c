-- What may stand in an instruction may stand there expanded.
use Rattle.std.specs.Prelude.{◌≡◌, ℕ, zero, suc, Bool, true, false, ◌&&◌, ◌||◌, nat_eq, List, [], ◌∷◌, ◌++◌, map, length, slice_get, Option, Some, None, unwrap_or}
use Rattle.std.specs.List.{list_all}
use Rattle.std.proofs.Common.{refl, sym, ap, ◌∙◌}
use Rattle.std.proofs.lemmas.List.{length-map}
use Rattle.std.proofs.lemmas.List.Folds.{list_any-append}
use Rattle.affine_rows.specs.declared.quasi.Quasi.{Quasi}
use Rattle.expr_tree.specs.declared.tree.Cell.{Cell}
use Rattle.expr_tree.specs.declared.tree.Cell.TheVariants.{Array, Temp}
use Rattle.expr_tree.specs.declared.tree.Node.TheOpen.{Node-F}
use Rattle.expr_tree.specs.declared.tree.Node.TheVariants as node
use Rattle.expr_tree.specs.declared.tree.Test.{Test}
use Rattle.expr_tree.specs.declared.tree.Expr.{Expr}
use Rattle.expr_tree.specs.Scenes.{is_among, mentions_only}
use Rattle.expr_tree.specs.Meaning.{combines}
use Rattle.expr_tree.specs.Rewritten.{tree_of, rewritten, rewritten_test}
use Rattle.expr_tree.specs.Keeping.{all_parts, is_made_of, test_is_made_of}
use Rattle.expr_tree.proofs.AllParts.{all_made}
use Rattle.quasi_forms.specs.Collected.{put_form}
use Rattle.kernel_ir.specs.declared.kernel.Kernel.{Kernel}
use Rattle.kernel_ir.specs.declared.kernel.SubstRule.{SubstRule}
use Rattle.kernel_ir.specs.Expanded.{putting, expanding, body_at, expanding_to}
use Rattle.kernel_ir.specs.Mentions.{node_allowed, test_allowed, is_allowed, is_allowed_test, listed, calls, has_cell}
use Rattle.kernel_ir.specs.Valid.{has_rule, may_fold, in_insn, in_rule}
use Rattle.subst_rules.specs.Kernels.{expanded_kernel}
use Rattle.subst_rules.proofs.Bools.{both, first_of_both, second_of_both, either_first}
use Rattle.expr_tree.proofs.Made.{made-Literal, made-Leaf, made-Read, made-Call}
use Rattle.subst_rules.proofs.Expanding.{leaf_new}
use Rattle.expanded_values.proofs.Passing.{passes_use, passing}
use Rattle.expanded_values.proofs.Related.{Related, related, related_test}
use Rattle.expanded_values.proofs.Standing.{tree_at, put_new, is_right}
use Rattle.expanded_values.proofs.PutVars.{put_pass}
use Rattle.expanded_values.proofs.Ends.{ends}
use Rattle.expanded_values.proofs.NoUses.{put_passing, is_known, is_good, is_there, body_good}

abbrev Scoped : Type 0
Scoped = List ℕ → Bool

or_right : (a b : Bool) → (a || b) ≡ true → a ≡ false → b ≡ true
or_right true b h no_a = absurd (cc)
or_right false b h no_a = h

module _ (K : Kernel) where
  -- the kernel's parameters are in scope
  abbrev pub Covers : List ℕ → Type 0
  Covers scope = (v : ℕ) → is_among K.params v ≡ true → is_among scope v ≡ true

  covers_more : (scope inames : List ℕ) → Covers scope → Covers (scope ++ inames)
  covers_more scope inames covers v h = list_any-append (λ u. nat_eq u v) scope inames ∙ either_first (is_among scope v) (is_among inames v) (covers v h)

  abbrev nd : Node-F Scoped Scoped Scoped → Scoped
  nd = node_allowed (in_insn K)

  -- ---- a body at the arguments

  module _ (vs : List ℕ) (fs : List Quasi) (scope : List ℕ) (covers : Covers scope) (given : list_all (mentions_only scope) fs ≡ true) where
    forms : (q : Quasi) → mentions_only (vs ++ K.params) q ≡ true → mentions_only scope (put_form vs fs q) ≡ true
    forms q h = put_pass (is_among scope) vs fs (is_among (vs ++ K.params))
        (λ v among other. covers v (or_right (is_among vs v) (is_among K.params v) (sym (list_any-append (λ u. nat_eq u v) vs K.params) ∙ among) other)) given q h

    places : (qs : List Quasi) → list_all (mentions_only (vs ++ K.params)) qs ≡ true → list_all (mentions_only scope) (map (put_form vs fs) qs) ≡ true
    places [] h = refl
    places (q ∷ qs) h =
        both (mentions_only scope (put_form vs fs q)) (list_all (mentions_only scope) (map (put_form vs fs) qs)) (forms q (first_of_both (mentions_only (vs ++ K.params) q) (list_all (mentions_only (vs ++ K.params)) qs) h))
        (places qs (second_of_both (mentions_only (vs ++ K.params) q) (list_all (mentions_only (vs ++ K.params)) qs) h))

    abbrev PutIn : Scoped → Scoped → Type 0
    PutIn a b = b (vs ++ K.params) ≡ true → a scope ≡ true

    abbrev stands : Expr → Bool
    stands e = is_allowed (in_insn K) e scope

    put_layers : Related (putting vs fs) all_parts Scoped Scoped Scoped Scoped nd test_allowed (node_allowed (in_rule K)) test_allowed PutIn PutIn
    put_layers = record {
      literal = λ n made h. ap stands (put_new vs fs (node.Literal n) (Node-F.Literal n) (node.outs-Literal n)) ∙ ap (λ (f : Scoped). f scope) (made-Literal Scoped Scoped nd test_allowed n);
      leaf = λ q made h. ap stands (put_new vs fs (node.Leaf q) (Node-F.Leaf q) (node.outs-Leaf q)) ∙ (ap (λ (f : Scoped). f scope) (made-Leaf Scoped Scoped nd test_allowed (put_form vs fs q)) ∙ forms q h);
      read = λ cell place made h. ap stands (put_new vs fs (node.Read cell place) (Node-F.Read cell place) (node.outs-Read cell place))
          ∙ (ap (λ (f : Scoped). f scope) (made-Read Scoped Scoped nd test_allowed cell (map (put_form vs fs) place))
          ∙ both (has_cell K cell (length (map (put_form vs fs) place))) (list_all (mentions_only scope) (map (put_form vs fs) place))
          (ap (has_cell K cell) (length-map place (put_form vs fs)) ∙ first_of_both (has_cell K cell (length place)) (list_all (mentions_only (vs ++ K.params)) place) h)
          (places place (second_of_both (has_cell K cell (length place)) (list_all (mentions_only (vs ++ K.params)) place) h)));
      call = λ rule arguments made h. ap stands (put_new vs fs (node.Call rule arguments) (Node-F.Call rule arguments) (node.outs-Call rule arguments))
          ∙ (ap (λ (f : Scoped). f scope) (made-Call Scoped Scoped nd test_allowed rule (map (put_form vs fs) arguments))
          ∙ both (has_rule K rule (length (map (put_form vs fs) arguments))) (list_all (mentions_only scope) (map (put_form vs fs) arguments))
          (first_of_both (has_rule K rule (length arguments)) (list_all (mentions_only (vs ++ K.params)) arguments) h)
          (places arguments (second_of_both (has_rule K rule (length arguments)) (list_all (mentions_only (vs ++ K.params)) arguments) h)));
      neg = λ a b h k. h k;
      inv = λ a b h k. h k;
      shl = λ a b by h k. h k;
      shr = λ a b by h k. h k;
      bin = λ op a b c d h g k. both (a scope) (c scope) (h (first_of_both (b (vs ++ K.params)) (d (vs ++ K.params)) k)) (g (second_of_both (b (vs ++ K.params)) (d (vs ++ K.params)) k));
      pick = λ t u a b c d f h g k.
          let k2 = second_of_both (u (vs ++ K.params)) (b (vs ++ K.params) && d (vs ++ K.params)) k in
          both (t scope) (a scope && c scope) (f (first_of_both (u (vs ++ K.params)) (b (vs ++ K.params) && d (vs ++ K.params)) k))
          (both (a scope) (c scope) (h (first_of_both (b (vs ++ K.params)) (d (vs ++ K.params)) k2)) (g (second_of_both (b (vs ++ K.params)) (d (vs ++ K.params)) k2)));
      cast = λ kind a b h k. h k;
      fold = λ op inames a b made h k. absurd (let clash : false ≡ true = second_of_both (combines op) (false && b ((vs ++ K.params) ++ inames)) k in cc);
      words = λ rel a b c d h g k. both (a scope) (c scope) (h (first_of_both (b (vs ++ K.params)) (d (vs ++ K.params)) k)) (g (second_of_both (b (vs ++ K.params)) (d (vs ++ K.params)) k));
      index = λ rel a b made more k. both (mentions_only scope (put_form vs fs a)) (mentions_only scope (put_form vs fs b)) (forms a (first_of_both (mentions_only (vs ++ K.params) a) (mentions_only (vs ++ K.params) b) k)) (forms b (second_of_both (mentions_only (vs ++ K.params) a) (mentions_only (vs ++ K.params) b) k));
      all = λ t u v w h g k. both (t scope) (v scope) (h (first_of_both (u (vs ++ K.params)) (w (vs ++ K.params)) k)) (g (second_of_both (u (vs ++ K.params)) (w (vs ++ K.params)) k));
      any = λ t u v w h g k. both (t scope) (v scope) (h (first_of_both (u (vs ++ K.params)) (w (vs ++ K.params)) k)) (g (second_of_both (u (vs ++ K.params)) (w (vs ++ K.params)) k));
      not = λ t u h k. h k;
    }

    put_allowed : (e : Expr) → is_allowed (in_rule K) e (vs ++ K.params) ≡ true → is_allowed (in_insn K) (rewritten (putting vs fs) e) scope ≡ true
    put_allowed e h = related (putting vs fs) all_parts Scoped Scoped Scoped Scoped nd test_allowed (node_allowed (in_rule K)) test_allowed PutIn PutIn put_layers e (all_made e) h

  -- ---- uses replaced

  abbrev new_nd : Node-F Scoped Scoped Scoped → Scoped
  new_nd = node_allowed (in_insn (expanded_kernel K))

  abbrev StandsIn : Scoped → Scoped → Type 0
  StandsIn a b = (scope : List ℕ) → Covers scope → b scope ≡ true → a scope ≡ true

  abbrev stands_in : List ℕ → Expr → Bool
  stands_in scope e = is_allowed (in_insn (expanded_kernel K)) e scope

  pub same_cells : (cell : Cell) (n : ℕ) → has_cell (expanded_kernel K) cell n ≡ has_cell K cell n
  same_cells (Array m) n = refl
  same_cells (Temp m) n = refl

  module _ (at : ℕ → List Quasi → Option Expr) (q : ℕ × ℕ → Bool)
      (allowed_use : (rule : ℕ) (arguments : List Quasi) → q (rule, length arguments) ≡ true → (scope : List ℕ) → Covers scope → list_all (mentions_only scope) arguments ≡ true → stands_in scope (unwrap_or (at rule arguments) (tree_of (node.Call rule arguments))) ≡ true) where
    layers : Related (expanding at) (passing q) Scoped Scoped Scoped Scoped new_nd test_allowed nd test_allowed StandsIn StandsIn
    layers = record {
      literal = λ n made scope covers h. ap (stands_in scope) (leaf_new at (node.Literal n) (Node-F.Literal n) (node.outs-Literal n)) ∙ ap (λ (f : Scoped). f scope) (made-Literal Scoped Scoped new_nd test_allowed n);
      leaf = λ f made scope covers h. ap (stands_in scope) (leaf_new at (node.Leaf f) (Node-F.Leaf f) (node.outs-Leaf f)) ∙ (ap (λ (f : Scoped). f scope) (made-Leaf Scoped Scoped new_nd test_allowed f) ∙ h);
      read = λ cell place made scope covers h. ap (stands_in scope) (leaf_new at (node.Read cell place) (Node-F.Read cell place) (node.outs-Read cell place)) ∙ (ap (λ (f : Scoped). f scope) (made-Read Scoped Scoped new_nd test_allowed cell place)
          ∙ both (has_cell (expanded_kernel K) cell (length place)) (list_all (mentions_only scope) place) (same_cells cell (length place) ∙ first_of_both (has_cell K cell (length place)) (list_all (mentions_only scope) place) h) (second_of_both (has_cell K cell (length place)) (list_all (mentions_only scope) place) h));
      call = λ rule arguments made scope covers h. ap (stands_in scope) (leaf_new at (node.Call rule arguments) (Node-F.Call rule arguments) (node.outs-Call rule arguments))
          ∙ allowed_use rule arguments (sym (ap (passes_use q) (node.outs-Call rule arguments)) ∙ made) scope covers (second_of_both (has_rule K rule (length arguments)) (list_all (mentions_only scope) arguments) h);
      neg = λ a b h scope covers k. h scope covers k;
      inv = λ a b h scope covers k. h scope covers k;
      shl = λ a b by h scope covers k. h scope covers k;
      shr = λ a b by h scope covers k. h scope covers k;
      bin = λ op a b c d h g scope covers k. both (a scope) (c scope) (h scope covers (first_of_both (b scope) (d scope) k)) (g scope covers (second_of_both (b scope) (d scope) k));
      pick = λ t u a b c d f h g scope covers k.
          let k2 = second_of_both (u scope) (b scope && d scope) k in
          both (t scope) (a scope && c scope) (f scope covers (first_of_both (u scope) (b scope && d scope) k)) (both (a scope) (c scope) (h scope covers (first_of_both (b scope) (d scope) k2)) (g scope covers (second_of_both (b scope) (d scope) k2)));
      cast = λ kind a b h scope covers k. h scope covers k;
      fold = λ op inames a b made h scope covers k.
          let k2 = second_of_both (combines op) (may_fold K scope inames && b (scope ++ inames)) k in
          both (combines op) (may_fold (expanded_kernel K) scope inames && a (scope ++ inames)) (first_of_both (combines op) (may_fold K scope inames && b (scope ++ inames)) k)
          (both (may_fold (expanded_kernel K) scope inames) (a (scope ++ inames)) (first_of_both (may_fold K scope inames) (b (scope ++ inames)) k2)
          (h (scope ++ inames) (covers_more scope inames covers) (second_of_both (may_fold K scope inames) (b (scope ++ inames)) k2)));
      words = λ rel a b c d h g scope covers k. both (a scope) (c scope) (h scope covers (first_of_both (b scope) (d scope) k)) (g scope covers (second_of_both (b scope) (d scope) k));
      index = λ rel a b made more scope covers k. k;
      all = λ t u v w h g scope covers k. both (t scope) (v scope) (h scope covers (first_of_both (u scope) (w scope) k)) (g scope covers (second_of_both (u scope) (w scope) k));
      any = λ t u v w h g scope covers k. both (t scope) (v scope) (h scope covers (first_of_both (u scope) (w scope) k)) (g scope covers (second_of_both (u scope) (w scope) k));
      not = λ t u h scope covers k. h scope covers k;
    }

    allowed_expr : (e : Expr) → is_made_of (passing q) e ≡ true → StandsIn (is_allowed (in_insn (expanded_kernel K)) (rewritten (expanding at) e)) (is_allowed (in_insn K) e)
    allowed_expr = related (expanding at) (passing q) Scoped Scoped Scoped Scoped new_nd test_allowed nd test_allowed StandsIn StandsIn layers

    allowed_in_test : (t : Test) → test_is_made_of (passing q) t ≡ true → StandsIn (is_allowed_test (in_insn (expanded_kernel K)) (rewritten_test (expanding at) t)) (is_allowed_test (in_insn K) t)
    allowed_in_test = related_test (expanding at) (passing q) Scoped Scoped Scoped Scoped new_nd test_allowed nd test_allowed StandsIn StandsIn layers

  module _ (bodies : (rule : ℕ) (r : SubstRule) → slice_get K.rules rule ≡ Some r → (list_all (is_right K) (listed calls r.body) && list_all (is_known K) (listed calls r.body)) ≡ true)
      (allowed : (rule : ℕ) (r : SubstRule) → slice_get K.rules rule ≡ Some r → is_allowed (in_rule K) r.body (r.params ++ K.params) ≡ true) where
    abbrev AllowedTo : ℕ → Type 0
    AllowedTo n = (e : Expr) → is_made_of (passing (is_good K n)) e ≡ true → StandsIn (is_allowed (in_insn (expanded_kernel K)) (rewritten (expanding_to K n) e)) (is_allowed (in_insn K) e)

    never_good : {P : Type 0} (c : ℕ × ℕ) → is_good K zero c ≡ true → P
    never_good c h = absurd (let clash : false ≡ true = second_of_both (is_known K c) false (second_of_both (is_right K c) (is_known K c && false) h) in cc)

    use_allowed : (n rule : ℕ) (arguments : List Quasi) (o : Option SubstRule) → AllowedTo n → slice_get K.rules rule ≡ o → is_good K (suc n) (rule, length arguments) ≡ true → (scope : List ℕ) → Covers scope → list_all (mentions_only scope) arguments ≡ true
        → stands_in scope (unwrap_or (body_at (expanding_to K n) o arguments) (tree_of (node.Call rule arguments))) ≡ true
    use_allowed n rule arguments None to is good scope covers given =
        absurd (is_there K rule (first_of_both (is_known K (rule, length arguments)) (ends K (suc n) rule) (second_of_both (is_right K (rule, length arguments)) (is_known K (rule, length arguments) && ends K (suc n) rule) good)) is)
    use_allowed n rule arguments (Some r) to is good scope covers given =
        let end = second_of_both (is_known K (rule, length arguments)) (ends K (suc n) rule) (second_of_both (is_right K (rule, length arguments)) (is_known K (rule, length arguments) && ends K (suc n) rule) good) in
        to (rewritten (putting r.params arguments) r.body) (put_passing (is_good K n) r.params arguments r.body ∙ body_good K bodies n rule r is end) scope covers (put_allowed r.params arguments scope covers given r.body (allowed rule r is))

    pub allowed_to : (n : ℕ) → AllowedTo n
    allowed_to zero e good = allowed_expr (λ rule arguments. None) (is_good K zero) (λ rule arguments own scope covers given. never_good (rule, length arguments) own) e good
    allowed_to (suc n) e good = allowed_expr (tree_at K n) (is_good K (suc n)) (λ rule arguments own. use_allowed n rule arguments (slice_get K.rules rule) (allowed_to n) refl own) e good

    pub test_allowed_to : (n : ℕ) (t : Test) → test_is_made_of (passing (is_good K n)) t ≡ true → StandsIn (is_allowed_test (in_insn (expanded_kernel K)) (rewritten_test (expanding_to K n) t)) (is_allowed_test (in_insn K) t)
    test_allowed_to zero t good = allowed_in_test (λ rule arguments. None) (is_good K zero) (λ rule arguments own scope covers given. never_good (rule, length arguments) own) t good
    test_allowed_to (suc n) t good = allowed_in_test (tree_at K n) (is_good K (suc n)) (λ rule arguments own. use_allowed n rule arguments (slice_get K.rules rule) (allowed_to n) refl own) t good
