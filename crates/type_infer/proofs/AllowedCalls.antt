-- What stands in an allowed expression may stand there.
use Rattle.std.proofs.Common.{◌≡◌, ℕ, Bool, true, ◌&&◌, List, [], ◌++◌, map, length, sym, ap, subst, ◌∙◌, ⊎_elim}
use Rattle.std.proofs.lemmas.Bool.{true≢false}
use Rattle.expr_tree.specs.declared.tree.Node.{Node, fold-Node, roll-Node, map-Node, fold-roll-Node}
use Rattle.expr_tree.specs.declared.tree.Node.TheOpen.{Node-F, Test-F, Expr-F}
use Rattle.expr_tree.specs.declared.tree.Test.{Test, roll-Test, map-Test, ind-Test, fold-roll-Test}
use Rattle.expr_tree.specs.declared.tree.Expr.{Expr, roll-Expr, map-Expr, ind-Expr, fold-roll-Expr}
use Rattle.expr_tree.specs.Scenes.{is_among, mentions_only}
use Rattle.expr_tree.specs.Meaning.{combines}
use Rattle.expr_tree.proofs.Layers.{left, right}
use Rattle.std.specs.List.{list_all}
use Rattle.kernel_ir.specs.Mentions.{Allowed, node_allowed, test_allowed, expr_allowed, is_allowed, is_allowed_test, calls, listed, listed_in_test, node_listed, test_listed, expr_listed}
use Rattle.type_infer.proofs.Walks.{among_cases, among_single}
use Rattle.type_infer.proofs.SameCalls.{map-append_first}

module _ (w : Allowed) (P : ℕ → Type 0) (called : (rule n : ℕ) → w.call rule n ≡ true → P rule) where
  abbrev Good : List (ℕ × ℕ) → Type 0
  Good cs = (u : ℕ) → is_among (map (λ c. c.0) cs) u ≡ true → P u

  good_none : Good []
  good_none u e = absurd (true≢false (sym e))

  good_both : (cs ds : List (ℕ × ℕ)) → Good cs → Good ds → Good (cs ++ ds)
  good_both cs ds g h u e = ⊎_elim (g u) (h u) (among_cases (map (λ c. c.0) cs) (map (λ c. c.0) ds) u (subst (λ z. is_among z u ≡ true) (map-append_first cs ds) e))

  abbrev in_node : Node → List (ℕ × ℕ)
  in_node = fold-Node (List (ℕ × ℕ)) (List (ℕ × ℕ)) (List (ℕ × ℕ)) (node_listed calls) (test_listed calls) expr_listed

  abbrev node_may : Node → List ℕ → Bool
  node_may = fold-Node (List ℕ → Bool) (List ℕ → Bool) (List ℕ → Bool) (node_allowed w) test_allowed expr_allowed

  abbrev MayNode : Node → Type 0
  MayNode n = (scope : List ℕ) → node_may n scope ≡ true → Good (in_node n)

  abbrev MayTest : Test → Type 0
  MayTest t = (scope : List ℕ) → is_allowed_test w t scope ≡ true → Good (listed_in_test calls t)

  abbrev MayExpr : Expr → Type 0
  MayExpr e = (scope : List ℕ) → is_allowed w e scope ≡ true → Good (listed calls e)

  node_at : (n : Node-F Node Test Expr)
      → ((scope : List ℕ) → node_allowed w (map-Node _ _ _ _ _ _ node_may (is_allowed_test w) (is_allowed w) n) scope ≡ true
      → Good (node_listed calls (map-Node _ _ _ _ _ _ in_node (listed_in_test calls) (listed calls) n)))
      → MayNode (roll-Node n)
  node_at n h scope e = subst Good (sym (fold-roll-Node (List (ℕ × ℕ)) (List (ℕ × ℕ)) (List (ℕ × ℕ)) (node_listed calls) (test_listed calls) expr_listed n))
      (h scope (ap (λ (f : List ℕ → Bool). f scope) (sym (fold-roll-Node (List ℕ → Bool) (List ℕ → Bool) (List ℕ → Bool) (node_allowed w) test_allowed expr_allowed n)) ∙ e))

  test_at : (t : Test-F Node Test Expr)
      → ((scope : List ℕ) → test_allowed (map-Test _ _ _ _ _ _ node_may (is_allowed_test w) (is_allowed w) t) scope ≡ true
      → Good (test_listed calls (map-Test _ _ _ _ _ _ in_node (listed_in_test calls) (listed calls) t)))
      → MayTest (roll-Test t)
  test_at t h scope e = subst Good (sym (fold-roll-Test (List (ℕ × ℕ)) (List (ℕ × ℕ)) (List (ℕ × ℕ)) (node_listed calls) (test_listed calls) expr_listed t))
      (h scope (ap (λ (f : List ℕ → Bool). f scope) (sym (fold-roll-Test (List ℕ → Bool) (List ℕ → Bool) (List ℕ → Bool) (node_allowed w) test_allowed expr_allowed t)) ∙ e))

  node_case : (y : Node-F ((n : Node) × MayNode n) ((t : Test) × MayTest t) ((e : Expr) × MayExpr e)) → MayNode (roll-Node (map-Node _ _ _ _ _ _ (λ e. e.0) (λ e. e.0) (λ e. e.0) y))
  node_case (Node-F.Literal n) = node_at (Node-F.Literal n) (λ scope e. good_none)
  node_case (Node-F.Leaf form) = node_at (Node-F.Leaf form) (λ scope e. good_none)
  node_case (Node-F.Read cell place) = node_at (Node-F.Read cell place) (λ scope e. good_none)
  node_case (Node-F.Call rule arguments) = node_at (Node-F.Call rule arguments) (λ scope e u among.
      subst P (among_single rule u among) (called rule (length arguments) (left (w.call rule (length arguments)) (list_all (mentions_only scope) arguments) e)))
  node_case (Node-F.Neg a) = node_at (Node-F.Neg a.0) a.1
  node_case (Node-F.Inv a) = node_at (Node-F.Inv a.0) a.1
  node_case (Node-F.Shl a by) = node_at (Node-F.Shl a.0 by) a.1
  node_case (Node-F.Shr a by) = node_at (Node-F.Shr a.0 by) a.1
  node_case (Node-F.Bin op a b) = node_at (Node-F.Bin op a.0 b.0) (λ scope e.
      good_both (listed calls a.0) (listed calls b.0) (a.1 scope (left (is_allowed w a.0 scope) (is_allowed w b.0 scope) e)) (b.1 scope (right (is_allowed w a.0 scope) (is_allowed w b.0 scope) e)))
  node_case (Node-F.Pick t a b) = node_at (Node-F.Pick t.0 a.0 b.0) (λ scope e.
      let later = right (is_allowed_test w t.0 scope) (is_allowed w a.0 scope && is_allowed w b.0 scope) e in
      good_both (listed_in_test calls t.0) (listed calls a.0 ++ listed calls b.0) (t.1 scope (left (is_allowed_test w t.0 scope) (is_allowed w a.0 scope && is_allowed w b.0 scope) e))
      (good_both (listed calls a.0) (listed calls b.0) (a.1 scope (left (is_allowed w a.0 scope) (is_allowed w b.0 scope) later)) (b.1 scope (right (is_allowed w a.0 scope) (is_allowed w b.0 scope) later))))
  node_case (Node-F.Cast kind a) = node_at (Node-F.Cast kind a.0) a.1
  node_case (Node-F.Fold op inames a) = node_at (Node-F.Fold op inames a.0) (λ scope e.
      a.1 (scope ++ inames) (right (w.fold scope inames) (is_allowed w a.0 (scope ++ inames)) (right (combines op) (w.fold scope inames && is_allowed w a.0 (scope ++ inames)) e)))

  test_case : (y : Test-F ((n : Node) × MayNode n) ((t : Test) × MayTest t) ((e : Expr) × MayExpr e)) → MayTest (roll-Test (map-Test _ _ _ _ _ _ (λ e. e.0) (λ e. e.0) (λ e. e.0) y))
  test_case (Test-F.Words rel a b) = test_at (Test-F.Words rel a.0 b.0) (λ scope e.
      good_both (listed calls a.0) (listed calls b.0) (a.1 scope (left (is_allowed w a.0 scope) (is_allowed w b.0 scope) e)) (b.1 scope (right (is_allowed w a.0 scope) (is_allowed w b.0 scope) e)))
  test_case (Test-F.Index rel a b) = test_at (Test-F.Index rel a b) (λ scope e. good_none)
  test_case (Test-F.All p q) = test_at (Test-F.All p.0 q.0) (λ scope e.
      good_both (listed_in_test calls p.0) (listed_in_test calls q.0) (p.1 scope (left (is_allowed_test w p.0 scope) (is_allowed_test w q.0 scope) e)) (q.1 scope (right (is_allowed_test w p.0 scope) (is_allowed_test w q.0 scope) e)))
  test_case (Test-F.Any p q) = test_at (Test-F.Any p.0 q.0) (λ scope e.
      good_both (listed_in_test calls p.0) (listed_in_test calls q.0) (p.1 scope (left (is_allowed_test w p.0 scope) (is_allowed_test w q.0 scope) e)) (q.1 scope (right (is_allowed_test w p.0 scope) (is_allowed_test w q.0 scope) e)))
  test_case (Test-F.Not p) = test_at (Test-F.Not p.0) p.1

  expr_at : (e : Expr-F Node Test Expr) → MayNode e.node → MayExpr (roll-Expr e)
  expr_at e h scope is = subst Good (sym (fold-roll-Expr (List (ℕ × ℕ)) (List (ℕ × ℕ)) (List (ℕ × ℕ)) (node_listed calls) (test_listed calls) expr_listed e))
      (h scope (ap (λ (f : List ℕ → Bool). f scope) (sym (fold-roll-Expr (List ℕ → Bool) (List ℕ → Bool) (List ℕ → Bool) (node_allowed w) test_allowed expr_allowed e)) ∙ is))

  pub allowed_calls : (e : Expr) → MayExpr e
  allowed_calls = ind-Expr MayNode MayTest MayExpr
      (λ n y is. subst (λ z. MayNode (roll-Node z)) is (node_case y))
      (λ t y is. subst (λ z. MayTest (roll-Test z)) is (test_case y))
      (λ e y is. subst (λ z. MayExpr (roll-Expr z)) is (expr_at (map-Expr _ _ _ _ _ _ (λ e. e.0) (λ e. e.0) (λ e. e.0) y) y.node.1))

  pub allowed_test_calls : (t : Test) → MayTest t
  allowed_test_calls = ind-Test MayNode MayTest MayExpr
      (λ n y is. subst (λ z. MayNode (roll-Node z)) is (node_case y))
      (λ t y is. subst (λ z. MayTest (roll-Test z)) is (test_case y))
      (λ e y is. subst (λ z. MayExpr (roll-Expr z)) is (expr_at (map-Expr _ _ _ _ _ _ (λ e. e.0) (λ e. e.0) (λ e. e.0) y) y.node.1))
