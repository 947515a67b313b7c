-- A fold over trees depends on what it gives uses of rules only at the rules that the tree uses.
use Rattle.std.proofs.Common.{◌≡◌, ℕ, true, List, [], ◌∷◌, ◌++◌, map, refl, sym, ap, ap₂, subst, ◌∙◌}
use Rattle.expr_tree.specs.declared.tree.Node.{Node, fold-Node, roll-Node, map-Node, fold-roll-Node}
use Rattle.expr_tree.specs.declared.tree.Node.TheOpen.{Node-F, Test-F, Expr-F}
use Rattle.expr_tree.specs.declared.tree.Test.{Test, fold-Test, roll-Test, map-Test, fold-roll-Test}
use Rattle.expr_tree.specs.declared.tree.Expr.{Expr, fold-Expr, roll-Expr, map-Expr, ind-Expr, fold-roll-Expr}
use Rattle.expr_tree.specs.Scenes.{is_among}
use Rattle.kernel_ir.specs.Mentions.{calls, listed, listed_in_test, node_listed, test_listed, expr_listed}
use Rattle.type_infer.proofs.Walks.{among_left, among_right, among_one}

-- what is to be shown of a node's own use of a rule
abbrev pub Own : {A B : Type 0} → (ℕ → Type 0) → Node-F A B A → Type 0
Own same (Node-F.Call rule arguments) = same rule
Own same _ = Unit {0}

pub map-append_first : (xs ys : List (ℕ × ℕ)) → map (λ c. c.0) (xs ++ ys) ≡ map (λ c. c.0) xs ++ map (λ c. c.0) ys
map-append_first [] ys = refl
map-append_first (x ∷ xs) ys = ap (λ zs. x.0 ∷ zs) (map-append_first xs ys)

module _ {A B : Type 0} (same : ℕ → Type 0) (f g : Node-F A B A → A) (t : Test-F A B A → B) (x : Expr-F A B A → A)
    (own : (n : Node-F A B A) → Own same n → f n ≡ g n) where
  -- each rule that is listed is the same
  abbrev Good : List (ℕ × ℕ) → Type 0
  Good cs = (u : ℕ) → is_among (map (λ c. c.0) cs) u ≡ true → same u

  good_left : (cs ds : List (ℕ × ℕ)) → Good (cs ++ ds) → Good cs
  good_left cs ds h u e = h u (subst (λ z. is_among z u ≡ true) (sym (map-append_first cs ds)) (among_left (map (λ c. c.0) cs) (map (λ c. c.0) ds) u e))

  good_right : (cs ds : List (ℕ × ℕ)) → Good (cs ++ ds) → Good ds
  good_right cs ds h u e = h u (subst (λ z. is_among z u ≡ true) (sym (map-append_first cs ds)) (among_right (map (λ c. c.0) cs) (map (λ c. c.0) ds) u e))

  abbrev in_node : Node → List (ℕ × ℕ)
  in_node = fold-Node (List (ℕ × ℕ)) (List (ℕ × ℕ)) (List (ℕ × ℕ)) (node_listed calls) (test_listed calls) expr_listed

  abbrev node_f : Node → A
  node_f = fold-Node A B A f t x

  abbrev node_g : Node → A
  node_g = fold-Node A B A g t x

  abbrev test_f : Test → B
  test_f = fold-Test A B A f t x

  abbrev test_g : Test → B
  test_g = fold-Test A B A g t x

  abbrev expr_f : Expr → A
  expr_f = fold-Expr A B A f t x

  abbrev expr_g : Expr → A
  expr_g = fold-Expr A B A g t x

  abbrev SameNode : Node → Type 0
  SameNode n = Good (in_node n) → node_f n ≡ node_g n

  abbrev SameTest : Test → Type 0
  SameTest s = Good (listed_in_test calls s) → test_f s ≡ test_g s

  abbrev SameExpr : Expr → Type 0
  SameExpr e = Good (listed calls e) → expr_f e ≡ expr_g e

  node_at : (n : Node-F Node Test Expr)
      → (Good (node_listed calls (map-Node _ _ _ _ _ _ in_node (listed_in_test calls) (listed calls) n))
      → f (map-Node _ _ _ _ _ _ node_f test_f expr_f n) ≡ g (map-Node _ _ _ _ _ _ node_g test_g expr_g n))
      → SameNode (roll-Node n)
  node_at n h good = fold-roll-Node A B A f t x n
      ∙ (h (subst Good (fold-roll-Node (List (ℕ × ℕ)) (List (ℕ × ℕ)) (List (ℕ × ℕ)) (node_listed calls) (test_listed calls) expr_listed n) good) ∙ sym (fold-roll-Node A B A g t x n))

  test_at : (s : Test-F Node Test Expr)
      → (Good (test_listed calls (map-Test _ _ _ _ _ _ in_node (listed_in_test calls) (listed calls) s))
      → t (map-Test _ _ _ _ _ _ node_f test_f expr_f s) ≡ t (map-Test _ _ _ _ _ _ node_g test_g expr_g s))
      → SameTest (roll-Test s)
  test_at s h good = fold-roll-Test A B A f t x s
      ∙ (h (subst Good (fold-roll-Test (List (ℕ × ℕ)) (List (ℕ × ℕ)) (List (ℕ × ℕ)) (node_listed calls) (test_listed calls) expr_listed s) good) ∙ sym (fold-roll-Test A B A g t x s))

  node_case : (y : Node-F ((n : Node) × SameNode n) ((s : Test) × SameTest s) ((e : Expr) × SameExpr e)) → SameNode (roll-Node (map-Node _ _ _ _ _ _ (λ e. e.0) (λ e. e.0) (λ e. e.0) y))
  node_case (Node-F.Literal n) = node_at (Node-F.Literal n) (λ good. own (Node-F.Literal n) tt)
  node_case (Node-F.Leaf form) = node_at (Node-F.Leaf form) (λ good. own (Node-F.Leaf form) tt)
  node_case (Node-F.Read cell place) = node_at (Node-F.Read cell place) (λ good. own (Node-F.Read cell place) tt)
  node_case (Node-F.Call rule arguments) = node_at (Node-F.Call rule arguments) (λ good. own (Node-F.Call rule arguments) (good rule (among_one rule)))
  node_case (Node-F.Neg a) = node_at (Node-F.Neg a.0) (λ good. ap (λ s. f (Node-F.Neg s)) (a.1 good) ∙ own (Node-F.Neg (expr_g a.0)) tt)
  node_case (Node-F.Inv a) = node_at (Node-F.Inv a.0) (λ good. ap (λ s. f (Node-F.Inv s)) (a.1 good) ∙ own (Node-F.Inv (expr_g a.0)) tt)
  node_case (Node-F.Shl a by) = node_at (Node-F.Shl a.0 by) (λ good. ap (λ s. f (Node-F.Shl s by)) (a.1 good) ∙ own (Node-F.Shl (expr_g a.0) by) tt)
  node_case (Node-F.Shr a by) = node_at (Node-F.Shr a.0 by) (λ good. ap (λ s. f (Node-F.Shr s by)) (a.1 good) ∙ own (Node-F.Shr (expr_g a.0) by) tt)
  node_case (Node-F.Bin op a b) = node_at (Node-F.Bin op a.0 b.0) (λ good.
      ap₂ (λ s r. f (Node-F.Bin op s r)) (a.1 (good_left (listed calls a.0) (listed calls b.0) good)) (b.1 (good_right (listed calls a.0) (listed calls b.0) good))
      ∙ own (Node-F.Bin op (expr_g a.0) (expr_g b.0)) tt)
  node_case (Node-F.Pick s a b) = node_at (Node-F.Pick s.0 a.0 b.0) (λ good.
      let later = good_right (listed_in_test calls s.0) (listed calls a.0 ++ listed calls b.0) good in
      ap (λ z. f (Node-F.Pick z (expr_f a.0) (expr_f b.0))) (s.1 (good_left (listed_in_test calls s.0) (listed calls a.0 ++ listed calls b.0) good))
      ∙ (ap₂ (λ p q. f (Node-F.Pick (test_g s.0) p q)) (a.1 (good_left (listed calls a.0) (listed calls b.0) later)) (b.1 (good_right (listed calls a.0) (listed calls b.0) later))
      ∙ own (Node-F.Pick (test_g s.0) (expr_g a.0) (expr_g b.0)) tt))
  node_case (Node-F.Cast kind a) = node_at (Node-F.Cast kind a.0) (λ good. ap (λ s. f (Node-F.Cast kind s)) (a.1 good) ∙ own (Node-F.Cast kind (expr_g a.0)) tt)
  node_case (Node-F.Fold op inames a) = node_at (Node-F.Fold op inames a.0) (λ good. ap (λ s. f (Node-F.Fold op inames s)) (a.1 good) ∙ own (Node-F.Fold op inames (expr_g a.0)) tt)

  test_case : (y : Test-F ((n : Node) × SameNode n) ((s : Test) × SameTest s) ((e : Expr) × SameExpr e)) → SameTest (roll-Test (map-Test _ _ _ _ _ _ (λ e. e.0) (λ e. e.0) (λ e. e.0) y))
  test_case (Test-F.Words rel a b) = test_at (Test-F.Words rel a.0 b.0) (λ good.
      ap₂ (λ p q. t (Test-F.Words rel p q)) (a.1 (good_left (listed calls a.0) (listed calls b.0) good)) (b.1 (good_right (listed calls a.0) (listed calls b.0) good)))
  test_case (Test-F.Index rel a b) = test_at (Test-F.Index rel a b) (λ good. refl)
  test_case (Test-F.All p q) = test_at (Test-F.All p.0 q.0) (λ good.
      ap₂ (λ y z. t (Test-F.All y z)) (p.1 (good_left (listed_in_test calls p.0) (listed_in_test calls q.0) good)) (q.1 (good_right (listed_in_test calls p.0) (listed_in_test calls q.0) good)))
  test_case (Test-F.Any p q) = test_at (Test-F.Any p.0 q.0) (λ good.
      ap₂ (λ y z. t (Test-F.Any y z)) (p.1 (good_left (listed_in_test calls p.0) (listed_in_test calls q.0) good)) (q.1 (good_right (listed_in_test calls p.0) (listed_in_test calls q.0) good)))
  test_case (Test-F.Not p) = test_at (Test-F.Not p.0) (λ good. ap (λ z. t (Test-F.Not z)) (p.1 good))

  expr_case : (e : Expr-F Node Test Expr) → ((a b : A) → a ≡ b → x (record { node = a }) ≡ x (record { node = b })) → SameNode e.node → SameExpr (roll-Expr e)
  expr_case e cong h good = fold-roll-Expr A B A f t x e
      ∙ (cong (node_f e.node) (node_g e.node) (h (subst Good (fold-roll-Expr (List (ℕ × ℕ)) (List (ℕ × ℕ)) (List (ℕ × ℕ)) (node_listed calls) (test_listed calls) expr_listed e) good)) ∙ sym (fold-roll-Expr A B A g t x e))

  pub same_fold : (e : Expr) → SameExpr e
  same_fold = ind-Expr SameNode SameTest SameExpr
      (λ n y is. subst (λ z. SameNode (roll-Node z)) is (node_case y))
      (λ s y is. subst (λ z. SameTest (roll-Test z)) is (test_case y))
      (λ e y is. subst (λ z. SameExpr (roll-Expr z)) is (expr_case (map-Expr _ _ _ _ _ _ (λ e. e.0) (λ e. e.0) (λ e. e.0) y) (λ a b e. ap (λ z. x (record { node = z })) e) y.node.1))
