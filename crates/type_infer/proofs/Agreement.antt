-- An expression has a kind exactly where it has no fault at it.
use Rattle.std.proofs.Common.{◌≡◌, ℕ, Bool, true, false, ◌&&◌, nat_lt, List, ◌++◌, length, Option, Some, None, unwrap_or, is_some, cond, refl, sym, ap, ap₂, subst, ◌∙◌}
use Rattle.std.specs.Option.{option_or, is_none}
use Rattle.std.proofs.lemmas.Bool.{true≢false}
use Rattle.wrap_words.specs.declared.kind.Kind.{Kind}
use Rattle.wrap_words.specs.Words.{width_of, modulus_of}
use Rattle.expr_tree.specs.declared.tree.Cell.{Cell}
use Rattle.expr_tree.specs.declared.tree.Node.{Node, fold-Node, roll-Node, map-Node, fold-roll-Node}
use Rattle.expr_tree.specs.declared.tree.Node.TheOpen.{Node-F, Test-F, Expr-F}
use Rattle.expr_tree.specs.declared.tree.Test.{Test, roll-Test, map-Test, ind-Test, fold-roll-Test}
use Rattle.expr_tree.specs.declared.tree.Expr.{Expr, roll-Expr, map-Expr, ind-Expr, fold-roll-Expr}
use Rattle.expr_tree.specs.Scenes.{mentions_only}
use Rattle.expr_tree.specs.Meaning.{combines}
use Rattle.expr_tree.specs.Value.{same_kind, is_unsigned, first_of_two}
use Rattle.expr_tree.proofs.Layers.{left, right}
use Rattle.std.specs.List.{list_all}
use Rattle.kernel_ir.specs.Kinds.{Kinds, Typing, node_typing, test_typing, expr_typing, typing_of, typing_of_test, is_kind}
use Rattle.kernel_ir.specs.Mentions.{Allowed, node_allowed, test_allowed, expr_allowed, is_allowed, is_allowed_test}
use Rattle.kind_faults.specs.declared.faults.Mismatch.{Mismatch}
use Rattle.kind_faults.specs.Faults.{Judged, unless, kind_fault, read_fault, side_kind}
use Rattle.type_infer.specs.Judged.{Known, node_judged, test_judged, expr_judged, judged_of, mismatch_of_test}

-- the same first kind, and kinds exactly where there is no fault
pub record Agrees (t : Typing) (j : Judged) : Type 0 where
  pub first : t.first ≡ j.first
  pub has : (k : Kind) → t.has k ≡ is_none (j.fault k)

none_or : (f g : Option Mismatch) → is_none (option_or f g) ≡ (is_none f && is_none g)
none_or None g = refl
none_or (Some m) g = refl

none_unless : (b : Bool) (k : Kind) → b ≡ is_none (unless b k)
none_unless true k = refl
none_unless false k = refl

none_of_kind : (b : Bool) (m : Mismatch) → b ≡ is_none (cond b None (Some m))
none_of_kind true m = refl
none_of_kind false m = refl

none_read : (o : Option Kind) → is_some o ≡ true → (k : Kind) → is_kind o k ≡ is_none (read_fault o k)
none_read None h k = absurd (true≢false (sym h))
none_read (Some found) h k = none_of_kind (same_kind found k) (record { wanted = k; found = Some found })

and_turned : (p q : Bool) → (p && q) ≡ (q && p)
and_turned true true = refl
and_turned true false = refl
and_turned false true = refl
and_turned false false = refl

and_regrouped : (p q r : Bool) → (p && (q && r)) ≡ ((p && q) && r)
and_regrouped true q r = refl
and_regrouped false q r = refl

both_none : (p q : Bool) (f g : Option Mismatch) → p ≡ is_none f → q ≡ is_none g → (p && q) ≡ is_none (option_or f g)
both_none p q f g h e = ap₂ (λ (x y : Bool). x && y) h e ∙ sym (none_or f g)

module _ (a : Allowed) (w : Kinds) (v : Known) (cells : (c : Cell) → w.cell c ≡ v.cell c) (reads : (c : Cell) (n : ℕ) → a.read c n ≡ true → is_some (v.cell c) ≡ true)
    (calls : (rule : ℕ) → Agrees (w.call rule) (v.call rule)) where
  abbrev node_may : Node → List ℕ → Bool
  node_may = fold-Node (List ℕ → Bool) (List ℕ → Bool) (List ℕ → Bool) (node_allowed a) test_allowed expr_allowed

  abbrev typing_node : Node → Typing
  typing_node = fold-Node Typing (Kind → Bool) Typing (node_typing w) test_typing expr_typing

  abbrev judged_node : Node → Judged
  judged_node = fold-Node Judged (Kind → Option Mismatch) Judged (node_judged v) test_judged expr_judged

  abbrev AgreesNode : Node → Type 0
  AgreesNode n = (scope : List ℕ) → node_may n scope ≡ true → Agrees (typing_node n) (judged_node n)

  abbrev AgreesTest : Test → Type 0
  AgreesTest t = (scope : List ℕ) → is_allowed_test a t scope ≡ true → (k : Kind) → typing_of_test w t k ≡ is_none (mismatch_of_test v t k)

  abbrev AgreesExpr : Expr → Type 0
  AgreesExpr e = (scope : List ℕ) → is_allowed a e scope ≡ true → Agrees (typing_of w e) (judged_of v e)

  node_at : (n : Node-F Node Test Expr)
      → ((scope : List ℕ) → node_allowed a (map-Node _ _ _ _ _ _ node_may (is_allowed_test a) (is_allowed a) n) scope ≡ true
      → Agrees (node_typing w (map-Node _ _ _ _ _ _ typing_node (typing_of_test w) (typing_of w) n)) (node_judged v (map-Node _ _ _ _ _ _ judged_node (mismatch_of_test v) (judged_of v) n)))
      → AgreesNode (roll-Node n)
  node_at n h scope e =
      subst (λ z. Agrees z (judged_node (roll-Node n))) (sym (fold-roll-Node Typing (Kind → Bool) Typing (node_typing w) test_typing expr_typing n))
      (subst (λ z. Agrees (node_typing w (map-Node _ _ _ _ _ _ typing_node (typing_of_test w) (typing_of w) n)) z)
      (sym (fold-roll-Node Judged (Kind → Option Mismatch) Judged (node_judged v) test_judged expr_judged n))
      (h scope (ap (λ (f : List ℕ → Bool). f scope) (sym (fold-roll-Node (List ℕ → Bool) (List ℕ → Bool) (List ℕ → Bool) (node_allowed a) test_allowed expr_allowed n)) ∙ e)))

  test_at : (t : Test-F Node Test Expr)
      → ((scope : List ℕ) → test_allowed (map-Test _ _ _ _ _ _ node_may (is_allowed_test a) (is_allowed a) t) scope ≡ true → (k : Kind)
      → test_typing (map-Test _ _ _ _ _ _ typing_node (typing_of_test w) (typing_of w) t) k ≡ is_none (test_judged (map-Test _ _ _ _ _ _ judged_node (mismatch_of_test v) (judged_of v) t) k))
      → AgreesTest (roll-Test t)
  test_at t h scope e k =
      ap (λ (f : Kind → Bool). f k) (fold-roll-Test Typing (Kind → Bool) Typing (node_typing w) test_typing expr_typing t)
      ∙ (h scope (ap (λ (f : List ℕ → Bool). f scope) (sym (fold-roll-Test (List ℕ → Bool) (List ℕ → Bool) (List ℕ → Bool) (node_allowed a) test_allowed expr_allowed t)) ∙ e) k
      ∙ sym (ap (λ (f : Kind → Option Mismatch). is_none (f k)) (fold-roll-Test Judged (Kind → Option Mismatch) Judged (node_judged v) test_judged expr_judged t)))

  node_case : (y : Node-F ((n : Node) × AgreesNode n) ((t : Test) × AgreesTest t) ((e : Expr) × AgreesExpr e)) → AgreesNode (roll-Node (map-Node _ _ _ _ _ _ (λ e. e.0) (λ e. e.0) (λ e. e.0) y))
  node_case (Node-F.Literal n) = node_at (Node-F.Literal n) (λ scope e. record { first = refl; has = λ k. none_unless (nat_lt n (modulus_of k)) k })
  node_case (Node-F.Leaf form) = node_at (Node-F.Leaf form) (λ scope e. record { first = refl; has = λ k. refl })
  node_case (Node-F.Read cell place) = node_at (Node-F.Read cell place) (λ scope e. record {
    first = cells cell;
    has = λ k. ap (λ o. is_kind o k) (cells cell) ∙ none_read (v.cell cell) (reads cell (length place) (left (a.read cell (length place)) (list_all (mentions_only scope) place) e)) k;
  })
  node_case (Node-F.Call rule arguments) = node_at (Node-F.Call rule arguments) (λ scope e. calls rule)
  node_case (Node-F.Neg b) = node_at (Node-F.Neg b.0) b.1
  node_case (Node-F.Inv b) = node_at (Node-F.Inv b.0) b.1
  node_case (Node-F.Shl b by) = node_at (Node-F.Shl b.0 by) (λ scope e. let is = b.1 scope e in record {
    first = is.first;
    has = λ k. and_turned (nat_lt by (width_of k)) ((typing_of w b.0).has k)
        ∙ both_none ((typing_of w b.0).has k) (nat_lt by (width_of k)) ((judged_of v b.0).fault k) (unless (nat_lt by (width_of k)) k) (is.has k) (none_unless (nat_lt by (width_of k)) k);
  })
  node_case (Node-F.Shr b by) = node_at (Node-F.Shr b.0 by) (λ scope e. let is = b.1 scope e in record {
    first = is.first;
    has = λ k. and_regrouped (is_unsigned k) (nat_lt by (width_of k)) ((typing_of w b.0).has k)
        ∙ (and_turned (is_unsigned k && nat_lt by (width_of k)) ((typing_of w b.0).has k)
        ∙ both_none ((typing_of w b.0).has k) (is_unsigned k && nat_lt by (width_of k)) ((judged_of v b.0).fault k) (unless (is_unsigned k && nat_lt by (width_of k)) k) (is.has k)
        (none_unless (is_unsigned k && nat_lt by (width_of k)) k));
  })
  node_case (Node-F.Bin op b c) = node_at (Node-F.Bin op b.0 c.0) (λ scope e.
      let l = b.1 scope (left (is_allowed a b.0 scope) (is_allowed a c.0 scope) e) in
      let r = c.1 scope (right (is_allowed a b.0 scope) (is_allowed a c.0 scope) e) in
      record {
        first = ap₂ first_of_two l.first r.first;
        has = λ k. both_none ((typing_of w b.0).has k) ((typing_of w c.0).has k) ((judged_of v b.0).fault k) ((judged_of v c.0).fault k) (l.has k) (r.has k);
      })
  node_case (Node-F.Pick t b c) = node_at (Node-F.Pick t.0 b.0 c.0) (λ scope e.
      let later = right (is_allowed_test a t.0 scope) (is_allowed a b.0 scope && is_allowed a c.0 scope) e in
      let s = t.1 scope (left (is_allowed_test a t.0 scope) (is_allowed a b.0 scope && is_allowed a c.0 scope) e) in
      let l = b.1 scope (left (is_allowed a b.0 scope) (is_allowed a c.0 scope) later) in
      let r = c.1 scope (right (is_allowed a b.0 scope) (is_allowed a c.0 scope) later) in
      record {
        first = ap₂ first_of_two l.first r.first;
        has = λ k. both_none (typing_of_test w t.0 k) ((typing_of w b.0).has k && (typing_of w c.0).has k) (mismatch_of_test v t.0 k) (option_or ((judged_of v b.0).fault k) ((judged_of v c.0).fault k)) (s k)
            (both_none ((typing_of w b.0).has k) ((typing_of w c.0).has k) ((judged_of v b.0).fault k) ((judged_of v c.0).fault k) (l.has k) (r.has k));
      })
  node_case (Node-F.Cast to b) = node_at (Node-F.Cast to b.0) (λ scope e. let is = b.1 scope e in record {
    first = refl;
    has = λ k. both_none (same_kind to k) ((typing_of w b.0).has (unwrap_or (typing_of w b.0).first to)) (kind_fault to k) ((judged_of v b.0).fault (unwrap_or (judged_of v b.0).first to))
        (none_of_kind (same_kind to k) (record { wanted = k; found = Some to }))
        (is.has (unwrap_or (typing_of w b.0).first to) ∙ ap (λ o. is_none ((judged_of v b.0).fault (unwrap_or o to))) is.first);
  })
  node_case (Node-F.Fold op inames b) = node_at (Node-F.Fold op inames b.0) (λ scope e.
      b.1 (scope ++ inames) (right (a.fold scope inames) (is_allowed a b.0 (scope ++ inames)) (right (combines op) (a.fold scope inames && is_allowed a b.0 (scope ++ inames)) e)))

  test_case : (y : Test-F ((n : Node) × AgreesNode n) ((t : Test) × AgreesTest t) ((e : Expr) × AgreesExpr e)) → AgreesTest (roll-Test (map-Test _ _ _ _ _ _ (λ e. e.0) (λ e. e.0) (λ e. e.0) y))
  test_case (Test-F.Words rel b c) = test_at (Test-F.Words rel b.0 c.0) (λ scope e k.
      let l = b.1 scope (left (is_allowed a b.0 scope) (is_allowed a c.0 scope) e) in
      let r = c.1 scope (right (is_allowed a b.0 scope) (is_allowed a c.0 scope) e) in
      let side = ap₂ (λ f g. unwrap_or (first_of_two f g) k) l.first r.first in
      ap (λ s. (typing_of w b.0).has s && (typing_of w c.0).has s) side
      ∙ (let s = side_kind (judged_of v b.0) (judged_of v c.0) k in
      both_none ((typing_of w b.0).has s) ((typing_of w c.0).has s) ((judged_of v b.0).fault s) ((judged_of v c.0).fault s) (l.has s) (r.has s)))
  test_case (Test-F.Index rel b c) = test_at (Test-F.Index rel b c) (λ scope e k. refl)
  test_case (Test-F.All p q) = test_at (Test-F.All p.0 q.0) (λ scope e k.
      both_none (typing_of_test w p.0 k) (typing_of_test w q.0 k) (mismatch_of_test v p.0 k) (mismatch_of_test v q.0 k)
      (p.1 scope (left (is_allowed_test a p.0 scope) (is_allowed_test a q.0 scope) e) k) (q.1 scope (right (is_allowed_test a p.0 scope) (is_allowed_test a q.0 scope) e) k))
  test_case (Test-F.Any p q) = test_at (Test-F.Any p.0 q.0) (λ scope e k.
      both_none (typing_of_test w p.0 k) (typing_of_test w q.0 k) (mismatch_of_test v p.0 k) (mismatch_of_test v q.0 k)
      (p.1 scope (left (is_allowed_test a p.0 scope) (is_allowed_test a q.0 scope) e) k) (q.1 scope (right (is_allowed_test a p.0 scope) (is_allowed_test a q.0 scope) e) k))
  test_case (Test-F.Not p) = test_at (Test-F.Not p.0) p.1

  expr_at : (e : Expr-F Node Test Expr) → AgreesNode e.node → AgreesExpr (roll-Expr e)
  expr_at e h scope is =
      subst (λ z. Agrees z (judged_of v (roll-Expr e))) (sym (fold-roll-Expr Typing (Kind → Bool) Typing (node_typing w) test_typing expr_typing e))
      (subst (λ z. Agrees (typing_node e.node) z) (sym (fold-roll-Expr Judged (Kind → Option Mismatch) Judged (node_judged v) test_judged expr_judged e))
      (h scope (ap (λ (f : List ℕ → Bool). f scope) (sym (fold-roll-Expr (List ℕ → Bool) (List ℕ → Bool) (List ℕ → Bool) (node_allowed a) test_allowed expr_allowed e)) ∙ is)))

  pub agrees : (e : Expr) → AgreesExpr e
  agrees = ind-Expr AgreesNode AgreesTest AgreesExpr
      (λ n y is. subst (λ z. AgreesNode (roll-Node z)) is (node_case y))
      (λ t y is. subst (λ z. AgreesTest (roll-Test z)) is (test_case y))
      (λ e y is. subst (λ z. AgreesExpr (roll-Expr z)) is (expr_at (map-Expr _ _ _ _ _ _ (λ e. e.0) (λ e. e.0) (λ e. e.0) y) y.node.1))

  pub agrees_test : (t : Test) → AgreesTest t
  agrees_test = ind-Test AgreesNode AgreesTest AgreesExpr
      (λ n y is. subst (λ z. AgreesNode (roll-Node z)) is (node_case y))
      (λ t y is. subst (λ z. AgreesTest (roll-Test z)) is (test_case y))
      (λ e y is. subst (λ z. AgreesExpr (roll-Expr z)) is (expr_at (map-Expr _ _ _ _ _ _ (λ e. e.0) (λ e. e.0) (λ e. e.0) y) y.node.1))
