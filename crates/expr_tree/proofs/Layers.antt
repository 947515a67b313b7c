-- Trees made by their layer: what they mean, what comes of them, and of what parts they are made.
use Rattle.std.specs.Prelude.{◌≡◌, Bool, true, false, ◌&&◌}
use Rattle.std.proofs.Common.{refl, sym, true≢false}
use Rattle.expr_tree.specs.declared.tree.Node.{Node, roll-Node, map-Node, fold-roll-Node}
use Rattle.expr_tree.specs.declared.tree.Node.TheOpen.{Node-F, Test-F, Expr-F}
use Rattle.expr_tree.specs.declared.tree.Test.{Test, roll-Test, map-Test, fold-roll-Test}
use Rattle.expr_tree.specs.declared.tree.Expr.{Expr, roll-Expr, fold-roll-Expr}
use Rattle.expr_tree.specs.Value.{Sense, TestSense}
use Rattle.expr_tree.specs.Scenes.{Scene}
use Rattle.expr_tree.specs.Meaning.{World, node_meaning, test_meaning, expr_meaning, meaning_of, meaning_of_node, meaning_of_test}
use Rattle.expr_tree.specs.Rewritten.{Rules, Outcome, node_outcome, test_outcome, expr_outcome, outcome_of, outcome_of_node, outcome_of_test}
use Rattle.expr_tree.specs.Keeping.{Parts, parts_of_node, parts_of_test, parts_of_expr, is_made_of, node_is_made_of, test_is_made_of}

pub meaning_node : (w : World) (n : Node-F Node Test Expr) → meaning_of_node w (roll-Node n) ≡ node_meaning w (map-Node _ _ _ _ _ _ (meaning_of_node w) (meaning_of_test w) (meaning_of w) n)
meaning_node w n = fold-roll-Node (Scene → Sense) (Scene → TestSense) (Scene → Sense) (node_meaning w) (test_meaning w) expr_meaning n

pub meaning_test : (w : World) (t : Test-F Node Test Expr) → meaning_of_test w (roll-Test t) ≡ test_meaning w (map-Test _ _ _ _ _ _ (meaning_of_node w) (meaning_of_test w) (meaning_of w) t)
meaning_test w t = fold-roll-Test (Scene → Sense) (Scene → TestSense) (Scene → Sense) (node_meaning w) (test_meaning w) expr_meaning t

pub meaning_expr : (w : World) (e : Expr-F Node Test Expr) → meaning_of w (roll-Expr e) ≡ meaning_of_node w e.node
meaning_expr w e = fold-roll-Expr (Scene → Sense) (Scene → TestSense) (Scene → Sense) (node_meaning w) (test_meaning w) expr_meaning e

-- what both of two tests hold, each holds
pub left : (p q : Bool) → (p && q) ≡ true → p ≡ true
left true q e = refl
left false q e = e

pub right : (p q : Bool) → (p && q) ≡ true → q ≡ true
right true q e = e
right false q e = absurd (true≢false (sym e))

-- What comes of a part made by its layer, and whether it is made of some parts.
module _ (r : Rules) where
  pub outcome_node : (n : Node-F Node Test Expr) → outcome_of_node r (roll-Node n) ≡ node_outcome r (map-Node _ _ _ _ _ _ (outcome_of_node r) (outcome_of_test r) (outcome_of r) n)
  outcome_node n = fold-roll-Node (Outcome Expr) (Outcome Test) (Outcome Expr) (node_outcome r) (test_outcome r) expr_outcome n

  pub outcome_test : (t : Test-F Node Test Expr) → outcome_of_test r (roll-Test t) ≡ test_outcome r (map-Test _ _ _ _ _ _ (outcome_of_node r) (outcome_of_test r) (outcome_of r) t)
  outcome_test t = fold-roll-Test (Outcome Expr) (Outcome Test) (Outcome Expr) (node_outcome r) (test_outcome r) expr_outcome t

  pub outcome_expr : (e : Expr-F Node Test Expr) → outcome_of r (roll-Expr e) ≡ outcome_of_node r e.node
  outcome_expr e = fold-roll-Expr (Outcome Expr) (Outcome Test) (Outcome Expr) (node_outcome r) (test_outcome r) expr_outcome e

module _ (p : Parts) where
  pub made_node : (n : Node-F Node Test Expr) → node_is_made_of p (roll-Node n) ≡ parts_of_node p (map-Node _ _ _ _ _ _ (node_is_made_of p) (test_is_made_of p) (is_made_of p) n)
  made_node n = fold-roll-Node Bool Bool Bool (parts_of_node p) (parts_of_test p) parts_of_expr n

  pub made_test : (t : Test-F Node Test Expr) → test_is_made_of p (roll-Test t) ≡ parts_of_test p (map-Test _ _ _ _ _ _ (node_is_made_of p) (test_is_made_of p) (is_made_of p) t)
  made_test t = fold-roll-Test Bool Bool Bool (parts_of_node p) (parts_of_test p) parts_of_expr t

  pub made_expr : (e : Expr-F Node Test Expr) → is_made_of p (roll-Expr e) ≡ node_is_made_of p e.node
  made_expr e = fold-roll-Expr Bool Bool Bool (parts_of_node p) (parts_of_test p) parts_of_expr e
