-- Laws about the value of trees.
use Rattle.std.specs.Prelude.{◌≡◌, true, false, None}
use Rattle.expr_tree.specs.declared.tree.Expr.{Expr}
use Rattle.expr_tree.specs.declared.tree.Test.{Test}
use Rattle.expr_tree.specs.Scenes.{Scene}
use Rattle.expr_tree.specs.Value.{sense_of, sense_of_test}
use Rattle.expr_tree.specs.Meaning.{World, meaning_of, meaning_of_test, is_plain, is_plain_test}
use Rattle.expr_tree.specs.Rewritten.{Rules, Outcome, outcome_of, outcome_of_test, rewritten, rewritten_test, first_refusal, first_refusal_in_test}
use Rattle.expr_tree.specs.Keeping.{KeepsTheValue, KeepsTheTest, is_made_of, test_is_made_of, all_parts}

-- Trees without rule uses and reductions mean in any world what they mean at the numbers and cells alone.
abbrev pub PlainTreesMeanTheirSense : Type 0
PlainTreesMeanTheirSense = (w : World) (at : Scene) (e : Expr) → is_plain e ≡ true → meaning_of w e at ≡ sense_of at.env w.store e

abbrev pub PlainTestsMeanTheirSense : Type 0
PlainTestsMeanTheirSense = (w : World) (at : Scene) (t : Test) → is_plain_test t ≡ true → meaning_of_test w t at ≡ sense_of_test at.env w.store t

-- What a rewriting does not refuse keeps its value, wherever the rewriting keeps what the parts mean.
abbrev pub RewritingKeepsTheValue : Type 0
RewritingKeepsTheValue = (r : Rules) (e : Expr) → first_refusal r e ≡ None → KeepsTheValue r e (rewritten r e)

abbrev pub RewritingKeepsTests : Type 0
RewritingKeepsTests = (r : Rules) (t : Test) → first_refusal_in_test r t ≡ None → KeepsTheTest r t (rewritten_test r t)

-- All trees are made of all parts.
abbrev pub AllTreesAreMadeOfAllParts : Type 0
AllTreesAreMadeOfAllParts = (e : Expr) → is_made_of all_parts e ≡ true

abbrev pub AllTestsAreMadeOfAllParts : Type 0
AllTestsAreMadeOfAllParts = (t : Test) → test_is_made_of all_parts t ≡ true

-- a part stays where nothing in or below it is replaced, and no node is made anew for it
pub record Stays {T : Type 0} (o : Outcome T) (old : T) : Type 0 where
  pub same : o.new ≡ old
  pub no_nodes : o.nodes ≡ 0

-- Where nothing is replaced the tree stays, and no node is made anew.
abbrev pub UnreplacedTreesStay : Type 0
UnreplacedTreesStay = (r : Rules) (e : Expr) → (outcome_of r e).changed ≡ false → Stays (outcome_of r e) e

abbrev pub UnreplacedTestsStay : Type 0
UnreplacedTestsStay = (r : Rules) (t : Test) → (outcome_of_test r t).changed ≡ false → Stays (outcome_of_test r t) t
