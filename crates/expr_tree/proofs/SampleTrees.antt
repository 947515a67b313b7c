-- What the tests' trees mean and count.
use Rattle.std.specs.Prelude.{◌≡◌, ℕ, true, List, [], Option, None, Ok}
use Rattle.std.proofs.Common.{rules, ap, ap₂, ◌∙◌}
use Rattle.wrap_words.specs.declared.kind.Kind.{Kind}
use Rattle.wrap_words.specs.declared.kind.Kind.TheVariants.{U32}
use Rattle.affine_rows.specs.declared.quasi.Quasi.{Quasi}
use Rattle.affine_rows.specs.Rows.{Env}
use Rattle.expr_tree.specs.declared.tree.Op.{Op}
use Rattle.expr_tree.specs.declared.tree.Op.TheVariants.{Add, Mul}
use Rattle.expr_tree.specs.declared.tree.Rel.{Rel}
use Rattle.expr_tree.specs.declared.tree.Rel.TheVariants.{Less}
use Rattle.expr_tree.specs.declared.tree.Cell.{Cell}
use Rattle.expr_tree.specs.declared.tree.Cell.TheVariants.{Array, Temp}
use Rattle.expr_tree.specs.declared.tree.Node.{Node, the_lemmas}
use Rattle.expr_tree.specs.declared.tree.Node.TheOpen.{Node-F, Test-F}
use Rattle.expr_tree.specs.declared.tree.Node.TheVariants as node
use Rattle.expr_tree.specs.declared.tree.Test.{Test}
use Rattle.expr_tree.specs.declared.tree.Test.TheVariants as test
use Rattle.expr_tree.specs.declared.tree.Expr.{Expr}
use Rattle.expr_tree.specs.Value.{Store, Sense, TestSense, node_sense, test_sense, sense_of, sense_of_test}
use Rattle.expr_tree.specs.Rewritten.{Rules, Outcome, tree_of, answered, node_outcome, outcome_of, replaced_above}
use Rattle.expr_tree.specs.Samples.{sample_store, sample_value, sample_sum, sample_product, renamed, renamed_cell, renaming}

module _ (env : Env) (s : Store) where
  sense-Literal : (n : ℕ) → sense_of env s (tree_of (node.Literal n)) ≡ node_sense env s (Node-F.Literal n)
  sense-Literal n = search (rules, the_lemmas)

  sense-Read : (cell : Cell) (place : List Quasi) → sense_of env s (tree_of (node.Read cell place)) ≡ node_sense env s (Node-F.Read cell place)
  sense-Read cell place = search (rules, the_lemmas)

  sense-Neg : (a : Expr) → sense_of env s (tree_of (node.Neg a)) ≡ node_sense env s (Node-F.Neg (sense_of env s a))
  sense-Neg a = search (rules, the_lemmas)

  sense-Bin : (op : Op) (a b : Expr) → sense_of env s (tree_of (node.Bin op a b)) ≡ node_sense env s (Node-F.Bin op (sense_of env s a) (sense_of env s b))
  sense-Bin op a b = search (rules, the_lemmas)

  sense-Pick : (t : Test) (a b : Expr) → sense_of env s (tree_of (node.Pick t a b)) ≡ node_sense env s (Node-F.Pick (sense_of_test env s t) (sense_of env s a) (sense_of env s b))
  sense-Pick t a b = search (rules, the_lemmas)

  sense-Cast : (to : Kind) (a : Expr) → sense_of env s (tree_of (node.Cast to a)) ≡ node_sense env s (Node-F.Cast to (sense_of env s a))
  sense-Cast to a = search (rules, the_lemmas)

  sense-Words : (rel : Rel) (a b : Expr) → sense_of_test env s (test.Words rel a b) ≡ test_sense env s (Test-F.Words rel (sense_of env s a) (sense_of env s b))
  sense-Words rel a b = search (rules, the_lemmas)

module _ (env : Env) where
  first_sense : sense_of_test env sample_store (test.Words Less (tree_of (node.Literal 1)) (tree_of (node.Read (Array 0) []))) ≡ test_sense env sample_store (Test-F.Words Less (node_sense env sample_store (Node-F.Literal 1)) (node_sense env sample_store (Node-F.Read (Array 0) [])))
  first_sense = sense-Words env sample_store Less (tree_of (node.Literal 1)) (tree_of (node.Read (Array 0) []))
      ∙ ap₂ (λ (x y : Sense). test_sense env sample_store (Test-F.Words Less x y)) (sense-Literal env sample_store 1) (sense-Read env sample_store (Array 0) [])

  then_sense : sense_of env sample_store (tree_of (node.Cast U32 (tree_of (node.Neg (tree_of (node.Read (Temp 0) [])))))) ≡ node_sense env sample_store (Node-F.Cast U32 (node_sense env sample_store (Node-F.Neg (node_sense env sample_store (Node-F.Read (Temp 0) [])))))
  then_sense = sense-Cast env sample_store U32 (tree_of (node.Neg (tree_of (node.Read (Temp 0) []))))
      ∙ ap (λ (x : Sense). node_sense env sample_store (Node-F.Cast U32 x)) (sense-Neg env sample_store (tree_of (node.Read (Temp 0) []))
      ∙ ap (λ (x : Sense). node_sense env sample_store (Node-F.Neg x)) (sense-Read env sample_store (Temp 0) []))

  pick_sense : sense_of env sample_store (tree_of (node.Pick (test.Words Less (tree_of (node.Literal 1)) (tree_of (node.Read (Array 0) []))) (tree_of (node.Cast U32 (tree_of (node.Neg (tree_of (node.Read (Temp 0) [])))))) (tree_of (node.Literal 0))))
      ≡ node_sense env sample_store (Node-F.Pick (test_sense env sample_store (Test-F.Words Less (node_sense env sample_store (Node-F.Literal 1)) (node_sense env sample_store (Node-F.Read (Array 0) [])))) (node_sense env sample_store (Node-F.Cast U32 (node_sense env sample_store (Node-F.Neg (node_sense env sample_store (Node-F.Read (Temp 0) [])))))) (node_sense env sample_store (Node-F.Literal 0)))
  pick_sense = sense-Pick env sample_store (test.Words Less (tree_of (node.Literal 1)) (tree_of (node.Read (Array 0) []))) (tree_of (node.Cast U32 (tree_of (node.Neg (tree_of (node.Read (Temp 0) [])))))) (tree_of (node.Literal 0))
      ∙ (ap (λ (t : TestSense). node_sense env sample_store (Node-F.Pick t (sense_of env sample_store (tree_of (node.Cast U32 (tree_of (node.Neg (tree_of (node.Read (Temp 0) []))))))) (sense_of env sample_store (tree_of (node.Literal 0))))) first_sense
      ∙ ap₂ (λ (x y : Sense). node_sense env sample_store (Node-F.Pick (test_sense env sample_store (Test-F.Words Less (node_sense env sample_store (Node-F.Literal 1)) (node_sense env sample_store (Node-F.Read (Array 0) [])))) x y)) then_sense (sense-Literal env sample_store 0))

  pub has_sample : (sense_of env sample_store sample_value).has U32 ≡ true
  has_sample = ap (λ (x : Sense). x.has U32) (sense-Bin env sample_store Add (tree_of (node.Pick (test.Words Less (tree_of (node.Literal 1)) (tree_of (node.Read (Array 0) []))) (tree_of (node.Cast U32 (tree_of (node.Neg (tree_of (node.Read (Temp 0) [])))))) (tree_of (node.Literal 0)))) (tree_of (node.Literal 7))
      ∙ ap₂ (λ (x y : Sense). node_sense env sample_store (Node-F.Bin Add x y)) pick_sense (sense-Literal env sample_store 7))

module _ (r : Rules) where
  outcome-Literal : (n : ℕ) → outcome_of r (tree_of (node.Literal n)) ≡ answered (r.leaf (node.Literal n)) (tree_of (node.Literal n))
  outcome-Literal n = search (rules, the_lemmas)

  outcome-Read : (cell : Cell) (place : List Quasi) → outcome_of r (tree_of (node.Read cell place)) ≡ answered (r.leaf (node.Read cell place)) (tree_of (node.Read cell place))
  outcome-Read cell place = search (rules, the_lemmas)

  outcome-Bin : (op : Op) (a b : Expr) → outcome_of r (tree_of (node.Bin op a b)) ≡ node_outcome r (Node-F.Bin op (outcome_of r a) (outcome_of r b))
  outcome-Bin op a b = search (rules, the_lemmas)

-- the outcome of `a[i] + n`, by what is put for the read
abbrev sum_outcome : Option Expr → Cell → List Quasi → ℕ → ℕ → Outcome Expr
sum_outcome put cell place n from = node_outcome (renaming from) (Node-F.Bin Add (answered (Ok put) (tree_of (node.Read cell place))) (answered (Ok None) (tree_of (node.Literal n))))

outcome-sum : (from : ℕ) (cell : Cell) (place : List Quasi) (n : ℕ) → outcome_of (renaming from) (sample_sum cell place n) ≡ sum_outcome (renamed_cell from cell place) cell place n from
outcome-sum from cell place n =
    outcome-Bin (renaming from) Add (tree_of (node.Read cell place)) (tree_of (node.Literal n))
    ∙ ap₂ (λ (x y : Outcome Expr). node_outcome (renaming from) (Node-F.Bin Add x y))
    (outcome-Read (renaming from) cell place ∙ ap (λ (l : Node-F Node Test Expr). answered (Ok (renamed from l)) (tree_of (node.Read cell place))) (node.outs-Read cell place))
    (outcome-Literal (renaming from) n ∙ ap (λ (l : Node-F Node Test Expr). answered (Ok (renamed from l)) (tree_of (node.Literal n))) (node.outs-Literal n))

outcome-product : (from : ℕ) (place : List Quasi) → outcome_of (renaming from) (sample_product place) ≡ node_outcome (renaming from) (Node-F.Bin Mul (sum_outcome (renamed_cell from (Array 0) place) (Array 0) place 1 from) (sum_outcome (renamed_cell from (Array 1) place) (Array 1) place 2 from))
outcome-product from place =
    outcome-Bin (renaming from) Mul (sample_sum (Array 0) place 1) (sample_sum (Array 1) place 2)
    ∙ ap₂ (λ (x y : Outcome Expr). node_outcome (renaming from) (Node-F.Bin Mul x y)) (outcome-sum from (Array 0) place 1) (outcome-sum from (Array 1) place 2)

-- two nodes stand over the first read of the product
pub replaced_steps : (from : ℕ) (place : List Quasi) → from ≡ 0 → replaced_above (renaming from) (sample_product place) ≡ 2
replaced_steps from place is = ap (λ (n : ℕ). replaced_above (renaming n) (sample_product place)) is ∙ ap (λ (o : Outcome Expr). o.nodes) (outcome-product 0 place)

pub kept_steps : (from : ℕ) (place : List Quasi) → from ≡ 5 → replaced_above (renaming from) (sample_product place) ≡ 0
kept_steps from place is = ap (λ (n : ℕ). replaced_above (renaming n) (sample_product place)) is ∙ ap (λ (o : Outcome Expr). o.nodes) (outcome-product 5 place)
