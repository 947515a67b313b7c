-- A node that has a value at a kind: what its parts then have.
use Rattle.std.proofs.Common.{◌≡◌, Bool, true, false, ◌&&◌, if◌then◌else◌, unwrap_or, subst, refl, ap, sym, ◌∙◌}
use Rattle.wrap_words.specs.declared.kind.Kind.{Kind}
use Rattle.affine_rows.specs.Rows.{Env}
use Rattle.expr_tree.specs.declared.tree.Op.{Op}
use Rattle.expr_tree.specs.declared.tree.Node.{Node, out-Node, map-Node, fold_out-Node}
use Rattle.expr_tree.specs.declared.tree.Node.TheOpen.{Node-F}
use Rattle.expr_tree.specs.declared.tree.Node.TheVariants.{Neg, Inv, Bin, Pick, Cast, outs-Neg, outs-Inv, outs-Bin, outs-Pick, outs-Cast}
use Rattle.expr_tree.specs.declared.tree.Test.{Test}
use Rattle.expr_tree.specs.declared.tree.Expr.{Expr, fold_out-Expr}
use Rattle.expr_tree.specs.Trees.{node_of}
use Rattle.expr_tree.specs.Value.{Store, Sense, TestSense, node_sense, test_sense, expr_sense, sense_of_node, sense_of_test, sense_of, same_kind}

-- a tree's sense is that of its node
pub sense-node : (env : Env) (s : Store) (e : Expr) → sense_of env s e ≡ sense_of_node env s (node_of e)
sense-node env s = fold_out-Expr Sense TestSense Sense (node_sense env s) (test_sense env s) expr_sense

pub has-node : (env : Env) (s : Store) (e : Expr) (n : Node) (k : Kind) → n ≡ node_of e → (sense_of env s e).has k ≡ true → (sense_of_node env s n).has k ≡ true
has-node env s e n k is h = subst (λ z. (sense_of_node env s z).has k ≡ true) (sym is) (subst (λ z. z.has k ≡ true) (sense-node env s e) h)

-- a node's sense, by one level of it
pub sense-out : (env : Env) (s : Store) (n : Node) → sense_of_node env s n ≡ node_sense env s (map-Node _ _ _ _ _ _ (sense_of_node env s) (sense_of_test env s) (sense_of env s) (out-Node n))
sense-out env s = fold_out-Node Sense TestSense Sense (node_sense env s) (test_sense env s) expr_sense

pub both_left : (p q : Bool) → (p && q) ≡ true → p ≡ true
both_left true q h = refl
both_left false q h = h

pub both_right : (p q : Bool) → (p && q) ≡ true → q ≡ true
both_right true q h = h
both_right false q h = absurd (cc)

pub chosen_then : (p c a b : Bool) → (p && (if c then a else b)) ≡ true → c ≡ true → a ≡ true
chosen_then true true a b h e = h
chosen_then true false a b h e = absurd (cc)
chosen_then false c a b h e = absurd (cc)

pub chosen_else : (p c a b : Bool) → (p && (if c then a else b)) ≡ true → c ≡ false → b ≡ true
chosen_else true false a b h e = h
chosen_else true true a b h e = absurd (cc)
chosen_else false c a b h e = absurd (cc)

module _ (env : Env) (s : Store) (n : Node) (k : Kind) (h : (sense_of_node env s n).has k ≡ true) where
  at_layer : (layer : Node-F Node Test Expr) → out-Node n ≡ layer → (node_sense env s (map-Node _ _ _ _ _ _ (sense_of_node env s) (sense_of_test env s) (sense_of env s) layer)).has k ≡ true
  at_layer layer e =
      subst (λ z. (node_sense env s (map-Node _ _ _ _ _ _ (sense_of_node env s) (sense_of_test env s) (sense_of env s) z)).has k ≡ true) e
      (subst (λ z. z.has k ≡ true) (sense-out env s n) h)

  pub has-Neg : (a : Expr) → n ≡ Neg a → (sense_of env s a).has k ≡ true
  has-Neg a e = at_layer _ (ap out-Node e ∙ outs-Neg a)

  pub has-Inv : (a : Expr) → n ≡ Inv a → (sense_of env s a).has k ≡ true
  has-Inv a e = at_layer _ (ap out-Node e ∙ outs-Inv a)

  pub has-Bin : (op : Op) (a b : Expr) → n ≡ Bin op a b → (sense_of env s a).has k ≡ true
  has-Bin op a b e = both_left ((sense_of env s a).has k) ((sense_of env s b).has k) (at_layer _ (ap out-Node e ∙ outs-Bin op a b))

  pick_has : (t : Test) (a b : Expr) → n ≡ Pick t a b → ((sense_of_test env s t).has k && (if (sense_of_test env s t).holds k then (sense_of env s a).has k else (sense_of env s b).has k)) ≡ true
  pick_has t a b e = at_layer _ (ap out-Node e ∙ outs-Pick t a b)

  pub has-Pick_then : (t : Test) (a b : Expr) → n ≡ Pick t a b → (sense_of_test env s t).holds k ≡ true → (sense_of env s a).has k ≡ true
  has-Pick_then t a b e h =
      chosen_then ((sense_of_test env s t).has k) ((sense_of_test env s t).holds k) ((sense_of env s a).has k) ((sense_of env s b).has k) (pick_has t a b e) h

  pub has-Pick_else : (t : Test) (a b : Expr) → n ≡ Pick t a b → (sense_of_test env s t).holds k ≡ false → (sense_of env s b).has k ≡ true
  has-Pick_else t a b e h =
      chosen_else ((sense_of_test env s t).has k) ((sense_of_test env s t).holds k) ((sense_of env s a).has k) ((sense_of env s b).has k) (pick_has t a b e) h

  pub has-Cast : (to : Kind) (a : Expr) → n ≡ Cast to a → (sense_of env s a).has (unwrap_or (sense_of env s a).first to) ≡ true
  has-Cast to a e =
      both_right (same_kind to k) ((sense_of env s a).has (unwrap_or (sense_of env s a).first to)) (at_layer _ (ap out-Node e ∙ outs-Cast to a))
