-- The values of forms and of the nodes of values.
use Rattle.std.specs.Prelude.{◌≡◌, ℕ, ◌+◌, ℤ, pos, ◌+ℤ◌, List, [], ◌∷◌}
use Rattle.std.proofs.Common.{refl, ap, ◌∙◌, arith, rules}
use Rattle.std.proofs.lemmas.Int.{ints}
use Rattle.wrap_words.specs.declared.kind.Kind.{Kind}
use Rattle.wrap_words.specs.Words.{word_of}
use Rattle.affine_rows.specs.declared.quasi.Quasi.{Quasi, fold-roll-Quasi}
use Rattle.affine_rows.specs.Rows.{Env, terms_at}
use Rattle.affine_rows.specs.Forms.{affine, form_at}
use Rattle.expr_tree.specs.declared.tree.Op.{Op}
use Rattle.expr_tree.specs.declared.tree.Cell.{Cell}
use Rattle.expr_tree.specs.declared.tree.Cell.TheVariants.{Array, Temp}
use Rattle.expr_tree.specs.declared.tree.Expr.{Expr}
use Rattle.expr_tree.specs.declared.tree.Node.{Node, the_lemmas}
use Rattle.expr_tree.specs.declared.tree.Node.TheOpen.{Node-F}
use Rattle.expr_tree.specs.declared.tree.Node.TheVariants as node
use Rattle.expr_tree.specs.Value.{Sense, apply}
use Rattle.expr_tree.specs.Scenes.{Scene}
use Rattle.expr_tree.specs.Meaning.{World, meaning_of}
use Rattle.expr_tree.specs.Rewritten.{tree_of}
use Rattle.expr_tree.proofs.Equations.{meaning-tree, meaning-Bin, meaning-Leaf, meaning-Read, meaning-Call}
use Rattle.inst_model.specs.Running.{Gather, node_gather, gathered_of_node, gathered}
use Rattle.worked_rows.specs.Parts.{number, variable, further, leaf, read, read_temp, combination, call}

pub form_is : (env : Env) (c : ℤ) (terms : List (ℕ × ℤ)) → form_at env (affine c terms) ≡ c +ℤ (terms_at env terms +ℤ pos 0)
form_is env c terms = simp fold-roll-Quasi refl

pub number_is : (env : Env) (n : ℕ) → form_at env (number n) ≡ pos n
number_is env n = form_is env (pos n) [] ∙ omega (arith, ints)

pub variable_is : (env : Env) (v : ℕ) (z : ℤ) → env v ≡ z → form_at env (variable v) ≡ z
variable_is env v z e = form_is env (pos 0) ((v, pos 1) ∷ []) ∙ omega (arith, ints, e)

pub further_is : (env : Env) (v n k : ℕ) → env v ≡ pos k → form_at env (further v n) ≡ pos (k + n)
further_is env v n k e = form_is env (pos n) ((v, pos 1) ∷ []) ∙ omega (arith, ints, e)

-- what is gathered from the nodes
module _ {A : Type 0} (g : Gather A) where
  gathered_tree : (m : Node) → gathered g (tree_of m) ≡ gathered_of_node g m
  gathered_tree m = search (rules, the_lemmas)

  gathered_read : (cell : Cell) (place : List Quasi) → gathered_of_node g (node.Read cell place) ≡ node_gather g (Node-F.Read cell place)
  gathered_read cell place = search (rules, the_lemmas)

  pub gather_read : (n : ℕ) (q : Quasi) (there : Scene) → gathered g (read n q) there ≡ g.read (Array n) (q ∷ []) there
  gather_read n q there = ap (λ (f : Scene → List A). f there) (gathered_tree (node.Read (Array n) (q ∷ [])) ∙ gathered_read (Array n) (q ∷ []))

-- what the nodes mean
module _ (w : World) (there : Scene) (k : Kind) where
  pub leaf_at : (q : Quasi) → (meaning_of w (leaf q) there).at k ≡ word_of k (form_at there.env q)
  leaf_at q = ap (λ (f : Scene → Sense). (f there).at k) (meaning-tree w (node.Leaf q) ∙ meaning-Leaf w q)

  pub read_at : (n : ℕ) (q : Quasi) → (meaning_of w (read n q) there).at k ≡ w.store.word (Array n) (form_at there.env q ∷ [])
  read_at n q = ap (λ (f : Scene → Sense). (f there).at k) (meaning-tree w (node.Read (Array n) (q ∷ [])) ∙ meaning-Read w (Array n) (q ∷ []))

  pub read_temp_at : (n : ℕ) → (meaning_of w (read_temp n) there).at k ≡ w.store.word (Temp n) []
  read_temp_at n = ap (λ (f : Scene → Sense). (f there).at k) (meaning-tree w (node.Read (Temp n) []) ∙ meaning-Read w (Temp n) [])

  pub bin_at : (op : Op) (x y : Expr) → (meaning_of w (combination op x y) there).at k ≡ apply op k ((meaning_of w x there).at k) ((meaning_of w y there).at k)
  bin_at op x y = ap (λ (f : Scene → Sense). (f there).at k) (meaning-tree w (node.Bin op x y) ∙ meaning-Bin w op x y)

  pub call_at : (rule : ℕ) (q : Quasi) → (meaning_of w (call rule q) there).at k ≡ (w.call rule (form_at there.env q ∷ []) there).at k
  call_at rule q = ap (λ (f : Scene → Sense). (f there).at k) (meaning-tree w (node.Call rule (q ∷ [])) ∙ meaning-Call w rule (q ∷ []))
