-- What an instance of a kernel of the one form reads and stores.
use Rattle.std.specs.Prelude.{◌≡◌, ◌⊎◌, ℕ, zero, suc, ◌^◌, ◌<◌, ◌≤◌, ℤ, pos, negsuc, ◌+ℤ◌, ◌*ℤ◌, Bool, true, false, List, [], ◌∷◌, ◌++◌, length, map, slice_index_or, unsigned_abs}
use Rattle.std.proofs.Common.{refl, sym, ap, ap₂, ◌∙◌, rules, arith, subst, inl, inr}
use Rattle.std.proofs.lemmas.Int.{ints}
use Rattle.wrap_words.specs.declared.kind.Kind.{Kind}
use Rattle.wrap_words.specs.declared.kind.Kind.TheVariants.{I32}
use Rattle.wrap_words.specs.declared.kind.Word.{Word}
use Rattle.wrap_words.specs.Words.{word_of, number_of}
use Rattle.affine_rows.specs.declared.quasi.Quasi.{Quasi}
use Rattle.affine_rows.specs.Rows.{Env}
use Rattle.affine_rows.specs.Forms.{affine, form_at}
use Rattle.expr_tree.specs.declared.tree.Op.{Op}
use Rattle.expr_tree.specs.declared.tree.Op.TheVariants.{Mul}
use Rattle.expr_tree.specs.declared.tree.Cell.{Cell}
use Rattle.expr_tree.specs.declared.tree.Cell.TheVariants.{Array}
use Rattle.expr_tree.specs.declared.tree.Expr.{Expr}
use Rattle.expr_tree.specs.declared.tree.Node.{Node, the_lemmas}
use Rattle.expr_tree.specs.declared.tree.Node.TheVariants as node
use Rattle.expr_tree.specs.declared.tree.Node.TheOpen.{Node-F}
use Rattle.expr_tree.specs.Value.{Sense, apply}
use Rattle.expr_tree.specs.Scenes.{Scene}
use Rattle.expr_tree.specs.Meaning.{World, meaning_of}
use Rattle.expr_tree.proofs.Equations.{meaning-tree, meaning-Bin, meaning-Leaf, meaning-Read}
use Rattle.kernel_ir.specs.declared.kernel.Kernel.{Kernel}
use Rattle.step_orders.specs.Orders.{Has}
use Rattle.inst_model.specs.Arguments.{Arguments, params_at}
use Rattle.inst_model.specs.Instances.{Instance, scene_of}
use Rattle.inst_model.specs.Memory.{Spot, Memory, low_bits}
use Rattle.inst_model.specs.Running.{Gather, gathered, node_gather, gathered_of_node, changed, world_of, sight_of, stored_spot, read_spots, reading}
use Rattle.first_form.specs.declared.form.FirstForm.{FirstForm}
use Rattle.first_form.specs.Kernels.{iname_form, of_node, product_of, the_store, kernel_of}
use Rattle.first_right.specs.Product.{multiplied}
use Rattle.first_right.proofs.Given.{form_is, variable_is, arguments_of}
use Rattle.first_right.proofs.Instances.{at}

leaf_at : (w : World) (there : Scene) (k : Kind) (q : Quasi) → (meaning_of w (of_node (node.Leaf q)) there).at k ≡ word_of k (form_at there.env q)
leaf_at w there k q = ap (λ (f : Scene → Sense). (f there).at k) (meaning-tree w (node.Leaf q) ∙ meaning-Leaf w q)

read_at : (w : World) (there : Scene) (k : Kind) (q : Quasi) → (meaning_of w (of_node (node.Read (Array 0) (q ∷ []))) there).at k ≡ w.store.word (Array 0) (form_at there.env q ∷ [])
read_at w there k q = ap (λ (f : Scene → Sense). (f there).at k) (meaning-tree w (node.Read (Array 0) (q ∷ [])) ∙ meaning-Read w (Array 0) (q ∷ []))

value_at : (w : World) (there : Scene) (k : Kind) (factor : ℕ) → (meaning_of w (product_of factor) there).at k ≡ apply Mul k (word_of k (form_at there.env (affine (pos factor) []))) (w.store.word (Array 0) (form_at there.env iname_form ∷ []))
value_at w there k factor =
    ap (λ (f : Scene → Sense). (f there).at k) (meaning-tree w _ ∙ meaning-Bin w Mul (of_node (node.Leaf (affine (pos factor) []))) (of_node (node.Read (Array 0) (iname_form ∷ []))))
    ∙ ap₂ (λ (u v : Word). apply Mul k u v) (leaf_at w there k (affine (pos factor) [])) (read_at w there k iname_form)

abbrev pub read_spot : ℤ → Spot
read_spot z = record { cell = Array 0; home = []; place = z ∷ [] }

abbrev pub out_spot : ℤ → Spot
out_spot z = record { cell = Array 1; home = []; place = z ∷ [] }

gather_tree : {A : Type 0} (g : Gather A) (m : Node) → gathered g (of_node m) ≡ gathered_of_node g m
gather_tree g m = search (rules, the_lemmas)

gathered_leaf : {A : Type 0} (g : Gather A) (q : Quasi) → gathered_of_node g (node.Leaf q) ≡ node_gather g (Node-F.Leaf q)
gathered_leaf g q = search (rules, the_lemmas)

gathered_read : {A : Type 0} (g : Gather A) (cell : Cell) (place : List Quasi) → gathered_of_node g (node.Read cell place) ≡ node_gather g (Node-F.Read cell place)
gathered_read g cell place = search (rules, the_lemmas)

gathered_bin : {A : Type 0} (g : Gather A) (op : Op) (x y : Expr) → gathered_of_node g (node.Bin op x y) ≡ node_gather g (Node-F.Bin op (gathered g x) (gathered g y))
gathered_bin g op x y = search (rules, the_lemmas)

gather_leaf : {A : Type 0} (g : Gather A) (q : Quasi) (there : Scene) → gathered g (of_node (node.Leaf q)) there ≡ []
gather_leaf {A} g q there = ap (λ (f : Scene → List A). f there) (gather_tree g (node.Leaf q) ∙ gathered_leaf g q)

gather_read : {A : Type 0} (g : Gather A) (cell : Cell) (place : List Quasi) (there : Scene) → gathered g (of_node (node.Read cell place)) there ≡ g.read cell place there
gather_read {A} g cell place there = ap (λ (f : Scene → List A). f there) (gather_tree g (node.Read cell place) ∙ gathered_read g cell place)

gather_bin : {A : Type 0} (g : Gather A) (op : Op) (x y : Expr) (there : Scene) → gathered g (of_node (node.Bin op x y)) there ≡ gathered g x there ++ gathered g y there
gather_bin {A} g op x y there = ap (λ (f : Scene → List A). f there) (gather_tree g (node.Bin op x y) ∙ gathered_bin g op x y)

constant_is : (env : Env) (c : ℕ) → form_at env (affine (pos c) []) ≡ pos c
constant_is env c = form_is env (pos c) [] ∙ omega (arith, ints)

module _ (f : FirstForm) (a : Arguments) (z : ℤ) where
  abbrev K : Kernel
  K = kernel_of f

  abbrev there : Scene
  there = scene_of K a (at f.factor z)

  iname_is : form_at there.env iname_form ≡ z
  iname_is = variable_is there.env 1 z refl

  -- an instance stores at its number
  pub stored_is : stored_spot K a (at f.factor z) ≡ out_spot z
  stored_is = ap (λ (y : ℤ). out_spot y) iname_is

  -- it reads the input there, and nothing else
  pub reads_are : read_spots K a (at f.factor z) ≡ read_spot z ∷ []
  reads_are =
      gather_bin (reading K a (at f.factor z)) Mul (of_node (node.Leaf (affine (pos f.factor) []))) (of_node (node.Read (Array 0) (iname_form ∷ []))) there
      ∙ ap₂ (λ (xs ys : List Spot). xs ++ ys) (gather_leaf (reading K a (at f.factor z)) (affine (pos f.factor) []) there) (gather_read (reading K a (at f.factor z)) (Array 0) (iname_form ∷ []) there)
      ∙ ap (λ (y : ℤ). read_spot y ∷ []) iname_is

  -- and it leaves the product of the factor and the word that it read
  pub changed_is : (m : Memory) (w : Word) → changed K a (at f.factor z) m w ≡ low_bits I32 (multiplied f.factor (m (read_spot z)))
  changed_is m w =
      ap (low_bits I32) (value_at (world_of K a (sight_of K a (at f.factor z) m)) there I32 f.factor)
      ∙ ap₂ (λ (c y : ℤ). low_bits I32 (apply Mul I32 (word_of I32 c) (m (read_spot y)))) (constant_is there.env f.factor) iname_is
