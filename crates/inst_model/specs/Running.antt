-- What instances read and store.
use Rattle.std.specs.Prelude.{ℕ, zero, suc, ◌+◌, ℤ, pos, Bool, true, false, not, ◌&&◌, ◌||◌, if◌then◌else◌, List, [], ◌∷◌, ◌++◌, map, flat_map, filter, int_le, int_lt, slice_get, slice_index_or, length, Option, Some, None}
use Rattle.std.specs.List.{list_all, list_any}
use Rattle.wrap_words.specs.declared.kind.Kind.{Kind}
use Rattle.wrap_words.specs.declared.kind.Word.{Word}
use Rattle.wrap_words.specs.Words.{word_of}
use Rattle.affine_rows.specs.declared.quasi.Quasi.{Quasi}
use Rattle.affine_rows.specs.Rows.{Env}
use Rattle.affine_rows.specs.Forms.{form_at}
use Rattle.expr_tree.specs.declared.tree.Cell.{Cell}
use Rattle.expr_tree.specs.declared.tree.Cell.TheVariants.{Array, Temp}
use Rattle.expr_tree.specs.declared.tree.Node.{Node, fold-Node}
use Rattle.expr_tree.specs.declared.tree.Node.TheOpen.{Node-F, Test-F, Expr-F}
use Rattle.expr_tree.specs.declared.tree.Test.{Test, fold-Test}
use Rattle.expr_tree.specs.declared.tree.Expr.{Expr, fold-Expr}
use Rattle.expr_tree.specs.Value.{Store, Sense}
use Rattle.kernel_ir.specs.declared.kernel.Kernel.{Kernel}
use Rattle.kernel_ir.specs.declared.kernel.Insn.{Insn}
use Rattle.kernel_ir.specs.declared.kernel.SubstRule.{SubstRule}
use Rattle.kernel_ir.specs.declared.kernel.Array as array
use Rattle.step_orders.specs.Orders.{Steps, after_steps}
use Rattle.expr_tree.specs.Scenes.{Scene, given, is_among, every_number, points_among}
use Rattle.expr_tree.specs.Meaning.{World, meaning_of, meaning_of_test}
use Rattle.inst_model.specs.Memory.{Spot, Memory, same_cell, same_spot, low_bits, put_word, flat_index, places_of}
use Rattle.inst_model.specs.Arguments.{Arguments, params_at, extents, kind_of}
use Rattle.inst_model.specs.Instances.{Instance, scene_of}

-- What is gathered from the reads of an expression, those in the rules that it uses among them.
pub record Gather (A : Type 0) : Type 0 where
  pub read : Cell → List Quasi → Scene → List A
  pub call : ℕ → List Quasi → Scene → List A
  pub points : List ℕ → Scene → List Scene

abbrev pub node_gather : {A : Type 0} → Gather A → Node-F (Scene → List A) (Scene → List A) (Scene → List A) → Scene → List A
node_gather g (Node-F.Literal n) at = []
node_gather g (Node-F.Leaf form) at = []
node_gather g (Node-F.Read cell place) at = g.read cell place at
node_gather g (Node-F.Call rule arguments) at = g.call rule arguments at
node_gather g (Node-F.Neg a) at = a at
node_gather g (Node-F.Inv a) at = a at
node_gather g (Node-F.Shl a by) at = a at
node_gather g (Node-F.Shr a by) at = a at
node_gather g (Node-F.Bin op a b) at = a at ++ b at
node_gather g (Node-F.Pick t a b) at = t at ++ (a at ++ b at)
node_gather g (Node-F.Cast kind a) at = a at
node_gather g (Node-F.Fold op inames a) at = flat_map a (g.points inames at)

abbrev pub test_gather : {A : Type 0} → Gather A → Test-F (Scene → List A) (Scene → List A) (Scene → List A) → Scene → List A
test_gather g (Test-F.Words rel a b) at = a at ++ b at
test_gather g (Test-F.Index rel a b) at = []
test_gather g (Test-F.All p q) at = p at ++ q at
test_gather g (Test-F.Any p q) at = p at ++ q at
test_gather g (Test-F.Not p) at = p at

abbrev pub expr_gather : {A : Type 0} → Expr-F (Scene → List A) (Scene → List A) (Scene → List A) → Scene → List A
expr_gather e = e.node

abbrev pub gathered_of_node : {A : Type 0} → Gather A → Node → Scene → List A
gathered_of_node {A} g = fold-Node (Scene → List A) (Scene → List A) (Scene → List A) (node_gather g) (test_gather g) expr_gather

abbrev pub gathered_in_test : {A : Type 0} → Gather A → Test → Scene → List A
gathered_in_test {A} g = fold-Test (Scene → List A) (Scene → List A) (Scene → List A) (node_gather g) (test_gather g) expr_gather

abbrev pub gathered : {A : Type 0} → Gather A → Expr → Scene → List A
gathered {A} g = fold-Expr (Scene → List A) (Scene → List A) (Scene → List A) (node_gather g) (test_gather g) expr_gather

abbrev pub gathered_of_test : {A : Type 0} → Gather A → Option Test → Scene → List A
gathered_of_test g None at = []
gathered_of_test g (Some t) at = gathered_in_test g t at

-- the scene of a rule's body: the numbers of the rule's own parameters, and else those of the kernel's
abbrev pub within_rule : Env → SubstRule → List ℤ → Scene → Scene
within_rule base rule numbers at = record { scope = at.scope; env = given rule.params numbers base }

-- the points of a reduction in the kernel
abbrev pub points_of : Kernel → List ℕ → Scene → List Scene
points_of K = points_among every_number K.params K.rows

-- a use of a rule is the rule's body at the numbers of its arguments; rules use each other at most as deep as there are rules
abbrev pub rule_gathered : {A : Type 0} → Env → Gather A → Option SubstRule → List Quasi → Scene → List A
rule_gathered base g None arguments at = []
rule_gathered base g (Some rule) arguments at = gathered g rule.body (within_rule base rule (map (form_at at.env) arguments) at)

abbrev pub gather_to : {A : Type 0} → Kernel → Env → (Cell → List Quasi → Scene → List A) → (List ℕ → Scene → List Scene) → ℕ → Gather A
gather_to K base read points zero = record { read = read; call = λ rule arguments at. []; points = points }
gather_to K base read points (suc n) =
    record { read = read; call = λ rule. rule_gathered base (gather_to K base read points n) (slice_get K.rules rule); points = points }

abbrev pub no_sense : Sense
no_sense = record { first = None; has = λ k. false; at = λ k. word_of k (pos 0) }

abbrev pub rule_meaning : Env → World → Option SubstRule → List ℤ → Scene → Sense
rule_meaning base w None numbers at = no_sense
rule_meaning base w (Some rule) numbers at = meaning_of w rule.body (within_rule base rule numbers at)

abbrev pub world_to : Kernel → Env → Store → ℕ → World
world_to K base s zero = record { store = s; call = λ rule numbers at. no_sense; points = points_of K }
world_to K base s (suc n) = record { store = s; call = λ rule. rule_meaning base (world_to K base s n) (slice_get K.rules rule); points = points_of K }

-- in which the expressions of the kernel are evaluated under the arguments
abbrev pub world_of : Kernel → Arguments → Store → World
world_of K a s = world_to K (params_at K a) s (length K.rules)

-- the arrays and temporaries that the instruction reads
abbrev pub cells_read : Kernel → Insn → List Cell
cells_read K A =
    let g = gather_to K (λ v. pos 0) (λ cell place at. cell ∷ []) (λ inames at. at ∷ []) (length K.rules) in
    let at : Scene = record { scope = []; env = λ v. pos 0 } in
    gathered_of_test g A.test at ++ gathered g A.value at

abbrev pub uses : Kernel → Cell → Insn → Bool
uses K cell A = same_cell A.cell cell || list_any (same_cell cell) (cells_read K A)

-- the inames that all users of a temporary have, in declared order, and none without a user
abbrev pub home_inames : Kernel → Cell → List ℕ
home_inames K cell =
    if list_any (uses K cell) K.insns
    then filter (λ v. list_all (λ A. not (uses K cell A) || is_among A.inames v) K.insns) (map (λ i. i.var) K.inames)
    else []

-- the cell of an array by its subscripts; the cell of a temporary by the values of its home inames and its subscripts
abbrev pub spot_of : Kernel → Env → Cell → List ℤ → Spot
spot_of K env (Array n) place = record { cell = Array n; home = []; place = place }
spot_of K env (Temp n) place = record { cell = Temp n; home = map env (home_inames K (Temp n)); place = place }

-- the subscripts are within the extents
abbrev pub fits : List ℤ → List ℤ → Bool
fits [] [] = true
fits (e ∷ es) (z ∷ zs) = (int_le (pos 0) z && int_lt z e) && fits es zs
fits _ _ = false

-- what an instance sees of a memory
abbrev pub sight_of : Kernel → Arguments → Instance → Memory → Store
sight_of K a x m = record {
  kind = kind_of K;
  has = λ cell place. fits (extents K a cell) place;
  word = λ cell place. m (spot_of K (scene_of K a x).env cell place);
}

-- the cell that the instance stores to
abbrev pub stored_spot : Kernel → Arguments → Instance → Spot
stored_spot K a x = spot_of K (scene_of K a x).env x.insn.cell (map (form_at (scene_of K a x).env) x.insn.place)

-- the cells that it reads
abbrev pub reading : Kernel → Arguments → Instance → Gather Spot
reading K a x = gather_to K (params_at K a) (λ cell place at. spot_of K (scene_of K a x).env cell (map (form_at at.env) place) ∷ []) (points_of K) (length K.rules)

abbrev pub read_spots : Kernel → Arguments → Instance → List Spot
read_spots K a x = gathered_of_test (reading K a x) x.insn.test (scene_of K a x) ++ gathered (reading K a x) x.insn.value (scene_of K a x)

-- its data test holds
abbrev pub test_holds : World → Option Test → Scene → Kind → Bool
test_holds w None at k = true
test_holds w (Some t) at k = (meaning_of_test w t at).holds k

-- the word that it leaves in its cell, where the cell held w
abbrev pub changed : Kernel → Arguments → Instance → Memory → Word → Word
changed K a x m w =
    let world = world_of K a (sight_of K a x m) in
    let k = kind_of K x.insn.cell in
    if test_holds world x.insn.test (scene_of K a x) k
    then put_word x.insn.storing k w (low_bits k ((meaning_of world x.insn.value (scene_of K a x)).at k))
    else w

-- The instances of a kernel as steps.
abbrev pub steps_of : Kernel → Arguments → Steps Instance Spot Word
steps_of K a = record { same = same_spot; cell = stored_spot K a; reads = read_spots K a; change = changed K a }

abbrev pub opened : Kernel → Arguments → Cell → List ℤ → Word
opened K a (Array n) place = slice_index_or (slice_index_or a.lists n []) (flat_index (extents K a (Array n)) place) (record { bits = 0 })
opened K a (Temp n) place = record { bits = 0 }

-- the opening memory: the arguments' lists, and 0 in every cell of a temporary
abbrev pub opening : Kernel → Arguments → Memory
opening K a s = opened K a s.cell s.place

-- The memory after a list of instances.
abbrev pub memory_after : Kernel → Arguments → List Instance → Memory
memory_after K a xs = after_steps (steps_of K a) xs (opening K a)

-- the arrays that are stored, by number
abbrev pub stored_arrays : ℕ → List array.Array → List ℕ
stored_arrays n [] = []
stored_arrays n (one ∷ more) = if one.stored then n ∷ stored_arrays (n + 1) more else stored_arrays (n + 1) more

-- the words of an array, in the order of its list
abbrev pub words_of : Kernel → Arguments → Memory → ℕ → List Word
words_of K a m n = map (λ place. m (record { cell = Array n; home = []; place = place })) (places_of (extents K a (Array n)))

-- What the kernel stores: the lists of its output arrays after the instances.
abbrev pub stored : Kernel → Arguments → List Instance → List (List Word)
stored K a xs = map (words_of K a (memory_after K a xs)) (stored_arrays 0 K.arrays)
