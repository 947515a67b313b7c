-- What an expression means depends on the cells that are gathered from it alone.
use Rattle.std.specs.Prelude.{◌≡◌, ℕ, ℤ, zero, suc, Bool, nat_le, length, slice_get, if◌then◌else◌, List, [], ◌∷◌, ◌++◌, map, flat_map, Option, Some, None, ◌&&◌}
use Rattle.std.proofs.Common.{refl, sym, ap, ap₂, ◌∙◌, subst, inl}
use Rattle.wrap_words.specs.declared.kind.Kind.{Kind}
use Rattle.wrap_words.specs.declared.kind.Word.{Word}
use Rattle.affine_rows.specs.declared.quasi.Quasi.{Quasi}
use Rattle.affine_rows.specs.Forms.{form_at}
use Rattle.expr_tree.specs.declared.tree.Cell.{Cell}
use Rattle.expr_tree.specs.declared.tree.Node.{Node, roll-Node, map-Node, fold-roll-Node}
use Rattle.expr_tree.specs.declared.tree.Node.TheOpen.{Node-F, Test-F, Expr-F}
use Rattle.expr_tree.specs.declared.tree.Test.{Test, roll-Test, map-Test, fold-roll-Test, ind-Test}
use Rattle.expr_tree.specs.declared.tree.Expr.{Expr, roll-Expr, map-Expr, ind-Expr, fold-roll-Expr}
use Rattle.expr_tree.specs.Value.{Store, Sense, TestSense, node_sense, test_sense, first_of_two, same_kind}
use Rattle.step_orders.specs.Orders.{Has}
use Rattle.expr_tree.specs.Scenes.{Scene}
use Rattle.expr_tree.specs.Meaning.{World, node_meaning, test_meaning, expr_meaning, meaning_of, meaning_of_node, meaning_of_test, reduced}
use Rattle.kernel_ir.specs.declared.kernel.Kernel.{Kernel}
use Rattle.kernel_ir.specs.declared.kernel.SubstRule.{SubstRule}
use Rattle.inst_model.specs.Memory.{Spot, Memory, low_bits, put_word}
use Rattle.affine_rows.specs.Rows.{Env}
use Rattle.inst_model.specs.Arguments.{Arguments, params_at, kind_of}
use Rattle.inst_model.specs.Instances.{Instance, scene_of}
use Rattle.inst_model.specs.Running.{gather_to, points_of, rule_gathered, rule_meaning, world_to, world_of, within_rule, gathered_of_test, reading, read_spots, sight_of, spot_of, changed, test_holds, Gather, node_gather, test_gather, expr_gather, gathered, gathered_of_node, gathered_in_test}
use Rattle.step_orders.proofs.Lists.{has_left, has_right}

-- P holds of each element
abbrev pub On : {A : Type 0} → (A → Type 0) → List A → Type 0
On {A} P xs = (x : A) → Has xs x → P x

-- the two worlds are alike where what is gathered has P
pub record Agree {A : Type 0} (g : Gather A) (P : A → Type 0) (w v : World) : Type 0 where
  pub kind : w.store.kind ≡ v.store.kind
  pub has : w.store.has ≡ v.store.has
  pub word : (cell : Cell) (place : List Quasi) (at : Scene) → On P (g.read cell place at) → w.store.word cell (map (form_at at.env) place) ≡ v.store.word cell (map (form_at at.env) place)
  pub call : (rule : ℕ) (arguments : List Quasi) (at : Scene) → On P (g.call rule arguments at) → w.call rule (map (form_at at.env) arguments) at ≡ v.call rule (map (form_at at.env) arguments) at
  pub call_first : (rule : ℕ) (numbers : List ℤ) (at : Scene) → (w.call rule numbers at).first ≡ (v.call rule numbers at).first
  pub first : w.points ≡ g.points
  pub second : v.points ≡ g.points

on_left : {A : Type 0} (P : A → Type 0) (xs ys : List A) → On P (xs ++ ys) → On P xs
on_left P xs ys on x h = on x (has_left xs ys x h)

on_right : {A : Type 0} (P : A → Type 0) (xs ys : List A) → On P (xs ++ ys) → On P ys
on_right P xs ys on x h = on x (has_right xs ys x h)

-- a function of each point, where it is alike at each
map_alike : {A B : Type 0} (P : A → Type 0) (read : Scene → List A) (f g : Scene → B) → ((at : Scene) → On P (read at) → f at ≡ g at) → (points : List Scene) → On P (flat_map read points) → map f points ≡ map g points
map_alike P read f g alike [] on = refl
map_alike P read f g alike (p ∷ ps) on = ap₂ (λ y ys. y ∷ ys) (alike p (on_left P (read p) (flat_map read ps) on)) (map_alike P read f g alike ps (on_right P (read p) (flat_map read ps) on))

module _ {A : Type 0} (g : Gather A) (P : A → Type 0) (w v : World) where
  abbrev pub LocalNode : Node → Type 0
  LocalNode n = (at : Scene) → On P (gathered_of_node g n at) → meaning_of_node w n at ≡ meaning_of_node v n at

  abbrev pub LocalTest : Test → Type 0
  LocalTest t = (at : Scene) → On P (gathered_in_test g t at) → meaning_of_test w t at ≡ meaning_of_test v t at

  abbrev pub LocalExpr : Expr → Type 0
  LocalExpr e = (at : Scene) → On P (gathered g e at) → meaning_of w e at ≡ meaning_of v e at

-- the equations of a value made by its layer
pub meaning_node : (w : World) (n : Node-F Node Test Expr) → meaning_of_node w (roll-Node n) ≡ node_meaning w (map-Node _ _ _ _ _ _ (meaning_of_node w) (meaning_of_test w) (meaning_of w) n)
meaning_node w n = fold-roll-Node (Scene → Sense) (Scene → TestSense) (Scene → Sense) (node_meaning w) (test_meaning w) expr_meaning n

pub meaning_test : (w : World) (t : Test-F Node Test Expr) → meaning_of_test w (roll-Test t) ≡ test_meaning w (map-Test _ _ _ _ _ _ (meaning_of_node w) (meaning_of_test w) (meaning_of w) t)
meaning_test w t = fold-roll-Test (Scene → Sense) (Scene → TestSense) (Scene → Sense) (node_meaning w) (test_meaning w) expr_meaning t

pub meaning_expr : (w : World) (e : Expr-F Node Test Expr) → meaning_of w (roll-Expr e) ≡ meaning_of_node w e.node
meaning_expr w e = fold-roll-Expr (Scene → Sense) (Scene → TestSense) (Scene → Sense) (node_meaning w) (test_meaning w) expr_meaning e

gather_node : {A : Type 0} (g : Gather A) (n : Node-F Node Test Expr) → gathered_of_node g (roll-Node n) ≡ node_gather g (map-Node _ _ _ _ _ _ (gathered_of_node g) (gathered_in_test g) (gathered g) n)
gather_node {A} g n = fold-roll-Node (Scene → List A) (Scene → List A) (Scene → List A) (node_gather g) (test_gather g) expr_gather n

gather_test : {A : Type 0} (g : Gather A) (t : Test-F Node Test Expr) → gathered_in_test g (roll-Test t) ≡ test_gather g (map-Test _ _ _ _ _ _ (gathered_of_node g) (gathered_in_test g) (gathered g) t)
gather_test {A} g t = fold-roll-Test (Scene → List A) (Scene → List A) (Scene → List A) (node_gather g) (test_gather g) expr_gather t

gather_expr : {A : Type 0} (g : Gather A) (e : Expr-F Node Test Expr) → gathered g (roll-Expr e) ≡ gathered_of_node g e.node
gather_expr {A} g e = fold-roll-Expr (Scene → List A) (Scene → List A) (Scene → List A) (node_gather g) (test_gather g) expr_gather e

-- The kind of the first read or cast depends on the cells' kinds alone.
module _ (w v : World) where
  abbrev FirstNode : Node → Type 0
  FirstNode n = (at : Scene) → (meaning_of_node w n at).first ≡ (meaning_of_node v n at).first

  abbrev FirstTest : Test → Type 0
  FirstTest t = Unit {0}

  abbrev FirstExpr : Expr → Type 0
  FirstExpr e = (at : Scene) → (meaning_of w e at).first ≡ (meaning_of v e at).first

module _ {A : Type 0} (g : Gather A) (P : A → Type 0) (w v : World) (same : Agree g P w v) where
  first_at : (n : Node-F Node Test Expr)
      → ((at : Scene) → (node_meaning w (map-Node _ _ _ _ _ _ (meaning_of_node w) (meaning_of_test w) (meaning_of w) n) at).first ≡ (node_meaning v (map-Node _ _ _ _ _ _ (meaning_of_node v) (meaning_of_test v) (meaning_of v) n) at).first)
      → FirstNode w v (roll-Node n)
  first_at n h at = ap (λ (f : Scene → Sense). (f at).first) (meaning_node w n) ∙ (h at ∙ sym (ap (λ (f : Scene → Sense). (f at).first) (meaning_node v n)))

  first_case : (y : Node-F ((n : Node) × FirstNode w v n) ((t : Test) × FirstTest w v t) ((e : Expr) × FirstExpr w v e)) → FirstNode w v (roll-Node (map-Node _ _ _ _ _ _ (λ e. e.0) (λ e. e.0) (λ e. e.0) y))
  first_case (Node-F.Literal n) = first_at (Node-F.Literal n) (λ at. refl)
  first_case (Node-F.Leaf form) = first_at (Node-F.Leaf form) (λ at. refl)
  first_case (Node-F.Read cell place) = first_at (Node-F.Read cell place) (λ at. ap (λ (f : Cell → Kind). Some (f cell)) same.kind)
  first_case (Node-F.Call rule arguments) = first_at (Node-F.Call rule arguments) (λ at. same.call_first rule (map (form_at at.env) arguments) at)
  first_case (Node-F.Neg a) = first_at (Node-F.Neg a.0) a.1
  first_case (Node-F.Inv a) = first_at (Node-F.Inv a.0) a.1
  first_case (Node-F.Shl a by) = first_at (Node-F.Shl a.0 by) a.1
  first_case (Node-F.Shr a by) = first_at (Node-F.Shr a.0 by) a.1
  first_case (Node-F.Bin op a b) = first_at (Node-F.Bin op a.0 b.0) (λ at. ap₂ first_of_two (a.1 at) (b.1 at))
  first_case (Node-F.Pick t a b) = first_at (Node-F.Pick t.0 a.0 b.0) (λ at. ap₂ first_of_two (a.1 at) (b.1 at))
  first_case (Node-F.Cast kind a) = first_at (Node-F.Cast kind a.0) (λ at. refl)
  first_case (Node-F.Fold op inames a) = first_at (Node-F.Fold op inames a.0) a.1

  pub first_alike : (e : Expr) → FirstExpr w v e
  first_alike = ind-Expr (FirstNode w v) (FirstTest w v) (FirstExpr w v)
      (λ x y is. subst (λ z. FirstNode w v (roll-Node z)) is (first_case y))
      (λ x y is. tt)
      (λ x y is. subst (λ z. FirstExpr w v (roll-Expr z)) is (λ at. ap (λ (f : Scene → Sense). (f at).first) (meaning_expr w (map-Expr _ _ _ _ _ _ (λ e. e.0) (λ e. e.0) (λ e. e.0) y)) ∙ (y.node.1 at ∙ sym (ap (λ (f : Scene → Sense). (f at).first) (meaning_expr v (map-Expr _ _ _ _ _ _ (λ e. e.0) (λ e. e.0) (λ e. e.0) y))))))

  node_at : (n : Node-F Node Test Expr)
      → ((at : Scene) → On P (node_gather g (map-Node _ _ _ _ _ _ (gathered_of_node g) (gathered_in_test g) (gathered g) n) at)
      → node_meaning w (map-Node _ _ _ _ _ _ (meaning_of_node w) (meaning_of_test w) (meaning_of w) n) at ≡ node_meaning v (map-Node _ _ _ _ _ _ (meaning_of_node v) (meaning_of_test v) (meaning_of v) n) at)
      → LocalNode g P w v (roll-Node n)
  node_at n h at on = ap (λ (f : Scene → Sense). f at) (meaning_node w n) ∙ (h at (subst (λ (f : Scene → List A). On P (f at)) (gather_node g n) on) ∙ sym (ap (λ (f : Scene → Sense). f at) (meaning_node v n)))

  test_at : (t : Test-F Node Test Expr)
      → ((at : Scene) → On P (test_gather g (map-Test _ _ _ _ _ _ (gathered_of_node g) (gathered_in_test g) (gathered g) t) at)
      → test_meaning w (map-Test _ _ _ _ _ _ (meaning_of_node w) (meaning_of_test w) (meaning_of w) t) at ≡ test_meaning v (map-Test _ _ _ _ _ _ (meaning_of_node v) (meaning_of_test v) (meaning_of v) t) at)
      → LocalTest g P w v (roll-Test t)
  test_at t h at on = ap (λ (f : Scene → TestSense). f at) (meaning_test w t) ∙ (h at (subst (λ (f : Scene → List A). On P (f at)) (gather_test g t) on) ∙ sym (ap (λ (f : Scene → TestSense). f at) (meaning_test v t)))

  abbrev read_sense : (Cell → Kind) → (Cell → List ℤ → Bool) → Word → Cell → List ℤ → Bool → Sense
  read_sense kind has word cell place few = record { first = Some (kind cell); has = λ k. same_kind (kind cell) k && (few && has cell place); at = λ k. word }

  node_case : (y : Node-F ((n : Node) × LocalNode g P w v n) ((t : Test) × LocalTest g P w v t) ((e : Expr) × LocalExpr g P w v e)) → LocalNode g P w v (roll-Node (map-Node _ _ _ _ _ _ (λ e. e.0) (λ e. e.0) (λ e. e.0) y))
  node_case (Node-F.Literal n) = node_at (Node-F.Literal n) (λ at on. refl)
  node_case (Node-F.Leaf form) = node_at (Node-F.Leaf form) (λ at on. refl)
  node_case (Node-F.Read cell place) = node_at (Node-F.Read cell place) (λ at on.
      let numbers = map (form_at at.env) place in let few = nat_le (length place) 8 in
      ap (λ (f : Cell → Kind). read_sense f w.store.has (w.store.word cell numbers) cell numbers few) same.kind
      ∙ (ap (λ (f : Cell → List ℤ → Bool). read_sense v.store.kind f (w.store.word cell numbers) cell numbers few) same.has
      ∙ ap (λ (f : Word). read_sense v.store.kind v.store.has f cell numbers few) (same.word cell place at on)))
  node_case (Node-F.Call rule arguments) = node_at (Node-F.Call rule arguments) (λ at on. same.call rule arguments at on)
  node_case (Node-F.Neg a) = node_at (Node-F.Neg a.0) (λ at on. ap (λ (s : Sense). node_sense at.env w.store (Node-F.Neg s)) (a.1 at on))
  node_case (Node-F.Inv a) = node_at (Node-F.Inv a.0) (λ at on. ap (λ (s : Sense). node_sense at.env w.store (Node-F.Inv s)) (a.1 at on))
  node_case (Node-F.Shl a by) = node_at (Node-F.Shl a.0 by) (λ at on. ap (λ (s : Sense). node_sense at.env w.store (Node-F.Shl s by)) (a.1 at on))
  node_case (Node-F.Shr a by) = node_at (Node-F.Shr a.0 by) (λ at on. ap (λ (s : Sense). node_sense at.env w.store (Node-F.Shr s by)) (a.1 at on))
  node_case (Node-F.Bin op a b) = node_at (Node-F.Bin op a.0 b.0) (λ at on.
      ap₂ (λ (x y : Sense). node_sense at.env w.store (Node-F.Bin op x y)) (a.1 at (on_left P (gathered g a.0 at) (gathered g b.0 at) on)) (b.1 at (on_right P (gathered g a.0 at) (gathered g b.0 at) on)))
  node_case (Node-F.Pick t a b) = node_at (Node-F.Pick t.0 a.0 b.0) (λ at on.
      let later = on_right P (gathered_in_test g t.0 at) (gathered g a.0 at ++ gathered g b.0 at) on in
      ap (λ (z : TestSense). node_sense at.env w.store (Node-F.Pick z (meaning_of w a.0 at) (meaning_of w b.0 at))) (t.1 at (on_left P (gathered_in_test g t.0 at) (gathered g a.0 at ++ gathered g b.0 at) on))
      ∙ ap₂ (λ (x y : Sense). node_sense at.env w.store (Node-F.Pick (meaning_of_test v t.0 at) x y)) (a.1 at (on_left P (gathered g a.0 at) (gathered g b.0 at) later)) (b.1 at (on_right P (gathered g a.0 at) (gathered g b.0 at) later)))
  node_case (Node-F.Cast kind a) = node_at (Node-F.Cast kind a.0) (λ at on. ap (λ (s : Sense). node_sense at.env w.store (Node-F.Cast kind s)) (a.1 at on))
  node_case (Node-F.Fold op inames a) = node_at (Node-F.Fold op inames a.0) (λ at on.
      ap₂ (reduced op) (first_alike a.0 at)
      (ap (λ (ps : List ℕ → Scene → List Scene). map (meaning_of w a.0) (ps inames at)) same.first
      ∙ (map_alike P (gathered g a.0) (meaning_of w a.0) (meaning_of v a.0) a.1 (g.points inames at) on
      ∙ sym (ap (λ (ps : List ℕ → Scene → List Scene). map (meaning_of v a.0) (ps inames at)) same.second))))

  test_case : (y : Test-F ((n : Node) × LocalNode g P w v n) ((t : Test) × LocalTest g P w v t) ((e : Expr) × LocalExpr g P w v e)) → LocalTest g P w v (roll-Test (map-Test _ _ _ _ _ _ (λ e. e.0) (λ e. e.0) (λ e. e.0) y))
  test_case (Test-F.Words rel a b) = test_at (Test-F.Words rel a.0 b.0) (λ at on.
      ap₂ (λ (x y : Sense). test_sense at.env w.store (Test-F.Words rel x y)) (a.1 at (on_left P (gathered g a.0 at) (gathered g b.0 at) on)) (b.1 at (on_right P (gathered g a.0 at) (gathered g b.0 at) on)))
  test_case (Test-F.Index rel a b) = test_at (Test-F.Index rel a b) (λ at on. refl)
  test_case (Test-F.All p q) = test_at (Test-F.All p.0 q.0) (λ at on.
      ap₂ (λ (x y : TestSense). test_sense at.env w.store (Test-F.All x y)) (p.1 at (on_left P (gathered_in_test g p.0 at) (gathered_in_test g q.0 at) on)) (q.1 at (on_right P (gathered_in_test g p.0 at) (gathered_in_test g q.0 at) on)))
  test_case (Test-F.Any p q) = test_at (Test-F.Any p.0 q.0) (λ at on.
      ap₂ (λ (x y : TestSense). test_sense at.env w.store (Test-F.Any x y)) (p.1 at (on_left P (gathered_in_test g p.0 at) (gathered_in_test g q.0 at) on)) (q.1 at (on_right P (gathered_in_test g p.0 at) (gathered_in_test g q.0 at) on)))
  test_case (Test-F.Not p) = test_at (Test-F.Not p.0) (λ at on. ap (λ (x : TestSense). test_sense at.env w.store (Test-F.Not x)) (p.1 at on))

  expr_at : (e : Expr-F Node Test Expr) → LocalNode g P w v e.node → LocalExpr g P w v (roll-Expr e)
  expr_at e h at on = ap (λ (f : Scene → Sense). f at) (meaning_expr w e) ∙ (h at (subst (λ (f : Scene → List A). On P (f at)) (gather_expr g e) on) ∙ sym (ap (λ (f : Scene → Sense). f at) (meaning_expr v e)))

  pub local : (e : Expr) → LocalExpr g P w v e
  local = ind-Expr (LocalNode g P w v) (LocalTest g P w v) (LocalExpr g P w v)
      (λ x y is. subst (λ z. LocalNode g P w v (roll-Node z)) is (node_case y))
      (λ x y is. subst (λ z. LocalTest g P w v (roll-Test z)) is (test_case y))
      (λ x y is. subst (λ z. LocalExpr g P w v (roll-Expr z)) is (expr_at (map-Expr _ _ _ _ _ _ (λ e. e.0) (λ e. e.0) (λ e. e.0) y) y.node.1))

  pub local_test : (t : Test) → LocalTest g P w v t
  local_test = ind-Test (LocalNode g P w v) (LocalTest g P w v) (LocalExpr g P w v)
      (λ x y is. subst (λ z. LocalNode g P w v (roll-Node z)) is (node_case y))
      (λ x y is. subst (λ z. LocalTest g P w v (roll-Test z)) is (test_case y))
      (λ x y is. subst (λ z. LocalExpr g P w v (roll-Expr z)) is (expr_at (map-Expr _ _ _ _ _ _ (λ e. e.0) (λ e. e.0) (λ e. e.0) y) y.node.1))

-- Two worlds of one kernel, over stores that agree where P holds.
module _ (K : Kernel) (base : Env) (s t : Store) (P : Spot → Type 0) (spot : Cell → List ℤ → Spot)
    (kind : s.kind ≡ t.kind) (has : s.has ≡ t.has) (word : (cell : Cell) (place : List ℤ) → P (spot cell place) → s.word cell place ≡ t.word cell place) where
  abbrev gather : ℕ → Gather Spot
  gather = gather_to K base (λ cell place at. spot cell (map (form_at at.env) place) ∷ []) (points_of K)

  rule_alike : (n : ℕ) → Agree (gather n) P (world_to K base s n) (world_to K base t n) → (rule : Option SubstRule) (arguments : List Quasi) (at : Scene)
      → On P (rule_gathered base (gather n) rule arguments at) → rule_meaning base (world_to K base s n) rule (map (form_at at.env) arguments) at ≡ rule_meaning base (world_to K base t n) rule (map (form_at at.env) arguments) at
  rule_alike n same None arguments at on = refl
  rule_alike n same (Some rule) arguments at on = local (gather n) P (world_to K base s n) (world_to K base t n) same rule.body (within_rule base rule (map (form_at at.env) arguments) at) on

  rule_first : (n : ℕ) → Agree (gather n) P (world_to K base s n) (world_to K base t n) → (rule : Option SubstRule) (numbers : List ℤ) (at : Scene)
      → (rule_meaning base (world_to K base s n) rule numbers at).first ≡ (rule_meaning base (world_to K base t n) rule numbers at).first
  rule_first n same None numbers at = refl
  rule_first n same (Some rule) numbers at = first_alike (gather n) P (world_to K base s n) (world_to K base t n) same rule.body (within_rule base rule numbers at)

  pub worlds_agree : (n : ℕ) → Agree (gather n) P (world_to K base s n) (world_to K base t n)
  worlds_agree zero = record {
    kind = kind;
    has = has;
    word = λ cell place at on. word cell (map (form_at at.env) place) (on (spot cell (map (form_at at.env) place)) (inl refl));
    call = λ rule arguments at on. refl;
    call_first = λ rule numbers at. refl;
    first = refl;
    second = refl;
  }
  worlds_agree (suc n) = record {
    kind = kind;
    has = has;
    word = λ cell place at on. word cell (map (form_at at.env) place) (on (spot cell (map (form_at at.env) place)) (inl refl));
    call = λ rule arguments at on. rule_alike n (worlds_agree n) (slice_get K.rules rule) arguments at on;
    call_first = λ rule numbers at. rule_first n (worlds_agree n) (slice_get K.rules rule) numbers at;
    first = refl;
    second = refl;
  }

-- What an instance leaves in its cell depends on the cells that it reads alone.
test_alike : (K : Kernel) (a : Arguments) (x : Instance) (m m' : Memory) → Agree (reading K a x) (λ s. m s ≡ m' s) (world_of K a (sight_of K a x m)) (world_of K a (sight_of K a x m'))
    → (test : Option Test) (k : Kind) → On (λ s. m s ≡ m' s) (gathered_of_test (reading K a x) test (scene_of K a x))
    → test_holds (world_of K a (sight_of K a x m)) test (scene_of K a x) k ≡ test_holds (world_of K a (sight_of K a x m')) test (scene_of K a x) k
test_alike K a x m m' same None k on = refl
test_alike K a x m m' same (Some t) k on = ap (λ (z : TestSense). z.holds k) (local_test (reading K a x) (λ s. m s ≡ m' s) (world_of K a (sight_of K a x m)) (world_of K a (sight_of K a x m')) same t (scene_of K a x) on)

pub reads_only : (K : Kernel) (a : Arguments) (x : Instance) (m m' : Memory) → ((s : Spot) → Has (read_spots K a x) s → m s ≡ m' s) → (w : Word) → changed K a x m w ≡ changed K a x m' w
reads_only K a x m m' on w =
    let at = scene_of K a x in
    let P : Spot → Type 0 = λ s. m s ≡ m' s in
    let k = kind_of K x.insn.cell in
    let same = worlds_agree K (params_at K a) (sight_of K a x m) (sight_of K a x m') (λ s. m s ≡ m' s) (spot_of K at.env) refl refl (λ cell place e. e) (length K.rules) in
    let tests = gathered_of_test (reading K a x) x.insn.test at in
    let values = gathered (reading K a x) x.insn.value at in
    ap₂ (λ (b : Bool) (z : Sense). if b then put_word x.insn.storing k w (low_bits k (z.at k)) else w)
    (test_alike K a x m m' same x.insn.test k (on_left (λ s. m s ≡ m' s) tests values on))
    (local (reading K a x) (λ s. m s ≡ m' s) (world_of K a (sight_of K a x m)) (world_of K a (sight_of K a x m')) same x.insn.value at (on_right (λ s. m s ≡ m' s) tests values on))
