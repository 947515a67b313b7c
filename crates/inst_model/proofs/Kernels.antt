-- The law of like orders at the instances of a kernel.
use Rattle.std.specs.Prelude.{◌≡◌, ℤ, Bool, true, false, ◌&&◌, List, [], ◌∷◌, map}
use Rattle.std.specs.Ordering.{int_eq}
use Rattle.std.specs.Cmp.Lexicographic.{pointwise}
use Rattle.std.specs.Cmp.Rules.{signed_items}
use Rattle.std.proofs.Common.{refl, sym, ap, ap₂, ◌∙◌, true≢false, arith}
use Rattle.std.proofs.lemmas.Bool.Decides.{nat_tests}
use Rattle.affine_rows.specs.Rows.{Env}
use Rattle.expr_tree.specs.declared.tree.Cell.{Cell}
use Rattle.expr_tree.specs.declared.tree.Cell.TheVariants.{Array, Temp}
use Rattle.kernel_ir.specs.declared.kernel.Kernel.{Kernel}
use Rattle.step_orders.specs.Orders.{AreSteps, AreSame, Free}
use Rattle.inst_model.specs.Memory.{Spot, same_cell, same_spot}
use Rattle.inst_model.specs.Arguments.{Arguments, kind_of}
use Rattle.inst_model.specs.Instances.{Instance, IsRespectingOrder, directly_before, scene_of}
use Rattle.expr_tree.specs.Meaning.{meaning_of}
use Rattle.inst_model.specs.Running.{steps_of, spot_of, world_of, sight_of, test_holds, memory_after, opening, words_of, stored_arrays}
use Rattle.inst_model.specs.Sound.{Apart, UnorderedAreApart, RespectingOrdersStoreAlike}
use Rattle.step_orders.proofs.Like.{respecting_orders}
use Rattle.inst_model.proofs.Local.{reads_only}
use Rattle.inst_model.proofs.Swaps.{puts_swap}

cells_equal : (c d : Cell) → same_cell c d ≡ true → c ≡ d
cells_equal (Array n) (Array m) e = ap (λ z. Array z) (grind (arith, nat_tests, e))
cells_equal (Temp n) (Temp m) e = ap (λ z. Temp z) (grind (arith, nat_tests, e))
cells_equal (Array n) (Temp m) e = absurd (true≢false (sym e))
cells_equal (Temp n) (Array m) e = absurd (true≢false (sym e))

cell_itself : (c : Cell) → same_cell c c ≡ true
cell_itself (Array n) = grind (arith, nat_tests)
cell_itself (Temp n) = grind (arith, nat_tests)

both_hold : (p q : Bool) → (p && q) ≡ true → (p ≡ true) × (q ≡ true)
both_hold true q e = (refl, e)
both_hold false q e = absurd (true≢false (sym e))

spots_equal : (s t : Spot) → same_spot s t ≡ true → s ≡ t
spots_equal s t e =
    let cell = both_hold (same_cell s.cell t.cell) (pointwise int_eq s.home t.home && pointwise int_eq s.place t.place) e in
    let rest = both_hold (pointwise int_eq s.home t.home) (pointwise int_eq s.place t.place) cell.1 in
    ap₂ (λ (c : Cell) (h : List ℤ). record { cell = c; home = h; place = s.place }) (cells_equal s.cell t.cell cell.0) ((signed_items s.home t.home).0 rest.0)
    ∙ ap (λ (p : List ℤ). record { cell = t.cell; home = t.home; place = p }) ((signed_items s.place t.place).0 rest.1)

spot_itself : (s : Spot) → same_spot s s ≡ true
spot_itself s = ap₂ (λ (p q : Bool). p && q) (cell_itself s.cell) (ap₂ (λ (p q : Bool). p && q) ((signed_items s.home s.home).1 refl) ((signed_items s.place s.place).1 refl))

-- The instances of a kernel are steps.
pub are_steps : (K : Kernel) (a : Arguments) → AreSteps (steps_of K a)
are_steps K a = record { equal = spots_equal; itself = spot_itself; reads_only = reads_only K a }

cell_of_spot : (K : Kernel) (env : Env) (c : Cell) (place : List ℤ) → (spot_of K env c place).cell ≡ c
cell_of_spot K env (Array n) place = refl
cell_of_spot K env (Temp n) place = refl

-- Instances that do not conflict are free as steps.
pub apart_free : (K : Kernel) (a : Arguments) (x y : Instance) → Apart K a x y → Free (steps_of K a) x y
apart_free K a x y apart = record {
  first = apart.first;
  second = apart.second;
  one_cell = λ e s w.
      let k = kind_of K x.insn.cell in let l = kind_of K y.insn.cell in
      puts_swap x.insn.storing y.insn.storing (apart.one_cell e)
      (test_holds (world_of K a (sight_of K a x s)) x.insn.test (scene_of K a x) k) (test_holds (world_of K a (sight_of K a y s)) y.insn.test (scene_of K a y) l) k l
      (ap (kind_of K) (sym (cell_of_spot K (scene_of K a x).env x.insn.cell _) ∙ (ap (λ (z : Spot). z.cell) e ∙ cell_of_spot K (scene_of K a y).env y.insn.cell _)))
      w ((meaning_of (world_of K a (sight_of K a x s)) x.insn.value (scene_of K a x)).at k) ((meaning_of (world_of K a (sight_of K a y s)) y.insn.value (scene_of K a y)).at l);
}

same_instances : (K : Kernel) (a : Arguments) (xs ys : List Instance) → IsRespectingOrder K a xs → IsRespectingOrder K a ys → AreSame xs ys
same_instances K a xs ys first second = record {
  first = first.once;
  second = second.once;
  into = λ x h. second.all x (first.only x h);
  from = λ x h. first.all x (second.only x h);
}

pub memories_alike : (K : Kernel) (a : Arguments) → UnorderedAreApart K a → (xs ys : List Instance) → IsRespectingOrder K a xs → IsRespectingOrder K a ys → (s : Spot) → memory_after K a xs s ≡ memory_after K a ys s
memories_alike K a apart xs ys first second =
    respecting_orders (steps_of K a) (are_steps K a) (directly_before K) xs ys (same_instances K a xs ys first second) first.respects second.respects
    (λ x y hx hy other d e. apart_free K a x y (apart x y (first.only x hx) (first.only y hy) other d e)) (opening K a)

map_same : {A B : Type 0} (f g : A → B) → ((z : A) → f z ≡ g z) → (zs : List A) → map f zs ≡ map g zs
map_same f g e [] = refl
map_same f g e (z ∷ zs) = ap₂ (λ y ys. y ∷ ys) (e z) (map_same f g e zs)

pub orders_store_alike : RespectingOrdersStoreAlike
orders_store_alike K a apart xs ys first second =
    map_same (words_of K a (memory_after K a xs)) (words_of K a (memory_after K a ys))
    (λ n. map_same _ _ (λ place. memories_alike K a apart xs ys first second (record { cell = Array n; home = []; place = place })) _) (stored_arrays 0 K.arrays)
