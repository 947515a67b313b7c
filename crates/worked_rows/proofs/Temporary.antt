-- What the kernel with a temporary stores.
use Rattle.std.specs.Prelude.{◌≡◌, ◌⊎◌, ℕ, zero, suc, ◌<◌, ℤ, pos, negsuc, Bool, true, false, not, ◌&&◌, ◌||◌, cond, List, [], ◌∷◌, ◌++◌, map, codes}
use Rattle.std.proofs.Common.{refl, sym, ap, ap₂, ◌∙◌, subst, inl, inr, arith, true≢false}
use Rattle.wrap_words.specs.declared.kind.Kind.TheVariants.{I32}
use Rattle.wrap_words.specs.declared.kind.Word.{Word}
use Rattle.wrap_words.specs.Words.{word_of}
use Rattle.affine_rows.specs.declared.quasi.Quasi.{fold-roll-Quasi}
use Rattle.affine_rows.specs.Rows.{Env}
use Rattle.expr_tree.specs.declared.tree.Op.TheVariants.{Add, Mul}
use Rattle.expr_tree.specs.declared.tree.Cell.TheVariants.{Array, Temp}
use Rattle.expr_tree.specs.Value.{apply}
use Rattle.expr_tree.specs.Scenes.{Scene}
use Rattle.kernel_ir.specs.declared.kernel.Insn.{Insn}
use Rattle.kernel_ir.specs.declared.kernel.Kernel.{Kernel}
use Rattle.step_orders.specs.Orders.{Has, Before}
use Rattle.step_orders.proofs.Lists.{has_left, has_right}
use Rattle.inst_model.specs.Arguments.{Arguments, Meets, params_at}
use Rattle.inst_model.specs.Instances.{Instance, IsInstance, IsRespectingOrder, scene_of, directly_before}
use Rattle.inst_model.specs.Memory.{Spot, Memory, low_bits}
use Rattle.inst_model.specs.Running.{stored, steps_of, spot_of, stored_spot, memory_after, opening, changed, world_of, sight_of, home_inames, uses}
use Rattle.inst_model.proofs.Kernels.{are_steps}
use Rattle.inst_model.proofs.Written.{untouched}
use Rattle.worked_rows.specs.Parts.{int32s, number, variable, leaf, read, read_temp}
use Rattle.worked_rows.specs.Temporary.{square_entry, add_one, temporary, plus_and_minus, ReadsAreOfStores}
use Rattle.worked_rows.proofs.Turns.{Turn, turn, has_either, once_across, before_across}
use Rattle.worked_rows.proofs.Values.{number_is, variable_is, leaf_at, read_at, read_temp_at, bin_at}
use Rattle.worked_rows.proofs.Meeting.{in_range, is_list}
use Rattle.worked_rows.proofs.Spots.{spot, spot_at, one_cell, one_place, listed}
use Rattle.worked_rows.proofs.Domains.{IsOver, at, instance_is, is_instance}
use Rattle.worked_rows.proofs.Rising.{rising, rising_has, has_rising, rising_once}

abbrev K : Kernel
K = temporary

abbrev a : Arguments
a = plus_and_minus

meets : Meets K a
meets = record {
  numbers = refl;
  range = in_range 2 (omega arith);
  assumptions = refl;
  lists = (
    is_list (params_at K a) false (codes "a") (variable 0) 2 (pos 3 ∷ negsuc 1 ∷ []) (variable_is (params_at K a) 0 (pos 2) refl) (omega arith) refl,
    (is_list (params_at K a) true (codes "out") (variable 0) 2 (pos 0 ∷ pos 0 ∷ []) (variable_is (params_at K a) 0 (pos 2) refl) (omega arith) refl, tt),
  );
}

over_square : IsOver K square_entry
over_square = record { inames = refl; rows = simp fold-roll-Quasi refl }

over_add : IsOver K add_one
over_add = record { inames = refl; rows = simp fold-roll-Quasi refl }

abbrev Is : Instance → Type 0
Is x = IsInstance K a x

is_square : (k : ℕ) → k < 2 → Is (at square_entry k)
is_square = is_instance K a 2 refl square_entry over_square (inl refl)

is_add : (k : ℕ) → k < 2 → Is (at add_one k)
is_add = is_instance K a 2 refl add_one over_add (inr (inl refl))

abbrev IsAt : Insn → Instance → Type 0
IsAt A x = (k : ℕ) × (k < 2) × (at A k ≡ x)

-- each instance is one of either instruction
either : (x : Instance) → Is x → IsAt square_entry x ⊎ IsAt add_one x
either x i = elim i.insn [
  | inl e ↦ inl (instance_is K a 2 refl square_entry over_square x e i)
  | inr (inl e) ↦ inr (instance_is K a 2 refl add_one over_add x e i)
  | inr (inr h) ↦ absurd h
]

abbrev squares : List Instance
squares = rising square_entry 0 2

abbrev adds : List Instance
adds = rising add_one 0 2

two_lines : (j k : ℕ) → at square_entry j ≡ at add_one k → ⊥
two_lines j k e = let lines : 5 ≡ 6 = ap (λ (x : Instance). x.insn.line) e in omega (arith, lines)

not_both : (x : Instance) → Has squares x → Has adds x → ⊥
not_both x h g =
    let w = rising_has square_entry 0 2 x h in
    let s = rising_has add_one 0 2 x g in
    two_lines w.0 s.0 (w.3 ∙ sym s.3)

found : (x : Instance) → IsAt square_entry x ⊎ IsAt add_one x → Has (squares ++ adds) x
found x (inl w) = has_left squares adds x (subst (λ y. Has squares y) w.2 (has_rising square_entry 0 2 w.0 (omega arith) (omega (arith, w.1))))
found x (inr s) = has_right squares adds x (subst (λ y. Has adds y) s.2 (has_rising add_one 0 2 s.0 (omega arith) (omega (arith, s.1))))

only : (x : Instance) → Has squares x ⊎ Has adds x → Is x
only x (inl h) = let w = rising_has square_entry 0 2 x h in subst (λ y. Is y) w.3 (is_square w.0 (omega (arith, w.2)))
only x (inr h) = let s = rising_has add_one 0 2 x h in subst (λ y. Is y) s.3 (is_add s.0 (omega (arith, s.2)))

none_before_square : (x y : Instance) (k : ℕ) → at square_entry k ≡ y → directly_before K x y ≡ true → ⊥
none_before_square x y k e d = true≢false (sym (subst (λ z. directly_before K x z ≡ true) (sym e) d))

no_add_before : (x y : Instance) (j k : ℕ) → at add_one j ≡ x → at add_one k ≡ y → directly_before K x y ≡ true → ⊥
no_add_before x y j k e f d = true≢false (sym (subst (λ z. directly_before K z (at add_one k) ≡ true) (sym e) (subst (λ z. directly_before K x z ≡ true) (sym f) d)))

in_order : (x y : Instance) → Has squares x ⊎ Has adds x → Has squares y ⊎ Has adds y → directly_before K x y ≡ true → Before (squares ++ adds) x y
in_order x y h (inl g) d = let w = rising_has square_entry 0 2 y g in absurd (none_before_square x y w.0 w.3 d)
in_order x y (inl h) (inr g) d = before_across squares adds x y h g
in_order x y (inr h) (inr g) d =
    let r = rising_has add_one 0 2 x h in
    let s = rising_has add_one 0 2 y g in
    absurd (no_add_before x y r.0 s.0 r.3 s.3 d)

named_respects : IsRespectingOrder K a (squares ++ adds)
named_respects = record {
  once = once_across squares adds (rising_once square_entry 0 2) (rising_once add_one 0 2) not_both;
  all = λ x i. found x (either x i);
  only = λ x h. only x (has_either squares adds x h);
  respects = λ x y h g d. in_order x y (has_either squares adds x h) (has_either squares adds y g) d;
}

-- the cell of the temporary at a value of its home iname
abbrev temp_spot : ℕ → Spot
temp_spot k = record { cell = Temp 0; home = pos k ∷ []; place = [] }

abbrev kept_where : Bool → List ℕ
kept_where b = cond (((not true) || true) && (((not b) || true) && true)) (1 ∷ []) []

all_have : (b : Bool) → kept_where b ≡ 1 ∷ []
all_have true = refl
all_have false = refl

-- both users of the temporary have i
home_is : home_inames K (Temp 0) ≡ 1 ∷ []
home_is = all_have (uses K (Temp 0) add_one)

temp_is : (env : Env) (k : ℕ) → env 1 ≡ pos k → spot_of K env (Temp 0) [] ≡ temp_spot k
temp_is env k e =
    ap (λ (is : List ℕ). record { cell = Temp 0; home = map env is; place = [] }) home_is
    ∙ ap (λ (z : ℤ). record { cell = Temp 0; home = z ∷ []; place = [] }) e

square_spot : (k : ℕ) → stored_spot K a (at square_entry k) ≡ temp_spot k
square_spot k = temp_is (scene_of K a (at square_entry k)).env k refl

add_spot : (k : ℕ) → stored_spot K a (at add_one k) ≡ spot 1 k
add_spot k = ap (spot_at 1) (variable_is (scene_of K a (at add_one k)).env 1 (pos k) refl)

abbrev square : Word → Word
square w = low_bits I32 (apply Mul I32 w w)

abbrev one_more : Word → Word
one_more w = low_bits I32 (apply Add I32 w (word_of I32 (pos 1)))

module _ (k : ℕ) (m : Memory) (w : Word) where
  abbrev at_square : Scene
  at_square = scene_of K a (at square_entry k)

  abbrev at_add : Scene
  at_add = scene_of K a (at add_one k)

  square_changed : changed K a (at square_entry k) m w ≡ square (m (spot 0 k))
  square_changed =
      let world = world_of K a (sight_of K a (at square_entry k) m) in
      ap (low_bits I32) (bin_at world at_square I32 Mul (read 0 (variable 1)) (read 0 (variable 1)))
      ∙ ap square (read_at world at_square I32 0 (variable 1) ∙ ap (λ (z : ℤ). m (spot_at 0 z)) (variable_is at_square.env 1 (pos k) refl))

  add_changed : changed K a (at add_one k) m w ≡ one_more (m (temp_spot k))
  add_changed =
      let world = world_of K a (sight_of K a (at add_one k) m) in
      ap (low_bits I32) (bin_at world at_add I32 Add (read_temp 0) (leaf (number 1)))
      ∙ ap₂ (λ (u v : Word). low_bits I32 (apply Add I32 u v))
      (read_temp_at world at_add I32 0 ∙ ap m (temp_is at_add.env k refl))
      (leaf_at world at_add I32 (number 1) ∙ ap (word_of I32) (number_is at_add.env 1))

temp_no_array : (n j : ℕ) (z : ℤ) → temp_spot j ≡ spot_at n z → ⊥
temp_no_array n j z e = let cells : Temp 0 ≡ Array n = ap (λ (s : Spot). s.cell) e in cc

one_home : (j k : ℕ) → temp_spot j ≡ temp_spot k → j ≡ k
one_home j k e = let homes : pos j ∷ [] ≡ pos k ∷ [] = ap (λ (s : Spot). s.home) e in cc

-- the spot of an instance of either sort
spot_of_square : (x : Instance) (w : IsAt square_entry x) → stored_spot K a x ≡ temp_spot w.0
spot_of_square x w = ap (stored_spot K a) (sym w.2) ∙ square_spot w.0

spot_of_add : (x : Instance) (s : IsAt add_one x) → stored_spot K a x ≡ spot 1 s.0
spot_of_add x s = ap (stored_spot K a) (sym s.2) ∙ add_spot s.0

-- who stores to the output at k, to the temporary at k, and to the input
writes_out : (k : ℕ) (y : Instance) → IsAt square_entry y ⊎ IsAt add_one y → stored_spot K a y ≡ spot 1 k → y ≡ at add_one k
writes_out k y (inl w) e = absurd (temp_no_array 1 w.0 (pos k) (sym (spot_of_square y w) ∙ e))
writes_out k y (inr s) e = sym s.2 ∙ ap (at add_one) (one_place 1 1 s.0 k (sym (spot_of_add y s) ∙ e))

writes_temp : (k : ℕ) (y : Instance) → IsAt square_entry y ⊎ IsAt add_one y → stored_spot K a y ≡ temp_spot k → y ≡ at square_entry k
writes_temp k y (inl w) e = sym w.2 ∙ ap (at square_entry) (one_home w.0 k (sym (spot_of_square y w) ∙ e))
writes_temp k y (inr s) e = absurd (temp_no_array 1 k (pos s.0) (sym e ∙ spot_of_add y s))

writes_input : (k : ℕ) (y : Instance) → IsAt square_entry y ⊎ IsAt add_one y → stored_spot K a y ≡ spot 0 k → ⊥
writes_input k y (inl w) e = temp_no_array 0 w.0 (pos k) (sym (spot_of_square y w) ∙ e)
writes_input k y (inr s) e = let one = one_cell 1 0 (pos s.0) (pos k) (sym (spot_of_add y s) ∙ e) in omega (arith, one)

abbrev value : ℕ → Word
value k = one_more (square (opening K a (spot 0 k)))

-- 3*3 + 1 and -2*-2 + 1
first_is : value 0 ≡ word_of I32 (pos 10)
first_is = simp fold-roll-Quasi refl

second_is : value 1 ≡ word_of I32 (pos 5)
second_is = simp fold-roll-Quasi refl

-- the two instances at a number are ordered
is_before : (k : ℕ) → k < 2 → directly_before K (at square_entry k) (at add_one k) ≡ true
is_before zero h = refl
is_before (suc zero) h = refl
is_before (suc (suc k)) h = absurd (omega (arith, h))

module _ (xs : List Instance) (order : IsRespectingOrder K a xs) (k : ℕ) (less : k < 2) where
  one_of : (y : Instance) → Has xs y → IsAt square_entry y ⊎ IsAt add_one y
  one_of y h = either y (order.only y h)

  outer : Turn (steps_of K a) xs (opening K a) (at add_one k)
  outer = turn (steps_of K a) (are_steps K a) xs (opening K a) (at add_one k) order.once (order.all (at add_one k) (is_add k less))
      (λ y h e. inl (writes_out k y (one_of y h) (e ∙ add_spot k)))

  in_front : Has outer.front (at square_entry k)
  in_front = outer.earlier (at square_entry k) (order.respects (at square_entry k) (at add_one k) (order.all (at square_entry k) (is_square k less)) (order.all (at add_one k) (is_add k less)) (is_before k less))

  inner : Turn (steps_of K a) outer.front (opening K a) (at square_entry k)
  inner = turn (steps_of K a) (are_steps K a) outer.front (opening K a) (at square_entry k) outer.once in_front
      (λ y h e. inl (writes_temp k y (one_of y (outer.within y h)) (e ∙ square_spot k)))

  abbrev late : Memory
  late = memory_after K a outer.front

  abbrev early : Memory
  early = memory_after K a inner.front

  input_is : early (spot 0 k) ≡ opening K a (spot 0 k)
  input_is = untouched (steps_of K a) (are_steps K a) inner.front (opening K a) (spot 0 k)
      (λ y h e. writes_input k y (one_of y (outer.within y (inner.within y h))) e)

  temp_word : late (temp_spot k) ≡ square (opening K a (spot 0 k))
  temp_word =
      ap late (sym (square_spot k)) ∙ inner.is
      ∙ square_changed k early (early (stored_spot K a (at square_entry k))) ∙ ap square input_is

  out_word : memory_after K a xs (spot 1 k) ≡ value k
  out_word =
      ap (memory_after K a xs) (sym (add_spot k)) ∙ outer.is
      ∙ add_changed k late (late (stored_spot K a (at add_one k))) ∙ ap one_more temp_word

stores_words : (xs : List Instance) → IsRespectingOrder K a xs → stored K a xs ≡ int32s (pos 10 ∷ pos 5 ∷ []) ∷ []
stores_words xs order =
    ap (λ (ws : List Word). ws ∷ []) (listed K a (memory_after K a xs) 1 (pos 2) (ap (λ (z : ℤ). z ∷ []) (variable_is (params_at K a) 0 (pos 2) refl)))
    ∙ ap₂ (λ (u v : Word). (u ∷ v ∷ []) ∷ []) (out_word xs order 0 (omega arith) ∙ first_is) (out_word xs order 1 (omega arith) ∙ second_is)

pub reads_are_of_stores : ReadsAreOfStores
reads_are_of_stores = record { meets = meets; order = squares ++ adds; respects = named_respects; always = stores_words }
