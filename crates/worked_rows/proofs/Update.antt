-- What the update of one cell by two instances stores.
use Rattle.std.specs.Prelude.{◌≡◌, ℕ, ℤ, pos, true, false, List, [], ◌∷◌, codes}
use Rattle.std.proofs.Common.{refl, sym, ap, ap₂, ◌∙◌, subst, inl, inr, arith}
use Rattle.wrap_words.specs.declared.kind.Kind.TheVariants.{I32}
use Rattle.wrap_words.specs.declared.kind.Word.{Word}
use Rattle.wrap_words.specs.Words.{word_of}
use Rattle.affine_rows.specs.declared.quasi.Quasi.{fold-roll-Quasi}
use Rattle.expr_tree.specs.declared.tree.Op.TheVariants.{Add}
use Rattle.expr_tree.specs.Value.{apply}
use Rattle.step_orders.specs.Orders.{Has, after_step}
use Rattle.kernel_ir.specs.declared.kernel.Kernel.{Kernel}
use Rattle.inst_model.specs.Arguments.{Arguments, Meets, params_at}
use Rattle.inst_model.specs.Instances.{Instance, IsRespectingOrder, scene_of}
use Rattle.inst_model.specs.Memory.{Spot, Memory, low_bits}
use Rattle.inst_model.specs.Running.{stored, steps_of, stored_spot, read_spots, reading, memory_after, opening, changed, world_of, sight_of}
use Rattle.inst_model.specs.Sound.{Apart, UnorderedAreApart}
use Rattle.inst_model.proofs.Kernels.{are_steps, orders_store_alike}
use Rattle.inst_model.proofs.Written.{untouched}
use Rattle.worked_rows.specs.Parts.{int32s, number, variable}
use Rattle.worked_rows.specs.Update.{add_entry, update, two_entries, UpdatesAddUp}
use Rattle.worked_rows.proofs.Turns.{own_word}
use Rattle.worked_rows.proofs.Values.{number_is, variable_is, read_at, gather_read}
use Rattle.worked_rows.proofs.Meeting.{in_range, is_list}
use Rattle.worked_rows.proofs.Spots.{spot, spot_at, one_cell, listed}
use Rattle.worked_rows.proofs.Domains.{IsOver, at}
use Rattle.worked_rows.proofs.Rising.{rising, one_of, rising_respects}

abbrev K : Kernel
K = update

abbrev a : Arguments
a = two_entries

meets : Meets K a
meets = record {
  numbers = refl;
  range = in_range 2 (omega arith);
  assumptions = refl;
  lists = (
    is_list (params_at K a) true (codes "out") (number 1) 1 (pos 1 ∷ []) (number_is (params_at K a) 1) (omega arith) refl,
    (is_list (params_at K a) false (codes "a") (variable 0) 2 (pos 5 ∷ pos 6 ∷ []) (variable_is (params_at K a) 0 (pos 2) refl) (omega arith) refl, tt),
  );
}

over : IsOver K add_entry
over = record { inames = refl; rows = simp fold-roll-Quasi refl }

abbrev named : List Instance
named = rising add_entry 0 2

named_respects : IsRespectingOrder K a named
named_respects = rising_respects K a 2 refl add_entry over refl refl

module _ (k : ℕ) where
  abbrev x : Instance
  x = at add_entry k

  spot_is : stored_spot K a x ≡ spot 0 0
  spot_is = ap (spot_at 0) (number_is (scene_of K a x).env 0)

  reads_are : read_spots K a x ≡ spot 1 k ∷ []
  reads_are =
      gather_read (reading K a x) 1 (variable 1) (scene_of K a x)
      ∙ ap (λ (z : ℤ). spot_at 1 z ∷ []) (variable_is (scene_of K a x).env 1 (pos k) refl)

  changed_is : (m : Memory) (w : Word) → changed K a x m w ≡ apply Add I32 w (low_bits I32 (m (spot 1 k)))
  changed_is m w =
      ap (λ (v : Word). apply Add I32 w (low_bits I32 v))
      (read_at (world_of K a (sight_of K a x m)) (scene_of K a x) I32 1 (variable 1)
      ∙ ap (λ (z : ℤ). m (spot_at 1 z)) (variable_is (scene_of K a x).env 1 (pos k) refl))

other_array : (k : ℕ) → spot 1 k ≡ spot 0 0 → ⊥
other_array k e = omega (arith, one_cell 1 0 (pos k) (pos 0) e)

not_read : (k : ℕ) (reads : List Spot) (s : Spot) → reads ≡ spot 1 k ∷ [] → s ≡ spot 0 0 → Has reads s → ⊥
not_read k reads s r e h =
    elim (subst (λ (t : Spot). Has (spot 1 k ∷ []) t) e (subst (λ (rs : List Spot). Has rs s) r h)) [
      | inl same ↦ other_array k same
      | inr none ↦ none
    ]

are_apart : (j k : ℕ) → Apart K a (at add_entry j) (at add_entry k)
are_apart j k = record {
  first = not_read j _ _ (reads_are j) (spot_is k);
  second = not_read k _ _ (reads_are k) (spot_is j);
  one_cell = λ e. refl;
}

all_apart : UnorderedAreApart K a
all_apart x y i g differ before after =
    let j = one_of K a 2 refl add_entry over refl x i in
    let k = one_of K a 2 refl add_entry over refl y g in
    subst (λ v. Apart K a v y) j.2 (subst (λ v. Apart K a (at add_entry j.0) v) k.2 (are_apart j.0 k.0))

-- 1 + 5 + 6
opened_is : apply Add I32 (apply Add I32 (opening K a (spot 0 0)) (low_bits I32 (opening K a (spot 1 0)))) (low_bits I32 (opening K a (spot 1 1))) ≡ word_of I32 (pos 12)
opened_is = simp fold-roll-Quasi refl

word_is : memory_after K a named (spot 0 0) ≡ word_of I32 (pos 12)
word_is =
    let steps = steps_of K a in
    let are = are_steps K a in
    let start = opening K a in
    let after = after_step steps (at add_entry 0) start in
    own_word steps are (at add_entry 1) after (spot 0 0) (spot_is 1)
    ∙ changed_is 1 after (after (spot 0 0))
    ∙ ap₂ (λ (w v : Word). apply Add I32 w (low_bits I32 v)) (own_word steps are (at add_entry 0) start (spot 0 0) (spot_is 0) ∙ changed_is 0 start (start (spot 0 0)))
    (untouched steps are (at add_entry 0 ∷ []) start (spot 1 1) (λ y h e. elim h [
      | inl same ↦ other_array 1 (sym (ap (stored_spot K a) same ∙ e) ∙ spot_is 0)
      | inr none ↦ none
    ]))
    ∙ opened_is

stores_twelve : stored K a named ≡ int32s (pos 12 ∷ []) ∷ []
stores_twelve =
    ap (λ (ws : List Word). ws ∷ []) (listed K a (memory_after K a named) 0 (pos 1) (ap (λ (z : ℤ). z ∷ []) (number_is (params_at K a) 1)))
    ∙ ap (λ (w : Word). (w ∷ []) ∷ []) word_is

pub updates_add_up : UpdatesAddUp
updates_add_up = record {
  meets = meets;
  order = named;
  respects = named_respects;
  always = λ xs order. orders_store_alike K a all_apart xs named order named_respects ∙ stores_twelve;
}
