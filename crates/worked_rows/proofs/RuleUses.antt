-- What the kernel with two uses of a rule stores.
use Rattle.std.specs.Prelude.{◌≡◌, ℕ, ◌+◌, ◌<◌, ℤ, pos, true, false, List, [], ◌∷◌, codes}
use Rattle.std.proofs.Common.{refl, ap, ap₂, ◌∙◌, arith}
use Rattle.wrap_words.specs.declared.kind.Kind.TheVariants.{I32}
use Rattle.wrap_words.specs.declared.kind.Word.{Word}
use Rattle.wrap_words.specs.Words.{word_of}
use Rattle.affine_rows.specs.declared.quasi.Quasi.{Quasi, fold-roll-Quasi}
use Rattle.affine_rows.specs.Forms.{form_at}
use Rattle.expr_tree.specs.declared.tree.Op.TheVariants.{Add, Mul}
use Rattle.expr_tree.specs.Value.{apply}
use Rattle.expr_tree.specs.Scenes.{Scene}
use Rattle.expr_tree.specs.Meaning.{World, meaning_of}
use Rattle.kernel_ir.specs.declared.kernel.Kernel.{Kernel}
use Rattle.inst_model.specs.Arguments.{Arguments, Meets, params_at}
use Rattle.inst_model.specs.Instances.{Instance, IsRespectingOrder, scene_of}
use Rattle.inst_model.specs.Memory.{Memory, low_bits}
use Rattle.inst_model.specs.Running.{stored, stored_spot, memory_after, opening, changed, world_of, world_to, sight_of, within_rule}
use Rattle.worked_rows.specs.Parts.{int32s, variable, further, read, call}
use Rattle.worked_rows.specs.RuleUses.{square_rule, add_squares, rule_uses, one_to_three, UsesAreBodies}
use Rattle.worked_rows.proofs.Values.{variable_is, further_is, read_at, bin_at, call_at}
use Rattle.worked_rows.proofs.Meeting.{in_range, is_list}
use Rattle.worked_rows.proofs.Spots.{spot, spot_at, listed}
use Rattle.worked_rows.proofs.Domains.{IsOver, at}
use Rattle.worked_rows.proofs.Rising.{rising, rising_respects, own_word_is}

abbrev K : Kernel
K = rule_uses

abbrev a : Arguments
a = one_to_three

meets : Meets K a
meets = record {
  numbers = refl;
  range = in_range 2 (omega arith);
  assumptions = refl;
  lists = (
    is_list (params_at K a) false (codes "a") (further 0 1) 3 (pos 1 ∷ pos 2 ∷ pos 3 ∷ []) (further_is (params_at K a) 0 1 2 refl) (omega arith) refl,
    (is_list (params_at K a) true (codes "out") (variable 0) 2 (pos 0 ∷ pos 0 ∷ []) (variable_is (params_at K a) 0 (pos 2) refl) (omega arith) refl, tt),
  );
}

over : IsOver K add_squares
over = record { inames = refl; rows = simp fold-roll-Quasi refl }

abbrev square : Word → Word
square w = apply Mul I32 w w

spot_is : (k : ℕ) → stored_spot K a (at add_squares k) ≡ spot 1 k
spot_is k = ap (spot_at 1) (variable_is (scene_of K a (at add_squares k)).env 1 (pos k) refl)

module _ (k : ℕ) (m : Memory) where
  abbrev there : Scene
  there = scene_of K a (at add_squares k)

  abbrev inner : World
  inner = world_to K (params_at K a) (sight_of K a (at add_squares k) m) 0

  abbrev outer : World
  outer = world_of K a (sight_of K a (at add_squares k) m)

  -- the read of the rule's body at an argument
  body_read : (z : ℤ) → (meaning_of inner (read 0 (variable 2)) (within_rule (params_at K a) square_rule (z ∷ []) there)).at I32 ≡ m (spot_at 0 z)
  body_read z =
      read_at inner (within_rule (params_at K a) square_rule (z ∷ []) there) I32 0 (variable 2)
      ∙ ap (λ (y : ℤ). m (spot_at 0 y)) (variable_is (within_rule (params_at K a) square_rule (z ∷ []) there).env 2 z refl)

  use_is : (q : Quasi) (z : ℤ) → form_at there.env q ≡ z → (meaning_of outer (call 0 q) there).at I32 ≡ square (m (spot_at 0 z))
  use_is q z e =
      call_at outer there I32 0 q
      ∙ ap (λ (y : ℤ). (outer.call 0 (y ∷ []) there).at I32) e
      ∙ bin_at inner (within_rule (params_at K a) square_rule (z ∷ []) there) I32 Mul (read 0 (variable 2)) (read 0 (variable 2))
      ∙ ap square (body_read z)

  changed_is : (w : Word) → changed K a (at add_squares k) m w ≡ low_bits I32 (apply Add I32 (square (m (spot 0 k))) (square (m (spot 0 (k + 1)))))
  changed_is w =
      ap (low_bits I32)
      (bin_at outer there I32 Add (call 0 (variable 1)) (call 0 (further 1 1))
      ∙ ap₂ (λ (u v : Word). apply Add I32 u v) (use_is (variable 1) (pos k) (variable_is there.env 1 (pos k) refl)) (use_is (further 1 1) (pos (k + 1)) (further_is there.env 1 1 k refl)))

abbrev value : ℕ → Word
value k = low_bits I32 (apply Add I32 (square (opening K a (spot 0 k))) (square (opening K a (spot 0 (k + 1)))))

leaves : (k : ℕ) → k < 2 → (m : Memory) (w : Word) → ((other : ℕ) → (1 ≡ other → ⊥) → (z : ℤ) → m (spot_at other z) ≡ opening K a (spot_at other z))
    → changed K a (at add_squares k) m w ≡ value k
leaves k less m w kept =
    changed_is k m w
    ∙ ap₂ (λ (u v : Word). low_bits I32 (apply Add I32 (square u) (square v))) (kept 0 (λ e. omega (arith, e)) (pos k)) (kept 0 (λ e. omega (arith, e)) (pos (k + 1)))

-- 1*1 + 2*2 and 2*2 + 3*3
first_is : value 0 ≡ word_of I32 (pos 5)
first_is = simp fold-roll-Quasi refl

second_is : value 1 ≡ word_of I32 (pos 13)
second_is = simp fold-roll-Quasi refl

module _ (xs : List Instance) (order : IsRespectingOrder K a xs) where
  word_is : (k : ℕ) → k < 2 → memory_after K a xs (spot 1 k) ≡ value k
  word_is k less = own_word_is K a 2 refl add_squares over refl 1 spot_is value leaves xs order k less

  stores_sums : stored K a xs ≡ int32s (pos 5 ∷ pos 13 ∷ []) ∷ []
  stores_sums =
      ap (λ (ws : List Word). ws ∷ []) (listed K a (memory_after K a xs) 1 (pos 2) (ap (λ (z : ℤ). z ∷ []) (variable_is (params_at K a) 0 (pos 2) refl)))
      ∙ ap₂ (λ (u v : Word). (u ∷ v ∷ []) ∷ []) (word_is 0 (omega arith) ∙ first_is) (word_is 1 (omega arith) ∙ second_is)

pub uses_are_bodies : UsesAreBodies
uses_are_bodies = record {
  meets = meets;
  order = rising add_squares 0 2;
  respects = rising_respects K a 2 refl add_squares over refl refl;
  always = stores_sums;
}
