-- What the kernel of the sums over the numbers below each number stores.
use Rattle.std.specs.Prelude.{◌≡◌, ℕ, ◌<◌, ℤ, pos, true, false, List, [], ◌∷◌, map, codes}
use Rattle.std.proofs.Common.{refl, ap, ap₂, ◌∙◌, arith}
use Rattle.wrap_words.specs.declared.kind.Kind.{Kind}
use Rattle.wrap_words.specs.declared.kind.Kind.TheVariants.{I32}
use Rattle.wrap_words.specs.declared.kind.Word.{Word}
use Rattle.wrap_words.specs.Words.{word_of}
use Rattle.affine_rows.specs.declared.quasi.Quasi.{fold-roll-Quasi}
use Rattle.expr_tree.specs.declared.tree.Op.{Op}
use Rattle.expr_tree.specs.declared.tree.Op.TheVariants.{Add}
use Rattle.expr_tree.specs.declared.tree.Node.TheVariants as node
use Rattle.expr_tree.specs.declared.tree.Expr.{Expr}
use Rattle.expr_tree.proofs.Equations.{meaning-tree, meaning-Fold}
use Rattle.expr_tree.specs.Value.{Sense}
use Rattle.expr_tree.specs.Scenes.{Scene, numbers_from, rows_over, points_among, every_number, widened}
use Rattle.expr_tree.specs.Meaning.{World, meaning_of, combined, neutral}
use Rattle.kernel_ir.specs.declared.kernel.Kernel.{Kernel}
use Rattle.inst_model.specs.Arguments.{Arguments, Meets, params_at}
use Rattle.inst_model.specs.Instances.{Instance, IsRespectingOrder, scene_of}
use Rattle.inst_model.specs.Memory.{Memory, low_bits}
use Rattle.inst_model.specs.Running.{stored, stored_spot, memory_after, opening, changed, world_of, sight_of}
use Rattle.worked_rows.specs.Parts.{int32s, variable, below, read}
use Rattle.worked_rows.specs.EmptySum.{reduction, sum_below, empty_sum, three_entries, FirstSumIsEmpty}
use Rattle.worked_rows.proofs.Values.{variable_is, read_at}
use Rattle.worked_rows.proofs.Meeting.{in_range, is_list}
use Rattle.worked_rows.proofs.Spots.{spot, spot_at, listed}
use Rattle.worked_rows.proofs.Domains.{IsOver, at}
use Rattle.worked_rows.proofs.Rising.{rising, rising_respects, own_word_is}
use Rattle.worked_rows.proofs.Ranges.{points_below}

abbrev K : Kernel
K = empty_sum

abbrev a : Arguments
a = three_entries

fold_at : (w : World) (there : Scene) (k : Kind) (op : Op) (v : ℕ) (e : Expr) → (meaning_of w (reduction op v e) there).at k ≡ combined op k (neutral op k) (map (λ (s : Sense). s.at k) (map (meaning_of w e) (w.points (v ∷ []) there)))
fold_at w there k op v e = ap (λ (f : Scene → Sense). (f there).at k) (meaning-tree w (node.Fold op (v ∷ []) e) ∙ meaning-Fold w op (v ∷ []) e)

meets : Meets K a
meets = record {
  numbers = refl;
  range = in_range 3 (omega arith);
  assumptions = refl;
  lists = (
    is_list (params_at K a) false (codes "a") (variable 0) 3 (pos 5 ∷ pos 6 ∷ pos 7 ∷ []) (variable_is (params_at K a) 0 (pos 3) refl) (omega arith) refl,
    (is_list (params_at K a) true (codes "out") (variable 0) 3 (pos 9 ∷ pos 9 ∷ pos 9 ∷ []) (variable_is (params_at K a) 0 (pos 3) refl) (omega arith) refl, tt),
  );
}

over : IsOver K sum_below
over = record { inames = refl; rows = simp fold-roll-Quasi refl }

spot_is : (k : ℕ) → stored_spot K a (at sum_below k) ≡ spot 1 k
spot_is k = ap (spot_at 1) (variable_is (scene_of K a (at sum_below k)).env 1 (pos k) refl)

-- the rows of the reduction are those of k
sum_rows : rows_over (0 ∷ []) K.rows (1 ∷ []) (2 ∷ []) ≡ below 2 1
sum_rows = simp fold-roll-Quasi refl

-- the word of the sum of a memory's words at some numbers
abbrev sum_at : Memory → List ℤ → Word
sum_at m zs = combined Add I32 (neutral Add I32) (map (λ z. m (spot_at 0 z)) zs)

module _ (k : ℕ) (less : k < 3) (m : Memory) where
  abbrev there : Scene
  there = scene_of K a (at sum_below k)

  abbrev world : World
  world = world_of K a (sight_of K a (at sum_below k) m)

  points_are : points_among every_number (0 ∷ []) K.rows (2 ∷ []) there ≡ map (widened there (2 ∷ [])) (map (λ z. z ∷ []) (numbers_from (pos 0) k))
  points_are = points_below (0 ∷ []) K.rows 2 1 k there (omega (arith, less)) (λ z. refl) (λ z. refl) sum_rows

  words_are : (zs : List ℤ) → map (λ (s : Sense). s.at I32) (map (meaning_of world (read 0 (variable 2))) (map (widened there (2 ∷ [])) (map (λ z. z ∷ []) zs))) ≡ map (λ z. m (spot_at 0 z)) zs
  words_are [] = refl
  words_are (z ∷ zs) =
      ap₂ (λ (w : Word) (ws : List Word). w ∷ ws)
      (read_at world (widened there (2 ∷ []) (z ∷ [])) I32 0 (variable 2) ∙ ap (λ (y : ℤ). m (spot_at 0 y)) (variable_is (widened there (2 ∷ []) (z ∷ [])).env 2 z refl))
      (words_are zs)

  changed_is : (w : Word) → changed K a (at sum_below k) m w ≡ low_bits I32 (sum_at m (numbers_from (pos 0) k))
  changed_is w =
      ap (low_bits I32) (fold_at world there I32 Add 2 (read 0 (variable 2))
      ∙ ap (λ (points : List Scene). combined Add I32 (neutral Add I32) (map (λ (s : Sense). s.at I32) (map (meaning_of world (read 0 (variable 2))) points))) points_are
      ∙ ap (combined Add I32 (neutral Add I32)) (words_are (numbers_from (pos 0) k)))

abbrev value : ℕ → Word
value k = low_bits I32 (sum_at (opening K a) (numbers_from (pos 0) k))

same_words : (m : Memory) → ((z : ℤ) → m (spot_at 0 z) ≡ opening K a (spot_at 0 z)) → (zs : List ℤ) → map (λ z. m (spot_at 0 z)) zs ≡ map (λ z. opening K a (spot_at 0 z)) zs
same_words m kept [] = refl
same_words m kept (z ∷ zs) = ap₂ (λ (w : Word) (ws : List Word). w ∷ ws) (kept z) (same_words m kept zs)

leaves : (k : ℕ) → k < 3 → (m : Memory) (w : Word) → ((other : ℕ) → (1 ≡ other → ⊥) → (z : ℤ) → m (spot_at other z) ≡ opening K a (spot_at other z))
    → changed K a (at sum_below k) m w ≡ value k
leaves k less m w kept =
    changed_is k less m w
    ∙ ap (λ (ws : List Word). low_bits I32 (combined Add I32 (neutral Add I32) ws)) (same_words m (kept 0 (λ e. omega (arith, e))) (numbers_from (pos 0) k))

-- no word, 5, and 5 + 6
first_is : value 0 ≡ word_of I32 (pos 0)
first_is = refl

second_is : value 1 ≡ word_of I32 (pos 5)
second_is = simp fold-roll-Quasi refl

third_is : value 2 ≡ word_of I32 (pos 11)
third_is = simp fold-roll-Quasi refl

module _ (xs : List Instance) (order : IsRespectingOrder K a xs) where
  word_is : (k : ℕ) → k < 3 → memory_after K a xs (spot 1 k) ≡ value k
  word_is k less = own_word_is K a 3 refl sum_below over refl 1 spot_is value leaves xs order k less

  stores_sums : stored K a xs ≡ int32s (pos 0 ∷ pos 5 ∷ pos 11 ∷ []) ∷ []
  stores_sums =
      ap (λ (ws : List Word). ws ∷ []) (listed K a (memory_after K a xs) 1 (pos 3) (ap (λ (z : ℤ). z ∷ []) (variable_is (params_at K a) 0 (pos 3) refl)))
      ∙ ap₂ (λ (w : Word) (ws : List Word). (w ∷ ws) ∷ []) (word_is 0 (omega arith) ∙ first_is)
      (ap₂ (λ (u v : Word). u ∷ v ∷ []) (word_is 1 (omega arith) ∙ second_is) (word_is 2 (omega arith) ∙ third_is))

pub first_sum_is_empty : FirstSumIsEmpty
first_sum_is_empty = record {
  meets = meets;
  order = rising sum_below 0 3;
  respects = rising_respects K a 3 refl sum_below over refl refl;
  always = stores_sums;
}
