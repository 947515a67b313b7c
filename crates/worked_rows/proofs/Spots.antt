-- The cells of arrays of one subscript.
use Rattle.std.specs.Prelude.{◌≡◌, ℕ, ℤ, pos, List, [], ◌∷◌, map, flat_map, unsigned_abs}
use Rattle.std.proofs.Common.{refl, ap, ◌∙◌}
use Rattle.wrap_words.specs.declared.kind.Word.{Word}
use Rattle.expr_tree.specs.declared.tree.Cell.TheVariants.{Array}
use Rattle.expr_tree.specs.Scenes.{numbers_from}
use Rattle.kernel_ir.specs.declared.kernel.Kernel.{Kernel}
use Rattle.inst_model.specs.Memory.{Spot, Memory, places_of}
use Rattle.inst_model.specs.Arguments.{Arguments, extents}
use Rattle.inst_model.specs.Running.{words_of}

-- the cell of array n at a place
abbrev pub spot_at : ℕ → ℤ → Spot
spot_at n z = record { cell = Array n; home = []; place = z ∷ [] }

abbrev pub spot : ℕ → ℕ → Spot
spot n k = spot_at n (pos k)

-- one cell is at one place of one array
pub one_cell : (n m : ℕ) (y z : ℤ) → spot_at n y ≡ spot_at m z → n ≡ m
one_cell n m y z e = let cells : Array n ≡ Array m = ap (λ (s : Spot). s.cell) e in cc

pub one_place : (n m j k : ℕ) → spot n j ≡ spot m k → j ≡ k
one_place n m j k e = let places : pos j ∷ [] ≡ pos k ∷ [] = ap (λ (s : Spot). s.place) e in cc

words_at : (m : Memory) (n : ℕ) (zs : List ℤ) → map (λ place. m (record { cell = Array n; home = []; place = place })) (flat_map (λ z. map (λ zs. z ∷ zs) ([] ∷ [])) zs) ≡ map (λ z. m (spot_at n z)) zs
words_at m n [] = refl
words_at m n (z ∷ zs) = ap (λ (ws : List Word). m (spot_at n z) ∷ ws) (words_at m n zs)

-- The list of an array is the words of its cells.
pub listed : (K : Kernel) (a : Arguments) (m : Memory) (n : ℕ) (size : ℤ) → extents K a (Array n) ≡ size ∷ [] → words_of K a m n ≡ map (λ z. m (spot_at n z)) (numbers_from (pos 0) (unsigned_abs size))
listed K a m n size e =
    ap (λ (es : List ℤ). map (λ place. m (record { cell = Array n; home = []; place = place })) (places_of es)) e
    ∙ words_at m n (numbers_from (pos 0) (unsigned_abs size))
