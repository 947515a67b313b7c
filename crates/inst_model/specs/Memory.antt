-- The cells of a run, and their words.
use Rattle.std.specs.Prelude.{ℕ, ◌%◌, ℤ, pos, ◌+ℤ◌, ◌*ℤ◌, Bool, false, ◌&&◌, nat_eq, List, [], ◌∷◌, map, flat_map, unsigned_abs}
use Rattle.std.specs.Ordering.{int_eq}
use Rattle.std.specs.Cmp.Lexicographic.{pointwise}
use Rattle.wrap_words.specs.declared.kind.Kind.{Kind}
use Rattle.wrap_words.specs.declared.kind.Word.{Word}
use Rattle.wrap_words.specs.Words.{modulus_of}
use Rattle.expr_tree.specs.declared.tree.Cell.{Cell}
use Rattle.expr_tree.specs.declared.tree.Cell.TheVariants.{Array, Temp}
use Rattle.expr_tree.specs.Value.{apply}
use Rattle.kernel_ir.specs.declared.kernel.Storing.{Storing}
use Rattle.kernel_ir.specs.declared.kernel.Storing.TheVariants.{Plain, Update}
use Rattle.expr_tree.specs.Scenes.{numbers_from}

-- one cell: of which array or temporary, the values of its home inames, and its subscripts
pub record Spot : Type 0 where
  pub cell : Cell
  pub home : List ℤ
  pub place : List ℤ

abbrev pub Memory : Type 0
Memory = Spot → Word

abbrev pub same_cell : Cell → Cell → Bool
same_cell (Array n) (Array m) = nat_eq n m
same_cell (Temp n) (Temp m) = nat_eq n m
same_cell _ _ = false

abbrev pub same_spot : Spot → Spot → Bool
same_spot a b = same_cell a.cell b.cell && (pointwise int_eq a.home b.home && pointwise int_eq a.place b.place)

-- what a cell keeps of a word
abbrev pub low_bits : Kind → Word → Word
low_bits k w = record { bits = w.bits % modulus_of k }

-- the word of a cell after a store of v over w
abbrev pub put_word : Storing → Kind → Word → Word → Word
put_word Plain k w v = v
put_word (Update op) k w v = apply op k w v

-- the place in an array's list, the last subscript varying fastest
abbrev pub flat_from : ℤ → List ℤ → List ℤ → ℤ
flat_from sum [] place = sum
flat_from sum (e ∷ es) [] = sum
flat_from sum (e ∷ es) (z ∷ zs) = flat_from (sum *ℤ e +ℤ z) es zs

abbrev pub flat_index : List ℤ → List ℤ → ℕ
flat_index extents place = unsigned_abs (flat_from (pos 0) extents place)

-- all places of an array, in the order of its list
abbrev pub places_of : List ℤ → List (List ℤ)
places_of [] = [] ∷ []
places_of (e ∷ es) = flat_map (λ z. map (λ zs. z ∷ zs) (places_of es)) (numbers_from (pos 0) (unsigned_abs e))
