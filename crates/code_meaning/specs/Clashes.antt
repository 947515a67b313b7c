-- The accesses of a step, and which of them race with earlier ones.
use Rattle.std.specs.Prelude.{ℕ, Bool, true, false, not, ◌&&◌, ◌||◌, ◌==◌, List, [], ◌∷◌, ◌++◌, map, filter, find, Option, None, option_map, option_to_list}
use Rattle.std.specs.Option.{option_or}
use Rattle.std.specs.Ordering.{int_eq}
use Rattle.expr_tree.specs.declared.tree.Cell.{Cell}
use Rattle.expr_tree.specs.declared.tree.Cell.TheVariants.{Array, Temp}
use Rattle.code_tree.specs.declared.code.Code.{Code}
use Rattle.code_meaning.specs.Seen.{Touch}
use Rattle.code_meaning.specs.States.{Access, Who, is_local}
use Rattle.code_meaning.specs.Moves.{Move}

-- arrays and local cells are common to items, private cells are not
abbrev pub is_common : Code → Cell → Bool
is_common code (Array k) = true
is_common code (Temp k) = is_local code k

-- one array or cell
abbrev pub same_cell : Cell → Cell → Bool
same_cell (Array j) (Array k) = j == k
same_cell (Array j) (Temp k) = false
same_cell (Temp j) (Array k) = false
same_cell (Temp j) (Temp k) = j == k

-- an array, not a cell
abbrev pub is_array : Cell → Bool
is_array (Array k) = true
is_array (Temp k) = false

-- one place of memory: a local cell is one in each group
abbrev pub same_place : Access → Access → Bool
same_place a b = same_cell a.touch.cell b.touch.cell && int_eq a.touch.index b.touch.index && (is_array a.touch.cell || (a.group == b.group))

-- accesses of two items at one place, one of them a write, and with no barrier between them
abbrev pub clash : Access → Access → Bool
clash a b = not (a.item == b.item) && same_place a b && (a.write || b.write) && (not (a.group == b.group) || (a.passed == b.passed))

-- the first access of the step that clashes with an earlier one, behind the first such earlier one
abbrev pub first_clash : List Access → List Access → Option (Access × Access)
first_clash history [] = None
first_clash history (a ∷ more) = option_or (option_map (λ h. (h, a)) (find (λ h. clash h a) history)) (first_clash history more)

-- one access, a write or a read, by an item
abbrev pub access_of : Who → ℕ → ℕ → Bool → Touch → Access
access_of who item passed write touch = record { group = who.group; item = item; passed = passed; write = write; touch = touch }

-- the reads in text order and then the write, private cells aside
abbrev pub accesses_of : Code → Who → ℕ → ℕ → Move → List Access
accesses_of code who item passed m =
    filter (λ a. is_common code a.touch.cell) (map (access_of who item passed false) m.reads ++ map (access_of who item passed true) (option_to_list m.target))
