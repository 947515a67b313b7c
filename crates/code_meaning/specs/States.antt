-- The states of a run: what each item still has to do, and the words of arrays and cells.
use Rattle.std.specs.Prelude.{ℕ, ◌-◌, ℤ, pos, negsuc, Bool, nat_lt, if◌then◌else◌, List, [], length, Option, None, slice_get, slice_set, slice_index_or, unsigned_abs}
use Rattle.std.specs.Option.{option_flatten}
use Rattle.wrap_words.specs.declared.kind.Word.{Word}
use Rattle.affine_rows.specs.Rows.{Env}
use Rattle.expr_tree.specs.declared.tree.Cell.{Cell}
use Rattle.expr_tree.specs.declared.tree.Cell.TheVariants.{Array, Temp}
use Rattle.code_tree.specs.declared.code.Code.{Code}
use Rattle.code_meaning.specs.Plan.{Fresh, Act, Acts}
use Rattle.code_meaning.specs.Seen.{Touch}

-- What an item still has to do, piece by piece: begin a statement, test a loop again, or wait at a barrier.
pub data Task : Type 0 where
  begin : (act : Act) → Task
  again : (number var : ℕ) (upper : Env → Option ℤ) (fresh : Fresh) (body : Acts) → Task
  wait : (number : ℕ) → Task

-- an item: its tasks, the loops round it, the innermost first, each with its variable and value, its private cells, and how many barriers it has passed
pub record Item : Type 0 where
  pub tasks : List Task
  pub loops : List (ℕ × ℤ)
  pub cells : List (List Word)
  pub passed : ℕ

-- a group: its local cells, None where nothing was written, and its items
pub record Group : Type 0 where
  pub cells : List (List (Option Word))
  pub items : List Item

-- all that items read and write, and what they still have to do
pub record Store : Type 0 where
  pub arrays : List (List Word)
  pub groups : List Group

-- an access of an array or a local cell by an item of a group that had passed so many barriers
pub record Access : Type 0 where
  pub group : ℕ
  pub item : ℕ
  pub passed : ℕ
  pub write : Bool
  pub touch : Touch

-- The accesses so far, in the order of the run, stand beside the store: they decide races and nothing else.
pub record State : Type 0 where
  pub store : Store
  pub history : List Access

-- numbers of parameters and words of arrays
pub record Inputs : Type 0 where
  pub params : List ℤ
  pub arrays : List (List Word)

-- which item: the group and the place in it
pub record Who : Type 0 where
  pub group : ℕ
  pub place : ℕ

-- where there is no item
abbrev pub no_item : Item
no_item = record { tasks = []; loops = []; cells = []; passed = 0 }

-- where there is no group
abbrev pub no_group : Group
no_group = record { cells = []; items = [] }

-- an item's group
abbrev pub group_of : Store → Who → Group
group_of store who = slice_index_or store.groups who.group no_group

-- an item
abbrev pub item_of : Store → Who → Item
item_of store who = slice_index_or (group_of store who).items who.place no_item

-- what stands at an index, if there is such a place
abbrev pub at_index : {A : Type 0} → List A → ℤ → Option A
at_index xs (pos i) = slice_get xs i
at_index xs (negsuc i) = None

-- a list of a list of lists, empty where there is none
abbrev pub row_of : {A : Type 0} → List (List A) → ℕ → List A
row_of xs k = slice_index_or xs k []

-- the list of lists with one place of one of them replaced
abbrev pub put : {A : Type 0} → List (List A) → ℕ → ℤ → A → List (List A)
put xs k i a = slice_set xs k (slice_set (row_of xs k) (unsigned_abs i) a)

-- the local cells stand before the private ones
abbrev pub is_local : Code → ℕ → Bool
is_local code k = nat_lt k (length code.locals)

-- a private cell's place among the private cells
abbrev pub private_place : Code → ℕ → ℕ
private_place code k = k - length code.locals

-- the word of an array or a cell, None outside it, and where a local cell was not written
abbrev pub word_in : Code → Store → Group → Item → Cell → ℤ → Option Word
word_in code store group item (Array k) i = at_index (row_of store.arrays k) i
word_in code store group item (Temp k) i =
    if is_local code k
    then option_flatten (at_index (row_of group.cells k) i)
    else at_index (row_of item.cells (private_place code k)) i

-- how many places an array or a cell has
abbrev pub size_in : Code → Store → Group → Item → Cell → ℕ
size_in code store group item (Array k) = length (row_of store.arrays k)
size_in code store group item (Temp k) =
    if is_local code k then length (row_of group.cells k) else length (row_of item.cells (private_place code k))

-- the group with the item replaced
abbrev pub group_with : Who → Group → Item → Group
group_with who group item = record group { items = slice_set group.items who.place item }

-- the store with the group replaced
abbrev pub store_with : Store → Who → Group → Store
store_with store who group = record store { groups = slice_set store.groups who.group group }
