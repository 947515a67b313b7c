-- The steps of items, and the faults that they meet.
use Rattle.std.specs.Prelude.{ℕ, ℤ, pos, negsuc, Bool, false, not, nat_lt, if◌then◌else◌, List, [], ◌++◌, map, find, replicate, Option, Some, None, option_to_list, slice_index_or}
use Rattle.std.specs.Option.{is_none}
use Rattle.wrap_words.specs.declared.kind.Word.{Word}
use Rattle.expr_tree.specs.declared.tree.Cell.{Cell}
use Rattle.expr_tree.specs.declared.tree.Cell.TheVariants.{Array, Temp}
use Rattle.code_tree.specs.declared.code.Code.{Code}
use Rattle.code_tree.specs.Cells.{cells_in}
use Rattle.code_meaning.specs.Plan.{lengths_of, plan_of}
use Rattle.code_meaning.specs.Seen.{Touch}
use Rattle.code_meaning.specs.States.{Item, Group, Store, Access, State, Inputs, Who, no_group, group_of, item_of, is_local, private_place, word_in, size_in, put, group_with, store_with}
use Rattle.code_meaning.specs.Launch.{group_size, group_count, who_is, env_in}
use Rattle.code_meaning.specs.Moves.{Move, move_of, begins, zero_word}
use Rattle.code_meaning.specs.Clashes.{first_clash, accesses_of}
use Rattle.code_meaning.specs.Barriers.{may_step, is_stuck, all_ended, after_barrier}

-- what a step may lack: a place, a number, or a word
pub data Missing : Type 0 where
  outside : Missing
  overflow : Missing
  unset : Missing

-- What comes of a step: a state in which some item has not ended, one in which all have, or a fault: a race of the first item with the second one, who makes the step, a group that is stuck, or a number outside 64 bits, a place outside its array or cell, or an unset local cell.
pub data Outcome : Type 0 where
  went : (state : State) → Outcome
  done : (state : State) → Outcome
  race : (touch : Touch) (first second : ℕ) → Outcome
  divergent : (group : ℕ) → Outcome
  misses : (touch : Option Touch) (what : Missing) → Outcome

-- the reads in text order and then the write
abbrev pub touches : Move → List Touch
touches m = m.reads ++ option_to_list m.target

-- an index of so many places
abbrev pub is_within : ℤ → ℕ → Bool
is_within (pos i) n = nat_lt i n
is_within (negsuc i) n = false

-- a place outside its array or cell
abbrev pub is_outside : Code → Store → Group → Item → Touch → Bool
is_outside code store group item t = not (is_within t.index (size_in code store group item t.cell))

-- a place without a word
abbrev pub is_unset : Code → Store → Group → Item → Touch → Bool
is_unset code store group item t = is_none (word_in code store group item t.cell t.index)

-- a word written to a place, the item being done with its move
abbrev pub stored_at : Code → Store → Who → Group → Item → Cell → ℤ → Word → Store
stored_at code store who group after (Array k) i w =
    record (store_with store who (group_with who group after)) { arrays = put store.arrays k i w }
stored_at code store who group after (Temp k) i w =
    if is_local code k
    then store_with store who (record (group_with who group after) { cells = put group.cells k i (Some w) })
    else store_with store who (group_with who group (record after { cells = put after.cells (private_place code k) i w }))

-- the store with the item's move done
abbrev pub written : Code → Store → Who → Group → Item → Option Touch → Option Word → Store
written code store who group after None word = store_with store who (group_with who group after)
written code store who group after (Some t) None = store_with store who (group_with who group after)
written code store who group after (Some t) (Some w) = stored_at code store who group after t.cell t.index w

-- what comes of a step that met no fault before, by the group and the store after it
abbrev pub comes_out : ℕ → Store → List Access → Outcome
comes_out number store history =
    if is_stuck (slice_index_or store.groups number no_group) then divergent number
    else if all_ended store then done (record { store = store; history = history }) else went (record { store = store; history = history })

-- what comes of a step that met no fault before, once a barrier has opened or not
abbrev pub settled : ℕ → Store → List Access → Outcome
settled number store history = comes_out number (after_barrier number store) history

-- a place is missing, or the rest comes
abbrev pub unless_missing : Missing → Option Touch → Outcome → Outcome
unless_missing what None outcome = outcome
unless_missing what (Some t) outcome = misses (Some t) what

-- a race, or the rest comes
abbrev pub unless_race : Option (Access × Access) → Outcome → Outcome
unless_race None outcome = outcome
unless_race (Some p) outcome = race p.1.touch p.0.item p.1.item

-- what comes of a move, with all that it looks at named: the first of overflow, outside, unset and race, or what then follows
abbrev pub moved : Code → State → Who → ℕ → Group → Item → Move → Outcome
moved code state who number group item m = let accesses = accesses_of code who number item.passed m in
    if m.overflow then misses None overflow
    else unless_missing outside (find (is_outside code state.store group item) (touches m))
    (unless_missing unset (find (is_unset code state.store group item) m.reads)
    (unless_race (first_clash state.history accesses)
    (settled who.group (written code state.store who group m.after m.target m.word) (state.history ++ accesses))))

-- what the item would do next
abbrev pub next_move : Code → List ℤ → Store → Who → Move
next_move code params store who =
    move_of (env_in code params who (item_of store who)) (word_in code store (group_of store who) (item_of store who)) (item_of store who) (item_of store who).tasks

-- one step of the item with this number, which is this one of this group
abbrev pub step_as : Code → List ℤ → State → ℕ → Who → Outcome
step_as code params state number who = moved code state who number (group_of state.store who) (item_of state.store who) (next_move code params state.store who)

-- one step of the item with this number
abbrev pub step : Code → List ℤ → State → ℕ → Outcome
step code params state number = step_as code params state number (who_is code number)

-- there is such an item, and it may step
abbrev pub enabled : Code → State → ℕ → Bool
enabled code state number = may_step (item_of state.store (who_is code number))

-- The opening state.

-- an item at the opening: the whole body, and private cells of 0
abbrev pub opening_item : Code → Item
opening_item code = record {
  tasks = begins (plan_of code).1 [];
  loops = [];
  cells = map (λ n. replicate n zero_word) (lengths_of (cells_in code.body));
  passed = 0;
}

-- a group at the opening: unset local cells, and all items
abbrev pub opening_group : Code → Group
opening_group code = record {
  cells = map (λ n. replicate n None) (lengths_of code.locals);
  items = replicate (group_size code) (opening_item code);
}

-- the opening state: the inputs' arrays, and all groups
abbrev pub opening : Code → Inputs → State
opening code inputs = record {
  store = record { arrays = inputs.arrays; groups = replicate (group_count code inputs.params) (opening_group code) };
  history = [];
}
