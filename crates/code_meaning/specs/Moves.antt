-- What an item would do next by itself, by what it sees.
use Rattle.std.specs.Prelude.{ℕ, ◌+◌, ℤ, pos, ◌+ℤ◌, Bool, true, false, if◌then◌else◌, int_le, List, [], ◌∷◌, replicate, Option, Some, None, slice_set}
use Rattle.wrap_words.specs.declared.kind.Word.{Word}
use Rattle.affine_rows.specs.Rows.{Env}
use Rattle.expr_tree.specs.declared.tree.Cell.{Cell}
use Rattle.code_meaning.specs.Exact.{exact}
use Rattle.code_meaning.specs.Plan.{Fresh, Act, Acts, loop, guard, check, set, barrier, none, next}
use Rattle.code_meaning.specs.Seen.{Words, Touch, Seen}
use Rattle.code_meaning.specs.States.{Task, begin, again, wait, Item}

-- Whether a number overflows, the reads, the place and the word of the write, and the item afterwards where all goes well.
pub record Move : Type 0 where
  pub overflow : Bool
  pub reads : List Touch
  pub target : Option Touch
  pub word : Option Word
  pub after : Item

-- the word 0
abbrev pub zero_word : Word
zero_word = record { bits = 0 }

-- the statements of a body before the other tasks
abbrev pub begins : Acts → List Task → List Task
begins none tasks = tasks
begins (next a rest) tasks = begin a ∷ begins rest tasks

-- the cells of a block at 0
abbrev pub zeroed : List (List Word) → ℕ → List ℕ → List (List Word)
zeroed cells first [] = cells
zeroed cells first (n ∷ lengths) = zeroed (slice_set cells first (replicate n zero_word)) (first + 1) lengths

-- into a block: its cells are 0 and its statements come before the other tasks
abbrev pub enters : Item → Fresh → Acts → List Task → Item
enters item fresh body tasks = record item { tasks = begins body tasks; cells = zeroed item.cells fresh.first fresh.lengths }

-- a number overflows
abbrev pub overflows : Item → Move
overflows item = record { overflow = true; reads = []; target = None; word = None; after = item }

-- nothing is read or written, and the item is then this one
abbrev pub goes_on : Item → Move
goes_on item = record { overflow = false; reads = []; target = None; word = None; after = item }

-- the test of a loop whose variable has the value z, outer being the loops round it
abbrev pub turn : Item → ℕ → ℕ → (Env → Option ℤ) → Fresh → Acts → List Task → List (ℕ × ℤ) → ℤ → Option ℤ → Move
turn item number var upper fresh body tasks outer z None = overflows item
turn item number var upper fresh body tasks outer z (Some most) =
    if int_le z most
    then goes_on (enters (record item { loops = (var, z) ∷ outer }) fresh body (again number var upper fresh body ∷ tasks))
    else goes_on (record item { tasks = tasks; loops = outer })

-- a loop's test with its variable's new value, where there is one
abbrev pub tests : Item → ℕ → ℕ → (Env → Option ℤ) → Fresh → Acts → List Task → List (ℕ × ℤ) → Option ℤ → Option ℤ → Move
tests item number var upper fresh body tasks outer None most = overflows item
tests item number var upper fresh body tasks outer (Some z) most = turn item number var upper fresh body tasks outer z most

-- the item after a test: in the body, or past it
abbrev pub branches : Item → Fresh → Acts → List Task → Option Bool → Item
branches item fresh body tasks None = item
branches item fresh body tasks (Some true) = enters item fresh body tasks
branches item fresh body tasks (Some false) = record item { tasks = tasks }

-- the test of a guard
abbrev pub guards : Item → Fresh → Acts → List Task → Option Bool → Move
guards item fresh body tasks None = overflows item
guards item fresh body tasks (Some holds) = goes_on (branches item fresh body tasks (Some holds))

-- the test of a data check
abbrev pub checks : Item → Fresh → Acts → List Task → Seen Bool → Move
checks item fresh body tasks seen =
    record { overflow = seen.overflow; reads = seen.reads; target = None; word = None; after = branches item fresh body tasks seen.value }

-- an assignment at an index
abbrev pub sets : Item → List Task → Cell → Option ℤ → Seen Word → Move
sets item tasks target None seen = overflows item
sets item tasks target (Some i) seen = record {
  overflow = seen.overflow;
  reads = seen.reads;
  target = Some (record { cell = target; index = i });
  word = seen.value;
  after = record item { tasks = tasks };
}

-- one statement
abbrev pub act_move : Env → Words → Item → List Task → Act → Move
act_move env words item tasks (loop number var lower upper fresh body) =
    tests item number var upper fresh body tasks item.loops (lower env) (upper env)
act_move env words item tasks (guard number holds fresh body) = guards item fresh body tasks (holds env)
act_move env words item tasks (check number test fresh body) = checks item fresh body tasks (test env words)
act_move env words item tasks (set number target index value) = sets item tasks target (index env) (value env words)
act_move env words item tasks (barrier number) = goes_on (record item { tasks = wait number ∷ tasks })

-- the value of the innermost loop, one more
abbrev pub moved_on : List (ℕ × ℤ) → Option ℤ
moved_on [] = None
moved_on (l ∷ loops) = exact (l.1 +ℤ pos 1)

-- the loops round the innermost one
abbrev pub outer_loops : List (ℕ × ℤ) → List (ℕ × ℤ)
outer_loops [] = []
outer_loops (l ∷ loops) = loops

-- one task, before the other tasks
abbrev pub task_move : Env → Words → Item → List Task → Task → Move
task_move env words item tasks (begin act) = act_move env words item tasks act
task_move env words item tasks (again number var upper fresh body) =
    tests item number var upper fresh body tasks (outer_loops item.loops) (moved_on item.loops) (upper env)
task_move env words item tasks (wait number) = goes_on item

-- the next move
abbrev pub move_of : Env → Words → Item → List Task → Move
move_of env words item [] = goes_on item
move_of env words item (task ∷ tasks) = task_move env words item tasks task
