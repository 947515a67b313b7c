-- The states of a code of one item, and what its steps lead to.
use Rattle.std.specs.Prelude.{◌≡◌, ℕ, zero, suc, ℤ, pos, ◌+ℤ◌, ◌≤ℤ◌, List, [], ◌∷◌, Option, Some}
use Rattle.wrap_words.specs.declared.kind.Word.{Word}
use Rattle.affine_rows.specs.Rows.{Env, env_of}
use Rattle.code_tree.specs.declared.code.Code.{Code}
use Rattle.code_meaning.specs.Exact.{exact}
use Rattle.code_meaning.specs.Plan.{Fresh, Acts}
use Rattle.code_meaning.specs.Seen.{Words}
use Rattle.code_meaning.specs.States.{Task, begin, again, wait, Item, Group, Access, State, Who, word_in}
use Rattle.code_meaning.specs.Launch.{group_size, base_numbers, within}
use Rattle.code_meaning.specs.Moves.{begins, zeroed}
use Rattle.code_meaning.specs.Runs.{one_step}

-- the only item
abbrev pub only : Who
only = record { group = 0; place = 0 }

-- all that one item reads and writes, aside from its loops and tasks
pub record Memory : Type 0 where
  pub arrays : List (List Word)
  pub history : List Access
  pub locals : List (List (Option Word))
  pub cells : List (List Word)
  pub passed : ℕ

-- the memory with these private cells
abbrev pub with_cells : Memory → List (List Word) → Memory
with_cells mem cells = record mem { cells = cells }

-- where the only item is: its memory, its tasks, and the loops round it
pub record Spot : Type 0 where
  pub mem : Memory
  pub tasks : List Task
  pub loops : List (ℕ × ℤ)

abbrev pub spot : Memory → List Task → List (ℕ × ℤ) → Spot
spot mem tasks loops = record { mem = mem; tasks = tasks; loops = loops }

-- the only item, with these tasks and loops
abbrev pub item_at : Memory → List Task → List (ℕ × ℤ) → Item
item_at mem tasks loops = record { tasks = tasks; loops = loops; cells = mem.cells; passed = mem.passed }

-- its group
abbrev pub group_at : Memory → List Task → List (ℕ × ℤ) → Group
group_at mem tasks loops = record { cells = mem.locals; items = item_at mem tasks loops ∷ [] }

-- the state in which the only item has these tasks and loops
abbrev pub stands : Memory → List Task → List (ℕ × ℤ) → State
stands mem tasks loops = record { store = record { arrays = mem.arrays; groups = group_at mem tasks loops ∷ [] }; history = mem.history }

-- the state at a spot
abbrev pub state_at : Spot → State
state_at s = stands s.mem s.tasks s.loops

-- the numbers of variables and the words of cells that the only item sees
abbrev pub env_at : Code → List ℤ → List (ℕ × ℤ) → Env
env_at code params loops = within (env_of (base_numbers code params only)) loops

abbrev pub words_at : Code → Memory → Words
words_at code mem = word_in code (stands mem [] []).store (group_at mem [] []) (item_at mem [] [])

-- the next task is no barrier that the item waits at
abbrev pub NoWait : List Task → Type 0
NoWait [] = Unit {0}
NoWait (begin a ∷ tasks) = Unit {0}
NoWait (again n v u f b ∷ tasks) = Unit {0}
NoWait (wait n ∷ tasks) = ⊥

-- The only item's steps, so many of them, lead from one spot to the other.
abbrev pub Comes : Code → List ℤ → ℕ → Spot → Spot → Type 0
Comes code params zero s t = s ≡ t
Comes code params (suc n) s t = (m : Spot) × (one_step code params (state_at s) 0 ≡ Some (state_at m)) × Comes code params n m t

-- What a loop's turns do: its variable goes from low to last, and the body of the turn z takes the memory of z to that of z + 1, in so many steps.
pub record Turns (code : Code) (params : List ℤ) (number var : ℕ) (upper : Env → Option ℤ) (fresh : Fresh) (body : Acts) (tasks : List Task) (outer : List (ℕ × ℤ)) (low last : ℤ) (steps : ℕ) (mem : ℤ → Memory) : Type 0 where
  pub one : group_size code ≡ 1
  pub on : NoWait tasks
  pub bound : (z : ℤ) → low ≤ℤ z → z ≤ℤ last → upper (env_at code params ((var, z) ∷ outer)) ≡ Some last
  pub fits : (z : ℤ) → low ≤ℤ z → z ≤ℤ last → exact (z +ℤ pos 1) ≡ Some (z +ℤ pos 1)
  pub starts : NoWait (begins body (again number var upper fresh body ∷ tasks))
  pub body_does : (z : ℤ) → low ≤ℤ z → z ≤ℤ last
      → Comes code params steps
      (spot (with_cells (mem z) (zeroed (mem z).cells fresh.first fresh.lengths)) (begins body (again number var upper fresh body ∷ tasks)) ((var, z) ∷ outer))
      (spot (mem (z +ℤ pos 1)) (again number var upper fresh body ∷ tasks) ((var, z) ∷ outer))
