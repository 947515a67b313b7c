-- The laws of runs.
use Rattle.std.specs.Prelude.{◌≡◌, ◌≤◌, ◌<◌, ◌^◌, ◌-◌, ◌+◌, ◌*◌, ℕ, ℤ, pos, ◌+ℤ◌, true, false, int_le, nat_lt, List, [], ◌∷◌, length, replicate, slice_get, Option, Some, None}
use Rattle.wrap_words.specs.declared.kind.Word.{Word}
use Rattle.affine_rows.specs.Rows.{Env}
use Rattle.expr_tree.specs.declared.tree.Cell.TheVariants.{Array, Temp}
use Rattle.code_tree.specs.declared.code.Code.{Code}
use Rattle.code_tree.specs.declared.code.Target.TheVariants.{C}
use Rattle.code_meaning.specs.Seen.{Words, Touch, Seen, plain}
use Rattle.code_meaning.specs.Plan.{Fresh, Acts, loop, set, barrier}
use Rattle.code_meaning.specs.States.{Task, begin, again, wait, Item, Access, State, Inputs, row_of, put}
use Rattle.code_meaning.specs.Launch.{group_size}
use Rattle.code_meaning.specs.Barriers.{all_ended}
use Rattle.code_meaning.specs.Steps.{went, race, divergent, misses, outside, overflow, unset, is_within, step, enabled, opening}
use Rattle.code_meaning.specs.Counts.{step_count}
use Rattle.code_meaning.specs.Runs.{state_after, after_run, stored_arrays, IsRight}
use Rattle.code_meaning.specs.Alone.{Memory, Spot, spot, stands, state_at, env_at, words_at, NoWait, Comes, Turns}

-- A C code has one run, in which each step is the only item's.
abbrev pub OneItemIsDetermined : Type 0
OneItemIsDetermined = (code : Code) (inputs : Inputs) (run : List ℕ) (state : State)
    → code.target ≡ C → after_run code inputs.params run (opening code inputs) ≡ Some state → run ≡ replicate (length run) 0

-- A loop with left + 1 turns takes the memory of its first value to that after its last one, in a step for each test and the steps of its turns.
abbrev pub LoopsRun : Type 0
LoopsRun = (code : Code) (params : List ℤ) (number var : ℕ) (lower upper : Env → Option ℤ) (fresh : Fresh) (body : Acts) (tasks : List Task) (outer : List (ℕ × ℤ)) (low last : ℤ) (steps left : ℕ) (mem : ℤ → Memory)
    → Turns code params number var upper fresh body tasks outer low last steps mem
    → lower (env_at code params outer) ≡ Some low → upper (env_at code params outer) ≡ Some last → low +ℤ pos left ≡ last
    → Comes code params (1 + (1 + left) * (1 + steps)) (spot (mem low) (begin (loop number var lower upper fresh body) ∷ tasks) outer) (spot (mem (last +ℤ pos 1)) tasks outer)

-- A loop without a turn is one step.
abbrev pub EmptyLoopsRun : Type 0
EmptyLoopsRun = (code : Code) (params : List ℤ) (number var : ℕ) (lower upper : Env → Option ℤ) (fresh : Fresh) (body : Acts) (tasks : List Task) (outer : List (ℕ × ℤ)) (low last : ℤ) (mem : Memory)
    → group_size code ≡ 1 → NoWait tasks
    → lower (env_at code params outer) ≡ Some low → upper (env_at code params outer) ≡ Some last → int_le low last ≡ false
    → Comes code params 1 (spot mem (begin (loop number var lower upper fresh body) ∷ tasks) outer) (spot mem tasks outer)

-- A code of one item is right where its steps come to the wanted end within the count.
abbrev pub OneRunIsEnough : Type 0
OneRunIsEnough = (code : Code) (inputs : Inputs) (wanted : List (List Word)) (n : ℕ) (s t : Spot)
    → group_size code ≡ 1 → opening code inputs ≡ state_at s → Comes code inputs.params n s t
    → ((item : ℕ) → enabled code (state_at t) item ≡ false) → n ≤ step_count code inputs.params
    → all_ended (state_at t).store ≡ true → stored_arrays code.arrays (state_at t).store.arrays ≡ wanted
    → IsRight code inputs wanted

-- Writes to different places of one list come to the same in either order.
abbrev pub WritesSwap : Type 0 → Type 0
WritesSwap A = (xs : List (List A)) (k i j : ℕ) (a b : A) → (i ≡ j → ⊥) → put (put xs k (pos i) a) k (pos j) b ≡ put (put xs k (pos j) b) k (pos i) a

-- Writes to different lists likewise.
abbrev pub WritesSwapApart : Type 0 → Type 0
WritesSwapApart A = (xs : List (List A)) (k l : ℕ) (i j : ℤ) (a b : A) → (k ≡ l → ⊥) → put (put xs k i a) l j b ≡ put (put xs l j b) k i a

-- A store outside its array is a fault.
abbrev pub OutsideIsAFault : Type 0
OutsideIsAFault = (code : Code) (params : List ℤ) (mem : Memory) (number k : ℕ) (index : Env → Option ℤ) (value : Env → Words → Seen Word) (tasks : List Task) (loops : List (ℕ × ℤ)) (i : ℤ) (w : Word)
    → group_size code ≡ 1 → index (env_at code params loops) ≡ Some i → value (env_at code params loops) (words_at code mem) ≡ plain w
    → is_within i (length (row_of mem.arrays k)) ≡ false
    → step code params (stands mem (begin (set number (Array k) index value) ∷ tasks) loops) 0 ≡ misses (Some (record { cell = Array k; index = i })) outside

-- A read of a place that has no word, though there is such a place, is a fault.
abbrev pub UnsetIsAFault : Type 0
UnsetIsAFault = (code : Code) (params : List ℤ) (mem : Memory) (number k l j : ℕ) (index : Env → Option ℤ) (value : Env → Words → Seen Word) (tasks : List Task) (loops : List (ℕ × ℤ)) (i : ℤ) (w : Option Word)
    → group_size code ≡ 1 → index (env_at code params loops) ≡ Some i → is_within i (length (row_of mem.arrays k)) ≡ true
    → value (env_at code params loops) (words_at code mem) ≡ record { overflow = false; reads = record { cell = Temp l; index = pos j } ∷ []; value = w }
    → nat_lt l (length code.locals) ≡ true → slice_get (row_of mem.locals l) j ≡ Some None
    → step code params (stands mem (begin (set number (Array k) index value) ∷ tasks) loops) 0 ≡ misses (Some (record { cell = Temp l; index = pos j })) unset

-- The move of a loop's variable past 64 signed bits is a fault.
abbrev pub OverflowIsAFault : Type 0
OverflowIsAFault = (code : Code) (params : List ℤ) (mem : Memory) (number var : ℕ) (upper : Env → Option ℤ) (fresh : Fresh) (body : Acts) (tasks : List Task) (outer : List (ℕ × ℤ))
    → group_size code ≡ 1
    → step code params (stands mem (again number var upper fresh body ∷ tasks) ((var, pos (2 ^ 63 - 1)) ∷ outer)) 0 ≡ misses None overflow

-- a group of two items, and nothing else
abbrev pub pair : List (List Word) → List Access → Item → Item → State
pair arrays history a b = record {
  store = record { arrays = arrays; groups = record { cells = []; items = a ∷ b ∷ [] } ∷ [] };
  history = history;
}

-- an item without private cells
abbrev pub item_with : List Task → List (ℕ × ℤ) → ℕ → Item
item_with tasks loops passed = record { tasks = tasks; loops = loops; cells = []; passed = passed }

-- Two items of a group store to one place with no barrier between: the second store is a race.
abbrev pub RaceIsAFault : Type 0
RaceIsAFault = (code : Code) (params : List ℤ) (arrays : List (List Word)) (other : Item) (number k i passed : ℕ) (index : Env → Option ℤ) (value : Env → Words → Seen Word) (tasks : List Task) (w : Word)
    → group_size code ≡ 2 → ((env : Env) → index env ≡ Some (pos i)) → ((env : Env) (words : Words) → value env words ≡ plain w)
    → nat_lt i (length (row_of arrays k)) ≡ true
    → let place : Touch = record { cell = Array k; index = pos i } in
    step code params (pair arrays (record { group = 0; item = 0; passed = passed; write = true; touch = place } ∷ []) other (item_with (begin (set number (Array k) index value) ∷ tasks) [] passed)) 1
    ≡ race place 0 1

-- One item of a group has ended when the other comes to a barrier: the group is stuck.
abbrev pub DivergenceIsAFault : Type 0
DivergenceIsAFault = (code : Code) (params : List ℤ) (arrays : List (List Word)) (number passed : ℕ) (tasks : List Task) (loops : List (ℕ × ℤ))
    → group_size code ≡ 2
    → step code params (pair arrays [] (item_with (begin (barrier number) ∷ tasks) loops passed) (item_with [] [] passed)) 0 ≡ divergent 0

-- Where the other waits at this barrier with the same loop values, the barrier opens and both go on.
abbrev pub BarriersOpen : Type 0
BarriersOpen = (code : Code) (params : List ℤ) (arrays : List (List Word)) (number passed : ℕ) (act other : Task) (loops : List (ℕ × ℤ))
    → group_size code ≡ 2 → NoWait (act ∷ []) → NoWait (other ∷ [])
    → step code params (pair arrays [] (item_with (begin (barrier number) ∷ act ∷ []) loops passed) (item_with (wait number ∷ other ∷ []) loops passed)) 0
    ≡ went (pair arrays [] (item_with (act ∷ []) loops (passed + 1)) (item_with (other ∷ []) loops (passed + 1)))

-- A run to its end: no item may step, all have ended, and these words are stored.
pub record EndsWith (code : Code) (inputs : Inputs) (words : List (List Word)) : Type 0 where
  pub run : List ℕ
  pub state : State
  pub comes : after_run code inputs.params run (opening code inputs) ≡ Some state
  pub stops : (item : ℕ) → enabled code state item ≡ false
  pub ended : all_ended state.store ≡ true
  pub stored : stored_arrays code.arrays state.store.arrays ≡ words

-- Right code has a run to its end.
abbrev pub RightCodeEnds : Type 0
RightCodeEnds = (code : Code) (inputs : Inputs) (wanted : List (List Word)) → 0 < group_size code → IsRight code inputs wanted → EndsWith code inputs wanted

-- Code is right for one list of stored words alone.
abbrev pub RightWordsAreOne : Type 0
RightWordsAreOne = (code : Code) (inputs : Inputs) (wanted other : List (List Word)) → 0 < group_size code → IsRight code inputs wanted → IsRight code inputs other → wanted ≡ other

-- Code of which a run meets a fault is not right.
abbrev pub FaultyCodeIsNotRight : Type 0
FaultyCodeIsNotRight = (code : Code) (inputs : Inputs) (wanted : List (List Word)) (run : List ℕ) (state : State) (item : ℕ)
    → after_run code inputs.params run (opening code inputs) ≡ Some state → enabled code state item ≡ true
    → state_after (step code inputs.params state item) ≡ None → IsRight code inputs wanted → ⊥
