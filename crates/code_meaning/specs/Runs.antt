-- Runs of a code, and right code.
use Rattle.std.specs.Prelude.{◌≡◌, ◌≤◌, ℕ, ℤ, true, false, if◌then◌else◌, List, [], ◌∷◌, length, Option, Some, None, option_and_then, IsSome}
use Rattle.wrap_words.specs.declared.kind.Word.{Word}
use Rattle.code_tree.specs.declared.code.CodeArray.{CodeArray}
use Rattle.code_tree.specs.declared.code.Code.{Code}
use Rattle.code_meaning.specs.States.{State, Inputs}
use Rattle.code_meaning.specs.Barriers.{all_ended}
use Rattle.code_meaning.specs.Steps.{Outcome, went, done, race, divergent, misses, step, enabled, opening}
use Rattle.code_meaning.specs.Counts.{step_count}

-- the state after a step without a fault
abbrev pub state_after : Outcome → Option State
state_after (went s) = Some s
state_after (done s) = Some s
state_after (race t a b) = None
state_after (divergent g) = None
state_after (misses t w) = None

-- the state after a step of this item, where it may step and meets no fault
abbrev pub one_step : Code → List ℤ → State → ℕ → Option State
one_step code params state item = if enabled code state item then state_after (step code params state item) else None

-- the state after a run, given by the items that step, and None where such a list is no run without faults
abbrev pub after_run : Code → List ℤ → List ℕ → State → Option State
after_run code params [] state = Some state
after_run code params (item ∷ items) state = option_and_then (after_run code params items) (one_step code params state item)

-- the words of the arrays that are not const, in order
abbrev pub stored_arrays : List CodeArray → List (List Word) → List (List Word)
stored_arrays [] words = []
stored_arrays (a ∷ more) [] = []
stored_arrays (a ∷ more) (ws ∷ words) = if a.stored then ws ∷ stored_arrays more words else stored_arrays more words

-- The code is right for the inputs: no step of any run meets a fault, no run is longer than the count, and where no step goes on all items have ended and the stored arrays are the wanted ones.
pub record IsRight (code : Code) (inputs : Inputs) (wanted : List (List Word)) : Type 0 where
  pub no_fault : (run : List ℕ) (state : State) → after_run code inputs.params run (opening code inputs) ≡ Some state
      → (item : ℕ) → enabled code state item ≡ true → IsSome (state_after (step code inputs.params state item))
  pub no_longer : (run : List ℕ) (state : State) → after_run code inputs.params run (opening code inputs) ≡ Some state
      → length run ≤ step_count code inputs.params
  pub ends : (run : List ℕ) (state : State) → after_run code inputs.params run (opening code inputs) ≡ Some state
      → ((item : ℕ) → enabled code state item ≡ false)
      → (all_ended state.store ≡ true) × (stored_arrays code.arrays state.store.arrays ≡ wanted)
