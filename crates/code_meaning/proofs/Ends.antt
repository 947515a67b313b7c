-- Right code has a run to its end.
use Rattle.std.proofs.Common.{◌≡◌, ◌<◌, ◌≤◌, ℕ, zero, suc, ◌+◌, ◌*◌, ◌/◌, ◌%◌, ℤ, Bool, true, false, cond, nat_lt, List, [], ◌∷◌, ◌++◌, length, slice_index_or, Option, Some, None, option_and_then, IsSome, inl, inr, arith, refl, ◌∙◌, sym, ap, subst}
use Rattle.std.specs.Prelude.{◌⊎◌}
use Rattle.std.proofs.lemmas.Nat.{le-div}
use Rattle.std.proofs.lemmas.List.{length-append}
use Rattle.wrap_words.specs.declared.kind.Word.{Word}
use Rattle.code_tree.specs.declared.code.Code.{Code}
use Rattle.code_meaning.specs.States.{Group, State, Inputs, no_group, no_item}
use Rattle.code_meaning.specs.Launch.{group_size}
use Rattle.code_meaning.specs.Barriers.{may_step}
use Rattle.code_meaning.specs.Steps.{step, enabled, opening}
use Rattle.code_meaning.specs.Counts.{step_count}
use Rattle.code_meaning.specs.Runs.{state_after, one_step, after_run, IsRight}
use Rattle.code_meaning.specs.Laws.{EndsWith, RightCodeEnds, RightWordsAreOne, FaultyCodeIsNotRight}

none_some : {A : Type 0} {a : A} {B : Type 0} → None ≡ Some a → B
none_some e = absurd (cc)

same_some : {A : Type 0} {a b : A} → Some a ≡ Some b → a ≡ b
same_some e = cc

is_less : (a b : ℕ) → nat_lt a b ≡ true → a < b
is_less a b e = grind arith

not_less : (a b : ℕ) → nat_lt a b ≡ false → b ≤ a
not_less a b e = grind arith

-- Some item may step, or none may.

pub record Goes (code : Code) (state : State) : Type 0 where
  pub item : ℕ
  pub may : enabled code state item ≡ true

abbrev StopsBelow : Code → State → ℕ → Type 0
StopsBelow code state n = (item : ℕ) → item < n → enabled code state item ≡ false

next_below : (code : Code) (state : State) (n item : ℕ) (b : Bool) → nat_lt item n ≡ b → item < n + 1 → StopsBelow code state n → enabled code state n ≡ false → enabled code state item ≡ false
next_below code state n item true e less below here = below item (is_less item n e)
next_below code state n item false e less below here =
    let past : n ≤ item = not_less item n e in let same : n ≡ item = omega (arith, past, less) in
    subst (λ (i : ℕ). enabled code state i ≡ false) same here

look_by : (code : Code) (state : State) (n : ℕ) (b : Bool) → enabled code state n ≡ b → Goes code state ⊎ StopsBelow code state n → Goes code state ⊎ StopsBelow code state (suc n)
look_by code state n true e h = inl (record { item = n; may = e })
look_by code state n false e (inl g) = inl g
look_by code state n false e (inr h) = inr (λ item less. next_below code state n item (nat_lt item n) refl (omega (arith, less)) h e)

look : (code : Code) (state : State) (n : ℕ) → Goes code state ⊎ StopsBelow code state n
look code state zero = inr (λ item less. absurd (omega (arith, less)))
look code state (suc n) = look_by code state n (enabled code state n) refl (look code state n)

module _ {A : Type 0} where
  past_end : (xs : List A) (i : ℕ) (d : A) → length xs ≤ i → slice_index_or xs i d ≡ d
  past_end [] i d h = refl
  past_end (x ∷ xs) zero d h = absurd (omega (arith, h))
  past_end (x ∷ xs) (suc i) d h = past_end xs i d (omega (arith, h))

-- no item past those of the groups may step
stops_past : (code : Code) (state : State) (item : ℕ) → 0 < group_size code → length state.store.groups * group_size code ≤ item → enabled code state item ≡ false
stops_past code state item some past =
    ap (λ (g : Group). may_step (slice_index_or g.items (item % group_size code) no_item))
    (past_end state.store.groups (item / group_size code) no_group (le-div (length state.store.groups) item (group_size code) some past))

stops_all : (code : Code) (state : State) (item : ℕ) (b : Bool) → nat_lt item (length state.store.groups * group_size code) ≡ b → 0 < group_size code
    → StopsBelow code state (length state.store.groups * group_size code) → enabled code state item ≡ false
stops_all code state item true e some below = below item (is_less item (length state.store.groups * group_size code) e)
stops_all code state item false e some below = stops_past code state item some (not_less item (length state.store.groups * group_size code) e)

abbrev Stops : Code → State → Type 0
Stops code state = (item : ℕ) → enabled code state item ≡ false

all_below : (code : Code) (state : State) → 0 < group_size code → Goes code state ⊎ StopsBelow code state (length state.store.groups * group_size code) → Goes code state ⊎ Stops code state
all_below code state some (inl g) = inl g
all_below code state some (inr h) = inr (λ item. stops_all code state item (nat_lt item (length state.store.groups * group_size code)) refl some h)

goes_or_stops : (code : Code) (state : State) → 0 < group_size code → Goes code state ⊎ Stops code state
goes_or_stops code state some = all_below code state some (look code state (length state.store.groups * group_size code))

-- One step more.

after_then : (code : Code) (params : List ℤ) (run : List ℕ) (o : Option State) (u v : State) (item : ℕ)
    → ((m : State) → after_run code params run m ≡ Some u → after_run code params (run ++ item ∷ []) m ≡ Some v)
    → option_and_then (after_run code params run) o ≡ Some u → option_and_then (after_run code params (run ++ item ∷ [])) o ≡ Some v
after_then code params run None u v item more e = none_some e
after_then code params run (Some m) u v item more e = more m e

after_more : (code : Code) (params : List ℤ) (run : List ℕ) (s u v : State) (item : ℕ) → after_run code params run s ≡ Some u → one_step code params u item ≡ Some v → after_run code params (run ++ item ∷ []) s ≡ Some v
after_more code params [] s u v item e f =
    ap (λ (z : State). option_and_then (after_run code params []) (one_step code params z item)) (same_some e) ∙ ap (option_and_then (after_run code params [])) f
after_more code params (i ∷ run) s u v item e f =
    after_then code params run (one_step code params s i) u v item (λ m h. after_more code params run m u v item h f) e

pub record Is {A : Type 0} (o : Option A) : Type 0 where
  pub value : A
  pub is : o ≡ Some value

there_is : {A : Type 0} (o : Option A) → IsSome o → Is o
there_is None h = absurd (cc)
there_is (Some a) h = record { value = a; is = refl }

guarded : (b : Bool) (o : Option State) → b ≡ true → cond b o None ≡ o
guarded b o e = rw e refl

module _ (code : Code) (inputs : Inputs) (wanted : List (List Word)) (some : 0 < group_size code) (right : IsRight code inputs wanted) where
  abbrev Reaches : List ℕ → State → Type 0
  Reaches run u = after_run code inputs.params run (opening code inputs) ≡ Some u

  -- where an item may step at the end of a run, there is a run with one step more
  longer : (run : List ℕ) (u : State) → Reaches run u → (g : Goes code u) → (v : State) × Reaches (run ++ g.item ∷ []) v
  longer run u e g =
      let there : Is (state_after (step code inputs.params u g.item)) = there_is _ (right.no_fault run u e g.item g.may) in
      (there.value, after_more code inputs.params run (opening code inputs) u there.value g.item e (guarded (enabled code u g.item) _ g.may ∙ there.is))

  one_longer : (run : List ℕ) (item left count : ℕ) → length run + suc left ≡ count → length (run ++ item ∷ []) + left ≡ count
  one_longer run item left count e = let l = length-append run (item ∷ []) in omega (arith, e, l)

  -- so many steps are left to the count and one more
  ends_by : (left : ℕ) (run : List ℕ) (u : State) → Reaches run u → length run + left ≡ suc (step_count code inputs.params) → Goes code u ⊎ Stops code u → EndsWith code inputs wanted
  ends_by zero run u e long o = absurd (let short = right.no_longer run u e in omega (arith, long, short))
  ends_by (suc left) run u e long (inl g) =
      let more = longer run u e g in
      ends_by left (run ++ g.item ∷ []) more.0 more.1 (one_longer run g.item left _ long) (goes_or_stops code more.0 some)
  ends_by (suc left) run u e long (inr stops) =
      let end = right.ends run u e stops in
      record { run = run; state = u; comes = e; stops = stops; ended = end.0; stored = end.1 }

pub right_ends : RightCodeEnds
right_ends code inputs wanted some right =
    ends_by code inputs wanted some right (suc (step_count code inputs.params)) [] (opening code inputs) refl (omega arith) (goes_or_stops code (opening code inputs) some)

pub right_words : RightWordsAreOne
right_words code inputs wanted other some right also =
    let end = right_ends code inputs wanted some right in
    sym end.stored ∙ (also.ends end.run end.state end.comes end.stops).1

pub faulty_wrong : FaultyCodeIsNotRight
faulty_wrong code inputs wanted run state item comes may fault right =
    none_some (sym fault ∙ (there_is (state_after (step code inputs.params state item)) (right.no_fault run state comes item may)).is)
