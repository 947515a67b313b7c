-- A code of one item is right where its one run comes to the wanted end.
use Rattle.std.proofs.Common.{◌≡◌, ◌≤◌, ℕ, zero, suc, ◌/◌, ◌%◌, ℤ, Bool, true, false, if◌then◌else◌, List, [], ◌∷◌, length, Option, Some, None, option_and_then, IsSome, arith, refl, ◌∙◌, sym, ap, subst}
use Rattle.wrap_words.specs.declared.kind.Word.{Word}
use Rattle.code_tree.specs.declared.code.Code.{Code}
use Rattle.code_meaning.specs.States.{State, Who, Inputs, item_of}
use Rattle.code_meaning.specs.Launch.{group_size, who_is}
use Rattle.code_meaning.specs.Barriers.{may_step, all_ended}
use Rattle.code_meaning.specs.Steps.{step, enabled, opening}
use Rattle.code_meaning.specs.Counts.{step_count}
use Rattle.code_meaning.specs.Alone.{Spot, state_at, Comes}
use Rattle.code_meaning.specs.Runs.{state_after, one_step, after_run, stored_arrays, IsRight}
use Rattle.code_meaning.proofs.Alone.{plus, plus_is}

who_later : (code : Code) (k : ℕ) → group_size code ≡ 1 → who_is code (suc k) ≡ record { group = suc k; place = 0 }
who_later code k one =
    let a : suc k / 1 ≡ suc k = omega arith in
    let b : suc k % 1 ≡ 0 = omega arith in
    ap (λ (n : ℕ). record { group = suc k / n; place = suc k % n }) one ∙ ap (λ (n : ℕ). record { group = n; place = suc k % 1 }) a ∙ ap (λ (n : ℕ). record { group = suc k; place = n }) b

-- no other item is enabled
pub only_one : (code : Code) (s : Spot) (k : ℕ) → group_size code ≡ 1 → enabled code (state_at s) (suc k) ≡ false
only_one code s k one = ap (λ (w : Who). may_step (item_of (state_at s).store w)) (who_later code k one)

-- where an item is not enabled it makes no step
pub no_step : (code : Code) (params : List ℤ) (s : State) (item : ℕ) → enabled code s item ≡ false → one_step code params s item ≡ None
no_step code params s item e = ap (λ (b : Bool). if b then state_after (step code params s item) else None) e

some_none : {A : Type 0} {a : A} {C : Type 0} → Some a ≡ None → C
some_none e = absurd (cc)

true_false : {C : Type 0} → true ≡ false → C
true_false e = absurd (cc)

abbrev Ended : Code → Spot → Type 0
Ended code t = (item : ℕ) → enabled code (state_at t) item ≡ false

same_some : {A : Type 0} {a b : A} → Some a ≡ Some b → a ≡ b
same_some e = cc

-- Each run is a beginning of the one run.
pub record Reached (code : Code) (params : List ℤ) (n k : ℕ) (u : State) (t : Spot) : Type 0 where
  pub left : ℕ
  pub at : Spot
  pub is : u ≡ state_at at
  pub goes : Comes code params left at t
  pub steps : plus k left ≡ n

one_more : {code : Code} {params : List ℤ} {n k : ℕ} {u : State} {t : Spot} → Reached code params n k u t → Reached code params (suc n) (suc k) u t
one_more r = record { left = r.left; at = r.at; is = r.is; goes = r.goes; steps = ap suc r.steps }

pub determined : (code : Code) (params : List ℤ) (n : ℕ) (run : List ℕ) (s t : Spot) (u : State)
    → group_size code ≡ 1 → Ended code t → Comes code params n s t → after_run code params run (state_at s) ≡ Some u → Reached code params n (length run) u t
determined code params n [] s t u one ended c e = record { left = n; at = s; is = sym (same_some e); goes = c; steps = refl }
determined code params zero (i ∷ run) s t u one ended c e =
    some_none (sym e ∙ ap (λ (o : Option State). option_and_then (after_run code params run) o) (no_step code params (state_at s) i (subst (λ (z : Spot). enabled code (state_at z) i ≡ false) (sym c) (ended i))))
determined code params (suc n) (zero ∷ run) s t u one ended c e =
    one_more (determined code params n run c.0 t u one ended c.2 (sym (ap (λ (o : Option State). option_and_then (after_run code params run) o) c.1) ∙ e))
determined code params (suc n) (suc i ∷ run) s t u one ended c e =
    some_none (sym e ∙ ap (λ (o : Option State). option_and_then (after_run code params run) o) (no_step code params (state_at s) (suc i) (only_one code s i one)))

same_bool : (b : Bool) → (b ≡ true → ⊥) → b ≡ false
same_bool true h = absurd (h refl)
same_bool false h = refl

-- a step that leads on is one of an enabled item
step_of_enabled : (code : Code) (params : List ℤ) (s m : State) (item : ℕ) → enabled code s item ≡ true → one_step code params s item ≡ Some m → state_after (step code params s item) ≡ Some m
step_of_enabled code params s m item e f = sym (ap (λ (b : Bool). if b then state_after (step code params s item) else None) e) ∙ f

some_is : {A : Type 0} {a : A} (o : Option A) → o ≡ Some a → IsSome o
some_is (Some x) e = refl
some_is None e = some_none (sym e)

-- What an item that goes on can do at a reached state.
goes_on_there : (code : Code) (params : List ℤ) (left : ℕ) (s t : Spot) (item : ℕ) → group_size code ≡ 1 → Ended code t → Comes code params left s t
    → enabled code (state_at s) item ≡ true → IsSome (state_after (step code params (state_at s) item))
goes_on_there code params zero s t item one ended c e =
    true_false (sym e ∙ subst (λ (z : Spot). enabled code (state_at z) item ≡ false) (sym c) (ended item))
goes_on_there code params (suc left) s t zero one ended c e =
    some_is (state_after (step code params (state_at s) 0)) (step_of_enabled code params (state_at s) (state_at c.0) 0 e c.1)
goes_on_there code params (suc left) s t (suc k) one ended c e = true_false (sym e ∙ only_one code s k one)

is_there : (code : Code) (params : List ℤ) (left : ℕ) (s t : Spot) → Comes code params left s t → ((item : ℕ) → enabled code (state_at s) item ≡ false) → s ≡ t
is_there code params zero s t c stops = c
is_there code params (suc left) s t c stops = some_none (sym c.1 ∙ no_step code params (state_at s) 0 (stops 0))

module _ (code : Code) (inputs : Inputs) (wanted : List (List Word)) (n : ℕ) (s t : Spot)
    (one : group_size code ≡ 1) (opens : opening code inputs ≡ state_at s) (comes : Comes code inputs.params n s t)
    (ended : Ended code t) (short : n ≤ step_count code inputs.params)
    (all : all_ended (state_at t).store ≡ true) (words : stored_arrays code.arrays (state_at t).store.arrays ≡ wanted) where
  reached : (run : List ℕ) (u : State) → after_run code inputs.params run (opening code inputs) ≡ Some u → Reached code inputs.params n (length run) u t
  reached run u e = determined code inputs.params n run s t u one ended comes (sym (ap (after_run code inputs.params run) opens) ∙ e)

  -- a code of one item is right where its steps come to the wanted end within the count
  pub right_alone : IsRight code inputs wanted
  right_alone = record {
    no_fault = λ run u e item f. let r = reached run u e in
        subst (λ (z : State). IsSome (state_after (step code inputs.params z item))) (sym r.is)
        (goes_on_there code inputs.params r.left r.at t item one ended r.goes (sym (ap (λ (z : State). enabled code z item) r.is) ∙ f));
    no_longer = λ run u e. let r = reached run u e in let sum = plus_is (length run) r.left in let steps = r.steps in omega (arith, sum, steps, short);
    ends = λ run u e stops. let r = reached run u e in
        let same : r.at ≡ t = is_there code inputs.params r.left r.at t r.goes (λ item. sym (ap (λ (z : State). enabled code z item) r.is) ∙ stops item) in
        let is_end : u ≡ state_at t = r.is ∙ ap state_at same in
        (ap (λ (z : State). all_ended z.store) is_end ∙ all, ap (λ (z : State). stored_arrays code.arrays z.store.arrays) is_end ∙ words);
  }
