-- Wrong steps meet their faults.
use Rattle.std.proofs.Common.{◌≡◌, ℕ, zero, suc, ◌-◌, ◌/◌, ◌%◌, ◌^◌, ℤ, pos, Bool, true, false, not, ◌&&◌, ◌==◌, cond, nat_lt, List, [], ◌∷◌, length, slice_get, Option, Some, None, option_map, arith, refl, ◌∙◌, ap}
use Rattle.std.specs.Option.{option_flatten, option_or, is_none}
use Rattle.std.specs.Ordering.{int_eq}
use Rattle.std.proofs.lemmas.Int.{ints}
use Rattle.wrap_words.specs.declared.kind.Word.{Word}
use Rattle.affine_rows.specs.Rows.{Env}
use Rattle.expr_tree.specs.declared.tree.Cell.TheVariants.{Array, Temp}
use Rattle.code_tree.specs.declared.code.Code.{Code}
use Rattle.code_meaning.specs.Seen.{Words, Touch, Seen, plain}
use Rattle.code_meaning.specs.Plan.{set, barrier}
use Rattle.code_meaning.specs.States.{Task, begin, again, wait, Item, Access, State, Who, group_of, word_in, row_of}
use Rattle.code_meaning.specs.Launch.{group_size, who_is, env_in}
use Rattle.code_meaning.specs.Moves.{Move, sets}
use Rattle.code_meaning.specs.Clashes.{clash}
use Rattle.code_meaning.specs.Barriers.{same_loops}
use Rattle.code_meaning.specs.Steps.{Outcome, misses, race, outside, unset, unless_missing, unless_race, is_within, step, step_as, moved}
use Rattle.code_meaning.specs.Alone.{only, Memory, stands, env_at, words_at, item_at}
use Rattle.code_meaning.specs.Laws.{OutsideIsAFault, UnsetIsAFault, OverflowIsAFault, RaceIsAFault, DivergenceIsAFault, BarriersOpen, pair, item_with}
use Rattle.code_meaning.proofs.Alone.{who_only, moved_only}

-- the step of the only item
step_only : (code : Code) (params : List ℤ) (state : State) → group_size code ≡ 1 → step code params state 0 ≡ step_as code params state 0 only
step_only code params state one = ap (step_as code params state 0) (who_only code one)

-- an assignment of the only item, by its index and what is seen
set_step : (code : Code) (params : List ℤ) (mem : Memory) (number k : ℕ) (index : Env → Option ℤ) (value : Env → Words → Seen Word) (tasks : List Task) (loops : List (ℕ × ℤ)) (i : ℤ) (seen : Seen Word)
    → group_size code ≡ 1 → index (env_at code params loops) ≡ Some i → value (env_at code params loops) (words_at code mem) ≡ seen
    → step code params (stands mem (begin (set number (Array k) index value) ∷ tasks) loops) 0
    ≡ moved_only code mem (begin (set number (Array k) index value) ∷ tasks) loops (sets (item_at mem (begin (set number (Array k) index value) ∷ tasks) loops) tasks (Array k) (Some i) seen)
set_step code params mem number k index value tasks loops i seen one e f =
    step_only code params (stands mem (begin (set number (Array k) index value) ∷ tasks) loops) one
    ∙ ap (λ (m : Move). moved_only code mem (begin (set number (Array k) index value) ∷ tasks) loops m)
    (ap (λ (o : Option ℤ). sets (item_at mem (begin (set number (Array k) index value) ∷ tasks) loops) tasks (Array k) o (value (env_at code params loops) (words_at code mem))) e
    ∙ ap (λ (s : Seen Word). sets (item_at mem (begin (set number (Array k) index value) ∷ tasks) loops) tasks (Array k) (Some i) s) f)

-- the first missing place is the one looked at
found : (b : Bool) (t : Touch) (out : Outcome) → b ≡ false → unless_missing outside (cond (not b) (Some t) None) out ≡ misses (Some t) outside
found b t out e = rw e refl

pub outside_faults : OutsideIsAFault
outside_faults code params mem number k index value tasks loops i w one e f h =
    set_step code params mem number k index value tasks loops i (plain w) one e f ∙ found (is_within i (length (row_of mem.arrays k))) (record { cell = Array k; index = i }) _ h

pub overflow_faults : OverflowIsAFault
overflow_faults code params mem number var upper fresh body tasks outer one =
    step_only code params (stands mem (again number var upper fresh body ∷ tasks) ((var, pos (2 ^ 63 - 1)) ∷ outer)) one

module _ {A : Type 0} where
  slice_within : (xs : List A) (j : ℕ) (a : A) → slice_get xs j ≡ Some a → nat_lt j (length xs) ≡ true
  slice_within [] j a e = absurd (cc)
  slice_within (x ∷ xs) zero a e = grind arith
  slice_within (x ∷ xs) (suc j) a e = let h = slice_within xs j a e in grind (arith, h)

found_unset : (a c : Bool) (j x y : ℕ) (o p : Option Word) (t u : Touch) (out : Outcome) → a ≡ true → nat_lt j x ≡ true → c ≡ true → o ≡ None
    → unless_missing outside (cond (not (nat_lt j (cond a x y))) (Some t) (cond (not c) (Some u) None)) (unless_missing unset (cond (is_none (cond a o p)) (Some t) None) out)
    ≡ misses (Some t) unset
found_unset a c j x y o p t u out e f g h = rw (e, f, g, h) refl

pub unset_faults : UnsetIsAFault
unset_faults code params mem number k l j index value tasks loops i w one e inside f is_local there =
    set_step code params mem number k index value tasks loops i _ one e f
    ∙ found_unset (nat_lt l (length code.locals)) (is_within i (length (row_of mem.arrays k))) j (length (row_of mem.locals l)) _ (option_flatten (slice_get (row_of mem.locals l) j)) _ (record { cell = Temp l; index = pos j }) _ _
    is_local (slice_within (row_of mem.locals l) j None there) inside (ap option_flatten there)

-- groups of two

abbrev second : Who
second = record { group = 0; place = 1 }

who_of_two : (code : Code) → group_size code ≡ 2 → who_is code 0 ≡ only
who_of_two code two = ap (λ (n : ℕ). record { group = 0 / n; place = 0 % n }) two

who_second : (code : Code) → group_size code ≡ 2 → who_is code 1 ≡ second
who_second code two = ap (λ (n : ℕ). record { group = 1 / n; place = 1 % n }) two

eq_self : (n : ℕ) → (n == n) ≡ true
eq_self n = grind arith

int_self : (z : ℤ) → int_eq z z ≡ true
int_self z = grind (arith, ints)

abbrev stored_by : ℕ → ℕ → Touch → Access
stored_by which passed place = record { group = 0; item = which; passed = passed; write = true; touch = place }

clashes : (k i passed : ℕ) → clash (stored_by 0 passed (record { cell = Array k; index = pos i })) (stored_by 1 passed (record { cell = Array k; index = pos i })) ≡ true
clashes k i passed = rw (eq_self k, int_self (pos i), eq_self passed) refl

found_race : (c d : Bool) (t : Touch) (h a : Access) (out : Outcome) → c ≡ true → d ≡ true
    → unless_missing outside (cond (not c) (Some t) None) (unless_race (option_or (option_map (λ h. (h, a)) (cond d (Some h) None)) None) out) ≡ race a.touch h.item a.item
found_race c d t h a out e f = rw (e, f) refl

pub race_faults : RaceIsAFault
race_faults code params arrays other number k i passed index value tasks w two e f inside =
    let place : Touch = record { cell = Array k; index = pos i } in
    let me : Item = item_with (begin (set number (Array k) index value) ∷ tasks) [] passed in
    let state : State = pair arrays (stored_by 0 passed place ∷ []) other me in
    ap (step_as code params state 1) (who_second code two)
    ∙ ap (λ (m : Move). moved code state second 1 (group_of state.store second) me m)
    (ap (λ (o : Option ℤ). sets me tasks (Array k) o (value (env_in code params second me) (word_in code state.store (group_of state.store second) me))) (e (env_in code params second me))
    ∙ ap (λ (s : Seen Word). sets me tasks (Array k) (Some (pos i)) s) (f (env_in code params second me) (word_in code state.store (group_of state.store second) me)))
    ∙ found_race (nat_lt i (length (row_of arrays k))) (clash (stored_by 0 passed place) (stored_by 1 passed place)) place (stored_by 0 passed place) (stored_by 1 passed place) _ inside (clashes k i passed)

and_false : (b : Bool) → (b && false) ≡ false
and_false true = refl
and_false false = refl

pub divergence_faults : DivergenceIsAFault
divergence_faults code params arrays number passed tasks loops two =
    ap (step_as code params (pair arrays [] (item_with (begin (barrier number) ∷ tasks) loops passed) (item_with [] [] passed)) 0) (who_of_two code two)
    ∙ rw (and_false ((number == number) && same_loops loops loops)) refl

same_loops_self : (loops : List (ℕ × ℤ)) → same_loops loops loops ≡ true
same_loops_self [] = refl
same_loops_self (l ∷ loops) = rw (eq_self l.0, int_self l.1, same_loops_self loops) refl

pub barriers_open : BarriersOpen
barriers_open code params arrays number passed (wait n) other loops two h k = absurd h
barriers_open code params arrays number passed act (wait n) loops two h k = absurd k
barriers_open code params arrays number passed (begin a) (begin b) loops two h k =
    ap (step_as code params (pair arrays [] (item_with (begin (barrier number) ∷ begin a ∷ []) loops passed) (item_with (wait number ∷ begin b ∷ []) loops passed)) 0) (who_of_two code two)
    ∙ rw (eq_self number, same_loops_self loops) refl
barriers_open code params arrays number passed (begin a) (again n v u f b) loops two h k =
    ap (step_as code params (pair arrays [] (item_with (begin (barrier number) ∷ begin a ∷ []) loops passed) (item_with (wait number ∷ again n v u f b ∷ []) loops passed)) 0) (who_of_two code two)
    ∙ rw (eq_self number, same_loops_self loops) refl
barriers_open code params arrays number passed (again n v u f b) (begin a) loops two h k =
    ap (step_as code params (pair arrays [] (item_with (begin (barrier number) ∷ again n v u f b ∷ []) loops passed) (item_with (wait number ∷ begin a ∷ []) loops passed)) 0) (who_of_two code two)
    ∙ rw (eq_self number, same_loops_self loops) refl
barriers_open code params arrays number passed (again n v u f b) (again o w g i c) loops two h k =
    ap (step_as code params (pair arrays [] (item_with (begin (barrier number) ∷ again n v u f b ∷ []) loops passed) (item_with (wait number ∷ again o w g i c ∷ []) loops passed)) 0) (who_of_two code two)
    ∙ rw (eq_self number, same_loops_self loops) refl
