-- A code of one item goes over whole statements.
use Rattle.std.proofs.Common.{◌≡◌, ℕ, zero, suc, ◌+◌, ◌*◌, ◌/◌, ◌%◌, ℤ, pos, ◌+ℤ◌, ◌≤ℤ◌, true, false, if◌then◌else◌, int_le, List, [], ◌∷◌, ◌++◌, Option, Some, None, arith, refl, ◌∙◌, sym, ap, subst}
use Rattle.std.proofs.lemmas.Int.{ints}
use Rattle.std.proofs.lemmas.List.{append-nil}
use Rattle.wrap_words.specs.declared.kind.Word.{Word}
use Rattle.affine_rows.specs.Rows.{Env}
use Rattle.code_tree.specs.declared.code.Code.{Code}
use Rattle.code_meaning.specs.Exact.{exact}
use Rattle.code_meaning.specs.Plan.{Fresh, Acts, loop}
use Rattle.code_meaning.specs.Seen.{Words}
use Rattle.code_meaning.specs.States.{Task, begin, again, wait, Item, State, Who, item_of}
use Rattle.code_meaning.specs.Launch.{group_size, who_is}
use Rattle.code_meaning.specs.Moves.{Move, goes_on, task_move, turn, tests, begins, zeroed}
use Rattle.code_meaning.specs.Barriers.{may_step}
use Rattle.code_meaning.specs.Steps.{Outcome, step_as, moved, settled}
use Rattle.code_meaning.specs.Runs.{state_after, one_step}
use Rattle.code_meaning.specs.Alone.{only, Memory, with_cells, Spot, spot, item_at, group_at, stands, env_at, words_at, NoWait, Comes, Turns}

abbrev pub one_step_as : Code → List ℤ → State → Who → Option State
one_step_as code params state who = if may_step (item_of state.store who) then state_after (step_as code params state 0 who) else None

pub who_only : (code : Code) → group_size code ≡ 1 → who_is code 0 ≡ only
who_only code one = ap (λ (n : ℕ). record { group = 0 / n; place = 0 % n }) one

pub one_step_only : (code : Code) (params : List ℤ) (state : State) → group_size code ≡ 1 → one_step code params state 0 ≡ one_step_as code params state only
one_step_only code params state one = ap (one_step_as code params state) (who_only code one)

pub settles : (mem : Memory) (tasks : List Task) (loops : List (ℕ × ℤ)) → NoWait tasks → state_after (settled 0 (stands mem tasks loops).store mem.history) ≡ Some (stands mem tasks loops)
settles mem [] loops h = refl
settles mem (begin a ∷ tasks) loops h = refl
settles mem (again n v u f b ∷ tasks) loops h = refl
settles mem (wait n ∷ tasks) loops h = absurd h

-- the outcome of a move of the one item
abbrev pub moved_only : Code → Memory → List Task → List (ℕ × ℤ) → Move → Outcome
moved_only code mem tasks loops m = moved code (stands mem tasks loops) only 0 (group_at mem tasks loops) (item_at mem tasks loops) m

quiet : (code : Code) (params : List ℤ) (mem : Memory) (tasks : List Task) (loops : List (ℕ × ℤ)) (cells : List (List Word)) → NoWait tasks
    → state_after (settled 0 (stands (with_cells mem cells) tasks loops).store (mem.history ++ [])) ≡ Some (stands (with_cells mem cells) tasks loops)
quiet code params mem tasks loops cells h = rw (append-nil mem.history) (settles (with_cells mem cells) tasks loops h)

-- where the next task only changes tasks, loops and private cells, one step does it
pub step_goes : (code : Code) (params : List ℤ) (mem : Memory) (task : Task) (tasks : List Task) (loops : List (ℕ × ℤ)) (cells : List (List Word)) (after : List Task) (then_loops : List (ℕ × ℤ))
    → group_size code ≡ 1 → NoWait (task ∷ tasks) → NoWait after
    → task_move (env_at code params loops) (words_at code mem) (item_at mem (task ∷ tasks) loops) tasks task ≡ goes_on (item_at (with_cells mem cells) after then_loops)
    → one_step code params (stands mem (task ∷ tasks) loops) 0 ≡ Some (stands (with_cells mem cells) after then_loops)
step_goes code params mem (begin a) tasks loops cells after then_loops one h k e =
    one_step_only code params (stands mem (begin a ∷ tasks) loops) one
    ∙ ap (λ (m : Move). state_after (moved_only code mem (begin a ∷ tasks) loops m)) e
    ∙ quiet code params mem after then_loops cells k
step_goes code params mem (again n v u f b) tasks loops cells after then_loops one h k e =
    one_step_only code params (stands mem (again n v u f b ∷ tasks) loops) one
    ∙ ap (λ (m : Move). state_after (moved_only code mem (again n v u f b ∷ tasks) loops m)) e
    ∙ quiet code params mem after then_loops cells k
step_goes code params mem (wait n) tasks loops cells after then_loops one h k e = absurd h

abbrev pub plus : ℕ → ℕ → ℕ
plus zero n = n
plus (suc k) n = suc (plus k n)

pub plus_is : (k n : ℕ) → plus k n ≡ k + n
plus_is zero n = omega arith
plus_is (suc k) n = ap suc (plus_is k n) ∙ omega arith

pub comes_then : (code : Code) (params : List ℤ) (n k : ℕ) (s t u : Spot) → Comes code params n s t → Comes code params k t u → Comes code params (plus n k) s u
comes_then code params zero k s t u a b = subst (λ (z : Spot). Comes code params k z u) (sym a) b
comes_then code params (suc n) k s t u a b = (a.0, a.1, comes_then code params n k a.0 t u a.2 b)

-- the steps of the turns that are left, with so many steps in a turn
abbrev turns : ℕ → ℕ → ℕ
turns zero body = 1
turns (suc left) body = suc (plus body (turns left body))

all_turns : (left body : ℕ) → suc (plus body (turns left body)) ≡ 1 + (1 + left) * (1 + body)
all_turns zero body = ap suc (plus_is body 1) ∙ omega arith
all_turns (suc left) body = ap suc (plus_is body (turns (suc left) body)) ∙ ap (λ (k : ℕ). suc (body + k)) (all_turns left body) ∙ omega arith

turn_enters : (item : Item) (number var : ℕ) (upper : Env → Option ℤ) (fresh : Fresh) (body : Acts) (tasks : List Task) (outer : List (ℕ × ℤ)) (z last : ℤ)
    → int_le z last ≡ true
    → turn item number var upper fresh body tasks outer z (Some last)
    ≡ goes_on (record item { tasks = begins body (again number var upper fresh body ∷ tasks); loops = (var, z) ∷ outer; cells = zeroed item.cells fresh.first fresh.lengths })
turn_enters item number var upper fresh body tasks outer z last e = rw e refl

turn_leaves : (item : Item) (number var : ℕ) (upper : Env → Option ℤ) (fresh : Fresh) (body : Acts) (tasks : List Task) (outer : List (ℕ × ℤ)) (z last : ℤ)
    → int_le z last ≡ false
    → turn item number var upper fresh body tasks outer z (Some last) ≡ goes_on (record item { tasks = tasks; loops = outer })
turn_leaves item number var upper fresh body tasks outer z last e = rw e refl

at_most : (a b : ℤ) → a ≤ℤ b → int_le a b ≡ true
at_most a b h = grind (arith, ints)

past : (a b : ℤ) → a ≡ b → int_le (a +ℤ pos 1) b ≡ false
past a b h = grind (arith, ints)

-- a loop's further test, where its numbers are known
again_move : (env : Env) (words : Words) (mem : Memory) (number var : ℕ) (upper : Env → Option ℤ) (fresh : Fresh) (body : Acts) (tasks : List Task) (outer : List (ℕ × ℤ)) (z w last : ℤ)
    → exact (z +ℤ pos 1) ≡ Some w → upper env ≡ Some last
    → task_move env words (item_at mem (again number var upper fresh body ∷ tasks) ((var, z) ∷ outer)) tasks (again number var upper fresh body)
    ≡ turn (item_at mem (again number var upper fresh body ∷ tasks) ((var, z) ∷ outer)) number var upper fresh body tasks outer w (Some last)
again_move env words mem number var upper fresh body tasks outer z w last e f =
    ap (λ (o : Option ℤ). tests (item_at mem (again number var upper fresh body ∷ tasks) ((var, z) ∷ outer)) number var upper fresh body tasks outer o (upper env)) e
    ∙ ap (λ (o : Option ℤ). tests (item_at mem (again number var upper fresh body ∷ tasks) ((var, z) ∷ outer)) number var upper fresh body tasks outer (Some w) o) f

begin_move : (env : Env) (words : Words) (mem : Memory) (number var : ℕ) (lower upper : Env → Option ℤ) (fresh : Fresh) (body : Acts) (tasks : List Task) (outer : List (ℕ × ℤ)) (w last : ℤ)
    → lower env ≡ Some w → upper env ≡ Some last
    → task_move env words (item_at mem (begin (loop number var lower upper fresh body) ∷ tasks) outer) tasks (begin (loop number var lower upper fresh body))
    ≡ turn (item_at mem (begin (loop number var lower upper fresh body) ∷ tasks) outer) number var upper fresh body tasks outer w (Some last)
begin_move env words mem number var lower upper fresh body tasks outer w last e f =
    ap (λ (o : Option ℤ). tests (item_at mem (begin (loop number var lower upper fresh body) ∷ tasks) outer) number var upper fresh body tasks outer o (upper env)) e
    ∙ ap (λ (o : Option ℤ). tests (item_at mem (begin (loop number var lower upper fresh body) ∷ tasks) outer) number var upper fresh body tasks outer (Some w) o) f

module _ (code : Code) (params : List ℤ) (number var : ℕ) (upper : Env → Option ℤ) (fresh : Fresh) (body : Acts) (tasks : List Task) (outer : List (ℕ × ℤ)) (low last : ℤ) (steps : ℕ) (mem : ℤ → Memory)
    (t : Turns code params number var upper fresh body tasks outer low last steps mem) where
  abbrev more : List Task
  more = again number var upper fresh body ∷ tasks

  abbrev entered : ℤ → Memory
  entered z = with_cells (mem z) (zeroed (mem z).cells fresh.first fresh.lengths)

  -- from a loop's next test to the loop's end
  from_again : (left : ℕ) (z : ℤ) → low ≤ℤ z → z +ℤ pos left ≡ last
      → Comes code params (turns left steps) (spot (mem (z +ℤ pos 1)) more ((var, z) ∷ outer)) (spot (mem (last +ℤ pos 1)) tasks outer)
  from_again zero z h e =
      let same : z ≡ last = omega (arith, ints) in
      let less : z ≤ℤ last = omega (arith, ints) in (
        spot (mem (z +ℤ pos 1)) tasks outer,
        step_goes code params (mem (z +ℤ pos 1)) (again number var upper fresh body) tasks ((var, z) ∷ outer) (mem (z +ℤ pos 1)).cells tasks outer t.one tt t.on
            (again_move (env_at code params ((var, z) ∷ outer)) (words_at code (mem (z +ℤ pos 1))) (mem (z +ℤ pos 1)) number var upper fresh body tasks outer z (z +ℤ pos 1) last (t.fits z h less) (t.bound z h less)
            ∙ turn_leaves (item_at (mem (z +ℤ pos 1)) more ((var, z) ∷ outer)) number var upper fresh body tasks outer (z +ℤ pos 1) last (past z last same)),
        ap (λ (y : ℤ). spot (mem (y +ℤ pos 1)) tasks outer) same,
      )
  from_again (suc left) z h e =
      let less : z ≤ℤ last = omega (arith, ints) in
      let lower : low ≤ℤ (z +ℤ pos 1) = omega (arith, ints) in
      let next_less : (z +ℤ pos 1) ≤ℤ last = omega (arith, ints) in
      let rest : (z +ℤ pos 1) +ℤ pos left ≡ last = omega (arith, ints) in (
        spot (entered (z +ℤ pos 1)) (begins body more) ((var, z +ℤ pos 1) ∷ outer),
        step_goes code params (mem (z +ℤ pos 1)) (again number var upper fresh body) tasks ((var, z) ∷ outer) (entered (z +ℤ pos 1)).cells (begins body more) ((var, z +ℤ pos 1) ∷ outer) t.one tt t.starts
            (again_move (env_at code params ((var, z) ∷ outer)) (words_at code (mem (z +ℤ pos 1))) (mem (z +ℤ pos 1)) number var upper fresh body tasks outer z (z +ℤ pos 1) last (t.fits z h less) (t.bound z h less)
            ∙ turn_enters (item_at (mem (z +ℤ pos 1)) more ((var, z) ∷ outer)) number var upper fresh body tasks outer (z +ℤ pos 1) last (at_most _ _ next_less)),
        comes_then code params steps (turns left steps) _ _ _ (t.body_does (z +ℤ pos 1) lower next_less) (from_again left (z +ℤ pos 1) lower rest),
      )

  counted_loop : (lower : Env → Option ℤ) (left : ℕ) → lower (env_at code params outer) ≡ Some low → upper (env_at code params outer) ≡ Some last → low +ℤ pos left ≡ last
      → Comes code params (suc (plus steps (turns left steps))) (spot (mem low) (begin (loop number var lower upper fresh body) ∷ tasks) outer) (spot (mem (last +ℤ pos 1)) tasks outer)
  counted_loop lower left f g e =
      let at_low : low ≤ℤ low = omega (arith, ints) in
      let less : low ≤ℤ last = omega (arith, ints) in (
        spot (entered low) (begins body more) ((var, low) ∷ outer),
        step_goes code params (mem low) (begin (loop number var lower upper fresh body)) tasks outer (entered low).cells (begins body more) ((var, low) ∷ outer) t.one tt t.starts
            (begin_move (env_at code params outer) (words_at code (mem low)) (mem low) number var lower upper fresh body tasks outer low last f g
            ∙ turn_enters (item_at (mem low) (begin (loop number var lower upper fresh body) ∷ tasks) outer) number var upper fresh body tasks outer low last (at_most _ _ less)),
        comes_then code params steps (turns left steps) _ _ _ (t.body_does low at_low less) (from_again left low at_low e),
      )

  -- a whole loop with at least one turn
  pub whole_loop : (lower : Env → Option ℤ) (left : ℕ) → lower (env_at code params outer) ≡ Some low → upper (env_at code params outer) ≡ Some last → low +ℤ pos left ≡ last
      → Comes code params (1 + (1 + left) * (1 + steps)) (spot (mem low) (begin (loop number var lower upper fresh body) ∷ tasks) outer) (spot (mem (last +ℤ pos 1)) tasks outer)
  whole_loop lower left f g e =
      subst (λ (n : ℕ). Comes code params n (spot (mem low) (begin (loop number var lower upper fresh body) ∷ tasks) outer) (spot (mem (last +ℤ pos 1)) tasks outer))
      (all_turns left steps) (counted_loop lower left f g e)

-- a loop without a turn
pub empty_loop : (code : Code) (params : List ℤ) (number var : ℕ) (lower upper : Env → Option ℤ) (fresh : Fresh) (body : Acts) (tasks : List Task) (outer : List (ℕ × ℤ)) (low last : ℤ) (mem : Memory)
    → group_size code ≡ 1 → NoWait tasks → lower (env_at code params outer) ≡ Some low → upper (env_at code params outer) ≡ Some last → int_le low last ≡ false
    → Comes code params 1 (spot mem (begin (loop number var lower upper fresh body) ∷ tasks) outer) (spot mem tasks outer)
empty_loop code params number var lower upper fresh body tasks outer low last mem one on f g e = (
  spot mem tasks outer,
  step_goes code params mem (begin (loop number var lower upper fresh body)) tasks outer mem.cells tasks outer one tt on
      (begin_move (env_at code params outer) (words_at code mem) mem number var lower upper fresh body tasks outer low last f g ∙ turn_leaves (item_at mem (begin (loop number var lower upper fresh body) ∷ tasks) outer) number var upper fresh body tasks outer low last e),
  refl,
)
