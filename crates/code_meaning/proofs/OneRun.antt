-- A C code has one run.
use Rattle.std.proofs.Common.{◌≡◌, ℕ, zero, suc, ℤ, Bool, true, false, cond, List, [], ◌∷◌, length, replicate, Option, Some, None, option_and_then, refl, ◌∙◌, sym, ap, subst}
use Rattle.wrap_words.specs.declared.kind.Word.{Word}
use Rattle.expr_tree.specs.declared.tree.Cell.{Cell}
use Rattle.expr_tree.specs.declared.tree.Cell.TheVariants.{Array, Temp}
use Rattle.code_tree.specs.declared.code.Code.{Code}
use Rattle.code_tree.specs.declared.code.Target.{Target}
use Rattle.code_tree.specs.declared.code.Target.TheVariants.{C}
use Rattle.code_meaning.specs.Seen.{Touch}
use Rattle.code_meaning.specs.States.{Item, Group, Store, Access, State, Inputs, is_local, put, private_place}
use Rattle.code_meaning.specs.Launch.{group_size, group_size_for, group_count_for}
use Rattle.code_meaning.specs.Moves.{Move}
use Rattle.code_meaning.specs.Barriers.{meet, passes}
use Rattle.code_meaning.specs.Steps.{Outcome, went, done, divergent, misses, overflow, outside, unset, unless_missing, unless_race, comes_out, settled, written, stored_at, next_move, opening, opening_item, opening_group}
use Rattle.code_meaning.specs.Runs.{state_after, one_step, after_run}
use Rattle.code_meaning.specs.Alone.{only, Spot, spot, state_at}
use Rattle.code_meaning.specs.Laws.{OneItemIsDetermined}
use Rattle.code_meaning.proofs.Alone.{one_step_only}
use Rattle.code_meaning.proofs.Right.{only_one, no_step}

-- a group and a store of one item
abbrev one_of : List (List (Option Word)) → Item → Group
one_of locals item = record { cells = locals; items = item ∷ [] }

abbrev single : List (List Word) → List (List (Option Word)) → Item → Store
single arrays locals item = record { arrays = arrays; groups = one_of locals item ∷ [] }

abbrev IsSingle : Store → Type 0
IsSingle s = (arrays : List (List Word)) × (locals : List (List (Option Word))) × (item : Item) × (s ≡ single arrays locals item)

abbrev IsAlone : State → Type 0
IsAlone u = (t : Spot) × (u ≡ state_at t)

none_some : {A : Type 0} {a : A} {B : Type 0} → None ≡ Some a → B
none_some e = absurd (cc)

same_some : {A : Type 0} {a b : A} → Some a ≡ Some b → a ≡ b
same_some e = cc

-- after a write

at_local : (b : Bool) (arrays : List (List Word)) (locals others : List (List (Option Word))) (after other : Item) → IsSingle (cond b (single arrays others after) (single arrays locals other))
at_local true arrays locals others after other = (arrays, others, after, refl)
at_local false arrays locals others after other = (arrays, locals, other, refl)

stored_single : (code : Code) (arrays : List (List Word)) (locals : List (List (Option Word))) (item after : Item) (c : Cell) (i : ℤ) (w : Word)
    → IsSingle (stored_at code (single arrays locals item) only (one_of locals item) after c i w)
stored_single code arrays locals item after (Array k) i w = (put arrays k i w, locals, after, refl)
stored_single code arrays locals item after (Temp k) i w =
    at_local (is_local code k) arrays locals (put locals k i (Some w)) after (record after { cells = put after.cells (private_place code k) i w })

written_single : (code : Code) (arrays : List (List Word)) (locals : List (List (Option Word))) (item after : Item) (t : Option Touch) (w : Option Word)
    → IsSingle (written code (single arrays locals item) only (one_of locals item) after t w)
written_single code arrays locals item after None w = (arrays, locals, after, refl)
written_single code arrays locals item after (Some t) None = (arrays, locals, after, refl)
written_single code arrays locals item after (Some t) (Some w) = stored_single code arrays locals item after t.cell t.index w

-- after a barrier that opens or not

opened_single : (b : Bool) (arrays : List (List Word)) (locals : List (List (Option Word))) (item : Item)
    → IsSingle (record { arrays = arrays; groups = cond b (one_of locals (passes item)) (one_of locals item) ∷ [] })
opened_single true arrays locals item = (arrays, locals, passes item, refl)
opened_single false arrays locals item = (arrays, locals, item, refl)

comes_by : (b c : Bool) (n : ℕ) (s u : State) → state_after (cond b (divergent n) (cond c (done s) (went s))) ≡ Some u → s ≡ u
comes_by true c n s u e = none_some e
comes_by false true n s u e = same_some e
comes_by false false n s u e = same_some e

stands_there : (arrays : List (List Word)) (locals : List (List (Option Word))) (item : Item) (history : List Access) (u : State)
    → record { store = single arrays locals item; history = history } ≡ u → IsAlone u
stands_there arrays locals item history u e =
    (spot (record { arrays = arrays; history = history; locals = locals; cells = item.cells; passed = item.passed }) item.tasks item.loops, sym e)

comes_alone : (s : Store) (history : List Access) (u : State) → IsSingle s → state_after (comes_out 0 s history) ≡ Some u → IsAlone u
comes_alone s history u h e =
    stands_there h.0 h.1 h.2 history u
    (comes_by _ _ 0 (record { store = single h.0 h.1 h.2; history = history }) u (subst (λ (z : Store). state_after (comes_out 0 z history) ≡ Some u) h.3 e))

settled_alone : (s : Store) (history : List Access) (u : State) → IsSingle s → state_after (settled 0 s history) ≡ Some u → IsAlone u
settled_alone s history u h e =
    comes_alone _ history u (opened_single (meet (h.2 ∷ [])) h.0 h.1 h.2) (subst (λ (z : Store). state_after (settled 0 z history) ≡ Some u) h.3 e)

-- a step without a fault is one that settles
through : (o : Bool) (a b : Option Touch) (c : Option (Access × Access)) (out : Outcome) (u : State)
    → state_after (cond o (misses None overflow) (unless_missing outside a (unless_missing unset b (unless_race c out)))) ≡ Some u → state_after out ≡ Some u
through true a b c out u e = none_some e
through false (Some t) b c out u e = none_some e
through false None (Some t) c out u e = none_some e
through false None None (Some p) out u e = none_some e
through false None None None out u e = e

guarded : (b : Bool) (o : Option State) (u : State) → cond b o None ≡ Some u → o ≡ Some u
guarded true o u e = e
guarded false o u e = none_some e

stays_alone : (code : Code) (params : List ℤ) (s : Spot) (u : State) → group_size code ≡ 1 → one_step code params (state_at s) 0 ≡ Some u → IsAlone u
stays_alone code params s u one e =
    let m : Move = next_move code params (state_at s).store only in
    settled_alone _ _ u
    (written_single code s.mem.arrays s.mem.locals (record { tasks = s.tasks; loops = s.loops; cells = s.mem.cells; passed = s.mem.passed }) m.after m.target m.word)
    (through m.overflow _ _ _ _ u (guarded _ _ u (sym (one_step_only code params (state_at s) one) ∙ e)))

later : (code : Code) (params : List ℤ) (run : List ℕ) (s : Spot) (u : State) → group_size code ≡ 1
    → ((t : Spot) → after_run code params run (state_at t) ≡ Some u → run ≡ replicate (length run) 0)
    → (o : Option State) → one_step code params (state_at s) 0 ≡ o → option_and_then (after_run code params run) o ≡ Some u → run ≡ replicate (length run) 0
later code params run s u one goes None step e = none_some e
later code params run s u one goes (Some v) step e =
    let there : IsAlone v = stays_alone code params s v one step in
    goes there.0 (sym (ap (after_run code params run) there.1) ∙ e)

one_run : (code : Code) (params : List ℤ) (run : List ℕ) (s : Spot) (u : State) → group_size code ≡ 1 → after_run code params run (state_at s) ≡ Some u → run ≡ replicate (length run) 0
one_run code params [] s u one e = refl
one_run code params (zero ∷ run) s u one e =
    ap (λ (is : List ℕ). 0 ∷ is) (later code params run s u one (λ t. one_run code params run t u one) (one_step code params (state_at s) 0) refl e)
one_run code params (suc i ∷ run) s u one e =
    none_some (sym (ap (λ (o : Option State). option_and_then (after_run code params run) o) (no_step code params (state_at s) (suc i) (only_one code s i one))) ∙ e)

-- where a C code begins
abbrev opening_spot : Code → Inputs → Spot
opening_spot code inputs =
    spot (record { arrays = inputs.arrays; history = []; locals = (opening_group code).cells; cells = (opening_item code).cells; passed = 0 }) (opening_item code).tasks []

pub opens_alone : (code : Code) (inputs : Inputs) → code.target ≡ C → opening code inputs ≡ state_at (opening_spot code inputs)
opens_alone code inputs is_c =
    ap (λ (t : Target). record {
      store = record {
        arrays = inputs.arrays;
        groups = replicate (group_count_for t code inputs.params) (record { cells = (opening_group code).cells; items = replicate (group_size_for t code) (opening_item code) });
      };
      history = [];
    }) is_c

pub one_item : OneItemIsDetermined
one_item code inputs run state is_c e =
    one_run code inputs.params run (opening_spot code inputs) state (ap (λ (t : Target). group_size_for t code) is_c)
    (sym (ap (after_run code inputs.params run) (opens_alone code inputs is_c)) ∙ e)
