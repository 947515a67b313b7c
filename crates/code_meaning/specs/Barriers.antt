-- When a barrier opens, and when a group is stuck.
use Rattle.std.specs.Prelude.{ℕ, ◌+◌, ℤ, Bool, true, false, not, ◌&&◌, ◌==◌, if◌then◌else◌, List, [], ◌∷◌, map, drop, Option, Some, None, slice_set, slice_index_or}
use Rattle.std.specs.Option.{is_some}
use Rattle.std.specs.List.{list_all}
use Rattle.std.specs.Ordering.{int_eq}
use Rattle.code_meaning.specs.States.{Task, begin, again, wait, Item, Group, Store, no_group}

-- the barrier whose wait is the first task
abbrev pub waits_first : List Task → Option ℕ
waits_first [] = None
waits_first (begin a ∷ tasks) = None
waits_first (again n v u f b ∷ tasks) = None
waits_first (wait n ∷ tasks) = Some n

-- the barrier at which the item waits
abbrev pub waits_at : Item → Option ℕ
waits_at item = waits_first item.tasks

-- nothing is left to do
abbrev pub no_tasks : List Task → Bool
no_tasks [] = true
no_tasks (task ∷ tasks) = false

-- the item has nothing left to do
abbrev pub has_ended : Item → Bool
has_ended item = no_tasks item.tasks

-- the item waits at a barrier
abbrev pub is_waiting : Item → Bool
is_waiting item = is_some (waits_at item)

-- the item has not ended and does not wait
abbrev pub may_step : Item → Bool
may_step item = not (has_ended item) && not (is_waiting item)

-- the same loops with the same values
abbrev pub same_loops : List (ℕ × ℤ) → List (ℕ × ℤ) → Bool
same_loops [] [] = true
same_loops [] (b ∷ bs) = false
same_loops (a ∷ more) [] = false
same_loops (a ∷ more) (b ∷ bs) = (a.0 == b.0) && int_eq a.1 b.1 && same_loops more bs

-- two barriers, one and the same
abbrev pub same_number : Option ℕ → Option ℕ → Bool
same_number None b = false
same_number (Some a) None = false
same_number (Some a) (Some b) = a == b

-- both wait at the same barrier with the same loop values
abbrev pub waits_with : Item → Item → Bool
waits_with a b = same_number (waits_at a) (waits_at b) && same_loops a.loops b.loops

-- all items of a group wait together
abbrev pub meet : List Item → Bool
meet [] = false
meet (a ∷ more) = list_all (waits_with a) (a ∷ more)

-- the item past the barrier
abbrev pub passes : Item → Item
passes item = record item { tasks = drop 1 item.tasks; passed = item.passed + 1 }

-- the group after a step of one of its items: the barrier opens where all wait together
abbrev pub opened : Group → Group
opened group = if meet group.items then record group { items = map passes group.items } else group

-- none of the group may step, though not all have ended
abbrev pub is_stuck : Group → Bool
is_stuck group = list_all (λ i. not (may_step i)) group.items && not (list_all has_ended group.items)

-- all items of all groups have ended
abbrev pub all_ended : Store → Bool
all_ended store = list_all (λ g. list_all has_ended g.items) store.groups

-- the store after the barrier of this group opens or not
abbrev pub after_barrier : ℕ → Store → Store
after_barrier number store = record store { groups = slice_set store.groups number (opened (slice_index_or store.groups number no_group)) }
