-- The order in which each rule stands behind those that it uses.
use Rattle.std.specs.Prelude.{◌≡◌, ℕ, zero, suc, ◌+◌, ◌<◌, ◌≤◌, Bool, true, false, ◌&&◌, ◌||◌, List, [], ◌∷◌, ◌++◌, take, length, flat_map, sum_by, slice_get, slice_index_or, Option, Some, None}
use Rattle.expr_tree.specs.Scenes.{is_among}
use Rattle.type_infer.specs.declared.order.Mark.{Mark}
use Rattle.type_infer.specs.declared.order.Mark.TheVariants.{New, Open, Done}

abbrev pub listed_there : Option (List ℕ) → List ℕ
listed_there None = []
listed_there (Some rules) = rules

-- the rules that a rule uses
abbrev pub used_by : List (List ℕ) → ℕ → List ℕ
used_by uses rule = listed_there (slice_get uses rule)

-- each rule on the way uses the next one
abbrev pub uses_along : List (List ℕ) → ℕ → List ℕ → Bool
uses_along uses rule [] = true
uses_along uses rule (next ∷ way) = is_among (used_by uses rule) next && uses_along uses next way

-- only rules that there are are used
abbrev pub UsesRules : List (List ℕ) → Type 0
UsesRules uses = (rule used : ℕ) → is_among (used_by uses rule) used ≡ true → used < length uses

-- no rule reaches itself
abbrev pub HasNoCycle : List (List ℕ) → Type 0
HasNoCycle uses = (rule : ℕ) (way : List ℕ) → uses_along uses rule (way ++ rule ∷ []) ≡ false

-- each rule stands behind those that it uses
abbrev pub IsBehind : List (List ℕ) → List ℕ → Type 0
IsBehind uses order = (i d rule : ℕ) → i < length order → is_among (used_by uses (slice_index_or order i d)) rule ≡ true → is_among (take i order) rule ≡ true

-- An order of all rules.
pub record IsCallOrder (uses : List (List ℕ)) (order : List ℕ) : Type 0 where
  pub few : length order ≤ length uses
  pub within : (rule : ℕ) → is_among order rule ≡ true → rule < length uses
  pub each : (rule : ℕ) → rule < length uses → is_among order rule ≡ true
  pub behind : IsBehind uses order

-- ---- a walk over the rules

-- one rule uses another, also through others
abbrev pub Reaches : List (List ℕ) → ℕ → ℕ → Type 0
Reaches uses a b = (way : List ℕ) × (uses_along uses a (way ++ b ∷ []) ≡ true)

-- each rule on the way reaches all later ones
abbrev pub IsWay : List (List ℕ) → List ℕ → Type 0
IsWay uses [] = Unit {0}
IsWay uses (rule ∷ way) = ((later : ℕ) → is_among way later ≡ true → Reaches uses rule later) × IsWay uses way

abbrev pub is_new : Option Mark → Bool
is_new (Some New) = true
is_new _ = false

-- one for a rule that is not in the order yet
abbrev pub left : Mark → ℕ
left Done = 0
left _ = 1

-- how often a rule is still to be marked
abbrev pub weight : Mark → ℕ
weight New = 2
weight Open = 1
weight Done = 0

-- Those in the order are done, and those on the way are open.
pub record IsWalk (uses : List (List ℕ)) (marks : List Mark) (way order : List ℕ) : Type 0 where
  pub each : length marks ≡ length uses
  pub done : (rule : ℕ) → slice_get marks rule ≡ Some Done → is_among order rule ≡ true
  pub open_on_way : (rule : ℕ) → slice_get marks rule ≡ Some Open → is_among way rule ≡ true
  pub on_way : (rule : ℕ) → is_among way rule ≡ true → slice_get marks rule ≡ Some Open
  pub ways : IsWay uses way
  pub few : length order + sum_by left marks ≡ length uses
  pub within : (rule : ℕ) → is_among order rule ≡ true → rule < length uses
  pub behind : IsBehind uses order

-- A step of a walk: it marks a rule further, and no rule becomes new.
pub record Goes (uses : List (List ℕ)) (marks new_marks : List Mark) (new_way new_order : List ℕ) : Type 0 where
  pub walk : IsWalk uses new_marks new_way new_order
  pub lighter : sum_by weight new_marks < sum_by weight marks
  pub new_before : (rule : ℕ) → is_new (slice_get new_marks rule) ≡ true → is_new (slice_get marks rule) ≡ true

-- A whole walk from a rule: the way is empty again, the rule is not new any more, and no rule becomes new.
pub record Visited (uses : List (List ℕ)) (marks new_marks : List Mark) (new_way new_order : List ℕ) (rule : ℕ) : Type 0 where
  pub walk : IsWalk uses new_marks [] new_order
  pub ended : new_way ≡ []
  pub visited : is_new (slice_get new_marks rule) ≡ false
  pub new_before : (r : ℕ) → is_new (slice_get new_marks r) ≡ true → is_new (slice_get marks r) ≡ true

-- ---- what is used

abbrev pub is_marked : Option Bool → Bool
is_marked None = false
is_marked (Some mark) = mark

abbrev pub marked_at : List Bool → ℕ → Bool
marked_at marks rule = is_marked (slice_get marks rule)

-- the rules that these use, up to so many uses on a way
abbrev pub reached : List (List ℕ) → ℕ → List ℕ → List ℕ
reached uses zero rules = rules
reached uses (suc n) rules = rules ++ reached uses n (flat_map (used_by uses) rules)

-- what a marked rule uses is marked too, and else nothing changes
pub record MarksUsed (uses : List (List ℕ)) (marks new_marks : List Bool) (rule : ℕ) : Type 0 where
  pub others : marked_at marks rule ≡ false → new_marks ≡ marks
  pub used : marked_at marks rule ≡ true → (r : ℕ) → marked_at new_marks r ≡ (marked_at marks r || is_among (used_by uses rule) r)
