-- How the rules that a rule reaches are found.
use Rattle.std.specs.Prelude.{◌≡◌, ℕ, ◌+◌, ◌<◌, ◌≤◌, nat_lt, Bool, true, false, not, ◌&&◌, if◌then◌else◌, List, [], ◌∷◌, ◌++◌, length, sum_by, slice_index_or}
use Rattle.expr_tree.specs.Scenes.{is_among}
use Rattle.subst_rules.specs.Uses.{is_used, walks}

abbrev pub unmarked : Bool → ℕ
unmarked true = 0
unmarked false = 1

-- exactly the rules of the list are marked, and each stands in it once
pub record IsWalk (marks : List Bool) (work : List ℕ) : Type 0 where
  pub same : (rule : ℕ) → slice_index_or marks rule false ≡ is_among work rule
  pub count : sum_by unmarked marks + length work ≡ length marks

-- the list with the rule, one of so many, if it does not have it
abbrev pub with_rule : ℕ → List ℕ → ℕ → List ℕ
with_rule count work rule = if nat_lt rule count && not (is_among work rule) then work ++ rule ∷ [] else work

-- the list with the rules that are used
abbrev pub with_uses : ℕ → List ℕ → List (ℕ × ℕ) → List ℕ
with_uses count work [] = work
with_uses count work (c ∷ cs) = with_uses count (with_rule count work c.0) cs

-- the one rule reaches the other
pub record Reaches (bodies : List (List (ℕ × ℕ))) (from rule : ℕ) : Type 0 where
  pub way : List ℕ
  pub walks : walks bodies from (way ++ rule ∷ []) ≡ true

-- Of the rules that the one reaches these are found, and what the first of them use too.
pub record IsWalked (bodies : List (List (ℕ × ℕ))) (from : ℕ) (work : List ℕ) (done : ℕ) : Type 0 where
  pub sound : (rule : ℕ) → is_among work rule ≡ true → Reaches bodies from rule
  pub started : (rule : ℕ) → is_used bodies from rule ≡ true → rule < length bodies → is_among work rule ≡ true
  pub closed : (place rule : ℕ) → place < done → is_used bodies (slice_index_or work place 0) rule ≡ true → rule < length bodies → is_among work rule ≡ true
  pub within : done ≤ length work

-- whether the rule reaches itself
abbrev pub ReachesItself : List (List (ℕ × ℕ)) → ℕ → Bool → Type 0
ReachesItself bodies rule true = Reaches bodies rule rule
ReachesItself bodies rule false = (way : List ℕ) → walks bodies rule (way ++ rule ∷ []) ≡ false
