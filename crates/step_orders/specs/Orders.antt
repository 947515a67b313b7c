-- Orders of steps, and when two orders leave the same store.
use Rattle.std.specs.Prelude.{◌≡◌, ◌⊎◌, List, [], ◌∷◌, Bool, true, false, if◌then◌else◌}

-- x stands in the list
abbrev pub Has : {X : Type 0} → List X → X → Type 0
Has [] a = ⊥
Has (x ∷ xs) a = (x ≡ a) ⊎ Has xs a

-- nothing stands in the list twice
abbrev pub Once : {X : Type 0} → List X → Type 0
Once [] = Unit {0}
Once (x ∷ xs) = (Has xs x → ⊥) × Once xs

-- a stands in the list, and b after it
abbrev pub Before : {X : Type 0} → List X → X → X → Type 0
Before [] a b = ⊥
Before (x ∷ xs) a b = ((x ≡ a) × Has xs b) ⊎ Before xs a b

-- Steps on a store: each has one cell, which it changes, and cells that it reads. A change takes the store and the
-- word of the step's own cell, and gives that cell's new word.
pub record Steps (X C W : Type 0) : Type 0 where
  pub same : C → C → Bool
  pub cell : X → C
  pub reads : X → List C
  pub change : X → (C → W) → W → W

-- `same` tells equal cells, and a change depends on the cells that are read and on the word alone
pub record AreSteps {X C W : Type 0} (k : Steps X C W) : Type 0 where
  pub equal : (c d : C) → k.same c d ≡ true → c ≡ d
  pub itself : (c : C) → k.same c c ≡ true
  pub reads_only : (x : X) (s t : C → W) → ((c : C) → Has (k.reads x) c → s c ≡ t c) → (w : W) → k.change x s w ≡ k.change x t w

-- the store after one step
abbrev pub after_step : {X C W : Type 0} → Steps X C W → X → (C → W) → C → W
after_step k x s c = if k.same (k.cell x) c then k.change x s (s c) else s c

-- the store after a list of steps
abbrev pub after_steps : {X C W : Type 0} → Steps X C W → List X → (C → W) → C → W
after_steps k [] s = s
after_steps k (x ∷ xs) s = after_steps k xs (after_step k x s)

-- over each store, the changes of one word by the two give the same in both orders
abbrev pub Swap : {X C W : Type 0} → Steps X C W → X → X → Type 0
Swap {X} {C} {W} k x y = (s : C → W) (w : W) → k.change x s (k.change y s w) ≡ k.change y s (k.change x s w)

-- no conflict: neither reads the other's cell, and where they change one cell, their changes swap
pub record Free {X C W : Type 0} (k : Steps X C W) (x y : X) : Type 0 where
  pub first : Has (k.reads x) (k.cell y) → ⊥
  pub second : Has (k.reads y) (k.cell x) → ⊥
  pub one_cell : k.cell x ≡ k.cell y → Swap k x y

-- two lists of the same elements, each once
pub record AreSame {X : Type 0} (xs ys : List X) : Type 0 where
  pub first : Once xs
  pub second : Once ys
  pub into : (a : X) → Has xs a → Has ys a
  pub from : (a : X) → Has ys a → Has xs a

-- Two lists of the same steps, each once, leave the same store, where any two steps that they order otherwise are free of conflict.
abbrev pub LikeOrdersAgree : Type 0 → Type 0 → Type 0 → Type 0
LikeOrdersAgree X C W =
    (k : Steps X C W) → AreSteps k → (xs ys : List X) → AreSame xs ys
    → ((a b : X) → Before xs a b → Before ys b a → Free k a b)
    → (s : C → W) (c : C) → after_steps k xs s c ≡ after_steps k ys s c

-- directly ordered elements stand in that order
abbrev pub Respects : {X : Type 0} → (X → X → Bool) → List X → Type 0
Respects {X} direct xs = (a b : X) → Has xs a → Has xs b → direct a b ≡ true → Before xs a b

-- two different elements of the list, neither directly before the other, are free of conflict
abbrev pub UnorderedAreFree : {X C W : Type 0} → Steps X C W → (X → X → Bool) → List X → Type 0
UnorderedAreFree {X} k direct xs =
    (a b : X) → Has xs a → Has xs b → (a ≡ b → ⊥) → direct a b ≡ false → direct b a ≡ false → Free k a b

-- Where unordered steps are free of conflict, two lists of the same steps, each once, that respect the direct order leave the same store.
abbrev pub RespectingOrdersAgree : Type 0 → Type 0 → Type 0 → Type 0
RespectingOrdersAgree X C W =
    (k : Steps X C W) → AreSteps k → (direct : X → X → Bool) (xs ys : List X) → AreSame xs ys
    → Respects direct xs → Respects direct ys → UnorderedAreFree k direct xs
    → (s : C → W) (c : C) → after_steps k xs s c ≡ after_steps k ys s c
