-- The last step that writes a cell, and lists of two steps.
use Rattle.std.specs.Prelude.{◌≡◌, ◌⊎◌, List, [], ◌∷◌, ◌++◌, Bool, true, false, if◌then◌else◌}
use Rattle.std.proofs.Common.{refl, sym, ap, ◌∙◌, subst, inl, inr, true≢false}
use Rattle.step_orders.specs.Orders.{Has, Once, Before, Respects, Steps, AreSteps, after_step, after_steps}
use Rattle.step_orders.proofs.Lists.{split, has_right, has_left, once_not, before_one_way, before_second}
use Rattle.inst_model.proofs.Written.{untouched}

-- the word of a step's own cell after it, and that of another cell
pub own_word : {X C W : Type 0} (k : Steps X C W) → AreSteps k → (x : X) (s : C → W) (c : C) → k.cell x ≡ c → after_step k x s c ≡ k.change x s (s c)
own_word k are x s c e = ap (λ (p : Bool). if p then k.change x s (s c) else s c) (subst (λ d. k.same (k.cell x) d ≡ true) e (are.itself (k.cell x)))

steps_append : {X C W : Type 0} (k : Steps X C W) (p q : List X) (s : C → W) → after_steps k (p ++ q) s ≡ after_steps k q (after_steps k p s)
steps_append k [] q s = refl
steps_append k (y ∷ p) q s = steps_append k p q (after_step k y s)

after_here : {X : Type 0} (p q : List X) (x b : X) → Has q b → Before (p ++ x ∷ q) x b
after_here [] q x b h = inl (refl, h)
after_here (c ∷ p) q x b h = inr (after_here p q x b h)

in_rest : {X : Type 0} (p q : List X) (x y : X) → Once (p ++ x ∷ q) → Has q y → (y ≡ x) ⊎ Before (p ++ x ∷ q) y x → ⊥
in_rest p q x y once h (inl e) = once_not p q x once (has_right p q x (subst (λ z. Has q z) e h))
in_rest p q x y once h (inr g) = before_one_way (p ++ x ∷ q) x y once (after_here p q x y h) g

once_front : {X : Type 0} (p q : List X) → Once (p ++ q) → Once p
once_front [] q once = tt
once_front (c ∷ p) q once = ((λ h. once.0 (has_left p q c h)), once_front p q once.1)

in_front : {X : Type 0} (p q : List X) (x y : X) → Once (p ++ x ∷ q) → Before (p ++ x ∷ q) y x → Has p y
in_front [] q x y once (inl h) = absurd (once.0 h.1)
in_front [] q x y once (inr h) = absurd (once.0 (before_second q y x h))
in_front (c ∷ p) q x y once (inl h) = inl h.0
in_front (c ∷ p) q x y once (inr h) = inr (in_front p q x y once.1 h)

-- What a step leaves in its cell at its turn, over what the steps in front of it leave.
pub record Turn {X C W : Type 0} (k : Steps X C W) (xs : List X) (s : C → W) (x : X) : Type 0 where
  pub front : List X
  pub once : Once front
  pub within : (y : X) → Has front y → Has xs y
  pub earlier : (y : X) → Before xs y x → Has front y
  pub is : after_steps k xs s (k.cell x) ≡ k.change x (after_steps k front s) (after_steps k front s (k.cell x))

turn_at : {X C W : Type 0} (k : Steps X C W) → AreSteps k → (p q : List X) (s : C → W) (x : X) → Once (p ++ x ∷ q)
    → ((y : X) → Has (p ++ x ∷ q) y → k.cell y ≡ k.cell x → (y ≡ x) ⊎ Before (p ++ x ∷ q) y x) → Turn k (p ++ x ∷ q) s x
turn_at {X} {C} {W} k are p q s x once last = record {
  front = p;
  once = once_front p (x ∷ q) once;
  within = λ y h. has_left p (x ∷ q) y h;
  earlier = λ y h. in_front p q x y once h;
  is = ap (λ (m : C → W). m (k.cell x)) (steps_append k p (x ∷ q) s)
      ∙ untouched k are q (after_step k x (after_steps k p s)) (k.cell x) (λ y h e. in_rest p q x y once h (last y (has_right p (x ∷ q) y (inr h)) e))
      ∙ own_word k are x (after_steps k p s) (k.cell x) refl;
}

-- A step after which no other step writes its cell leaves there what it makes of the store at its turn.
pub turn : {X C W : Type 0} (k : Steps X C W) → AreSteps k → (xs : List X) (s : C → W) (x : X) → Once xs → Has xs x
    → ((y : X) → Has xs y → k.cell y ≡ k.cell x → (y ≡ x) ⊎ Before xs y x) → Turn k xs s x
turn {X} {C} {W} k are xs s x once h last =
    let t = split xs x h in
    subst (λ ys. Turn k ys s x) (sym t.is)
    (turn_at k are t.front t.rest s x (subst (λ ys. Once ys) t.is once)
    (subst (λ ys. (y : X) → Has ys y → k.cell y ≡ k.cell x → (y ≡ x) ⊎ Before ys y x) t.is last))

pub has_either : {X : Type 0} (p q : List X) (a : X) → Has (p ++ q) a → Has p a ⊎ Has q a
has_either [] q a h = inr h
has_either (b ∷ p) q a (inl e) = inl (inl e)
has_either (b ∷ p) q a (inr h) = elim (has_either p q a h) [ inl g ↦ inl (inr g) | inr g ↦ inr g ]

-- two lists without a common element, each of which has nothing twice
pub once_across : {X : Type 0} (p q : List X) → Once p → Once q → ((a : X) → Has p a → Has q a → ⊥) → Once (p ++ q)
once_across [] q first second apart = second
once_across (b ∷ p) q first second apart =
    ((λ h. elim (has_either p q b h) [ inl g ↦ first.0 g | inr g ↦ apart b (inl refl) g ]), once_across p q first.1 second (λ a h g. apart a (inr h) g))

pub before_across : {X : Type 0} (p q : List X) (a b : X) → Has p a → Has q b → Before (p ++ q) a b
before_across [] q a b h g = absurd h
before_across (c ∷ p) q a b (inl e) g = inl (e, has_right p q b g)
before_across (c ∷ p) q a b (inr h) g = inr (before_across p q a b h g)

-- a list of two elements, of which only the second can follow the other, respects the direct order
pub two_respect : {X : Type 0} (direct : X → X → Bool) (x y : X) → direct x x ≡ false → direct y x ≡ false → direct y y ≡ false → Respects direct (x ∷ y ∷ [])
two_respect direct x y xx yx yy a b (inl e) (inl f) d = absurd (true≢false (sym (subst (λ v. direct x v ≡ true) (sym f) (subst (λ u. direct u b ≡ true) (sym e) d)) ∙ xx))
two_respect direct x y xx yx yy a b (inl e) (inr h) d = inl (e, h)
two_respect direct x y xx yx yy a b (inr (inl e)) (inl f) d = absurd (true≢false (sym (subst (λ v. direct y v ≡ true) (sym f) (subst (λ u. direct u b ≡ true) (sym e) d)) ∙ yx))
two_respect direct x y xx yx yy a b (inr (inl e)) (inr (inl f)) d = absurd (true≢false (sym (subst (λ v. direct y v ≡ true) (sym f) (subst (λ u. direct u b ≡ true) (sym e) d)) ∙ yy))
two_respect direct x y xx yx yy a b (inr (inl e)) (inr (inr h)) d = absurd h
two_respect direct x y xx yx yy a b (inr (inr h)) g d = absurd h
