-- Elements of lists and their order.
use Rattle.std.specs.Prelude.{◌≡◌, ◌⊎◌, List, [], ◌∷◌, ◌++◌}
use Rattle.std.proofs.Common.{refl, sym, ap, subst, inl, inr}
use Rattle.step_orders.specs.Orders.{Has, Once, Before, AreSame}

pub record Split {X : Type 0} (ys : List X) (x : X) : Type 0 where
  pub front : List X
  pub rest : List X
  pub is : ys ≡ front ++ x ∷ rest

pub split : {X : Type 0} (ys : List X) (x : X) → Has ys x → Split ys x
split [] x h = absurd h
split (y ∷ ys) x (inl e) = record { front = []; rest = ys; is = ap (λ z. z ∷ ys) e }
split (y ∷ ys) x (inr h) = let s = split ys x h in record { front = y ∷ s.front; rest = s.rest; is = ap (λ zs. y ∷ zs) s.is }

pub has_left : {X : Type 0} (p q : List X) (a : X) → Has p a → Has (p ++ q) a
has_left [] q a h = absurd h
has_left (b ∷ p) q a (inl e) = inl e
has_left (b ∷ p) q a (inr h) = inr (has_left p q a h)

pub has_right : {X : Type 0} (p q : List X) (a : X) → Has q a → Has (p ++ q) a
has_right [] q a h = h
has_right (b ∷ p) q a h = inr (has_right p q a h)

pub has_here : {X : Type 0} (p q : List X) (x : X) → Has (p ++ x ∷ q) x
has_here [] q x = inl refl
has_here (b ∷ p) q x = inr (has_here p q x)

pub has_more : {X : Type 0} (p q : List X) (x a : X) → Has (p ++ q) a → Has (p ++ x ∷ q) a
has_more [] q x a h = inr h
has_more (b ∷ p) q x a (inl e) = inl e
has_more (b ∷ p) q x a (inr h) = inr (has_more p q x a h)

has_less_under : {X : Type 0} (p q : List X) (x a b : X) → (x ≡ a) ⊎ Has (p ++ q) a → (x ≡ a) ⊎ Has (b ∷ p ++ q) a
has_less_under p q x a b (inl e) = inl e
has_less_under p q x a b (inr h) = inr (inr h)

pub has_less : {X : Type 0} (p q : List X) (x a : X) → Has (p ++ x ∷ q) a → (x ≡ a) ⊎ Has (p ++ q) a
has_less [] q x a h = h
has_less (b ∷ p) q x a (inl e) = inr (inl e)
has_less (b ∷ p) q x a (inr h) = has_less_under p q x a b (has_less p q x a h)

pub once_less : {X : Type 0} (p q : List X) (x : X) → Once (p ++ x ∷ q) → Once (p ++ q)
once_less [] q x once = once.1
once_less (b ∷ p) q x once = ((λ h. once.0 (has_more p q x b h)), once_less p q x once.1)

pub once_not : {X : Type 0} (p q : List X) (x : X) → Once (p ++ x ∷ q) → Has (p ++ q) x → ⊥
once_not [] q x once h = once.0 h
once_not (b ∷ p) q x once (inl e) = once.0 (subst (λ z. Has (p ++ x ∷ q) z) (sym e) (has_here p q x))
once_not (b ∷ p) q x once (inr h) = once_not p q x once.1 h

pub before_here : {X : Type 0} (p q : List X) (x b : X) → Has p b → Before (p ++ x ∷ q) b x
before_here [] q x b h = absurd h
before_here (c ∷ p) q x b (inl e) = inl (e, has_here p q x)
before_here (c ∷ p) q x b (inr h) = inr (before_here p q x b h)

pub before_more : {X : Type 0} (p q : List X) (x a b : X) → Before (p ++ q) a b → Before (p ++ x ∷ q) a b
before_more [] q x a b h = inr h
before_more (c ∷ p) q x a b (inl h) = inl (h.0, has_more p q x b h.1)
before_more (c ∷ p) q x a b (inr h) = inr (before_more p q x a b h)

pub before_second : {X : Type 0} (xs : List X) (a b : X) → Before xs a b → Has xs b
before_second [] a b h = absurd h
before_second (x ∷ xs) a b (inl h) = inr h.1
before_second (x ∷ xs) a b (inr h) = inr (before_second xs a b h)

pub before_first : {X : Type 0} (xs : List X) (a b : X) → Before xs a b → Has xs a
before_first [] a b h = absurd h
before_first (x ∷ xs) a b (inl h) = inl h.0
before_first (x ∷ xs) a b (inr h) = inr (before_first xs a b h)

-- of two elements only one stands before the other
pub before_one_way : {X : Type 0} (xs : List X) (a b : X) → Once xs → Before xs a b → Before xs b a → ⊥
before_one_way [] a b once h g = h
before_one_way (x ∷ xs) a b once (inl h) (inl g) = once.0 (subst (λ z. Has xs z) (sym h.0) g.1)
before_one_way (x ∷ xs) a b once (inl h) (inr g) = once.0 (subst (λ z. Has xs z) (sym h.0) (before_second xs b a g))
before_one_way (x ∷ xs) a b once (inr h) (inl g) = once.0 (subst (λ z. Has xs z) (sym g.0) (before_second xs a b h))
before_one_way (x ∷ xs) a b once (inr h) (inr g) = before_one_way xs a b once.1 h g

into_rest : {X : Type 0} (p q : List X) (x a : X) → (x ≡ a → ⊥) → (x ≡ a) ⊎ Has (p ++ q) a → Has (p ++ q) a
into_rest p q x a other (inl e) = absurd (other e)
into_rest p q x a other (inr h) = h

from_rest : {X : Type 0} (xs : List X) (x a : X) → (x ≡ a → ⊥) → Has (x ∷ xs) a → Has xs a
from_rest xs x a other (inl e) = absurd (other e)
from_rest xs x a other (inr h) = h

-- the rest of both lists, without the first element of one of them
pub same_rest : {X : Type 0} (xs p q : List X) (x : X) → AreSame (x ∷ xs) (p ++ x ∷ q) → AreSame xs (p ++ q)
same_rest xs p q x same = record {
  first = same.first.1;
  second = once_less p q x same.second;
  into = λ a h. into_rest p q x a (λ e. same.first.0 (subst (λ z. Has xs z) (sym e) h)) (has_less p q x a (same.into a (inr h)));
  from = λ a h. from_rest xs x a (λ e. once_not p q x same.second (subst (λ z. Has (p ++ q) z) (sym e) h)) (same.from a (has_more p q x a h));
}
