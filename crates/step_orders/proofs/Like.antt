-- Lists of steps that leave the same store.
use Rattle.std.specs.Prelude.{◌≡◌, List, [], ◌∷◌, ◌++◌, Bool, true, false, if◌then◌else◌}
use Rattle.std.proofs.lemmas.List.{take_more}
use Rattle.std.proofs.Common.{ℕ, ◌+◌, ◌<◌, length, get_or, take, refl, sym, ap, ◌∙◌, subst, inl, inr}
use Rattle.step_orders.specs.Orders.{Has, Once, Before, Steps, AreSteps, after_step, after_steps, Free, AreSame, LikeOrdersAgree, RespectingOrdersAgree}
use Rattle.step_orders.proofs.Lists.{split, has_left, once_not, before_here, before_more, before_first, before_second, before_one_way, same_rest}

-- two changes at one cell of which each is done or not
both : {W : Type 0} (p q : Bool) (f f' g g' : W → W) (w : W) → ((v : W) → f v ≡ f' v) → ((v : W) → g v ≡ g' v)
    → (p ≡ true → q ≡ true → f' (g w) ≡ g (f' w))
    → (if p then f (if q then g w else w) else (if q then g w else w)) ≡ (if q then g' (if p then f' w else w) else (if p then f' w else w))
both true true f f' g g' w hf hg swap = hf (g w) ∙ (swap refl refl ∙ hg (f' w))
both true false f f' g g' w hf hg swap = hf w
both false true f f' g g' w hf hg swap = hg w
both false false f f' g g' w hf hg swap = refl

-- a cell that a step does not change
kept : {X C W : Type 0} (k : Steps X C W) → AreSteps k → (x : X) (s : C → W) (c : C) (p : Bool) → k.same (k.cell x) c ≡ p → (k.cell x ≡ c → ⊥) → (if p then k.change x s (s c) else s c) ≡ s c
kept k are x s c true is other = absurd (other (are.equal (k.cell x) c is))
kept k are x s c false is other = refl

-- the change of a step after a step that changes none of its cells
change_after : {X C W : Type 0} (k : Steps X C W) → AreSteps k → (x y : X) (s : C → W) → (Has (k.reads x) (k.cell y) → ⊥) → (w : W) → k.change x (after_step k y s) w ≡ k.change x s w
change_after k are x y s other w = are.reads_only x (after_step k y s) s
    (λ c h. kept k are y s c (k.same (k.cell y) c) refl (λ e. other (subst (λ z. Has (k.reads x) z) (sym e) h))) w

pub steps_swap : {X C W : Type 0} (k : Steps X C W) → AreSteps k → (x y : X) → Free k x y → (s : C → W) (c : C) → after_step k x (after_step k y s) c ≡ after_step k y (after_step k x s) c
steps_swap k are x y free s c = both (k.same (k.cell x) c) (k.same (k.cell y) c)
    (k.change x (after_step k y s)) (k.change x s) (k.change y s) (k.change y (after_step k x s)) (s c)
    (change_after k are x y s free.first)
    (λ v. sym (change_after k are y x s free.second v))
    (λ p q. free.one_cell (are.equal (k.cell x) c p ∙ sym (are.equal (k.cell y) c q)) s (s c))

-- equal words, equal words after a step
one_alike : {W : Type 0} (p : Bool) (a b v w : W) → a ≡ b → v ≡ w → (if p then a else v) ≡ (if p then b else w)
one_alike true a b v w e f = e
one_alike false a b v w e f = f

pub step_alike : {X C W : Type 0} (k : Steps X C W) → AreSteps k → (x : X) (s t : C → W) → ((c : C) → s c ≡ t c) → (c : C) → after_step k x s c ≡ after_step k x t c
step_alike k are x s t alike c = one_alike (k.same (k.cell x) c) (k.change x s (s c)) (k.change x t (t c)) (s c) (t c)
    (are.reads_only x s t (λ d _. alike d) (s c) ∙ ap (λ v. k.change x t v) (alike c)) (alike c)

pub steps_alike : {X C W : Type 0} (k : Steps X C W) → AreSteps k → (xs : List X) (s t : C → W) → ((c : C) → s c ≡ t c) → (c : C) → after_steps k xs s c ≡ after_steps k xs t c
steps_alike k are [] s t alike c = alike c
steps_alike k are (x ∷ xs) s t alike c = steps_alike k are xs (after_step k x s) (after_step k x t) (step_alike k are x s t alike) c

pub after_steps-append : {X C W : Type 0} (k : Steps X C W) (xs ys : List X) (s : C → W) (c : C) → after_steps k (xs ++ ys) s c ≡ after_steps k ys (after_steps k xs s) c
after_steps-append k [] ys s c = refl
after_steps-append k (x ∷ xs) ys s c = after_steps-append k xs ys (after_step k x s) c

-- one more step of a list, from a store that equals the one so far
pub after_steps-take : {X C W : Type 0} (k : Steps X C W) → AreSteps k → (xs : List X) (i : ℕ) (d : X) → i < length xs → (s t : C → W)
    → ((c : C) → t c ≡ after_steps k (take i xs) s c) → (c : C) → after_step k (get_or xs i d) t c ≡ after_steps k (take (i + 1) xs) s c
after_steps-take k are xs i d h s t alike c =
    step_alike k are (get_or xs i d) t (after_steps k (take i xs) s) alike c
    ∙ (sym (after_steps-append k (take i xs) (get_or xs i d ∷ []) s c) ∙ sym (ap (λ zs. after_steps k zs s c) (take_more xs i d h)))

-- a step may be done before those with which it is free of conflict
pub to_front : {X C W : Type 0} (k : Steps X C W) → AreSteps k → (x : X) (p q : List X) → ((b : X) → Has p b → Free k x b) → (s : C → W) (c : C) → after_steps k (p ++ x ∷ q) s c ≡ after_steps k (x ∷ p ++ q) s c
to_front k are x [] q free s c = refl
to_front k are x (b ∷ p) q free s c =
    to_front k are x p q (λ d h. free d (inr h)) (after_step k b s) c
    ∙ steps_alike k are (p ++ q) (after_step k x (after_step k b s)) (after_step k b (after_step k x s)) (steps_swap k are x b (free b (inl refl)) s) c

-- an element of the front is another one than the element in the middle
in_rest : {X : Type 0} (xs p q : List X) (x b : X) → Once (p ++ x ∷ q) → Has p b → Has (x ∷ xs) b → Has xs b
in_rest xs p q x b once h (inl e) = absurd (once_not p q x once (has_left p q x (subst (λ z. Has p z) (sym e) h)))
in_rest xs p q x b once h (inr g) = g

pub like_orders : {X C W : Type 0} → LikeOrdersAgree X C W
like_orders k are [] [] same alike s c = refl
like_orders k are [] (y ∷ ys) same alike s c = absurd (same.from y (inl refl))
like_orders k are (x ∷ xs) ys same alike s c =
    let at = split ys x (same.into x (inl refl)) in
    let once = subst (λ zs. Once zs) at.is same.second in
    let same' = subst (λ zs. AreSame (x ∷ xs) zs) at.is same in
    let alike' = subst (λ zs. (a b : _) → Before (x ∷ xs) a b → Before zs b a → Free k a b) at.is alike in
    let rest = like_orders k are xs (at.front ++ at.rest) (same_rest xs at.front at.rest x same')
    (λ a b h g. alike' a b (inr h) (before_more at.front at.rest x b a g)) (after_step k x s) c in
    let front = to_front k are x at.front at.rest
    (λ b h. alike' x b (inl (refl, in_rest xs at.front at.rest x b once h (same'.from b (has_left at.front (x ∷ at.rest) b h)))) (before_here at.front at.rest x b h)) s c in
    rest ∙ (sym front ∙ sym (ap (λ zs. after_steps k zs s c) at.is))

not_true : (b : Bool) → (b ≡ true → ⊥) → b ≡ false
not_true true other = absurd (other refl)
not_true false other = refl

-- what stands before itself stands twice
before_other : {X : Type 0} (xs : List X) (a b : X) → Once xs → Before xs a b → a ≡ b → ⊥
before_other xs a b once h e = before_one_way xs a b once h (subst (λ z. Before xs z a) e (subst (λ z. Before xs a z) (sym e) h))

pub respecting_orders : {X C W : Type 0} → RespectingOrdersAgree X C W
respecting_orders k are direct xs ys same first second free =
    like_orders k are xs ys same (λ a b h g.
    let xa = before_first xs a b h in let xb = before_second xs a b h in
    free a b xa xb (before_other xs a b same.first h)
    (not_true (direct a b) (λ d. before_one_way ys a b same.second (second a b (same.into a xa) (same.into b xb) d) g))
    (not_true (direct b a) (λ d. before_one_way xs a b same.first h (first b a xb xa d))))
