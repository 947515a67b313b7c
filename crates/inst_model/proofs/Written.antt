-- What a list of steps leaves in one cell.
use Rattle.std.specs.Prelude.{◌≡◌, List, [], ◌∷◌, Bool, true, false, if◌then◌else◌}
use Rattle.std.proofs.Common.{refl, sym, ap, ◌∙◌, subst, inl, inr, true≢false}
use Rattle.step_orders.specs.Orders.{Has, Once, Steps, AreSteps, after_step, after_steps}

not_written : {X C W : Type 0} (k : Steps X C W) → AreSteps k → (y : X) (s : C → W) (c : C) (p : Bool) → k.same (k.cell y) c ≡ p → (k.cell y ≡ c → ⊥) → (if p then k.change y s (s c) else s c) ≡ s c
not_written k are y s c true is other = absurd (other (are.equal (k.cell y) c is))
not_written k are y s c false is other = refl

-- a cell to which none of the steps stores keeps its word
pub untouched : {X C W : Type 0} (k : Steps X C W) → AreSteps k → (xs : List X) (s : C → W) (c : C) → ((y : X) → Has xs y → k.cell y ≡ c → ⊥) → after_steps k xs s c ≡ s c
untouched k are [] s c other = refl
untouched k are (y ∷ ys) s c other =
    untouched k are ys (after_step k y s) c (λ z h. other z (inr h))
    ∙ not_written k are y s c (k.same (k.cell y) c) refl (other y (inl refl))

own_cell : {X C W : Type 0} (k : Steps X C W) → AreSteps k → (x : X) (s : C → W) (p : Bool) → k.same (k.cell x) (k.cell x) ≡ p → (if p then k.change x s (s (k.cell x)) else s (k.cell x)) ≡ k.change x s (s (k.cell x))
own_cell k are x s true is = refl
own_cell k are x s false is = absurd (true≢false (sym (are.itself (k.cell x)) ∙ is))

-- A cell to which one step alone stores, whose read cells no step stores to, has what that step leaves over the opening store.
pub written_once : {X C W : Type 0} (k : Steps X C W) → AreSteps k → (xs : List X) (s : C → W) (x : X) → Once xs → Has xs x
    → ((y : X) → Has xs y → k.cell y ≡ k.cell x → y ≡ x) → ((y : X) → Has xs y → Has (k.reads x) (k.cell y) → ⊥)
    → after_steps k xs s (k.cell x) ≡ k.change x s (s (k.cell x))
written_once k are [] s x once h alone unread = absurd h
written_once k are (y ∷ ys) s x once (inl e) alone unread =
    ap (λ z. after_steps k ys (after_step k z s) (k.cell x)) e
    ∙ (untouched k are ys (after_step k x s) (k.cell x) (λ z h is. once.0 (subst (λ v. Has ys v) (alone z (inr h) is ∙ sym e) h))
    ∙ own_cell k are x s (k.same (k.cell x) (k.cell x)) refl)
written_once k are (y ∷ ys) s x once (inr h) alone unread =
    let other = λ (is : k.cell y ≡ k.cell x). once.0 (subst (λ v. Has ys v) (sym (alone y (inl refl) is)) h) in
    written_once k are ys (after_step k y s) x once.1 h (λ z g. alone z (inr g)) (λ z g. unread z (inr g))
    ∙ (are.reads_only x (after_step k y s) s
    (λ c g. not_written k are y s c (k.same (k.cell y) c) refl (λ is. unread y (inl refl) (subst (λ v. Has (k.reads x) v) (sym is) g))) (after_step k y s (k.cell x))
    ∙ ap (λ w. k.change x s w) (not_written k are y s (k.cell x) (k.same (k.cell y) (k.cell x)) refl other))
