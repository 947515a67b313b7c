-- A list that is gone through in order, up to the first refusal.
use Rattle.std.specs.Prelude.{◌≡◌, ℕ, suc, ◌+◌, ◌<◌, List, [], ◌∷◌, ◌++◌, map, drop, length, slice_index_or, Option, None}
use Rattle.std.proofs.Common.{sym, ap, ◌∙◌, add-one, append_assoc, drop-cons}
use Rattle.kernel_ir.specs.declared.fault.Fault.{Fault}
use Rattle.kernel_ir.specs.declared.fault.Fault.TheVariants.{OutOfMemory, Rule}
use Rattle.kernel_ir.specs.declared.fault.Refusal.{Refusal}
use Rattle.kernel_ir.specs.Refusals.{IsFault}
use Rattle.kernel_limits.specs.Asked.{first_of, first_in}

module _ (X : Type 0) (xs : List X) (i : ℕ) (x : X) (h : i < length xs) (is : x ≡ slice_index_or xs i x) where
  split : drop i xs ≡ x ∷ drop (i + 1) xs
  split = rw (add-one, drop-cons xs i x) (ap (λ (y : X). y ∷ drop (suc i) xs) (sym is))

  pub next_in : (f : X → Option Refusal) (goal : Option Refusal) → f x ≡ None → first_in f (drop i xs) ≡ goal → first_in f (drop (i + 1) xs) ≡ goal
  next_in f goal none before = sym (ap (λ (o : Option Refusal). first_of o (first_in f (drop (i + 1) xs))) none) ∙ (sym (ap (first_in f) split) ∙ before)

  pub next_made : (Y : Type 0) (g : X → Y) (made more goal : List Y) (y : Y) → more ≡ made ++ y ∷ [] → y ≡ g x → made ++ map g (drop i xs) ≡ goal → more ++ map g (drop (i + 1) xs) ≡ goal
  next_made Y g made more goal y pushed value before =
      ap (λ (ys : List Y). ys ++ map g (drop (i + 1) xs)) pushed
      ∙ (append_assoc made (y ∷ []) (map g (drop (i + 1) xs))
      ∙ (ap (λ (z : Y). made ++ (z ∷ map g (drop (i + 1) xs))) value ∙ (sym (ap (λ (zs : List X). made ++ map g zs) split) ∙ before)))

  pub fault_in : (f : X → Option Refusal) (goal : Option Refusal) (fault : Fault) → first_in f (drop i xs) ≡ goal → IsFault (f x) fault → IsFault goal fault
  fault_in f goal OutOfMemory before at = tt
  fault_in f goal (Rule r) before at = sym before ∙ (ap (first_in f) split ∙ ap (λ (o : Option Refusal). first_of o (first_in f (drop (i + 1) xs))) at)
