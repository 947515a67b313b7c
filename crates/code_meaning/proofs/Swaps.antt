-- Writes to different places come to the same in either order.
use Rattle.std.proofs.Common.{◌≡◌, ℕ, zero, suc, ℤ, pos, List, [], ◌∷◌, slice_set, unsigned_abs, refl, ◌∙◌, sym, ap}
use Rattle.std.proofs.lemmas.List.{set-set}
use Rattle.code_meaning.specs.States.{row_of, put}

module _ {A : Type 0} where
  pub sets_swap : (xs : List A) (i j : ℕ) (a b : A) → (i ≡ j → ⊥) → slice_set (slice_set xs i a) j b ≡ slice_set (slice_set xs j b) i a
  sets_swap [] i j a b h = refl
  sets_swap (x ∷ xs) zero zero a b h = absurd (h refl)
  sets_swap (x ∷ xs) zero (suc j) a b h = refl
  sets_swap (x ∷ xs) (suc i) zero a b h = refl
  sets_swap (x ∷ xs) (suc i) (suc j) a b h = ap (λ (ys : List A). x ∷ ys) (sets_swap xs i j a b (λ e. h (ap suc e)))

module _ {A : Type 0} where
  pub row_after_other : (xs : List (List A)) (k l : ℕ) (ys : List A) → (k ≡ l → ⊥) → row_of (slice_set xs k ys) l ≡ row_of xs l
  row_after_other [] k l ys h = refl
  row_after_other (x ∷ xs) zero zero ys h = absurd (h refl)
  row_after_other (x ∷ xs) zero (suc l) ys h = refl
  row_after_other (x ∷ xs) (suc k) zero ys h = refl
  row_after_other (x ∷ xs) (suc k) (suc l) ys h = row_after_other xs k l ys (λ e. h (ap suc e))

  pub row_after_same : (xs : List (List A)) (k i : ℕ) (a : A) → row_of (slice_set xs k (slice_set (row_of xs k) i a)) k ≡ slice_set (row_of xs k) i a
  row_after_same [] k i a = refl
  row_after_same (x ∷ xs) zero i a = refl
  row_after_same (x ∷ xs) (suc k) i a = row_after_same xs k i a

  -- two writes to one array at different places
  pub puts_swap : (xs : List (List A)) (k i j : ℕ) (a b : A) → (i ≡ j → ⊥) → put (put xs k (pos i) a) k (pos j) b ≡ put (put xs k (pos j) b) k (pos i) a
  puts_swap xs k i j a b h =
      set-set xs k _ _ ∙ ap (λ (r : List A). slice_set xs k (slice_set r j b)) (row_after_same xs k i a)
      ∙ ap (λ (r : List A). slice_set xs k r) (sets_swap (row_of xs k) i j a b h)
      ∙ sym (set-set xs k _ _ ∙ ap (λ (r : List A). slice_set xs k (slice_set r i a)) (row_after_same xs k j b))

  -- two writes to different arrays
  pub puts_swap_apart : (xs : List (List A)) (k l : ℕ) (i j : ℤ) (a b : A) → (k ≡ l → ⊥) → put (put xs k i a) l j b ≡ put (put xs l j b) k i a
  puts_swap_apart xs k l i j a b h =
      ap (λ (r : List A). slice_set (put xs k i a) l (slice_set r (unsigned_abs j) b)) (row_after_other xs k l _ h)
      ∙ sets_swap xs k l _ _ h
      ∙ sym (ap (λ (r : List A). slice_set (put xs l j b) k (slice_set r (unsigned_abs i) a)) (row_after_other xs l k _ (λ e. h (sym e))))
