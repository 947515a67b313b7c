-- A kernel of the one form has a respecting order: its instances by rising numbers.
use Rattle.std.specs.Prelude.{◌≡◌, ◌⊎◌, ◌≢◌, ℕ, zero, suc, ◌+◌, nat_eq, ◌<◌, ◌≤◌, ℤ, pos, Bool, true, false, List, [], ◌∷◌}
use Rattle.std.proofs.Common.{refl, sym, ap, ◌∙◌, arith, subst, inl, inr, true≢false}
use Rattle.std.proofs.lemmas.Bool.Decides.{nat_tests}
use Rattle.wrap_words.specs.declared.kind.Word.{Word}
use Rattle.kernel_ir.specs.declared.kernel.Kernel.{Kernel}
use Rattle.step_orders.specs.Orders.{Has, Once, Before}
use Rattle.inst_model.specs.Arguments.{Arguments}
use Rattle.inst_model.specs.Instances.{Instance, IsInstance, IsRespectingOrder, directly_before}
use Rattle.first_form.specs.declared.form.FirstForm.{FirstForm}
use Rattle.first_form.specs.Kernels.{kernel_of}
use Rattle.first_right.proofs.Given.{arguments_of}
use Rattle.first_right.proofs.Instances.{at, instance_is, is_instance}

-- so many instances, from the one at the start on
abbrev pub rising : ℕ → ℕ → ℕ → List Instance
rising factor start zero = []
rising factor start (suc n) = at factor (pos start) ∷ rising factor (suc start) n

number_of_at : (factor j k : ℕ) → at factor (pos j) ≡ at factor (pos k) → j ≡ k
number_of_at factor j k e = let numbers : pos j ∷ [] ≡ pos k ∷ [] = ap (λ (x : Instance). x.numbers) e in cc

-- what stands in the rising list
rising_has : (factor start n : ℕ) (x : Instance) → Has (rising factor start n) x → (k : ℕ) × (start ≤ k) × (k < start + n) × (x ≡ at factor (pos k))
rising_has factor start zero x h = absurd h
rising_has factor start (suc n) x (inl e) = (start, omega arith, omega arith, sym e)
rising_has factor start (suc n) x (inr h) = let r = rising_has factor (suc start) n x h in (r.0, omega (arith, r.1), omega (arith, r.2), r.3)

first_or_later : (factor start n k : ℕ) (b : Bool) → nat_eq start k ≡ b → start ≤ k → (suc start ≤ k → Has (rising factor (suc start) n) (at factor (pos k))) → (at factor (pos start) ≡ at factor (pos k)) ⊎ Has (rising factor (suc start) n) (at factor (pos k))
first_or_later factor start n k true e low later = let same : start ≡ k = grind (arith, nat_tests, e) in inl (ap (λ (i : ℕ). at factor (pos i)) same)
first_or_later factor start n k false e low later = let other : start ≢ k = grind (arith, nat_tests, e) in inr (later (omega arith))

has_rising : (factor start n k : ℕ) → start ≤ k → k < start + n → Has (rising factor start n) (at factor (pos k))
has_rising factor start zero k low high = absurd (omega arith)
has_rising factor start (suc n) k low high = first_or_later factor start n k (nat_eq start k) refl low (λ l. has_rising factor (suc start) n k l (omega arith))

not_twice : (factor start n : ℕ) → Has (rising factor (suc start) n) (at factor (pos start)) → ⊥
not_twice factor start n h = let r = rising_has factor (suc start) n (at factor (pos start)) h in omega (arith, r.1, number_of_at factor start r.0 r.3)

rising_once : (factor start n : ℕ) → Once (rising factor start n)
rising_once factor start zero = tt
rising_once factor start (suc n) = (λ h. not_twice factor start n h, rising_once factor (suc start) n)

module _ (f : FirstForm) (n : ℕ) (words outs : List Word) where
  pub rising_respects : IsRespectingOrder (kernel_of f) (arguments_of (pos n) words outs) (rising f.factor 0 n)
  rising_respects = record {
    once = rising_once f.factor 0 n;
    all = λ x h. let one = instance_is f n words outs x h in subst (λ (y : Instance). Has (rising f.factor 0 n) y) (sym one.2) (has_rising f.factor 0 n one.0 (omega arith) (omega (arith, one.1)));
    only = λ x h. let r = rising_has f.factor 0 n x h in subst (λ (y : Instance). IsInstance (kernel_of f) (arguments_of (pos n) words outs) y) (sym r.3) (is_instance f n words outs r.0 (omega (arith, r.2)));
    respects = λ x y hx hy d. let r = rising_has f.factor 0 n y hy in absurd (true≢false (sym (subst (λ (z : Instance). directly_before (kernel_of f) x z ≡ true) r.3 d)));
  }
