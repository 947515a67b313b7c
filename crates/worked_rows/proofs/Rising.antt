-- Kernels of one instruction over `0 <= i < n`, which depends on nothing: their instances, and an order of them.
use Rattle.std.specs.Prelude.{◌≡◌, ◌⊎◌, ◌≢◌, ℕ, zero, suc, ◌+◌, nat_eq, ◌<◌, ◌≤◌, ℤ, pos, Bool, true, false, List, [], ◌∷◌, ◌&&◌, bytes_eq}
use Rattle.std.specs.List.{list_any}
use Rattle.std.proofs.Common.{refl, sym, ap, ◌∙◌, arith, subst, inl, inr, true≢false}
use Rattle.std.proofs.lemmas.Bool.Decides.{nat_tests}
use Rattle.wrap_words.specs.declared.kind.Word.{Word}
use Rattle.kernel_ir.specs.declared.kernel.Insn.{Insn}
use Rattle.kernel_ir.specs.declared.kernel.Kernel.{Kernel}
use Rattle.step_orders.specs.Orders.{Has, Once}
use Rattle.inst_model.specs.Arguments.{Arguments, params_at}
use Rattle.inst_model.specs.Instances.{Instance, IsInstance, IsRespectingOrder, directly_before, agree}
use Rattle.inst_model.specs.Memory.{Memory}
use Rattle.inst_model.specs.Running.{steps_of, stored_spot, memory_after, opening, changed}
use Rattle.inst_model.proofs.Kernels.{are_steps}
use Rattle.inst_model.proofs.Written.{untouched}
use Rattle.worked_rows.proofs.Turns.{Turn, turn}
use Rattle.worked_rows.proofs.Spots.{spot, spot_at, one_cell, one_place}
use Rattle.worked_rows.proofs.Domains.{IsOver, at, instance_is, is_instance}

-- so many instances, from the one at the start on
abbrev pub rising : Insn → ℕ → ℕ → List Instance
rising A start zero = []
rising A start (suc n) = at A start ∷ rising A (suc start) n

pub number_of_at : (A : Insn) (j k : ℕ) → at A j ≡ at A k → j ≡ k
number_of_at A j k e = let numbers : pos j ∷ [] ≡ pos k ∷ [] = ap (λ (x : Instance). x.numbers) e in cc

pub rising_has : (A : Insn) (start n : ℕ) (x : Instance) → Has (rising A start n) x → (k : ℕ) × (start ≤ k) × (k < start + n) × (at A k ≡ x)
rising_has A start zero x h = absurd h
rising_has A start (suc n) x (inl e) = (start, omega arith, omega arith, e)
rising_has A start (suc n) x (inr h) = let r = rising_has A (suc start) n x h in (r.0, omega (arith, r.1), omega (arith, r.2), r.3)

first_or_later : (A : Insn) (start n k : ℕ) (b : Bool) → nat_eq start k ≡ b → start ≤ k → (suc start ≤ k → Has (rising A (suc start) n) (at A k)) → (at A start ≡ at A k) ⊎ Has (rising A (suc start) n) (at A k)
first_or_later A start n k true e low later = let same : start ≡ k = grind (arith, nat_tests, e) in inl (ap (at A) same)
first_or_later A start n k false e low later = let other : start ≢ k = grind (arith, nat_tests, e) in inr (later (omega arith))

pub has_rising : (A : Insn) (start n k : ℕ) → start ≤ k → k < start + n → Has (rising A start n) (at A k)
has_rising A start zero k low high = absurd (omega arith)
has_rising A start (suc n) k low high = first_or_later A start n k (nat_eq start k) refl low (λ l. has_rising A (suc start) n k l (omega arith))

not_twice : (A : Insn) (start n : ℕ) → Has (rising A (suc start) n) (at A start) → ⊥
not_twice A start n h = let r = rising_has A (suc start) n (at A start) h in omega (arith, r.1, number_of_at A r.0 start r.3)

pub rising_once : (A : Insn) (start n : ℕ) → Once (rising A start n)
rising_once A start zero = tt
rising_once A start (suc n) = (λ h. not_twice A start n h, rising_once A (suc start) n)

module _ (K : Kernel) (a : Arguments) (n : ℕ) (count : params_at K a 0 ≡ pos n) (A : Insn) (over : IsOver K A) (alone : K.insns ≡ A ∷ []) where
  -- each instance is the one at a number below the count
  pub one_of : (x : Instance) → IsInstance K a x → (k : ℕ) × (k < n) × (at A k ≡ x)
  one_of x i = elim (subst (λ (As : List Insn). Has As x.insn) alone i.insn) [
    | inl e ↦ instance_is K a n count A over x e i
    | inr h ↦ absurd h
  ]

  pub is_at : (k : ℕ) → k < n → IsInstance K a (at A k)
  is_at k less = is_instance K a n count A over (subst (λ (As : List Insn). Has As A) (sym alone) (inl refl)) k less

  module _ (free : A.deps ≡ []) where
    no_order : (x y : Instance) (k : ℕ) → at A k ≡ y → directly_before K x y ≡ true → ⊥
    no_order x y k e d = true≢false (sym (subst (λ (deps : List (List ℕ)). (list_any (bytes_eq x.insn.id) deps && agree x (at A k)) ≡ true) free (subst (λ z. directly_before K x z ≡ true) (sym e) d)))

    -- By rising numbers they are in a respecting order.
    pub rising_respects : IsRespectingOrder K a (rising A 0 n)
    rising_respects = record {
      once = rising_once A 0 n;
      all = λ x h. let one = one_of x h in subst (λ (y : Instance). Has (rising A 0 n) y) one.2 (has_rising A 0 n one.0 (omega arith) (omega (arith, one.1)));
      only = λ x h. let r = rising_has A 0 n x h in subst (λ (y : Instance). IsInstance K a y) r.3 (is_at r.0 (omega (arith, r.2)));
      respects = λ x y hx hy d. let r = rising_has A 0 n y hy in absurd (no_order x y r.0 r.3 d);
    }

  -- Where each instance stores at its own place of one array,
  module _ (out : ℕ) (spot_is : (k : ℕ) → stored_spot K a (at A k) ≡ spot out k) where
    spot_of_x : (x : Instance) → (one : (k : ℕ) × (k < n) × (at A k ≡ x)) → stored_spot K a x ≡ spot out one.0
    spot_of_x x one = ap (stored_spot K a) (sym one.2) ∙ spot_is one.0

    -- other arrays keep their words,
    pub kept : (xs : List Instance) → ((x : Instance) → Has xs x → IsInstance K a x) → (other : ℕ) → (out ≡ other → ⊥) → (z : ℤ) → memory_after K a xs (spot_at other z) ≡ opening K a (spot_at other z)
    kept xs all other differ z =
        untouched (steps_of K a) (are_steps K a) xs (opening K a) (spot_at other z) (λ y h e. let one = one_of y (all y h) in differ (one_cell out other (pos one.0) z (sym (spot_of_x y one) ∙ e)))

    -- and each place has what its instance leaves over the words at its turn.
    pub own_turn : (xs : List Instance) → IsRespectingOrder K a xs → (k : ℕ) → k < n → Turn (steps_of K a) xs (opening K a) (at A k)
    own_turn xs order k less =
        turn (steps_of K a) (are_steps K a) xs (opening K a) (at A k) order.once (order.all (at A k) (is_at k less))
        (λ y h e. let one = one_of y (order.only y h) in inl (sym one.2 ∙ ap (at A) (one_place out out one.0 k (sym (spot_of_x y one) ∙ e ∙ spot_is k))))

    pub own_word_is : (value : ℕ → Word) → ((k : ℕ) → k < n → (m : Memory) (w : Word) → ((other : ℕ) → (out ≡ other → ⊥) → (z : ℤ) → m (spot_at other z) ≡ opening K a (spot_at other z)) → changed K a (at A k) m w ≡ value k)
        → (xs : List Instance) → IsRespectingOrder K a xs → (k : ℕ) → k < n → memory_after K a xs (spot out k) ≡ value k
    own_word_is value leaves xs order k less =
        let own = own_turn xs order k less in
        ap (memory_after K a xs) (sym (spot_is k)) ∙ own.is
        ∙ leaves k less (memory_after K a own.front) (memory_after K a own.front (stored_spot K a (at A k))) (kept own.front (λ y h. order.only y (own.within y h)))
