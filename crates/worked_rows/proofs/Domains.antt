-- Instances over `0 <= i < n`, of which n is variable 0 and i is variable 1.
use Rattle.std.specs.Prelude.{◌≡◌, ℕ, suc, ◌<◌, ℤ, pos, negsuc, ◌+ℤ◌, ◌*ℤ◌, ◌≤ℤ◌, Bool, true, false, ◌&&◌, int_le, List, [], ◌∷◌, length}
use Rattle.std.proofs.Common.{refl, sym, ap, ◌∙◌, arith, subst, true≢false}
use Rattle.std.proofs.lemmas.Int.{ints}
use Rattle.affine_rows.specs.Rows.{Env}
use Rattle.affine_rows.specs.Forms.{affine, form_at}
use Rattle.expr_tree.specs.Scenes.{given, rows_hold}
use Rattle.kernel_ir.specs.declared.kernel.Insn.{Insn}
use Rattle.kernel_ir.specs.declared.kernel.Kernel.{Kernel}
use Rattle.step_orders.specs.Orders.{Has}
use Rattle.inst_model.specs.Arguments.{Arguments, params_at}
use Rattle.inst_model.specs.Instances.{Instance, IsInstance, rows_of}
use Rattle.worked_rows.specs.Parts.{variable, below}
use Rattle.worked_rows.proofs.Values.{form_is, variable_is}

-- a number from 0 on and below the count
pub record IsBelow (n : ℕ) (z : ℤ) : Type 0 where
  pub number : ℕ
  pub is : z ≡ pos number
  pub less : number < n

parts : (p q : Bool) → (p && (q && true)) ≡ true → (p ≡ true) × (q ≡ true)
parts true true h = (refl, refl)
parts true false h = absurd (true≢false (sym h))
parts false q h = absurd (true≢false (sym h))

together : (p q : Bool) → p ≡ true → q ≡ true → (p && (q && true)) ≡ true
together p q e g = rw (e, g) refl

at_least : (a b : ℤ) → int_le a b ≡ true → a ≤ℤ b
at_least a b h = grind (arith, ints)

reaches : (a b : ℤ) → a ≤ℤ b → int_le a b ≡ true
reaches a b h = grind (arith, ints)

below_from : (n : ℕ) (z low high : ℤ) → low ≡ z → high ≡ (pos n +ℤ (negsuc 0 *ℤ z)) +ℤ negsuc 0 → pos 0 ≤ℤ low → pos 0 ≤ℤ high → IsBelow n z
below_from n (pos k) low high e g l h = record { number = k; is = refl; less = omega (arith, ints, g, h) }
below_from n (negsuc k) low high e g l h = absurd (omega (arith, ints, e, l))

not_below : (k : ℕ) (low : ℤ) → low ≡ pos k → pos 0 ≤ℤ low
not_below k low e = omega (arith, ints, e)

not_above : (n k : ℕ) (z high : ℤ) → k < n → z ≡ pos k → high ≡ (pos n +ℤ (negsuc 0 *ℤ z)) +ℤ negsuc 0 → pos 0 ≤ℤ high
not_above n k z high h e g = let same = ap (λ (y : ℤ). negsuc 0 *ℤ y) e in omega (arith, ints, g, h, same)

module _ (env : Env) (v u n : ℕ) (z : ℤ) (count : env u ≡ pos n) (here : env v ≡ z) where
  low_is : form_at env (variable v) ≡ z
  low_is = variable_is env v z here

  high_is : form_at env (affine (negsuc 0) ((u, pos 1) ∷ (v, negsuc 0) ∷ [])) ≡ (pos n +ℤ (negsuc 0 *ℤ z)) +ℤ negsuc 0
  high_is = form_is env (negsuc 0) ((u, pos 1) ∷ (v, negsuc 0) ∷ []) ∙ omega (arith, ints, count, ap (λ (y : ℤ). negsuc 0 *ℤ y) here)

  -- what the rows say
  pub below_of : rows_hold env (below v u) ≡ true → IsBelow n z
  below_of h =
      let both = parts _ _ h in
      below_from n z _ _ low_is high_is (at_least (pos 0) _ both.0) (at_least (pos 0) _ both.1)

  pub below_holds : (k : ℕ) → z ≡ pos k → k < n → rows_hold env (below v u) ≡ true
  below_holds k e h = together _ _ (reaches (pos 0) _ (not_below k (form_at env (variable v)) (low_is ∙ e))) (reaches (pos 0) _ (not_above n k z (form_at env (affine (negsuc 0) ((u, pos 1) ∷ (v, negsuc 0) ∷ []))) h e high_is))

-- an instruction over i alone, to which the two rows alone apply
pub record IsOver (K : Kernel) (A : Insn) : Type 0 where
  pub inames : A.inames ≡ 1 ∷ []
  pub rows : rows_of K A ≡ below 1 0

-- its instance at a number
abbrev pub at : Insn → ℕ → Instance
at A k = record { insn = A; numbers = pos k ∷ [] }

module _ (K : Kernel) (a : Arguments) (n : ℕ) (count : params_at K a 0 ≡ pos n) where
  one_number : (A : Insn) → IsOver K A → (zs : List ℤ) → length zs ≡ 1 → rows_hold (given A.inames zs (params_at K a)) (rows_of K A) ≡ true → (k : ℕ) × (k < n) × (at A k ≡ record { insn = A; numbers = zs })
  one_number A over [] l h = absurd (omega (arith, l))
  one_number A over (z ∷ y ∷ zs) l h = absurd (let no : suc (suc (length zs)) ≡ 1 = l in omega (arith, no))
  one_number A over (z ∷ []) l h =
      let one = below_of (given A.inames (z ∷ []) (params_at K a)) 1 0 n z (ap (λ (us : List ℕ). given us (z ∷ []) (params_at K a) 0) over.inames ∙ count)
      (ap (λ (us : List ℕ). given us (z ∷ []) (params_at K a) 1) over.inames) (sym (ap (rows_hold (given A.inames (z ∷ []) (params_at K a))) over.rows) ∙ h) in
      (one.number, one.less, ap (λ (y : ℤ). record { insn = A; numbers = y ∷ [] }) (sym one.is))

  -- each of its instances is the one at a number below the count
  pub instance_is : (A : Insn) → IsOver K A → (x : Instance) → A ≡ x.insn → IsInstance K a x → (k : ℕ) × (k < n) × (at A k ≡ x)
  instance_is A over x e is =
      let over' : IsOver K x.insn = subst (λ (B : Insn). IsOver K B) e over in
      let one = one_number x.insn over' x.numbers (is.numbers ∙ ap length over'.inames) is.rows in
      (one.0, one.1, ap (λ (B : Insn). at B one.0) e ∙ one.2)

  -- and there is one at each such number
  pub is_instance : (A : Insn) → IsOver K A → Has K.insns A → (k : ℕ) → k < n → IsInstance K a (at A k)
  is_instance A over h k less = record {
    insn = h;
    numbers = sym (ap length over.inames);
    rows = ap (rows_hold (given A.inames (pos k ∷ []) (params_at K a))) over.rows
        ∙ below_holds (given A.inames (pos k ∷ []) (params_at K a)) 1 0 n (pos k) (ap (λ (us : List ℕ). given us (pos k ∷ []) (params_at K a) 0) over.inames ∙ count)
        (ap (λ (us : List ℕ). given us (pos k ∷ []) (params_at K a) 1) over.inames) k refl less;
  }
