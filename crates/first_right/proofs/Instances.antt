-- The instances of a kernel of the one form: one for each number below the count.
use Rattle.std.specs.Prelude.{◌≡◌, ◌⊎◌, ℕ, zero, suc, ◌^◌, ◌<◌, ◌≤◌, ℤ, pos, negsuc, ◌+ℤ◌, ◌*ℤ◌, ◌≤ℤ◌, ◌<ℤ◌, Bool, true, false, ◌&&◌, int_le, List, [], ◌∷◌, length, map, None}
use Rattle.std.proofs.Common.{refl, sym, ap, ◌∙◌, rules, arith, subst, true≢false, inl, inr}
use Rattle.std.proofs.lemmas.Int.{ints}
use Rattle.wrap_words.specs.declared.kind.Word.{Word}
use Rattle.affine_rows.specs.declared.quasi.Quasi.{Quasi, fold-roll-Quasi}
use Rattle.affine_rows.specs.Rows.{Env}
use Rattle.affine_rows.specs.Forms.{affine, form_at}
use Rattle.expr_tree.specs.Scenes.{given, row_holds, rows_hold}
use Rattle.kernel_ir.specs.declared.kernel.Insn.{Insn}
use Rattle.kernel_ir.specs.declared.kernel.Kernel.{Kernel}
use Rattle.step_orders.specs.Orders.{Has}
use Rattle.inst_model.specs.Arguments.{Arguments, params_at}
use Rattle.inst_model.specs.Instances.{Instance, IsInstance, rows_of, scene_of}
use Rattle.first_form.specs.declared.form.FirstForm.{FirstForm}
use Rattle.first_form.specs.Kernels.{iname_form, the_store, kernel_of}
use Rattle.first_right.proofs.Given.{form_is, variable_is, arguments_of}

-- the instance at a number
abbrev pub at : ℕ → ℤ → Instance
at factor z = record { insn = the_store factor; numbers = z ∷ [] }

-- the instruction has both domain rows
pub rows_are : (f : FirstForm) → rows_of (kernel_of f) (the_store f.factor) ≡ (kernel_of f).rows
rows_are f = simp fold-roll-Quasi refl

-- a number from 0 on and below the count
pub record IsBelow (n : ℕ) (z : ℤ) : Type 0 where
  pub number : ℕ
  pub is : z ≡ pos number
  pub less : number < n

abbrev both_hold : ℤ → ℤ → Bool
both_hold low high = int_le (pos 0) low && (int_le (pos 0) high && true)

at_least : (a b : ℤ) → int_le a b ≡ true → a ≤ℤ b
at_least a b h = grind (arith, ints)

reaches : (a b : ℤ) → a ≤ℤ b → int_le a b ≡ true
reaches a b h = grind (arith, ints)

parts : (p q : Bool) → (p && (q && true)) ≡ true → (p ≡ true) × (q ≡ true)
parts true true h = (refl, refl)
parts true false h = absurd (true≢false (sym h))
parts false q h = absurd (true≢false (sym h))

together : (p q : Bool) → p ≡ true → q ≡ true → (p && (q && true)) ≡ true
together p q e g = rw (e, g) refl

less_than : (n k : ℕ) (high : ℤ) → high ≡ (pos n +ℤ (negsuc 0 *ℤ pos k)) +ℤ negsuc 0 → pos 0 ≤ℤ high → k < n
less_than n k high g h = omega (arith, ints, g, h)

not_negative : (k : ℕ) (low : ℤ) → low ≡ negsuc k → pos 0 ≤ℤ low → ⊥
not_negative k low e h = omega (arith, ints, e, h)

below_from : (n : ℕ) (z low high : ℤ) → low ≡ z → high ≡ (pos n +ℤ (negsuc 0 *ℤ z)) +ℤ negsuc 0 → both_hold low high ≡ true → IsBelow n z
below_from n (pos k) low high e g h = record { number = k; is = refl; less = less_than n k high g (at_least (pos 0) high (parts _ _ h).1) }
below_from n (negsuc k) low high e g h = absurd (not_negative k low e (at_least (pos 0) low (parts _ _ h).0))

below_holds : (n k : ℕ) (low high : ℤ) → k < n → low ≡ pos k → high ≡ (pos n +ℤ (negsuc 0 *ℤ pos k)) +ℤ negsuc 0 → both_hold low high ≡ true
below_holds n k low high h e g = together _ _ (reaches (pos 0) low (omega (arith, ints, e))) (reaches (pos 0) high (omega (arith, ints, g, h)))

abbrev upper_form : Quasi
upper_form = affine (negsuc 0) ((0, pos 1) ∷ (1, negsuc 0) ∷ [])

upper_is : (env : Env) (n : ℕ) (z : ℤ) → env 0 ≡ pos n → env 1 ≡ z → form_at env upper_form ≡ (pos n +ℤ (negsuc 0 *ℤ z)) +ℤ negsuc 0
upper_is env n z e g = form_is env (negsuc 0) ((0, pos 1) ∷ (1, negsuc 0) ∷ []) ∙ omega (arith, ints, e, ap (λ (y : ℤ). negsuc 0 *ℤ y) g)

module _ (f : FirstForm) (n : ℕ) (words outs : List Word) where
  abbrev K : Kernel
  K = kernel_of f

  abbrev a : Arguments
  a = arguments_of (pos n) words outs

  abbrev env_at : ℤ → Env
  env_at z = (scene_of K a (at f.factor z)).env

  low_is : (z : ℤ) → form_at (env_at z) iname_form ≡ z
  low_is z = variable_is (env_at z) 1 z refl

  high_is : (z : ℤ) → form_at (env_at z) upper_form ≡ (pos n +ℤ (negsuc 0 *ℤ z)) +ℤ negsuc 0
  high_is z = upper_is (env_at z) n z refl refl

  one_number : (zs : List ℤ) → IsInstance K a (record { insn = the_store f.factor; numbers = zs }) → (z : ℤ) × (zs ≡ z ∷ []) × IsBelow n z
  one_number [] h = let no : 0 ≡ 1 = h.numbers in absurd (omega (arith, no))
  one_number (z ∷ y ∷ zs) h = let no : suc (suc (length zs)) ≡ 1 = h.numbers in absurd (omega (arith, no))
  one_number (z ∷ []) h = (z, refl, below_from n z _ _ (low_is z) (high_is z) (sym (ap (rows_hold (env_at z)) (rows_are f)) ∙ h.rows))

  from_store : (x : Instance) → the_store f.factor ≡ x.insn → IsInstance K a x → (k : ℕ) × (k < n) × (x ≡ at f.factor (pos k))
  from_store x e h =
      let one = one_number x.numbers (subst (λ (i : Insn). IsInstance K a (record { insn = i; numbers = x.numbers })) (sym e) h) in (
        one.2.number,
        one.2.less,
        ap (λ (i : Insn). record { insn = i; numbers = x.numbers }) (sym e)
            ∙ ap (λ (zs : List ℤ). record { insn = the_store f.factor; numbers = zs }) (one.1 ∙ ap (λ (z : ℤ). z ∷ []) one.2.is),
      )

  -- each instance is the one at a number below the count
  pub instance_is : (x : Instance) → IsInstance K a x → (k : ℕ) × (k < n) × (x ≡ at f.factor (pos k))
  instance_is x h = elim h.insn [
    | inl e ↦ from_store x e h
    | inr other ↦ absurd other
  ]

  -- and there is one at each such number
  pub is_instance : (k : ℕ) → k < n → IsInstance K a (at f.factor (pos k))
  is_instance k h = record {
    insn = inl refl;
    numbers = refl;
    rows = ap (rows_hold (env_at (pos k))) (rows_are f) ∙ below_holds n k _ _ h (low_is (pos k)) (high_is (pos k));
  }
