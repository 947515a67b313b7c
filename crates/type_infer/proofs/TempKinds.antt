-- The kinds of temporaries depend only on what is stored to those that there are.
use Rattle.std.proofs.Common.{◌≡◌, ℕ, zero, suc, ◌<◌, ◌≤◌, length, slice_get, Option, None, refl, sym, ap, ◌∙◌, ⊎_elim}
use Rattle.std.proofs.Math.Path.{fun_ext}
use Rattle.std.proofs.lemmas.Bool.{cases_lt}
use Rattle.std.proofs.lemmas.Option.{slice_get_past}
use Rattle.kernel_ir.specs.declared.kernel.Kernel.{Kernel}
use Rattle.kind_faults.specs.declared.leads.Leading.{Leading}
use Rattle.type_infer.specs.Inferred.{kind_to, kind_by, leading_kind, own_kind}

-- a temporary that is not there has none
pub no_kind : (K : Kernel) (stored : ℕ → Option Leading) (n t : ℕ) → length K.temps ≤ t → kind_to K stored n t ≡ None
no_kind K stored zero t past = refl
no_kind K stored (suc n) t past = ap (λ o. own_kind o (leading_kind K (kind_to K stored n) (stored t))) (slice_get_past K.temps t past)

module _ (K : Kernel) (stored other : ℕ → Option Leading) (same : (t : ℕ) → t < length K.temps → stored t ≡ other t) where
  at_depth : (n t : ℕ) → kind_to K stored n t ≡ kind_to K other n t
  at_depth zero t = refl
  at_depth (suc n) t = ⊎_elim
      (λ there. ap (λ l. own_kind (slice_get K.temps t) (leading_kind K (kind_to K stored n) l)) (same t there)
      ∙ ap (λ kind. own_kind (slice_get K.temps t) (leading_kind K kind (other t))) (fun_ext (at_depth n)))
      (λ past. no_kind K stored (suc n) t past ∙ sym (no_kind K other (suc n) t past))
      (cases_lt t (length K.temps))

  pub same_kinds : (t : ℕ) → kind_by K stored t ≡ kind_by K other t
  same_kinds = at_depth (length K.temps)
