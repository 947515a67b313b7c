-- What may be meant in a kernel may stand in its expressions, and what names stand for may be meant.
use Rattle.std.proofs.Common.{◌≡◌, ℕ, true, false, not, ◌&&◌, nat_eq, nat_lt, List, [], ◌∷◌, ◌++◌, length, sym, ◌∙◌}
use Rattle.std.specs.List.{list_all}
use Rattle.std.proofs.lemmas.Bool.{and_from, true≢false}
use Rattle.std.proofs.lemmas.List.Folds.{list_any-append}
use Rattle.expr_tree.specs.declared.tree.Cell.{Cell}
use Rattle.expr_tree.specs.Scenes.{is_among}
use Rattle.kernel_ir.specs.declared.kernel.Kernel.{Kernel}
use Rattle.kernel_ir.specs.NameSpace.{iname_vars}
use Rattle.kernel_ir.specs.Mentions.{has_cell}
use Rattle.kernel_ir.specs.Valid.{in_insn, in_rule}
use Rattle.untyped.specs.declared.scope.Role.TheVariants as role
use Rattle.untyped.specs.Readings.{Roles}
use Rattle.kernel_formed.specs.Sound.{FitsRoles, Permits}
use Rattle.kernel_formed.specs.Meanings.{meant_in_insns, meant_over}
use Rattle.kernel_formed.proofs.Scopes.{or_first, or_second, passes_both}

pub insns_permit : (K : Kernel) → Permits (meant_in_insns K) (in_insn K)
insns_permit K = record {
  read = λ c n h. h;
  call = λ r n h. h;
  fold = λ scope inames some known new. and_from (nat_lt 0 (length inames)) (list_all (λ v. is_among (iname_vars K) v && not (is_among scope v)) inames) some
      (passes_both (is_among (iname_vars K)) (λ v. not (is_among scope v)) (λ v. is_among (iname_vars K) v && not (is_among scope v))
      (λ v. and_from (is_among (iname_vars K) v) (not (is_among scope v))) inames known new);
}

-- no reduction is over inames of which none may be meant
none_meant : {P : Type 0} (inames : List ℕ) → nat_lt 0 (length inames) ≡ true → list_all (λ v. false) inames ≡ true → P
none_meant [] some h = absurd (true≢false (sym some))
none_meant (v ∷ vs) some h = absurd (true≢false (sym h))

pub over_permits : (K : Kernel) (own : List ℕ) → Permits (meant_over K own) (in_rule K)
over_permits K own = record { read = λ c n h. h; call = λ r n h. h; fold = λ scope inames some known new. none_meant inames some known }

-- ---- names that stand for what is in the kernel

module _ (K : Kernel) (roles : Roles) (cell : (name : List ℕ) (c : Cell) (n : ℕ) → roles name ≡ role.Cell c n → has_cell K c n ≡ true)
    (rule : (name : List ℕ) (r : ℕ) → roles name ≡ role.Rule r → nat_lt r (length K.rules) ≡ true) where
  pub fits_in_insns : ((name : List ℕ) (v : ℕ) → roles name ≡ role.Parameter v → is_among K.params v ≡ true)
      → ((name : List ℕ) (v : ℕ) → roles name ≡ role.Iname v → is_among (iname_vars K) v ≡ true) → FitsRoles roles (meant_in_insns K)
  fits_in_insns parameter iname = record {
    parameter = λ name v is. list_any-append (λ u. nat_eq u v) K.params (iname_vars K)
        ∙ or_first (is_among K.params v) (is_among (iname_vars K) v) (parameter name v is);
    iname_var = λ name v is. list_any-append (λ u. nat_eq u v) K.params (iname_vars K)
        ∙ or_second (is_among K.params v) (is_among (iname_vars K) v) (iname name v is);
    iname = iname;
    cell = cell;
    rule = rule;
  }

  pub fits_over : (own : List ℕ) → ((name : List ℕ) (v : ℕ) → roles name ≡ role.Parameter v → is_among (own ++ K.params) v ≡ true)
      → ((name : List ℕ) (v : ℕ) → roles name ≡ role.Iname v → ⊥) → FitsRoles roles (meant_over K own)
  fits_over own parameter no_iname = record {
    parameter = parameter;
    iname_var = λ name v is. absurd (no_iname name v is);
    iname = λ name v is. absurd (no_iname name v is);
    cell = cell;
    rule = rule;
  }
