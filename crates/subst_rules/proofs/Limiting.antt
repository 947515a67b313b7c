-- What the table of sizes refuses is what the sizes of expanded trees refuse.
use Rattle.std.specs.Prelude.{◌≡◌, ℕ, ◌+◌, min, pos, Bool, ◌||◌, if◌then◌else◌, nat_lt, List, [], ◌∷◌, codes, length, Option, Some, None, Result, Ok, Err}
use Rattle.std.proofs.Common.{refl, sym, ap, ap₂, ◌∙◌, subst, arith, inl, inr}
use Rattle.std.proofs.lemmas.Bool.Decides.{nat_tests}
use Rattle.expr_tree.specs.declared.tree.Test.{Test}
use Rattle.expr_tree.specs.Depth.{depth_of}
use Rattle.kernel_ir.specs.declared.fault.Fault.{Fault}
use Rattle.kernel_ir.specs.declared.fault.Fault.TheVariants.{OutOfMemory, Rule}
use Rattle.kernel_ir.specs.declared.fault.Refusal.{Refusal}
use Rattle.kernel_ir.specs.declared.kernel.Kernel.{Kernel}
use Rattle.kernel_ir.specs.declared.kernel.Insn.{Insn}
use Rattle.kernel_ir.specs.declared.kernel.SubstRule.{SubstRule}
use Rattle.kernel_ir.specs.declared.kernel.Storing.{Storing}
use Rattle.kernel_ir.specs.declared.kernel.Storing.TheVariants.{Plain, Update}
use Rattle.kernel_ir.specs.Valid.{HasNoRuleCycle}
use Rattle.kernel_ir.specs.Limits.{value_depth, value_of, test_of, depth_of_option, nodes_of, nodes_of_test}
use Rattle.kernel_ir.specs.Expanded.{expanded, expanded_test}
use Rattle.kernel_ir.specs.Refusals.{Refuses}
use Rattle.subst_rules.specs.declared.sizes.Size.{Size}
use Rattle.subst_rules.specs.Sizes.{capped, sizes_of}
use Rattle.kernel_limits.specs.Asked.{first_of, first_in}
use Rattle.subst_rules.specs.Refused.{RefusesAs, body_refusal, size_refusal, body_refusal_by, option_size, sizes_refusal, size_refusal_by, too_deep, limit_at, limit_refusal, IsCycleRefusal, IsCycleOrLimit, IsExpansionRefusal, arity_refusal, after}
use Rattle.subst_rules.proofs.SizeLaws.{size_to, test_size_to}

pub same_in : {X : Type 0} (f g : X → Option Refusal) → ((x : X) → f x ≡ g x) → (xs : List X) → first_in f xs ≡ first_in g xs
same_in f g same [] = refl
same_in f g same (x ∷ xs) = ap₂ first_of (same x) (same_in f g same xs)

deep : (d : ℕ) → nat_lt 64 (min d 65) ≡ nat_lt 64 d
deep d = grind (arith, nat_tests)

deep_value : (s : Storing) (d : ℕ) → nat_lt 64 (value_depth s (min d 65)) ≡ nat_lt 64 (value_depth s d)
deep_value Plain d = deep d
deep_value (Update op) d = grind (arith, nat_tests)

many : (n m : ℕ) → nat_lt 4096 (min n 4097 + min m 4097) ≡ nat_lt 4096 (n + m)
many n m = grind (arith, nat_tests)

pick : ℕ → Bool → Bool → Option Refusal
pick line deep many = if deep then Some (too_deep line) else (if many then Some (limit_at line (codes "nodes") (pos 4096)) else None)

capped_refusal : (A : Insn) (d n e m : ℕ) → sizes_refusal A (capped d n) (capped e m) ≡ pick A.line (nat_lt 64 (value_depth A.storing d) || nat_lt 64 e) (nat_lt 4096 (m + n))
unfolding pick
capped_refusal A d n e m = ap₂ (pick A.line) (ap₂ (λ (p q : Bool). p || q) (deep_value A.storing d) (deep e)) (many m n)

module _ (K : Kernel) where
  test_sizes : (o : Option Test) → option_size (sizes_of K.rules) o ≡ capped (depth_of_option (expanded_test K o)) (nodes_of_test (expanded_test K o))
  test_sizes None = refl
  test_sizes (Some t) = sym (test_size_to K (length K.rules) t)

  pub by_sizes : (A : Insn) → size_refusal_by (sizes_of K.rules) A ≡ size_refusal K A
  unfolding pick
  by_sizes A = ap₂ (sizes_refusal A) (sym (size_to K (length K.rules) A.value)) (test_sizes A.test)
      ∙ capped_refusal A (depth_of (value_of K A)) (nodes_of (value_of K A)) (depth_of_option (test_of K A)) (nodes_of_test (test_of K A))

  body_by_size : (r : SubstRule) → body_refusal_by (sizes_of K.rules) r ≡ body_refusal K r
  body_by_size r =
      ap (λ (s : Size). if nat_lt 64 s.depth then Some (too_deep 0) else None) (sym (size_to K (length K.rules) r.body))
      ∙ ap (λ (b : Bool). if b then Some (too_deep 0) else None) (deep (depth_of (expanded K r.body)))

  pub bodies_by_size : first_in (body_refusal_by (sizes_of K.rules)) K.rules ≡ first_in (body_refusal K) K.rules
  bodies_by_size = same_in (body_refusal_by (sizes_of K.rules)) (body_refusal K) body_by_size K.rules

  -- ---- one refusal after the other

  pub cycle_refused : (T : Type 0) (f : Fault) → RefusesAs {T = T} (IsCycleRefusal K) (Err f) → RefusesAs {T = T} (IsCycleOrLimit K) (Err f)
  cycle_refused T OutOfMemory h = tt
  cycle_refused T (Rule r) h = inr (h.0, h.1, ap Some h.2)

  pub limit_refused : {T : Type 0} (result : Result T Fault) → HasNoRuleCycle K → Refuses (limit_refusal K) result → RefusesAs (IsCycleOrLimit K) result
  limit_refused (Ok answer) none h = inl (none, sym h)
  limit_refused (Err OutOfMemory) none h = tt
  limit_refused (Err (Rule r)) none h = inl (none, sym h)

  pub arity_refused : (T : Type 0) (f : Fault) → Refuses {T = T} (arity_refusal K) (Err f) → RefusesAs {T = T} (IsExpansionRefusal K) (Err f)
  arity_refused T OutOfMemory h = tt
  arity_refused T (Rule r) h = subst (λ (o : Option Refusal). after o (IsCycleOrLimit K) (Some r)) (sym h) refl

  pub later_refused : {T : Type 0} (result : Result T Fault) → arity_refusal K ≡ None → RefusesAs (IsCycleOrLimit K) result → RefusesAs (IsExpansionRefusal K) result
  later_refused (Ok answer) none h = subst (λ (o : Option Refusal). after o (IsCycleOrLimit K) None) (sym none) h
  later_refused (Err OutOfMemory) none h = tt
  later_refused (Err (Rule r)) none h = subst (λ (o : Option Refusal). after o (IsCycleOrLimit K) (Some r)) (sym none) h
