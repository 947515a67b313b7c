-- What is known of a kernel whose expansion is not refused.
use Rattle.std.specs.Prelude.{◌≡◌, ℕ, ◌+◌, ◌≤◌, Bool, true, false, ◌&&◌, ◌||◌, if◌then◌else◌, nat_eq, nat_lt, List, [], ◌∷◌, ◌++◌, flat_map, length, slice_get, Option, Some, None, Result, Ok, Err, OnOk, All}
use Rattle.std.specs.List.{list_all}
use Rattle.std.proofs.Common.{refl, sym, ◌∙◌, arith, inl, inr}
use Rattle.std.proofs.lemmas.Bool.Decides.{nat_tests}
use Rattle.std.proofs.lemmas.List.Elements.{All-nil, All-cons}
use Rattle.std.proofs.lemmas.List.Folds.{list_all-append}
use Rattle.expr_tree.specs.Depth.{depth_of}
use Rattle.kernel_ir.specs.declared.fault.Fault.{Fault}
use Rattle.kernel_ir.specs.declared.fault.Refusal.{Refusal}
use Rattle.kernel_ir.specs.declared.kernel.Kernel.{Kernel}
use Rattle.kernel_ir.specs.declared.kernel.Insn.{Insn}
use Rattle.kernel_ir.specs.declared.kernel.SubstRule.{SubstRule}
use Rattle.kernel_ir.specs.Mentions.{listed, listed_in, calls}
use Rattle.kernel_ir.specs.Valid.{HasArities, params_of, insn_calls}
use Rattle.kernel_ir.specs.Expanded.{expanded}
use Rattle.kernel_ir.specs.Limits.{value_depth, value_of, test_of, depth_of_option, nodes_of, nodes_of_test, IsWithinLimits}
use Rattle.subst_rules.specs.Uses.{calls_in_insn, calls_of}
use Rattle.kernel_limits.specs.Asked.{first_of, first_in, limit_refusal as other_limit, IsSized}
use Rattle.kernel_limits.specs.Laws.{IsShallow}
use Rattle.kernel_limits.proofs.Together.{together}
use Rattle.subst_rules.specs.Refused.{arity, use_refusal, bodies_refusal, insn_refusal, arity_refusal, size_refusal, form_refusal, insn_limit, body_refusal, limit_refusal, RefusesAs, IsCycleOrLimit}
use Rattle.subst_rules.specs.Ready.{IsExpandable}
use Rattle.subst_rules.proofs.Bools.{both, first_of_both, second_of_both}

no_first : (o p : Option Refusal) → first_of o p ≡ None → o ≡ None
no_first None p h = refl
no_first (Some r) p h = h

no_second : (o p : Option Refusal) → first_of o p ≡ None → p ≡ None
no_second None p h = h
no_second (Some r) p h = absurd (cc)

not_refused : (b : Bool) (r : Refusal) → (if b then None else Some r) ≡ None → b ≡ true
not_refused true r h = refl
not_refused false r h = absurd (cc)

module _ (rules : List SubstRule) where
  abbrev is_right : ℕ × ℕ → Bool
  is_right c = nat_eq c.1 (length (params_of (slice_get rules c.0)))

  uses_right : (line : ℕ) (cs : List (ℕ × ℕ)) → first_in (use_refusal rules line) cs ≡ None → list_all is_right cs ≡ true
  uses_right line [] h = refl
  uses_right line (c ∷ cs) h = both (is_right c) (list_all is_right cs) (not_refused (is_right c) (arity rules line c) (no_first (use_refusal rules line c) (first_in (use_refusal rules line) cs) h))
      (uses_right line cs (no_second (use_refusal rules line c) (first_in (use_refusal rules line) cs) h))

  bodies_right : (rs : List SubstRule) → first_in (first_in (use_refusal rules 0)) (calls_of rs) ≡ None → list_all is_right (flat_map (λ r. listed calls r.body) rs) ≡ true
  bodies_right [] h = refl
  bodies_right (r ∷ rs) h = list_all-append is_right (listed calls r.body) (flat_map (λ r. listed calls r.body) rs)
      ∙ both (list_all is_right (listed calls r.body)) (list_all is_right (flat_map (λ r. listed calls r.body) rs))
      (uses_right 0 (listed calls r.body) (no_first (first_in (use_refusal rules 0) (listed calls r.body)) (first_in (first_in (use_refusal rules 0)) (calls_of rs)) h))
      (bodies_right rs (no_second (first_in (use_refusal rules 0) (listed calls r.body)) (first_in (first_in (use_refusal rules 0)) (calls_of rs)) h))

  -- value before predicate, and the other way round
  turned : (xs ys : List (ℕ × ℕ)) → list_all is_right (xs ++ ys) ≡ true → list_all is_right (ys ++ xs) ≡ true
  turned xs ys h =
      let k : (list_all is_right xs && list_all is_right ys) ≡ true = sym (list_all-append is_right xs ys) ∙ h in
      list_all-append is_right ys xs ∙ both (list_all is_right ys) (list_all is_right xs) (second_of_both (list_all is_right xs) (list_all is_right ys) k) (first_of_both (list_all is_right xs) (list_all is_right ys) k)

  abbrev both_of : Insn → List (ℕ × ℕ)
  both_of A = listed_in calls A.test ++ listed calls A.value

  insns_right : (As : List Insn) → first_in (insn_refusal rules) As ≡ None → list_all is_right (flat_map both_of As) ≡ true
  insns_right [] h = refl
  insns_right (A ∷ As) h = list_all-append is_right (both_of A) (flat_map both_of As)
      ∙ both (list_all is_right (both_of A)) (list_all is_right (flat_map both_of As))
      (turned (listed calls A.value) (listed_in calls A.test) (uses_right A.line (calls_in_insn A) (no_first (insn_refusal rules A) (first_in (insn_refusal rules) As) h)))
      (insns_right As (no_second (insn_refusal rules A) (first_in (insn_refusal rules) As) h))

all_right : (K : Kernel) → arity_refusal K ≡ None → HasArities K
all_right K h =
    list_all-append (is_right K.rules) (flat_map (λ r. listed calls r.body) K.rules) (insn_calls K)
    ∙ both (list_all (is_right K.rules) (flat_map (λ r. listed calls r.body) K.rules)) (list_all (is_right K.rules) (insn_calls K))
    (bodies_right K.rules K.rules (no_first (bodies_refusal K.rules) (first_in (insn_refusal K.rules) K.insns) h))
    (insns_right K.rules K.insns (no_second (bodies_refusal K.rules) (first_in (insn_refusal K.rules) K.insns) h))

-- ---- sizes

not_more : (most n : ℕ) → nat_lt most n ≡ false → n ≤ most
not_more most n h = grind (arith, nat_tests, h)

neither_first : (p q : Bool) → (p || q) ≡ false → p ≡ false
neither_first true q h = h
neither_first false q h = refl

neither_second : (p q : Bool) → (p || q) ≡ false → q ≡ false
neither_second true q h = absurd (cc)
neither_second false q h = h

first_test : (p q : Bool) (r s : Refusal) → (if p then Some r else (if q then Some s else None)) ≡ None → p ≡ false
first_test true q r s h = absurd (cc)
first_test false q r s h = refl

second_test : (p q : Bool) (r s : Refusal) → (if p then Some r else (if q then Some s else None)) ≡ None → q ≡ false
second_test true q r s h = absurd (cc)
second_test false true r s h = absurd (cc)
second_test false false r s h = refl

module _ (K : Kernel) where
  small : (A : Insn) (r s : Refusal) → (if nat_lt 64 (value_depth A.storing (depth_of (value_of K A))) || nat_lt 64 (depth_of_option (test_of K A)) then Some r else (if nat_lt 4096 (nodes_of_test (test_of K A) + nodes_of (value_of K A)) then Some s else None)) ≡ None → IsShallow K A
  small A r s h =
      let deep : Bool = nat_lt 64 (value_depth A.storing (depth_of (value_of K A))) in
      let deep_test : Bool = nat_lt 64 (depth_of_option (test_of K A)) in
      let many : Bool = nat_lt 4096 (nodes_of_test (test_of K A) + nodes_of (value_of K A)) in
      let none = first_test (deep || deep_test) many r s h in
      record {
        value_depth = not_more 64 (value_depth A.storing (depth_of (value_of K A))) (neither_first deep deep_test none);
        test_depth = not_more 64 (depth_of_option (test_of K A)) (neither_second deep deep_test none);
        nodes = not_more 4096 (nodes_of_test (test_of K A) + nodes_of (value_of K A)) (second_test (deep || deep_test) many r s h);
      }

  all_small : (As : List Insn) → first_in (insn_limit K) As ≡ None → All (IsShallow K) As
  all_small [] h = All-nil (IsShallow K)
  all_small (A ∷ As) h = All-cons (IsShallow K) A As
      (small A _ _ (no_first (size_refusal K A) (form_refusal K A) (no_first (insn_limit K A) (first_in (insn_limit K) As) h)))
      (all_small As (no_second (insn_limit K A) (first_in (insn_limit K) As) h))

  shallow_body : (b : Bool) (r : Refusal) → (if b then Some r else None) ≡ None → b ≡ false
  shallow_body true r h = absurd (cc)
  shallow_body false r h = refl

  all_shallow : (rs : List SubstRule) → first_in (body_refusal K) rs ≡ None → All (λ r. depth_of (expanded K r.body) ≤ 64) rs
  all_shallow [] h = All-nil (λ r. depth_of (expanded K r.body) ≤ 64)
  all_shallow (r ∷ rs) h = All-cons (λ r. depth_of (expanded K r.body) ≤ 64) r rs
      (not_more 64 (depth_of (expanded K r.body)) (shallow_body (nat_lt 64 (depth_of (expanded K r.body))) _ (no_first (body_refusal K r) (first_in (body_refusal K) rs) h)))
      (all_shallow rs (no_second (body_refusal K r) (first_in (body_refusal K) rs) h))

  within_limits : limit_refusal K ≡ None → IsSized K → IsWithinLimits K
  within_limits h sized =
      let bodies = no_first (first_in (body_refusal K) K.rules) (first_of (first_in (insn_limit K) K.insns) (other_limit K)) h in
      let later = no_second (first_in (body_refusal K) K.rules) (first_of (first_in (insn_limit K) K.insns) (other_limit K)) h in
      together K sized (all_shallow K.rules bodies) (all_small K.insns (no_first (first_in (insn_limit K) K.insns) (other_limit K) later))

  ready_within : HasArities K → IsCycleOrLimit K None → IsSized K → IsExpandable K
  ready_within arities (inl (none, limits)) sized = record { arities = arities; acyclic = none; within = within_limits (sym limits) sized }
  ready_within arities (inr cycle) sized = absurd (let e = cycle.2 in cc)

  pub ready_on : {T : Type 0} (result : Result T Fault) → arity_refusal K ≡ None → RefusesAs (IsCycleOrLimit K) result → OnOk result (IsSized K) → OnOk result (IsExpandable K)
  ready_on (Ok answer) none h sized = ready_within (all_right K none) h sized
  ready_on (Err f) none h sized = tt
