-- The expanded kernel of a formed kernel is formed and uses no rules.
use Rattle.std.specs.Prelude.{◌≡◌, ℕ, nat_eq, bytes_eq, Bool, true, false, ◌&&◌, ◌||◌, if◌then◌else◌, List, [], ◌∷◌, ◌++◌, map, flat_map, length, slice_get, Option, Some, None, All}
use Rattle.std.specs.List.{list_all, list_any}
use Rattle.std.proofs.Common.{refl, sym, ap, ap₂, ◌∙◌, append-nil, append_assoc}
use Rattle.std.proofs.lemmas.List.Folds.{list_all-append, list_any-append}
use Rattle.std.proofs.lemmas.List.Elements.{All-nil, All-cons, All-head, All-tail}
use Rattle.expr_tree.specs.declared.tree.Cell.{Cell}
use Rattle.expr_tree.specs.declared.tree.Cell.TheVariants.{Array, Temp}
use Rattle.expr_tree.specs.declared.tree.Test.{Test}
use Rattle.expr_tree.specs.declared.tree.Expr.{Expr}
use Rattle.expr_tree.specs.Scenes.{is_among}
use Rattle.expr_tree.specs.Keeping.{is_made_of, test_is_made_of}
use Rattle.kernel_ir.specs.declared.kernel.Kernel.{Kernel}
use Rattle.kernel_ir.specs.declared.kernel.Insn.{Insn}
use Rattle.kernel_ir.specs.declared.kernel.SubstRule.{SubstRule}
use Rattle.kernel_ir.specs.Expanded.{expanded_test}
use Rattle.kernel_ir.specs.Limits.{value_of, test_of, all_inames, fold_count}
use Rattle.kernel_ir.specs.Mentions.{is_allowed, is_allowed_test, listed, listed_in, listed_in_test, calls}
use Rattle.kernel_ir.specs.NameSpace.{all_differ, HasNames, name_of, iname_vars, declared_names}
use Rattle.kernel_ir.specs.Valid.{IsFormed, IsRule, IsInsn, HasArities, HasNoRuleCycle, insn_calls, body_calls, in_insn, in_rule, may_store, test_allowed}
use Rattle.kernel_limits.specs.Asked.{expanded_insn}
use Rattle.subst_rules.specs.Kernels.{expanded_kernel}
use Rattle.subst_rules.proofs.Bools.{both, first_of_both, second_of_both, either_first}
use Rattle.expanded_values.proofs.Passing.{passing, passes, passes_test}
use Rattle.expanded_values.proofs.Standing.{is_right}
use Rattle.expanded_values.proofs.Rules.{at_place, each_body, all_uses}
use Rattle.expanded_values.proofs.Ends.{ends, all_end}
use Rattle.expanded_values.proofs.Kept.{of_folds, listed_to, listed_in_test_to}
use Rattle.expanded_values.proofs.NoUses.{allowed_passes, allowed_test_passes, all_three, never, is_known, is_good, free_to, test_free_to}
use Rattle.expanded_values.proofs.Allowed.{Covers, same_cells, allowed_to, test_allowed_to}

nil_of : (cs : List (ℕ × ℕ)) → list_all never cs ≡ true → cs ≡ []
nil_of [] h = refl
nil_of (c ∷ cs) h = absurd (let clash : false ≡ true = h in cc)

-- ---- fewer names

some_less : {X : Type 0} (p : X → Bool) (xs ys : List X) → list_all p (xs ++ ys) ≡ true → list_all p xs ≡ true
some_less p xs ys h = first_of_both (list_all p xs) (list_all p ys) (sym (list_all-append p xs ys) ∙ h)

differ_less : {X : Type 0} (same : X → X → Bool) (xs ys : List X) → all_differ same (xs ++ ys) ≡ true → all_differ same xs ≡ true
differ_less same [] ys h = refl
differ_less same (x ∷ xs) ys h =
    both (list_all (λ y. if same x y then false else true) xs) (all_differ same xs)
    (some_less (λ y. if same x y then false else true) xs ys (first_of_both (list_all (λ y. if same x y then false else true) (xs ++ ys)) (all_differ same (xs ++ ys)) h))
    (differ_less same xs ys (second_of_both (list_all (λ y. if same x y then false else true) (xs ++ ys)) (all_differ same (xs ++ ys)) h))

-- without what stands last
without_last : {X : Type 0} (ws xs ys zs : List X) → ws ++ (xs ++ (ys ++ zs)) ≡ (ws ++ (xs ++ (ys ++ []))) ++ zs
without_last {X} ws xs ys zs =
    ap (λ (l : List X). ws ++ l) (sym (append_assoc xs ys zs)) ∙ (sym (append_assoc ws (xs ++ ys) zs) ∙ ap (λ (l : List X). (ws ++ (xs ++ l)) ++ zs) (sym (append-nil ys)))

module _ (K : Kernel) (names : HasNames K) where
  names_less : declared_names K ≡ declared_names (expanded_kernel K) ++ map (λ r. r.name) K.rules
  names_less = without_last (map (name_of K) (K.params ++ iname_vars K)) (map (λ a. a.name) K.arrays) (map (λ t. t.name) K.temps) (map (λ r. r.name) K.rules)

  names_kept : HasNames (expanded_kernel K)
  names_kept = record {
    distinct = names.distinct;
    identifiers = names.identifiers;
    params = names.params;
    inames = names.inames;
    known = some_less (λ n. list_any (bytes_eq n) K.names) (declared_names (expanded_kernel K)) (map (λ r. r.name) K.rules) (ap (list_all (λ (n : List ℕ). list_any (bytes_eq n) K.names)) (sym names_less) ∙ names.known);
    differ = differ_less bytes_eq (declared_names (expanded_kernel K)) (map (λ r. r.name) K.rules) (ap (all_differ bytes_eq) (sym names_less) ∙ names.differ);
  }

-- ---- ids

ids_kept : (K : Kernel) (As : List Insn) → map (λ A. A.id) (map (expanded_insn K) As) ≡ map (λ A. A.id) As
ids_kept K [] = refl
ids_kept K (A ∷ As) = ap (λ (ns : List (List ℕ)). A.id ∷ ns) (ids_kept K As)

is_id : (K : Kernel) (d : List ℕ) (As : List Insn) → list_any (λ B. bytes_eq d B.id) (map (expanded_insn K) As) ≡ list_any (λ B. bytes_eq d B.id) As
is_id K d [] = refl
is_id K d (A ∷ As) = ap (λ (b : Bool). bytes_eq d A.id || b) (is_id K d As)

deps_kept : (K : Kernel) (As : List Insn) (ds : List (List ℕ)) → list_all (λ d. list_any (λ B. bytes_eq d B.id) (map (expanded_insn K) As)) ds ≡ list_all (λ d. list_any (λ B. bytes_eq d B.id) As) ds
deps_kept K As [] = refl
deps_kept K As (d ∷ ds) = ap₂ (λ (a b : Bool). a && b) (is_id K d As) (deps_kept K As ds)

-- ---- cells

same_stored : (K : Kernel) (cell : Cell) → may_store (expanded_kernel K) cell ≡ may_store K cell
same_stored K (Array m) = refl
same_stored K (Temp m) = refl

-- ---- a formed kernel without a cycle of rules

module _ (K : Kernel) (formed : IsFormed K) (arities : HasArities K) (acyclic : HasNoRuleCycle K) where
  pub bodies_allowed : (rule : ℕ) (r : SubstRule) → slice_get K.rules rule ≡ Some r → is_allowed (in_rule K) r.body (r.params ++ K.params) ≡ true
  bodies_allowed rule r is = (let own : IsRule K r = at_place (IsRule K) K.rules rule r formed.rules is in own.body)

  body_uses : (rule : ℕ) (r : SubstRule) → slice_get K.rules rule ≡ Some r → (list_all (is_right K) (listed calls r.body) && list_all (is_known K) (listed calls r.body)) ≡ true
  body_uses rule r is =
      both (list_all (is_right K) (listed calls r.body)) (list_all (is_known K) (listed calls r.body))
      (at_place (λ r. list_all (is_right K) (listed calls r.body) ≡ true) K.rules rule r (each_body (is_right K) K.rules (first_of_both (list_all (is_right K) (flat_map (λ r. listed calls r.body) K.rules)) (list_all (is_right K) (insn_calls K)) (all_uses K arities))) is)
      (passes (is_known K) r.body ∙ allowed_passes (in_rule K) (is_known K) (λ rule n h. h) r.body (r.params ++ K.params) (bodies_allowed rule r is))

  known_of : (rule : ℕ) (o : Option SubstRule) → slice_get K.rules rule ≡ o → list_all (is_known K) (body_calls o) ≡ true
  known_of rule None is = refl
  known_of rule (Some r) is = second_of_both (list_all (is_right K) (listed calls r.body)) (list_all (is_known K) (listed calls r.body)) (body_uses rule r is)

  ends_list : (cs : List (ℕ × ℕ)) → list_all (is_known K) cs ≡ true → list_all (λ c. ends K (length K.rules) c.0) cs ≡ true
  ends_list [] h = refl
  ends_list (c ∷ cs) h = both (ends K (length K.rules) c.0) (list_all (λ c. ends K (length K.rules) c.0) cs)
      (all_end K acyclic (λ rule. known_of rule (slice_get K.rules rule) refl) c.0 (first_of_both (is_known K c) (list_all (is_known K) cs) h)) (ends_list cs (second_of_both (is_known K c) (list_all (is_known K) cs) h))

  good_list : (cs : List (ℕ × ℕ)) → list_all (is_right K) cs ≡ true → list_all (is_known K) cs ≡ true → list_all (is_good K (length K.rules)) cs ≡ true
  good_list cs right known = all_three (is_right K) (is_known K) (λ c. ends K (length K.rules) c.0) cs right known (ends_list cs known)

  good_expr : (e : Expr) (scope : List ℕ) → list_all (is_right K) (listed calls e) ≡ true → is_allowed (in_insn K) e scope ≡ true → is_made_of (passing (is_good K (length K.rules))) e ≡ true
  good_expr e scope right allowed = sym (passes (is_good K (length K.rules)) e) ∙ good_list (listed calls e) right (passes (is_known K) e ∙ allowed_passes (in_insn K) (is_known K) (λ rule n h. h) e scope allowed)

  good_test : (t : Test) (scope : List ℕ) → list_all (is_right K) (listed_in_test calls t) ≡ true → is_allowed_test (in_insn K) t scope ≡ true → test_is_made_of (passing (is_good K (length K.rules))) t ≡ true
  good_test t scope right allowed =
      sym (passes_test (is_good K (length K.rules)) t) ∙ good_list (listed_in_test calls t) right (passes_test (is_known K) t ∙ allowed_test_passes (in_insn K) (is_known K) (λ rule n h. h) t scope allowed)

  -- ---- predicates

  test_stands : (o : Option Test) (scope : List ℕ) → Covers K scope → list_all (is_right K) (listed_in calls o) ≡ true → test_allowed K o scope ≡ true → test_allowed (expanded_kernel K) (expanded_test K o) scope ≡ true
  test_stands None scope covers right allowed = refl
  test_stands (Some t) scope covers right allowed = test_allowed_to K body_uses bodies_allowed (length K.rules) t (good_test t scope right allowed) scope covers allowed

  test_calls : (o : Option Test) (scope : List ℕ) → list_all (is_right K) (listed_in calls o) ≡ true → test_allowed K o scope ≡ true → listed_in calls (expanded_test K o) ≡ []
  test_calls None scope right allowed = refl
  test_calls (Some t) scope right allowed =
      nil_of (listed_in calls (expanded_test K (Some t))) (passes_test never _ ∙ test_free_to K body_uses (length K.rules) t (good_test t scope right allowed))

  test_folded : {X : Type 0} (of : List ℕ → List X) (o : Option Test) → listed_in (of_folds X of) (expanded_test K o) ≡ listed_in (of_folds X of) o
  test_folded of None = refl
  test_folded {X} of (Some t) = listed_in_test_to X of K bodies_allowed (length K.rules) t

  -- ---- instructions

  pub folded_kept : {X : Type 0} (of : List ℕ → List X) (A : Insn) → listed_in (of_folds X of) (test_of K A) ++ listed (of_folds X of) (value_of K A) ≡ listed_in (of_folds X of) A.test ++ listed (of_folds X of) A.value
  folded_kept {X} of A = ap₂ (λ (xs ys : List X). xs ++ ys) (test_folded of A.test) (listed_to X of K bodies_allowed (length K.rules) A.value)

  pub inames_kept : (A : Insn) → all_inames (expanded_insn K A) ≡ all_inames A
  inames_kept A = ap (λ (xs : List ℕ). A.inames ++ xs) (folded_kept (λ inames. inames) A)

  pub count_kept : (A : Insn) → fold_count (expanded_insn K A) ≡ fold_count A
  count_kept A = ap length (folded_kept (λ inames. length inames ∷ []) A)

  abbrev uses_of : Insn → List (ℕ × ℕ)
  uses_of A = listed_in calls A.test ++ listed calls A.value

  record New (A : Insn) : Type 0 where
    insn : IsInsn (expanded_kernel K) (expanded_insn K A)
    none : uses_of (expanded_insn K A) ≡ []

  new_insn : (A : Insn) → IsInsn K A → list_all (is_right K) (uses_of A) ≡ true → New A
  new_insn A own uses =
      let k : (list_all (is_right K) (listed_in calls A.test) && list_all (is_right K) (listed calls A.value)) ≡ true = sym (list_all-append (is_right K) (listed_in calls A.test) (listed calls A.value)) ∙ uses in
      let test_right = first_of_both (list_all (is_right K) (listed_in calls A.test)) (list_all (is_right K) (listed calls A.value)) k in
      let right = second_of_both (list_all (is_right K) (listed_in calls A.test)) (list_all (is_right K) (listed calls A.value)) k in
      let covers : Covers K (K.params ++ A.inames) = (λ v h. list_any-append (λ u. nat_eq u v) K.params A.inames ∙ either_first (is_among K.params v) (is_among A.inames v) h) in
      let good = good_expr A.value (K.params ++ A.inames) right own.value in
      record {
        insn = record {
          id = own.id;
          inames = own.inames;
          folds = ap (all_differ nat_eq) (inames_kept A) ∙ own.folds;
          rows = own.rows;
          cell = same_cells K A.cell (length A.place) ∙ own.cell;
          place = own.place;
          stored = same_stored K A.cell ∙ own.stored;
          storing = own.storing;
          test = test_stands A.test (K.params ++ A.inames) covers test_right own.test;
          value = allowed_to K body_uses bodies_allowed (length K.rules) A.value good (K.params ++ A.inames) covers own.value;
          deps = deps_kept K K.insns A.deps ∙ own.deps;
        };
        none = ap₂ (λ (xs ys : List (ℕ × ℕ)). xs ++ ys) (test_calls A.test (K.params ++ A.inames) test_right own.test) (nil_of (listed calls (value_of K A)) (passes never (value_of K A) ∙ free_to K body_uses (length K.rules) A.value good));
      }

  new_insns : (As : List Insn) → All (IsInsn K) As → list_all (is_right K) (flat_map (λ A. listed_in calls A.test ++ listed calls A.value) As) ≡ true → All New As
  new_insns [] insns h = All-nil New
  new_insns (A ∷ As) insns h =
      let later : List (ℕ × ℕ) = flat_map (λ A. listed_in calls A.test ++ listed calls A.value) As in
      let k : (list_all (is_right K) (uses_of A) && list_all (is_right K) later) ≡ true = sym (list_all-append (is_right K) (uses_of A) later) ∙ h in
      All-cons New A As (new_insn A (All-head (IsInsn K) A As insns) (first_of_both (list_all (is_right K) (uses_of A)) (list_all (is_right K) later) k))
      (new_insns As (All-tail (IsInsn K) A As insns) (second_of_both (list_all (is_right K) (uses_of A)) (list_all (is_right K) later) k))

  all_new : All New K.insns
  all_new = new_insns K.insns formed.insns (second_of_both (list_all (is_right K) (flat_map (λ r. listed calls r.body) K.rules)) (list_all (is_right K) (insn_calls K)) (all_uses K arities))

  mapped : (As : List Insn) → All New As → All (IsInsn (expanded_kernel K)) (map (expanded_insn K) As)
  mapped [] h = All-nil (IsInsn (expanded_kernel K))
  mapped (A ∷ As) h = All-cons (IsInsn (expanded_kernel K)) (expanded_insn K A) (map (expanded_insn K) As) (let new : New A = All-head New A As h in new.insn) (mapped As (All-tail New A As h))

  none_mapped : (As : List Insn) → All New As → flat_map (λ A. listed_in calls A.test ++ listed calls A.value) (map (expanded_insn K) As) ≡ []
  none_mapped [] h = refl
  none_mapped (A ∷ As) h = ap₂ (λ (xs ys : List (ℕ × ℕ)). xs ++ ys) (let new : New A = All-head New A As h in new.none) (none_mapped As (All-tail New A As h))

  pub no_calls : insn_calls (expanded_kernel K) ≡ []
  no_calls = none_mapped K.insns all_new

  pub is_formed : IsFormed (expanded_kernel K)
  is_formed = record {
    names = names_kept K formed.names;
    tags = formed.tags;
    priority = formed.priority;
    rows = formed.rows;
    assumptions = formed.assumptions;
    places = formed.places;
    shapes = formed.shapes;
    rules = All-nil (IsRule (expanded_kernel K));
    insns = mapped K.insns all_new;
    ids = ap (all_differ bytes_eq) (ids_kept K K.insns) ∙ formed.ids;
  }
