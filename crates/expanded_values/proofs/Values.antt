-- Expansion keeps the values of a formed kernel.
use Rattle.std.specs.Prelude.{◌≡◌, ℕ, nat_eq, bytes_eq, Bool, true, false, not, ◌&&◌, ◌||◌, if◌then◌else◌, List, [], ◌∷◌, ◌++◌, map, flat_map, filter, length, slice_get, Option, Some, None, All}
use Rattle.std.specs.List.{list_all}
use Rattle.std.proofs.Common.{refl, sym, ap, ◌∙◌, arith, cond}
use Rattle.std.proofs.lemmas.Slice.Eq.{bytes_eq-Decides}
use Rattle.std.proofs.lemmas.List.Folds.{list_all-append}
use Rattle.std.proofs.lemmas.List.Elements.{All-nil, All-cons, All-head, All-tail}
use Rattle.expr_tree.specs.declared.tree.Test.{Test}
use Rattle.expr_tree.specs.Value.{Store}
use Rattle.expr_tree.specs.Scenes.{Scene, is_among}
use Rattle.quasi_forms.specs.Placed.{vars_differ}
use Rattle.kernel_ir.specs.declared.kernel.Kernel.{Kernel}
use Rattle.kernel_ir.specs.declared.kernel.Insn.{Insn}
use Rattle.kernel_ir.specs.declared.kernel.SubstRule.{SubstRule}
use Rattle.kernel_ir.specs.Expanded.{expanded_test}
use Rattle.kernel_ir.specs.Mentions.{listed, listed_in, calls}
use Rattle.kernel_ir.specs.NameSpace.{all_differ, iname_vars, name_of}
use Rattle.kernel_ir.specs.Valid.{IsFormed, IsRule, IsInsn, HasArities, insn_calls, test_allowed}
use Rattle.inst_model.specs.Arguments.{Arguments, params_at}
use Rattle.inst_model.specs.Running.{world_of}
use Rattle.subst_rules.specs.Kernels.{expanded_kernel}
use Rattle.subst_rules.proofs.Bools.{both, first_of_both, second_of_both, either_first, not_true}
use Rattle.expanded_values.specs.Laws.{HasParams, HasInstances, InstancesHaveParams, SameTest, MeansTheSame, ExpansionKeepsValues}
use Rattle.expanded_values.proofs.Passing.{equal_numbers, passes, passes_test}
use Rattle.expanded_values.proofs.Rules.{at_place, each_body, all_uses}
use Rattle.expanded_values.proofs.Standing.{is_right, own_made, own_test_made}
use Rattle.expanded_values.proofs.Meanings.{given_other, IsBody, means_to, test_means_to}

-- ---- parameters and inames differ

bytes_same : (xs : List ℕ) → bytes_eq xs xs ≡ true
bytes_same xs = (bytes_eq-Decides xs xs).1 refl

either : (a b : Bool) (P : Type 0) → (a || b) ≡ true → (a ≡ true → P) → (b ≡ true → P) → P
either true b P h left right = left refl
either false b P h left right = right h

found_again : (K : Kernel) (n : List ℕ) (ys : List ℕ) (zs : List (List ℕ)) (v : ℕ) → n ≡ name_of K v → is_among ys v ≡ true → list_all (λ y. if bytes_eq n y then false else true) (map (name_of K) ys ++ zs) ≡ true → ⊥
found_again K n [] zs v e among h = absurd (let clash : false ≡ true = among in cc)
found_again K n (y ∷ ys) zs v e among h =
    let one = first_of_both (if bytes_eq n (name_of K y) then false else true) (list_all (λ y. if bytes_eq n y then false else true) (map (name_of K) ys ++ zs)) h in
    let rest = second_of_both (if bytes_eq n (name_of K y) then false else true) (list_all (λ y. if bytes_eq n y then false else true) (map (name_of K) ys ++ zs)) h in
    either (nat_eq y v) (is_among ys v) ⊥ among
    (λ same.
    let is : n ≡ name_of K y = e ∙ ap (name_of K) (sym (equal_numbers y v same)) in
    let equal : bytes_eq n (name_of K y) ≡ true = ap (bytes_eq n) (sym is) ∙ bytes_same n in
    let clash : false ≡ true = sym (ap (λ (b : Bool). if b then false else true) equal) ∙ one in cc)
    (λ later. found_again K n ys zs v e later rest)

or_true : (a b : Bool) → b ≡ true → (a || b) ≡ true
or_true true b h = refl
or_true false b h = h

among_right : (xs ys : List ℕ) (v : ℕ) → is_among ys v ≡ true → is_among (xs ++ ys) v ≡ true
among_right [] ys v h = h
among_right (x ∷ xs) ys v h = or_true (nat_eq x v) (is_among (xs ++ ys) v) (among_right xs ys v h)

twice : (K : Kernel) (xs ys : List ℕ) (zs : List (List ℕ)) (v : ℕ) → is_among xs v ≡ true → is_among ys v ≡ true → all_differ bytes_eq (map (name_of K) (xs ++ ys) ++ zs) ≡ true → ⊥
twice K [] ys zs v here there h = absurd (let clash : false ≡ true = here in cc)
twice K (x ∷ xs) ys zs v here there h =
    let one = first_of_both (list_all (λ y. if bytes_eq (name_of K x) y then false else true) (map (name_of K) (xs ++ ys) ++ zs)) (all_differ bytes_eq (map (name_of K) (xs ++ ys) ++ zs)) h in
    let rest = second_of_both (list_all (λ y. if bytes_eq (name_of K x) y then false else true) (map (name_of K) (xs ++ ys) ++ zs)) (all_differ bytes_eq (map (name_of K) (xs ++ ys) ++ zs)) h in
    either (nat_eq x v) (is_among xs v) ⊥ here
    (λ same. found_again K (name_of K x) (xs ++ ys) zs v (ap (name_of K) (equal_numbers x v same)) (among_right xs ys v there) one)
    (λ later. twice K xs ys zs v later there rest)

apart : (K : Kernel) → IsFormed K → (v : ℕ) → is_among (iname_vars K) v ≡ true → not (is_among K.params v) ≡ true
apart K formed v iname = ap not (not_true (is_among K.params v) (λ param. twice K K.params (iname_vars K) (map (λ a. a.name) K.arrays ++ (map (λ t. t.name) K.temps ++ map (λ r. r.name) K.rules)) v param iname formed.names.differ))

-- ---- the rules

differ_same : (vs : List ℕ) → all_differ nat_eq vs ≡ vars_differ vs
differ_same [] = refl
differ_same (v ∷ vs) = ap (λ (b : Bool). list_all (λ u. if nat_eq v u then false else true) vs && b) (differ_same vs)

module _ (K : Kernel) (a : Arguments) (s : Store) (formed : IsFormed K) (arities : HasArities K) where
  bodies : (rule : ℕ) (r : SubstRule) → slice_get K.rules rule ≡ Some r → IsBody K r
  bodies rule r is =
      let is_rule : IsRule K r = at_place (IsRule K) K.rules rule r formed.rules is in
      let uses = at_place (λ r. list_all (is_right K) (listed calls r.body) ≡ true) K.rules rule r (each_body (is_right K) K.rules (first_of_both (list_all (is_right K) (flat_map (λ r. listed calls r.body) K.rules)) (list_all (is_right K) (insn_calls K)) (all_uses K arities))) is in
      record { differ = sym (differ_same r.params) ∙ is_rule.differ; allowed = is_rule.body; right = sym (passes (is_right K) r.body) ∙ uses }

  same_test : (o : Option Test) → list_all (is_right K) (listed_in calls o) ≡ true → (scope : List ℕ) → test_allowed K o scope ≡ true → (at : Scene) → HasParams K a at → SameTest (world_of (expanded_kernel K) a s) (expanded_test K o) (world_of K a s) o at
  same_test None uses scope allowed at has = tt
  same_test (Some t) uses scope allowed at has =
      test_means_to K (params_at K a) s bodies (length K.rules) t (own_test_made K (apart K formed) t scope (sym (passes_test (is_right K) t) ∙ uses) allowed) at has

  one : (A : Insn) → IsInsn K A → list_all (is_right K) (listed_in calls A.test ++ listed calls A.value) ≡ true → MeansTheSame K a s A
  one A insn uses =
      let k : (list_all (is_right K) (listed_in calls A.test) && list_all (is_right K) (listed calls A.value)) ≡ true = sym (list_all-append (is_right K) (listed_in calls A.test) (listed calls A.value)) ∙ uses in
      record {
        value = λ at has. means_to K (params_at K a) s bodies (length K.rules) A.value
            (own_made K (apart K formed) A.value (K.params ++ A.inames) (sym (passes (is_right K) A.value) ∙ second_of_both (list_all (is_right K) (listed_in calls A.test)) (list_all (is_right K) (listed calls A.value)) k) insn.value) at has;
        test = λ at has. same_test A.test (first_of_both (list_all (is_right K) (listed_in calls A.test)) (list_all (is_right K) (listed calls A.value)) k) (K.params ++ A.inames) insn.test at has;
      }

  each : (As : List Insn) → All (IsInsn K) As → list_all (is_right K) (flat_map (λ A. listed_in calls A.test ++ listed calls A.value) As) ≡ true → All (MeansTheSame K a s) As
  each [] insns h = All-nil (MeansTheSame K a s)
  each (A ∷ As) insns h =
      let own : List (ℕ × ℕ) = listed_in calls A.test ++ listed calls A.value in
      let later : List (ℕ × ℕ) = flat_map (λ A. listed_in calls A.test ++ listed calls A.value) As in
      let k : (list_all (is_right K) own && list_all (is_right K) later) ≡ true = sym (list_all-append (is_right K) own later) ∙ h in
      All-cons (MeansTheSame K a s) A As (one A (All-head (IsInsn K) A As insns) (first_of_both (list_all (is_right K) own) (list_all (is_right K) later) k)) (each As (All-tail (IsInsn K) A As insns) (second_of_both (list_all (is_right K) own) (list_all (is_right K) later) k))

pub keeps_values : ExpansionKeepsValues
keeps_values K a s formed arities =
    each K a s formed arities K.insns formed.insns (second_of_both (list_all (is_right K) (flat_map (λ r. listed calls r.body) K.rules)) (list_all (is_right K) (insn_calls K)) (all_uses K arities))

-- ---- instances

all_among : (q : ℕ → Bool) (xs : List ℕ) → ((v : ℕ) → is_among xs v ≡ true → q v ≡ true) → list_all q xs ≡ true
all_among q [] each = refl
all_among q (x ∷ xs) each = both (q x) (list_all q xs) (each x (either_first (nat_eq x x) (is_among xs x) (search arith))) (all_among q xs (λ v h. each v (or_true (nat_eq x v) (is_among xs v) h)))

filter_case : (q : ℕ → Bool) (b : Bool) (x : ℕ) (xs : List ℕ) → q x ≡ true → list_all q xs ≡ true → list_all q (cond b (x ∷ xs) xs) ≡ true
filter_case q true x xs h all = both (q x) (list_all q xs) h all
filter_case q false x xs h all = all

filter_all : (q p : ℕ → Bool) (xs : List ℕ) → list_all q xs ≡ true → list_all q (filter p xs) ≡ true
filter_all q p [] h = refl
filter_all q p (x ∷ xs) h = filter_case q (p x) x (filter p xs) (first_of_both (q x) (list_all q xs) h) (filter_all q p xs (second_of_both (q x) (list_all q xs) h))

module _ (K : Kernel) (a : Arguments) (formed : IsFormed K) where
  no_param : (A : Insn) → IsInsn K A → list_all (λ v. not (is_among K.params v)) A.inames ≡ true
  no_param A insn =
      ap (list_all (λ (v : ℕ). not (is_among K.params v))) insn.inames
      ∙ filter_all (λ v. not (is_among K.params v)) (is_among A.inames) (iname_vars K) (all_among (λ v. not (is_among K.params v)) (iname_vars K) (apart K formed))

  each_instance : (As : List Insn) → All (IsInsn K) As → All (HasInstances K a) As
  each_instance [] insns = All-nil (HasInstances K a)
  each_instance (A ∷ As) insns =
      All-cons (HasInstances K a) A As (λ numbers v among. given_other K.params A.inames numbers (params_at K a) v (no_param A (All-head (IsInsn K) A As insns)) among) (each_instance As (All-tail (IsInsn K) A As insns))

pub instances : InstancesHaveParams
instances K a formed = each_instance K a formed K.insns formed.insns
