-- A kernel is as well formed with the kinds of its temporaries as it is without.
use Rattle.std.proofs.Common.{◌≡◌, ℕ, zero, suc, ◌+◌, ◌≤◌, Bool, true, false, ◌&&◌, List, [], ◌∷◌, ◌++◌, map, flat_map, length, slice_get, nat_eq, bytes_eq, Option, Some, None, All, refl, sym, ap, ap₂, subst, ◌∙◌}
use Rattle.std.specs.List.{list_all, list_any}
use Rattle.std.proofs.Math.Path.{fun_ext}
use Rattle.std.proofs.lemmas.List.Elements.{All-nil, All-cons, All-head, All-tail}
use Rattle.wrap_words.specs.declared.kind.Kind.{Kind}
use Rattle.affine_rows.specs.Forms.{IsForm}
use Rattle.expr_tree.specs.declared.tree.Cell.{Cell}
use Rattle.expr_tree.specs.declared.tree.Cell.TheVariants.{Array, Temp}
use Rattle.expr_tree.specs.declared.tree.Expr.{Expr}
use Rattle.expr_tree.specs.declared.tree.Test.{Test}
use Rattle.expr_tree.specs.Depth.{depth_of}
use Rattle.expr_tree.specs.Rewritten.{Rules, rewritten, rewritten_test}
use Rattle.kernel_ir.specs.declared.kernel.Kernel.{Kernel}
use Rattle.kernel_ir.specs.declared.kernel.Insn.{Insn}
use Rattle.kernel_ir.specs.declared.kernel.SubstRule.{SubstRule}
use Rattle.kernel_ir.specs.declared.kernel.Temp as temp
use Rattle.kernel_ir.specs.NameSpace.{HasNames, all_differ, declared_names, name_of, iname_vars}
use Rattle.kernel_ir.specs.Mentions.{is_allowed, is_allowed_test, has_cell, places_of, temp_length, is_count, listed, listed_in, reads, forms}
use Rattle.kernel_ir.specs.Expanded.{expanding, expanding_to, body_at, expanded_test}
use Rattle.kernel_ir.specs.Limits.{IsWithin, IsWithinLimits, IsSmallTemp, test_of, value_of, forms_of, accesses_of, domain_rows, same_access, depth_of_option, value_depth, nodes_of, nodes_of_test}
use Rattle.kernel_ir.specs.Valid.{IsFormed, IsRule, IsInsn, HasArities, HasNoRuleCycle, calls_along, body_calls, in_insn, in_rule, has_rule, may_fold, may_store, test_allowed}
use Rattle.quasi_forms.specs.Alike.{same_floor, distinct}
use Rattle.quasi_forms.specs.Limits.{floors_in}
use Rattle.type_infer.specs.Inferred.{with_kinds}

-- ---- temporaries

module _ (kind : ℕ → Option Kind) where
  names_same : (at : ℕ) (ts : List temp.Temp) → map (λ t. t.name) (with_kinds kind at ts) ≡ map (λ t. t.name) ts
  names_same at [] = refl
  names_same at (t ∷ ts) = ap (λ ns. t.name ∷ ns) (names_same (at + 1) ts)

  length_same : (at : ℕ) (ts : List temp.Temp) (n : ℕ) → temp_length (slice_get (with_kinds kind at ts) n) ≡ temp_length (slice_get ts n)
  length_same at [] n = refl
  length_same at (t ∷ ts) zero = refl
  length_same at (t ∷ ts) (suc n) = length_same (at + 1) ts n

  all_same : (P : temp.Temp → Type 0) → ((t : temp.Temp) (k : Option Kind) → P t → P (record t { kind = k })) → (at : ℕ) (ts : List temp.Temp) → All P ts → All P (with_kinds kind at ts)
  all_same P keeps at [] all = All-nil P
  all_same P keeps at (t ∷ ts) all =
      All-cons P (record t { kind = kind at }) (with_kinds kind (at + 1) ts) (keeps t (kind at) (All-head P t ts all)) (all_same P keeps (at + 1) ts (All-tail P t ts all))

all_map : {X : Type 0} (P Q : X → Type 0) → ((x : X) → P x → Q x) → (xs : List X) → All P xs → All Q xs
all_map P Q f xs all = λ k d h. f _ (all k d h)

-- ---- the kernel

module _ (K : Kernel) (kind : ℕ → Option Kind) where
  abbrev pub J : Kernel
  J = record K { temps = with_kinds kind 0 K.temps }

  places_is : (c : Cell) → places_of J c ≡ places_of K c
  places_is (Array n) = refl
  places_is (Temp n) = length_same kind 0 K.temps n

  has_cell_is : has_cell J ≡ has_cell K
  has_cell_is = fun_ext (λ c. fun_ext (λ n. ap (λ o. is_count o n) (places_is c)))

  may_store_is : (c : Cell) → may_store J c ≡ may_store K c
  may_store_is (Array n) = refl
  may_store_is (Temp n) = refl

  in_rule_is : in_rule J ≡ in_rule K
  in_rule_is = ap (λ (read : Cell → ℕ → Bool). record { read = read; call = has_rule K; fold = λ scope inames. false }) has_cell_is

  in_insn_is : in_insn J ≡ in_insn K
  in_insn_is = ap (λ (read : Cell → ℕ → Bool). record { read = read; call = has_rule K; fold = may_fold K }) has_cell_is

  test_is : (t : Option Test) (scope : List ℕ) → test_allowed J t scope ≡ test_allowed K t scope
  test_is None scope = refl
  test_is (Some t) scope = ap (λ w. is_allowed_test w t scope) in_insn_is

  rule_kept : (r : SubstRule) → IsRule K r → IsRule J r
  rule_kept r is = record { params = is.params; differ = is.differ; body = ap (λ w. is_allowed w r.body (r.params ++ K.params)) in_rule_is ∙ is.body }

  insn_kept : (A : Insn) → IsInsn K A → IsInsn J A
  insn_kept A is = record {
    id = is.id;
    inames = is.inames;
    folds = is.folds;
    rows = is.rows;
    cell = ap (λ (has : Cell → ℕ → Bool). has A.cell (length A.place)) has_cell_is ∙ is.cell;
    place = is.place;
    stored = may_store_is A.cell ∙ is.stored;
    storing = is.storing;
    test = test_is A.test (K.params ++ A.inames) ∙ is.test;
    value = ap (λ w. is_allowed w A.value (K.params ++ A.inames)) in_insn_is ∙ is.value;
    deps = is.deps;
  }

  declared_is : declared_names J ≡ declared_names K
  declared_is = ap (λ ns. map (name_of K) (K.params ++ iname_vars K) ++ (map (λ a. a.name) K.arrays ++ (ns ++ map (λ r. r.name) K.rules))) (names_same kind 0 K.temps)

  names_kept : HasNames K → HasNames J
  names_kept is = record {
    distinct = is.distinct;
    identifiers = is.identifiers;
    params = is.params;
    inames = is.inames;
    known = subst (λ ns. list_all (λ n. list_any (bytes_eq n) K.names) ns ≡ true) (sym declared_is) is.known;
    differ = subst (λ ns. all_differ bytes_eq ns ≡ true) (sym declared_is) is.differ;
  }

  pub formed_kept : IsFormed K → IsFormed J
  formed_kept is = record {
    names = names_kept is.names;
    tags = is.tags;
    priority = is.priority;
    rows = is.rows;
    assumptions = is.assumptions;
    places = is.places;
    shapes = is.shapes;
    rules = all_map (IsRule K) (IsRule J) rule_kept K.rules is.rules;
    insns = all_map (IsInsn K) (IsInsn J) insn_kept K.insns is.insns;
    ids = is.ids;
  }

  along_same : (rule : ℕ) (way : List ℕ) → calls_along J rule way ≡ calls_along K rule way
  along_same rule [] = refl
  along_same rule (next ∷ way) = ap (λ b. list_any (λ c. nat_eq c.0 next) (body_calls (slice_get K.rules rule)) && b) (along_same next way)

  pub acyclic_kept : HasNoRuleCycle K → HasNoRuleCycle J
  acyclic_kept none rule way = along_same rule (way ++ rule ∷ []) ∙ none rule way

  -- ---- limits

  expanding_is : (n : ℕ) → expanding_to J n ≡ expanding_to K n
  expanding_is zero = refl
  expanding_is (suc n) = ap (λ (r : Rules). expanding (λ rule arguments. body_at r (slice_get K.rules rule) arguments)) (expanding_is n)

  value_is : (A : Insn) → value_of J A ≡ value_of K A
  value_is A = ap (λ (r : Rules). rewritten r A.value) (expanding_is (length K.rules))

  expanded_test_is : (t : Option Test) → expanded_test J t ≡ expanded_test K t
  expanded_test_is None = refl
  expanded_test_is (Some t) = ap (λ (r : Rules). Some (rewritten_test r t)) (expanding_is (length K.rules))

  forms_is : (A : Insn) → forms_of J A ≡ forms_of K A
  forms_is A = ap₂ (λ (t : Option Test) (v : Expr). map (λ r. r.form) (domain_rows K A ++ (A.rows ++ K.assumptions)) ++ (flat_map (λ a. a.shape) K.arrays
      ++ (A.place ++ (listed_in forms t ++ listed forms v)))) (expanded_test_is A.test) (value_is A)

  accesses_is : (A : Insn) → accesses_of J A ≡ accesses_of K A
  accesses_is A = ap₂ (λ (t : Option Test) (v : Expr). distinct same_access ((A.cell, A.place) ∷ (listed_in reads t ++ listed reads v))) (expanded_test_is A.test) (value_is A)

  within_kept : (A : Insn) → IsWithin K A → IsWithin J A
  within_kept A is = record {
    forms = subst (All IsForm) (sym (forms_is A)) is.forms;
    inames = is.inames;
    value_depth = subst (λ v. value_depth A.storing (depth_of v) ≤ 64) (sym (value_is A)) is.value_depth;
    test_depth = subst (λ t. depth_of_option t ≤ 64) (sym (expanded_test_is A.test)) is.test_depth;
    nodes = subst (λ t. nodes_of_test t + nodes_of (value_of J A) ≤ 4096) (sym (expanded_test_is A.test))
        (subst (λ v. nodes_of_test (test_of K A) + nodes_of v ≤ 4096) (sym (value_is A)) is.nodes);
    accesses = subst (λ ls. length ls ≤ 64) (sym (accesses_is A)) is.accesses;
    floors = subst (λ fs. length (distinct same_floor (flat_map floors_in fs)) ≤ 32) (sym (forms_is A)) is.floors;
  }

  pub limits_kept : IsWithinLimits K → IsWithinLimits J
  limits_kept is = record {
    names = is.names;
    params = is.params;
    count = is.count;
    places = is.places;
    temp_places = all_same kind (λ t. length t.shape ≤ 8) (λ t k h. h) 0 K.temps is.temp_places;
    cells = all_same kind IsSmallTemp (λ t k h. h) 0 K.temps is.cells;
    sizes = is.sizes;
    bodies = subst (λ (r : Rules). All (λ (s : SubstRule). depth_of (rewritten r s.body) ≤ 64) K.rules) (sym (expanding_is (length K.rules))) is.bodies;
    insns = all_map (IsWithin K) (IsWithin J) within_kept K.insns is.insns;
  }

  pub arities_kept : HasArities K → HasArities J
  arities_kept h = h
