-- The expanded kernel of a valid kernel is valid.
use Rattle.std.specs.Prelude.{◌≡◌, ℕ, zero, ◌+◌, ◌*◌, ◌≤◌, nat_eq, Bool, false, ◌&&◌, List, [], ◌∷◌, ◌++◌, map, flat_map, filter, length, sum, slice_get, Option, Some, None, All}
use Rattle.std.specs.List.{list_all, list_any}
use Rattle.std.proofs.Common.{refl, sym, ap, ap₂, ◌∙◌, subst, arith, inl, inr}
use Rattle.std.proofs.lemmas.Option.{slice_get_cases}
use Rattle.std.proofs.lemmas.List.Elements.{All-nil, All-cons, All-head, All-tail}
use Rattle.wrap_words.specs.declared.kind.Kind.{Kind}
use Rattle.affine_rows.specs.declared.quasi.Quasi.{Quasi}
use Rattle.affine_rows.specs.Forms.{IsForm}
use Rattle.expr_tree.specs.declared.tree.Cell.{Cell}
use Rattle.expr_tree.specs.declared.tree.Cell.TheVariants.{Array, Temp}
use Rattle.expr_tree.specs.declared.tree.Test.{Test}
use Rattle.expr_tree.specs.declared.tree.Expr.{Expr}
use Rattle.expr_tree.specs.Scenes.{mentions_only}
use Rattle.expr_tree.specs.Depth.{depth_of}
use Rattle.quasi_forms.specs.Alike.{same_floor, distinct}
use Rattle.quasi_forms.specs.Limits.{floors_in}
use Rattle.kernel_ir.specs.declared.kernel.Kernel.{Kernel}
use Rattle.kernel_ir.specs.declared.kernel.Insn.{Insn}
use Rattle.kernel_ir.specs.declared.kernel.SubstRule.{SubstRule}
use Rattle.kernel_ir.specs.Expanded.{expanded, expanded_test}
use Rattle.kernel_ir.specs.Kinds.{Typing, kinds_in, kinds_to, cell_kind}
use Rattle.kernel_ir.specs.Limits.{value_of, test_of, value_depth, depth_of_option, nodes_of, nodes_of_test, same_access, accesses_of, all_inames, fold_count, forms_of, IsWithin, IsWithinLimits}
use Rattle.kernel_ir.specs.Mentions.{listed, listed_in, forms, reads}
use Rattle.kernel_ir.specs.Valid.{IsFormed, HasArities, HasNoRuleCycle, body_calls, calls_along, params_of, test_typed, insn_typed, IsTyped}
use Rattle.kernel_limits.specs.Asked.{expanded_insn}
use Rattle.subst_rules.specs.Kernels.{expanded_kernel}
use Rattle.subst_rules.specs.Ready.{IsExpandable}
use Rattle.subst_rules.proofs.Expanding.{end_is, test_end_is}
use Rattle.expanded_values.specs.Laws.{ExpansionIsFormed, ExpansionIsValid}
use Rattle.expanded_values.proofs.Kept.{typed_to, test_typed_to}
use Rattle.expanded_values.proofs.Formed.{is_formed, no_calls, inames_kept, count_kept}

-- ---- no rules

no_rule : (n : ℕ) → slice_get (let none : List SubstRule = [] in none) n ≡ None
no_rule n = elim (slice_get_cases (let none : List SubstRule = [] in none) n).1 [
  | inl found ↦ absurd (let within = found.1 in omega (arith, within))
  | inr past ↦ past.1
]

no_step : (K : Kernel) (rule next : ℕ) (way : List ℕ) → calls_along (expanded_kernel K) rule (next ∷ way) ≡ false
no_step K rule next way = ap (λ (o : Option SubstRule). list_any (λ c. nat_eq c.0 next) (body_calls o) && calls_along (expanded_kernel K) next way) (no_rule rule)

no_cycle : (K : Kernel) → HasNoRuleCycle (expanded_kernel K)
no_cycle K rule [] = no_step K rule rule []
no_cycle K rule (next ∷ way) = no_step K rule next (way ++ rule ∷ [])

-- ---- kinds

no_kinds : (K : Kernel) → kinds_in (expanded_kernel K) ≡ kinds_to K zero
no_kinds K = refl

test_kept : (K : Kernel) (o : Option Test) (k : Kind) → test_typed (expanded_kernel K) (expanded_test K o) k ≡ test_typed K o k
test_kept K None k = refl
test_kept K (Some t) k = ap (λ (f : Kind → Bool). f k) (test_typed_to K (length K.rules) t)

typed_kept : (K : Kernel) (A : Insn) (o : Option Kind) → insn_typed (expanded_kernel K) (expanded_insn K A) o ≡ insn_typed K A o
typed_kept K A None = refl
typed_kept K A (Some k) = ap₂ (λ (a b : Bool). a && b) (ap (λ (t : Typing). t.has k) (typed_to K (length K.rules) A.value)) (test_kept K A.test k)

kind_kept : (K : Kernel) (cell : Cell) → cell_kind (expanded_kernel K) cell ≡ cell_kind K cell
kind_kept K (Array n) = refl
kind_kept K (Temp n) = refl

insns_typed : (K : Kernel) (As : List Insn) → list_all (λ A. insn_typed (expanded_kernel K) A (cell_kind (expanded_kernel K) A.cell)) (map (expanded_insn K) As) ≡ list_all (λ A. insn_typed K A (cell_kind K A.cell)) As
insns_typed K [] = refl
insns_typed K (A ∷ As) = ap₂ (λ (a b : Bool). a && b) (ap (insn_typed (expanded_kernel K) (expanded_insn K A)) (kind_kept K A.cell) ∙ typed_kept K A (cell_kind K A.cell)) (insns_typed K As)

pub is_typed : (K : Kernel) → IsTyped K → IsTyped (expanded_kernel K)
is_typed K typed = record { temps = typed.temps; insns = insns_typed K K.insns ∙ typed.insns; rules = refl }

-- ---- limits

value_again : (K : Kernel) (A : Insn) → value_of (expanded_kernel K) (expanded_insn K A) ≡ value_of K A
value_again K A = end_is (expanded_kernel K) (value_of K A)

test_again : (K : Kernel) (o : Option Test) → expanded_test (expanded_kernel K) o ≡ o
test_again K None = refl
test_again K (Some t) = ap (λ (u : Test). let x : Option Test = Some u in x) (test_end_is (expanded_kernel K) t)

module _ (K : Kernel) (formed : IsFormed K) (arities : HasArities K) (acyclic : HasNoRuleCycle K) where
  new_accesses : (A : Insn) → accesses_of (expanded_kernel K) (expanded_insn K A) ≡ accesses_of K A
  new_accesses A = ap₂ (λ (t : Option Test) (e : Expr). distinct same_access ((A.cell, A.place) ∷ (listed_in reads t ++ listed reads e))) (test_again K (test_of K A)) (value_again K A)

  forms_from : Insn → List ℕ → Option Test → Expr → List Quasi
  forms_from A inames t e =
      map (λ r. r.form) (filter (λ r. mentions_only (K.params ++ inames) r.form) K.rows ++ (A.rows ++ K.assumptions)) ++ (flat_map (λ a. a.shape) K.arrays ++ (A.place ++ (listed_in forms t ++ listed forms e)))

  new_forms : (A : Insn) → forms_of (expanded_kernel K) (expanded_insn K A) ≡ forms_of K A
  unfolding forms_from
  new_forms A = ap (λ (inames : List ℕ). forms_from A inames (test_of (expanded_kernel K) (expanded_insn K A)) (value_of (expanded_kernel K) (expanded_insn K A))) (inames_kept K formed arities acyclic A)
      ∙ ap₂ (forms_from A (all_inames A)) (test_again K (test_of K A)) (value_again K A)

  new_within : (A : Insn) → IsWithin K A → IsWithin (expanded_kernel K) (expanded_insn K A)
  new_within A own = record {
    forms = subst (λ (qs : List Quasi). All IsForm qs) (sym (new_forms A)) own.forms;
    inames = subst (λ (ns : List ℕ). length ns ≤ 16) (sym (inames_kept K formed arities acyclic A)) own.inames;
    value_depth = subst (λ (e : Expr). value_depth A.storing (depth_of e) ≤ 64) (sym (value_again K A)) own.value_depth;
    test_depth = subst (λ (t : Option Test). depth_of_option t ≤ 64) (sym (test_again K (test_of K A))) own.test_depth;
    nodes = subst (λ (e : Expr). nodes_of_test (test_of (expanded_kernel K) (expanded_insn K A)) + nodes_of e ≤ 4096) (sym (value_again K A)) (subst (λ (t : Option Test). nodes_of_test t + nodes_of (value_of K A) ≤ 4096) (sym (test_again K (test_of K A))) own.nodes);
    accesses = subst (λ (xs : List (Cell × List Quasi)). length xs ≤ 64) (sym (new_accesses A)) own.accesses;
    floors = subst (λ (qs : List Quasi). length (distinct same_floor (flat_map floors_in qs)) ≤ 32) (sym (new_forms A)) own.floors;
  }

  all_within : (As : List Insn) → All (IsWithin K) As → All (IsWithin (expanded_kernel K)) (map (expanded_insn K) As)
  all_within [] h = All-nil (IsWithin (expanded_kernel K))
  all_within (A ∷ As) h = All-cons (IsWithin (expanded_kernel K)) (expanded_insn K A) (map (expanded_insn K) As) (new_within A (All-head (IsWithin K) A As h)) (all_within As (All-tail (IsWithin K) A As h))

  new_counts : (As : List Insn) → map (λ A. 1 + 2 * fold_count A) (map (expanded_insn K) As) ≡ map (λ A. 1 + 2 * fold_count A) As
  new_counts [] = refl
  new_counts (A ∷ As) = ap₂ (λ (n : ℕ) (ns : List ℕ). (1 + 2 * n) ∷ ns) (count_kept K formed arities acyclic A) (new_counts As)

  limits_kept : IsWithinLimits K → IsWithinLimits (expanded_kernel K)
  limits_kept own = record {
    names = own.names;
    params = own.params;
    count = subst (λ (ns : List ℕ). sum ns ≤ 64) (sym (new_counts K.insns)) own.count;
    places = own.places;
    temp_places = own.temp_places;
    cells = own.cells;
    sizes = own.sizes;
    bodies = All-nil (λ r. depth_of (expanded (expanded_kernel K) r.body) ≤ 64);
    insns = all_within K.insns own.insns;
  }

  new_arities : HasArities (expanded_kernel K)
  new_arities = ap (list_all (λ (c : ℕ × ℕ). nat_eq c.1 (length (params_of (slice_get (let none : List SubstRule = [] in none) c.0))))) (no_calls K formed arities acyclic)

  expandable : IsWithinLimits K → IsExpandable (expanded_kernel K)
  expandable own = record { arities = new_arities; acyclic = no_cycle K; within = limits_kept own }

pub formed_again : ExpansionIsFormed
formed_again K formed ready = (is_formed K formed ready.arities ready.acyclic, expandable K formed ready.arities ready.acyclic ready.within, no_calls K formed ready.arities ready.acyclic)

pub valid_again : ExpansionIsValid
valid_again K valid =
    let ready = expandable K valid.formed valid.arities valid.acyclic valid.within in
    record { formed = is_formed K valid.formed valid.arities valid.acyclic; arities = ready.arities; acyclic = ready.acyclic; typed = is_typed K valid.typed; within = ready.within }
