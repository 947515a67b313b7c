-- The small kernel is valid.
use Rattle.std.specs.Prelude.{◌≡◌, ℕ, ◌+◌, ◌*◌, ◌^◌, ◌≤◌, ℤ, pos, negsuc, Bool, true, false, ◌&&◌, List, [], ◌∷◌, ◌++◌, map, filter, flat_map, length, slice_get, if◌then◌else◌, sum, sum_by, unsigned_abs, ◌-◌, neg_ℤ, Option, None, Ok, All, codes, nat_eq}
use Rattle.std.proofs.Common.{refl, sym, ap, ap₂, ◌∙◌, rules, arith, subst}
use Rattle.std.specs.List.{list_all, AllByRecursion}
use Rattle.std.proofs.lemmas.Bool.{true≢false}
use Rattle.std.proofs.lemmas.List.Elements.{All-cons, All-nil, recursion_from_All}
use Rattle.std.proofs.lemmas.List.Sorted.{IsPermutation-refl}
use Rattle.affine_rows.specs.declared.quasi.Quasi.{Quasi, fold-roll-Quasi, out-roll-Quasi}
use Rattle.affine_rows.specs.declared.quasi.Floor.{Floor}
use Rattle.affine_rows.specs.Forms.{affine, IsForm}
use Rattle.affine_rows.proofs.FormLaws.{affine-IsForm}
use Rattle.expr_tree.specs.declared.tree.Op.{Op}
use Rattle.expr_tree.specs.declared.tree.Op.TheVariants.{Mul}
use Rattle.expr_tree.specs.declared.tree.Cell.{Cell}
use Rattle.expr_tree.specs.declared.tree.Cell.TheVariants.{Array}
use Rattle.expr_tree.specs.declared.tree.Node.{Node, fold-Node, the_lemmas}
use Rattle.expr_tree.specs.declared.tree.Node.TheOpen.{Node-F, Test-F, Expr-F}
use Rattle.expr_tree.specs.declared.tree.Node.TheVariants as node
use Rattle.expr_tree.specs.declared.tree.Test.{Test}
use Rattle.expr_tree.specs.declared.tree.Expr.{Expr, fold-Expr}
use Rattle.expr_tree.specs.Scenes.{each_var, mentions_only}
use Rattle.expr_tree.specs.Rewritten.{Outcome, tree_of, answered, rewritten, node_outcome, test_outcome, expr_outcome}
use Rattle.quasi_forms.specs.Limits.{Inside, FloorInside, floor_inside, form_inside, floors_in}
use Rattle.expr_tree.specs.Depth.{node_step, test_step, expr_step, depth_of}
use Rattle.wrap_words.specs.declared.kind.Kind.{Kind}
use Rattle.wrap_words.specs.declared.kind.Kind.TheVariants.{I32}
use Rattle.kernel_ir.specs.Kinds.{Typing, Kinds, node_typing, test_typing, expr_typing, typing_of}
use Rattle.kernel_ir.specs.Limits.{count_node, count_test, count_expr, nodes_of}
use Rattle.kernel_ir.specs.Mentions.{Allowed, is_allowed, node_allowed, test_allowed, expr_allowed, Listing, listed, node_listed, test_listed, expr_listed}
use Rattle.kernel_ir.specs.Expanded.{expanding, used_in_layer}
use Rattle.expr_tree.specs.Scenes.{is_among}
use Rattle.kernel_ir.specs.declared.kernel.Kernel.{Kernel}
use Rattle.kernel_ir.specs.declared.kernel.Insn.{Insn}
use Rattle.kernel_ir.specs.NameSpace.{HasNames, all_differ}
use Rattle.kernel_ir.specs.Mentions.{calls, folded}
use Rattle.kernel_ir.specs.Kinds.{kinds_in}
use Rattle.expr_tree.specs.declared.row.QuasiRow.{QuasiRow}
use Rattle.quasi_forms.specs.Alike.{distinct, same_floor}
use Rattle.quasi_forms.specs.Collected.{collected_form, collected_terms, collected_floors, constant_form, sum_form}
use Rattle.kernel_ir.specs.declared.kernel.Array as array
use Rattle.kernel_ir.specs.Mentions.{forms, reads, folds}
use Rattle.kernel_ir.specs.Limits.{value_of, all_inames, domain_rows, forms_of, same_access, size_forms, size_part, IsWithin, IsWithinLimits}
use Rattle.kernel_ir.specs.Valid.{IsRule, IsInsn, IsFormed, HasArities, IsTyped, IsValid, in_insn, all_calls, calls_along, params_of}
use Rattle.kernel_ir.specs.Samples.{doubled, doubling, doubling_insn, iname_form, eight, eight_words, at_least_zero}

-- ---- any fold of the value

module _ {X Y Z : Type 0} (f : Node-F X Y Z → X) (g : Test-F X Y Z → Y) (h : Expr-F X Y Z → Z) where
  abbrev over : X → Z
  over x = h (record { node = x })

  fold_tree : (n : Node) → fold-Expr X Y Z f g h (tree_of n) ≡ over (fold-Node X Y Z f g h n)
  fold_tree n = search (rules, the_lemmas)

  fold_leaf : (q : Quasi) → fold-Node X Y Z f g h (node.Leaf q) ≡ f (Node-F.Leaf q)
  fold_leaf q = search (rules, the_lemmas)

  fold_read : (cell : Cell) (place : List Quasi) → fold-Node X Y Z f g h (node.Read cell place) ≡ f (Node-F.Read cell place)
  fold_read cell place = search (rules, the_lemmas)

  fold_bin : (op : Op) (a b : Expr) → fold-Node X Y Z f g h (node.Bin op a b) ≡ f (Node-F.Bin op (fold-Expr X Y Z f g h a) (fold-Expr X Y Z f g h b))
  fold_bin op a b = search (rules, the_lemmas)

  fold_doubled : fold-Expr X Y Z f g h doubled ≡ over (f (Node-F.Bin Mul (over (f (Node-F.Leaf (affine (pos 2) [])))) (over (f (Node-F.Read (Array 0) (iname_form ∷ []))))))
  fold_doubled =
      fold_tree (node.Bin Mul (tree_of (node.Leaf (affine (pos 2) []))) (tree_of (node.Read (Array 0) (iname_form ∷ []))))
      ∙ ap over (fold_bin Mul (tree_of (node.Leaf (affine (pos 2) []))) (tree_of (node.Read (Array 0) (iname_form ∷ [])))
      ∙ ap₂ (λ (u v : Z). f (Node-F.Bin Mul u v))
      (fold_tree (node.Leaf (affine (pos 2) [])) ∙ ap over (fold_leaf (affine (pos 2) [])))
      (fold_tree (node.Read (Array 0) (iname_form ∷ [])) ∙ ap over (fold_read (Array 0) (iname_form ∷ []))))

-- ---- forms without floors

pub vars_affine : (test : ℕ → Bool) (c : ℤ) (ts : List (ℕ × ℤ)) → each_var test (affine c ts) ≡ (list_all (λ t. test t.0) ts && true)
vars_affine test c ts = simp fold-roll-Quasi refl

pub no_floors : (c : ℤ) (ts : List (ℕ × ℤ)) → floors_in (affine c ts) ≡ []
unfolding floors_in
no_floors c ts = ap (λ (i : Inside). i.floors) (fold-roll-Quasi FloorInside Inside floor_inside form_inside (record { constant = c; terms = ts; floors = [] }))

-- ---- what stands in the value

pub listed_doubled : {A : Type 0} (w : Listing A) → listed w doubled ≡ w.leaf (affine (pos 2) []) ++ w.read (Array 0) (iname_form ∷ [])
listed_doubled {A} w = fold_doubled {X = List A} {Y = List A} {Z = List A} (node_listed w) (test_listed w) expr_listed

pub allowed_doubled : (w : Allowed) → is_allowed w doubled ≡ (λ scope. mentions_only scope (affine (pos 2) []) && (w.read (Array 0) 1 && (mentions_only scope iname_form && true)))
allowed_doubled w = fold_doubled {X = List ℕ → Bool} {Y = List ℕ → Bool} {Z = List ℕ → Bool} (node_allowed w) test_allowed expr_allowed

pub typing_doubled : (w : Kinds) → typing_of w doubled ≡ node_typing w (Node-F.Bin Mul (node_typing w (Node-F.Leaf (affine (pos 2) []))) (node_typing w (Node-F.Read (Array 0) (iname_form ∷ []))))
typing_doubled w = fold_doubled {X = Typing} {Y = Kind → Bool} {Z = Typing} (node_typing w) test_typing expr_typing

pub depth_doubled : depth_of doubled ≡ 2
depth_doubled = fold_doubled {X = ℕ} {Y = ℕ} {Z = ℕ} node_step test_step expr_step

pub nodes_doubled : nodes_of doubled ≡ 3
nodes_doubled = fold_doubled {X = ℕ} {Y = ℕ} {Z = ℕ} count_node count_test count_expr

-- ---- without rules it is as it stands

module _ (tree_at : ℕ → List Quasi → Option Expr) where
  kept_leaf : (q : Quasi) → answered ((expanding tree_at).leaf (node.Leaf q)) (tree_of (node.Leaf q)) ≡ answered (Ok None) (tree_of (node.Leaf q))
  kept_leaf q = ap (λ (l : Node-F Node Test Expr). answered (Ok (used_in_layer tree_at l)) (tree_of (node.Leaf q))) (node.outs-Leaf q)

  kept_read : (cell : Cell) (place : List Quasi) → answered ((expanding tree_at).leaf (node.Read cell place)) (tree_of (node.Read cell place)) ≡ answered (Ok None) (tree_of (node.Read cell place))
  kept_read cell place = ap (λ (l : Node-F Node Test Expr). answered (Ok (used_in_layer tree_at l)) (tree_of (node.Read cell place))) (node.outs-Read cell place)

  expanded_doubled : rewritten (expanding tree_at) doubled ≡ doubled
  expanded_doubled = ap (λ (o : Outcome Expr). o.new)
      (fold_doubled {X = Outcome Expr} {Y = Outcome Test} {Z = Outcome Expr} (node_outcome (expanding tree_at)) (test_outcome (expanding tree_at)) expr_outcome
      ∙ ap₂ (λ (u v : Outcome Expr). node_outcome (expanding tree_at) (Node-F.Bin Mul u v)) (kept_leaf (affine (pos 2) [])) (kept_read (Array 0) (iname_form ∷ [])))

-- ---- the kernel

abbrev K : Kernel
K = doubling (0 ∷ [])

abbrev A : Insn
A = doubling_insn (0 ∷ [])

value_same : value_of K A ≡ doubled
value_same = expanded_doubled (λ rule arguments. None)

inames_are : all_inames A ≡ 0 ∷ []
inames_are = ap (λ (is : List ℕ). (0 ∷ []) ++ ([] ++ is)) (listed_doubled folded)

names_hold : HasNames K
names_hold = record { distinct = refl; identifiers = refl; params = refl; inames = refl; known = refl; differ = refl }

insn_holds : IsInsn K A
insn_holds = record {
  id = refl;
  inames = refl;
  folds = ap (all_differ nat_eq) inames_are;
  rows = refl;
  cell = refl;
  place = ap (λ (b : Bool). b && true) (vars_affine (is_among ([] ++ (0 ∷ []))) (pos 0) ((0, pos 1) ∷ []));
  stored = refl;
  storing = refl;
  test = refl;
  value =
      ap (λ (allowed : List ℕ → Bool). allowed ([] ++ (0 ∷ []))) (allowed_doubled (in_insn K))
      ∙ ap₂ (λ (b c : Bool). b && (true && (c && true)))
      (vars_affine (is_among ([] ++ (0 ∷ []))) (pos 2) [])
      (vars_affine (is_among ([] ++ (0 ∷ []))) (pos 0) ((0, pos 1) ∷ []));
  deps = refl;
}

formed : IsFormed K
formed = record {
  names = names_hold;
  tags = refl;
  priority = IsPermutation-refl (0 ∷ []);
  rows = ap₂ (λ (b c : Bool). b && (c && true))
      (vars_affine (is_among ([] ++ (0 ∷ []))) (pos 0) ((0, pos 1) ∷ []))
      (vars_affine (is_among ([] ++ (0 ∷ []))) (pos 7) ((0, negsuc 0) ∷ []));
  assumptions = refl;
  places = refl;
  shapes = ap₂ (λ (b c : Bool). (b && true) && ((c && true) && true)) (vars_affine (is_among []) (pos 8) []) (vars_affine (is_among []) (pos 8) []);
  rules = All-nil (IsRule K);
  insns = All-cons (IsInsn K) A [] insn_holds (All-nil (IsInsn K));
  ids = refl;
}

no_calls : all_calls K ≡ []
no_calls = ap (λ (cs : List (ℕ × ℕ)). [] ++ (([] ++ cs) ++ [])) (listed_doubled calls)

arities : HasArities K
arities = ap (list_all (λ (c : ℕ × ℕ). nat_eq c.1 (length (params_of (slice_get K.rules c.0))))) no_calls

no_way : (rule : ℕ) (way : List ℕ) → calls_along K rule (way ++ rule ∷ []) ≡ false
no_way rule [] = refl
no_way rule (next ∷ way) = refl

typed : IsTyped K
typed = record {
  temps = refl;
  insns = ap (λ (t : Typing). (t.has I32 && true) && true) (typing_doubled (kinds_in K));
  rules = refl;
}

-- ---- limits

last_form : Quasi
last_form = affine (pos 7) ((0, negsuc 0) ∷ [])

two : Quasi
two = affine (pos 2) []

filter_both : {X : Type 0} (test : X → Bool) (x y : X) → test x ≡ true → test y ≡ true → filter test (x ∷ y ∷ []) ≡ x ∷ y ∷ []
filter_both {X} test x y h k = ap₂ (λ (b c : Bool). if b then (x ∷ (if c then y ∷ [] else [])) else (if c then y ∷ [] else [])) h k

mentions_inames : (c : ℤ) (z : ℤ) → mentions_only ([] ++ all_inames A) (affine c ((0, z) ∷ [])) ≡ true
mentions_inames c z = ap (λ (is : List ℕ). mentions_only ([] ++ is) (affine c ((0, z) ∷ []))) inames_are ∙ vars_affine (is_among ([] ++ (0 ∷ []))) c ((0, z) ∷ [])

domain_are : domain_rows K A ≡ K.rows
domain_are = filter_both (λ (r : QuasiRow). mentions_only ([] ++ all_inames A) r.form) (at_least_zero iname_form) (at_least_zero (affine (pos 7) ((0, negsuc 0) ∷ []))) (mentions_inames (pos 0) (pos 1)) (mentions_inames (pos 7) (negsuc 0))

-- the forms of the instruction: constants and terms
abbrev parts : List (ℤ × List (ℕ × ℤ))
parts =
    (pos 0, (0, pos 1) ∷ []) ∷ (pos 7, (0, negsuc 0) ∷ []) ∷ (pos 8, []) ∷ (pos 8, []) ∷ (pos 0, (0, pos 1) ∷ []) ∷ (pos 2, []) ∷ (pos 0, (0, pos 1) ∷ []) ∷ []

abbrev form_of : ℤ × List (ℕ × ℤ) → Quasi
form_of p = affine p.0 p.1

forms_are : forms_of K A ≡ map form_of parts
forms_are =
    ap₂ (λ (rows : List QuasiRow) (values : List Quasi). map (λ r. r.form) (rows ++ ([] ++ [])) ++ (flat_map (λ a. a.shape) K.arrays ++ ((iname_form ∷ []) ++ ([] ++ values))))
    domain_are (ap (listed forms) value_same ∙ listed_doubled forms)

abbrev IsSmallPart : ℤ × List (ℕ × ℤ) → Type 0
IsSmallPart p = (unsigned_abs p.0 ≤ 2 ^ 62) × (sum_by (λ t. unsigned_abs t.1) p.1 ≤ 2 ^ 62)

all_forms : (ps : List (ℤ × List (ℕ × ℤ))) → AllByRecursion IsSmallPart ps → All IsForm (map form_of ps)
all_forms [] h = All-nil IsForm
all_forms (p ∷ ps) h = All-cons IsForm (form_of p) (map form_of ps) (affine-IsForm p.0 p.1 h.0.0 h.0.1) (all_forms ps h.1)

small_parts : AllByRecursion IsSmallPart parts
small_parts = ((omega arith, omega arith), ((omega arith, omega arith), ((omega arith, omega arith), ((omega arith, omega arith), ((omega arith, omega arith), ((omega arith, omega arith), ((omega arith, omega arith), tt)))))))

floors_of_parts : (ps : List (ℤ × List (ℕ × ℤ))) → flat_map floors_in (map form_of ps) ≡ []
floors_of_parts [] = refl
floors_of_parts (p ∷ ps) = ap₂ (λ (fs gs : List Floor). fs ++ gs) (no_floors p.0 p.1) (floors_of_parts ps)

within_insn : IsWithin K A
within_insn = record {
  inames = subst (λ (is : List ℕ). length is ≤ 16) (sym inames_are) (omega arith);
  forms = subst (λ (qs : List Quasi). All IsForm qs) (sym forms_are) (all_forms parts small_parts);
  value_depth = subst (λ (n : ℕ). n ≤ 64) (sym (ap depth_of value_same ∙ depth_doubled)) (omega arith);
  test_depth = omega arith;
  nodes = subst (λ (n : ℕ). 0 + n ≤ 4096) (sym (ap nodes_of value_same ∙ nodes_doubled)) (omega arith);
  accesses = subst (λ (rs : List (Cell × List Quasi)). length (distinct same_access ((Array 1, iname_form ∷ []) ∷ ([] ++ rs))) ≤ 64) (sym (ap (listed reads) value_same ∙ listed_doubled reads)) (omega arith);
  floors = subst (λ (fs : List Floor). length (distinct same_floor fs) ≤ 32) (sym (ap (flat_map floors_in) forms_are ∙ floors_of_parts parts)) (omega arith);
}

abbrev size_form : Quasi
size_form = sum_form (constant_form (pos (2 ^ 31 - 1))) (neg_ℤ (pos 1)) eight

-- 2^31-1 less the size is 2^31-9
size_row : size_form ≡ affine (pos (2 ^ 31 - 9)) []
unfolding collected_form collected_terms collected_floors
size_row = simp out-roll-Quasi refl

sizes : All IsForm (size_forms (size_part (eight ∷ [])))
sizes =
    All-cons IsForm eight (size_form ∷ []) (affine-IsForm (pos 8) [] (omega arith) (omega arith))
    (All-cons IsForm size_form [] (subst (λ (q : Quasi). IsForm q) (sym size_row) (affine-IsForm (pos (2 ^ 31 - 9)) [] (omega arith) (omega arith))) (All-nil IsForm))

abbrev IsFlat : array.Array → Type 0
IsFlat a = length a.shape ≤ 8

abbrev IsSized : array.Array → Type 0
IsSized a = All IsForm (size_forms (size_part a.shape))

both_arrays : (P : array.Array → Type 0) → ((name : List ℕ) (stored : Bool) → P (eight_words name stored)) → All P K.arrays
both_arrays P h = All-cons P (eight_words (codes "a") false) (eight_words (codes "out") true ∷ []) (h (codes "a") false) (All-cons P (eight_words (codes "out") true) [] (h (codes "out") true) (All-nil P))

within : IsWithinLimits K
within = record {
  names = omega arith;
  params = omega arith;
  count = subst (λ (fs : List ℕ). sum ((1 + 2 * length ([] ++ fs)) ∷ []) ≤ 64) (sym (listed_doubled folds)) (omega arith);
  places = both_arrays IsFlat (λ name stored. omega arith);
  temp_places = All-nil _;
  cells = All-nil _;
  sizes = both_arrays IsSized (λ name stored. sizes);
  bodies = All-nil _;
  insns = All-cons (IsWithin K) A [] within_insn (All-nil (IsWithin K));
}

pub doubling_is_valid : IsValid K
doubling_is_valid = record { formed = formed; arities = arities; acyclic = no_way; typed = typed; within = within }

-- ---- without its iname

out_of_scope : IsInsn (doubling []) (doubling_insn []) → ⊥
out_of_scope h = true≢false (sym h.place ∙ ap (λ (b : Bool). b && true) (vars_affine (is_among ([] ++ [])) (pos 0) ((0, pos 1) ∷ [])))

pub not_without_iname : IsValid (doubling []) → ⊥
not_without_iname h = out_of_scope (recursion_from_All (IsInsn (doubling [])) (doubling_insn [] ∷ []) h.formed.insns).0
