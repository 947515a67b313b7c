-- A kernel with the names of lines that take none has its names: what it declares is among them, and differs.
use Rattle.std.proofs.Common.{◌≡◌, ℕ, ◌+◌, ◌≤◌, arith, Bool, true, false, cond, List, [], ◌∷◌, ◌++◌, map, length, bytes_eq, refl, sym, ap, ap₂, ◌∙◌, length-append}
use Rattle.std.specs.Prelude.{nat_eq, nat_lt}
use Rattle.std.specs.List.{list_all, list_any, filter, count_by}
use Rattle.std.proofs.lemmas.Bool.{true≢false, and_from, eqb-true}
use Rattle.std.proofs.lemmas.List.{length-map, map-append}
use Rattle.std.proofs.lemmas.Simd.{map-map}
use Rattle.std.proofs.lemmas.List.Folds.{list_all-append, list_all-map}
use Rattle.std.proofs.lemmas.Slice.Eq.{bytes_eq-Decides}
use Rattle.kernel_ir.specs.declared.kernel.Kernel.{Kernel}
use Rattle.kernel_ir.specs.declared.kernel.Array as array
use Rattle.kernel_ir.specs.declared.kernel.Temp as temp
use Rattle.kernel_ir.specs.declared.kernel.SubstRule.{SubstRule}
use Rattle.kernel_ir.specs.NameSpace.{HasNames, is_identifier, all_differ, name_of, declared_names, iname_vars}
use Rattle.kernel_grammar.specs.declared.file.Entry.{Entry}
use Rattle.kernel_names.specs.declared.said.Sort.{Sort}
use Rattle.kernel_names.specs.declared.said.Sort.TheVariants as sort
use Rattle.kernel_names.specs.declared.said.Said.{Said}
use Rattle.kernel_names.specs.Said.{said_by, all_declarations, declarations_in, names_declared}
use Rattle.kernel_names.specs.Roles.{is_parameter, is_array, is_temp, is_rule, parameter_in, iname_in}
use Rattle.kernel_names.proofs.NameLaws.{map_distinct}
use Rattle.kernel_formed.specs.NameLaws.{NoneTaken, AreIdentifiers}
use Rattle.kernel_formed.proofs.SaidParts.{HasNamesOf, array_said, temp_said, rule_said}
use Rattle.kernel_formed.proofs.Differing.{is_itself, count-cons, count-append, differ_less, differ_distinct}
use Rattle.kernel_formed.proofs.NameLists.{all_filter, all_among, differ_unmap, behind}
use Rattle.kernel_formed.proofs.Untaken.{is_new, all_kept}
use Rattle.kernel_formed.proofs.AllNames.{said_names, own_names, names_split, declared_known, names_differ, names_are}
use Rattle.kernel_formed.proofs.Variables.{is_iname, picked_names, picked_within, picks_parameter, picks_iname}

-- ---- names by their sorts

abbrev pub named : (Sort → Bool) → List Said → List (List ℕ)
named is ds = map (λ d. d.name) (filter (λ d. is d.sort) ds)

abbrev pub grouped : List Said → List (List ℕ)
grouped ds = (named is_parameter ds ++ named is_iname ds) ++ (named is_array ds ++ (named is_temp ds ++ named is_rule ds))

all_join : (p : List ℕ → Bool) (xs ys : List (List ℕ)) → list_all p xs ≡ true → list_all p ys ≡ true → list_all p (xs ++ ys) ≡ true
all_join p xs ys first rest = list_all-append p xs ys ∙ and_from (list_all p xs) (list_all p ys) first rest

all_named : (p : List ℕ → Bool) (is : Sort → Bool) (ds : List Said) → list_all p (map (λ d. d.name) ds) ≡ true → list_all p (named is ds) ≡ true
all_named p is ds all =
    list_all-map p (λ (d : Said). d.name) (filter (λ d. is d.sort) ds)
    ∙ all_filter (λ (d : Said). p d.name) (λ d. is d.sort) ds (sym (list_all-map p (λ (d : Said). d.name) ds) ∙ all)

all_grouped : (p : List ℕ → Bool) (ds : List Said) → list_all p (map (λ d. d.name) ds) ≡ true → list_all p (grouped ds) ≡ true
all_grouped p ds all =
    all_join p _ _ (all_join p _ _ (all_named p is_parameter ds all) (all_named p is_iname ds all))
    (all_join p _ _ (all_named p is_array ds all) (all_join p _ _ (all_named p is_temp ds all) (all_named p is_rule ds all)))

-- ---- each is in one group

counted_test : (b : Bool) (n : List ℕ) (d : Said) (ds : List Said)
    → count_by (bytes_eq n) (map (λ x. x.name) (cond b (d ∷ ds) ds)) ≡ cond b (cond (bytes_eq n d.name) 1 0) 0 + count_by (bytes_eq n) (map (λ x. x.name) ds)
counted_test true n d ds = count-cons (bytes_eq n) d.name (map (λ x. x.name) ds)
counted_test false n d ds = omega arith

counted : (n : List ℕ) (is : Sort → Bool) (d : Said) (ds : List Said)
    → count_by (bytes_eq n) (named is (d ∷ ds)) ≡ cond (is d.sort) (cond (bytes_eq n d.name) 1 0) 0 + count_by (bytes_eq n) (named is ds)
counted n is d ds = counted_test (is d.sort) n d (filter (λ x. is x.sort) ds)

one_group : (s : Sort) (one p i a t r all : ℕ) → (p + i) + (a + (t + r)) ≤ all
    → ((cond (is_parameter s) one 0 + p) + (cond (is_iname s) one 0 + i)) +
    ((cond (is_array s) one 0 + a) + ((cond (is_temp s) one 0 + t) + (cond (is_rule s) one 0 + r))) ≤ one + all
one_group sort.Parameter one p i a t r all h = omega (arith, h)
one_group sort.Iname one p i a t r all h = omega (arith, h)
one_group (sort.Array places stored) one p i a t r all h = omega (arith, h)
one_group (sort.Temp places) one p i a t r all h = omega (arith, h)
one_group sort.Rule one p i a t r all h = omega (arith, h)
one_group sort.Own one p i a t r all h = omega (arith, h)

abbrev many : List ℕ → (Sort → Bool) → List Said → ℕ
many n is ds = count_by (bytes_eq n) (named is ds)

group_counts : (n : List ℕ) (ds : List Said)
    → (many n is_parameter ds + many n is_iname ds) + (many n is_array ds + (many n is_temp ds + many n is_rule ds))
    ≤ count_by (bytes_eq n) (map (λ d. d.name) ds)
group_counts n [] = omega arith
group_counts n (d ∷ ds) =
    let parameters = counted n is_parameter d ds in
    let inames = counted n is_iname d ds in
    let arrays = counted n is_array d ds in
    let temps = counted n is_temp d ds in
    let rules = counted n is_rule d ds in
    let all = count-cons (bytes_eq n) d.name (map (λ x. x.name) ds) in
    let most = one_group d.sort (cond (bytes_eq n d.name) 1 0) (many n is_parameter ds) (many n is_iname ds) (many n is_array ds) (many n is_temp ds)
    (many n is_rule ds) (count_by (bytes_eq n) (map (λ x. x.name) ds)) (group_counts n ds) in
    omega (arith, parameters, inames, arrays, temps, rules, all, most)

grouped_count : (n : List ℕ) (ds : List Said) → count_by (bytes_eq n) (grouped ds) ≤ count_by (bytes_eq n) (map (λ d. d.name) ds)
grouped_count n ds =
    let whole = count-append (bytes_eq n) (named is_parameter ds ++ named is_iname ds) (named is_array ds ++ (named is_temp ds ++ named is_rule ds)) in
    let variables = count-append (bytes_eq n) (named is_parameter ds) (named is_iname ds) in
    let others = count-append (bytes_eq n) (named is_array ds) (named is_temp ds ++ named is_rule ds) in
    let last = count-append (bytes_eq n) (named is_temp ds) (named is_rule ds) in
    let most = group_counts n ds in
    omega (arith, whole, variables, others, last, most)

declared_differ : (said : List Said) → all_differ bytes_eq (names_declared said) ≡ true
declared_differ said =
    ap (λ (ns : List (List ℕ)). all_differ bytes_eq ns) (map_distinct (λ (s : Said). s.name) (all_declarations said))
    ∙ differ_distinct bytes_eq bytes_eq-Decides (map (λ (s : Said). s.name) (all_declarations said))

grouped_differ : (said : List Said) → all_differ bytes_eq (grouped (declarations_in said)) ≡ true
grouped_differ said =
    differ_less bytes_eq bytes_eq-Decides (grouped (declarations_in said)) (names_declared said) (λ n. grouped_count n (declarations_in said))
    (declared_differ said)

-- ---- what a kernel declares

new_array : (s : Sort) → is_array s ≡ true → is_new s ≡ true
new_array (sort.Array places stored) h = refl
new_array _ h = absurd (true≢false (sym h))

new_temp : (s : Sort) → is_temp s ≡ true → is_new s ≡ true
new_temp (sort.Temp places) h = refl
new_temp _ h = absurd (true≢false (sym h))

new_rule : (s : Sort) → is_rule s ≡ true → is_new s ≡ true
new_rule sort.Rule h = refl
new_rule _ h = absurd (true≢false (sym h))

module _ (K : Kernel) (entries : List Entry) (h : HasNamesOf K entries) (untaken : NoneTaken entries) where
  abbrev ds : List Said
  ds = declarations_in (said_by entries)

  pub arrays_are : map array_said K.arrays ≡ filter (λ d. is_array d.sort) ds
  arrays_are = h.arrays ∙ sym (all_kept is_array new_array entries untaken)

  pub temps_are : map temp_said K.temps ≡ filter (λ d. is_temp d.sort) ds
  temps_are = h.temps ∙ sym (all_kept is_temp new_temp entries untaken)

  pub rules_are : map rule_said K.rules ≡ filter (λ d. is_rule d.sort) ds
  rules_are = h.rules ∙ sym (all_kept is_rule new_rule entries untaken)

  abbrev rest : List (List ℕ)
  rest = behind bytes_eq (said_names entries) (own_names entries)

  names_are_split : K.names ≡ map (λ d. d.name) ds ++ rest
  names_are_split = h.names ∙ names_split entries

  parameters_named : map (name_of K) K.params ≡ named is_parameter ds
  parameters_named =
      ap (map (name_of K)) h.params ∙ picked_names parameter_in is_parameter picks_parameter K.names [] ds rest names_are_split

  inames_named : map (name_of K) (iname_vars K) ≡ named is_iname ds
  inames_named =
      ap (map (name_of K)) h.inames ∙ picked_names iname_in is_iname picks_iname K.names [] ds rest names_are_split

  arrays_named : map (λ a. a.name) K.arrays ≡ named is_array ds
  arrays_named = sym (map-map (λ (s : Said). s.name) array_said K.arrays) ∙ ap (map (λ (s : Said). s.name)) arrays_are

  temps_named : map (λ t. t.name) K.temps ≡ named is_temp ds
  temps_named = sym (map-map (λ (s : Said). s.name) temp_said K.temps) ∙ ap (map (λ (s : Said). s.name)) temps_are

  rules_named : map (λ r. r.name) K.rules ≡ named is_rule ds
  rules_named = sym (map-map (λ (s : Said). s.name) rule_said K.rules) ∙ ap (map (λ (s : Said). s.name)) rules_are

  declared_are : declared_names K ≡ grouped ds
  declared_are =
      ap₂ (λ (xs ys : List (List ℕ)). xs ++ ys) (map-append (name_of K) K.params (iname_vars K)
      ∙ ap₂ (λ (xs ys : List (List ℕ)). xs ++ ys) parameters_named inames_named)
      (ap₂ (λ (xs ys : List (List ℕ)). xs ++ ys) arrays_named (ap₂ (λ (xs ys : List (List ℕ)). xs ++ ys) temps_named rules_named))

  enough : 0 + length ds ≤ length K.names
  enough =
      let many = length-append (map (λ (d : Said). d.name) ds) rest in
      let each = length-map ds (λ (d : Said). d.name) in
      let all = ap length names_are_split in
      omega (arith, many, each, all)

  pub has_names : AreIdentifiers entries → HasNames K
  has_names identifiers = record {
    distinct = ap (λ (ns : List (List ℕ)). all_differ bytes_eq ns) h.names ∙ names_differ entries;
    identifiers = ap (list_all is_identifier) h.names ∙ names_are is_identifier entries identifiers;
    params = ap (list_all (λ v. nat_lt v (length K.names))) h.params ∙ picked_within parameter_in is_parameter picks_parameter (length K.names) [] ds enough;
    inames = ap (list_all (λ v. nat_lt v (length K.names))) h.inames ∙ picked_within iname_in is_iname picks_iname (length K.names) [] ds enough;
    known = ap (list_all (λ n. list_any (bytes_eq n) K.names)) declared_are ∙ all_grouped (λ n. list_any (bytes_eq n) K.names) ds
        (all_among bytes_eq (is_itself bytes_eq bytes_eq-Decides) (map (λ d. d.name) ds) K.names
        (λ n there. ap (λ (ns : List (List ℕ)). list_any (bytes_eq n) ns) h.names ∙ declared_known entries n there));
    differ = ap (λ (ns : List (List ℕ)). all_differ bytes_eq ns) declared_are ∙ grouped_differ (said_by entries);
  }

-- ---- variables

-- where names differ the variables do
pub variables_differ : (K : Kernel) → HasNames K → all_differ nat_eq (K.params ++ iname_vars K) ≡ true
variables_differ K h =
    let vars = K.params ++ iname_vars K in
    let others = map (λ (a : array.Array). a.name) K.arrays ++ (map (λ (t : temp.Temp). t.name) K.temps ++ map (λ (r : SubstRule). r.name) K.rules) in
    differ_unmap nat_eq bytes_eq (name_of K) (λ u v same. (bytes_eq-Decides (name_of K u) (name_of K v)).1 (ap (name_of K) (eqb-true u v same))) vars
    (differ_less bytes_eq bytes_eq-Decides (map (name_of K) vars) (declared_names K)
    (λ n. let all = count-append (bytes_eq n) (map (name_of K) vars) others in omega (arith, all)) h.differ)
