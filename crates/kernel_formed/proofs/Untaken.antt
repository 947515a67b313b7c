-- Where no name is taken, each name that an array, a temporary, a rule or an iname is said by is declared by that.
use Rattle.std.proofs.Common.{◌≡◌, ℕ, suc, arith, Bool, true, false, not, cond, if◌then◌else◌, List, [], ◌∷◌, ◌++◌, length, get_or, position, Option, Some, None, is_some, unwrap_or, refl, sym, ap, ◌∙◌, bytes_eq, append_assoc, append-nil}
use Rattle.std.specs.List.{list_all, list_any, filter, AllByRecursion}
use Rattle.std.specs.Option.{option_or}
use Rattle.std.proofs.lemmas.Bool.{true≢false, and_parts, and_from, both_ways, false_from_ne_true, not-true}
use Rattle.std.proofs.lemmas.List.{length-map}
use Rattle.std.proofs.lemmas.List.Elements.{filter-append, filter_passes, recursion_from_All}
use Rattle.std.proofs.lemmas.List.Sums.{list_all-from_AllPass}
use Rattle.std.proofs.lemmas.List.Quantifiers.{position-Some}
use Rattle.std.proofs.lemmas.Option.{slice_get-get_or}
use Rattle.quasi_forms.specs.Alike.{distinct}
use Rattle.quasi_forms.proofs.FloorSums.{distinct-new, distinct-again}
use Rattle.kernel_grammar.specs.declared.file.Entry.{Entry}
use Rattle.untyped.specs.declared.scope.Role.{Role}
use Rattle.untyped.specs.declared.scope.Role.TheVariants as role
use Rattle.kernel_names.specs.declared.said.Sort.{Sort}
use Rattle.kernel_names.specs.declared.said.Sort.TheVariants as sort
use Rattle.kernel_names.specs.declared.said.Said.{Said}
use Rattle.kernel_names.specs.declared.limit.LineFaults.{LineFaults}
use Rattle.kernel_names.specs.Said.{said_in, said_by, is_declaration, all_declarations, declarations_in, names_declared}
use Rattle.kernel_names.specs.Roles.{role_behind, roles_behind, roles_declared, found_role}
use Rattle.kernel_names.specs.Lines.{is_taken_as, role_in, repeated_own, faults_along, faults_behind, faults_of}
use Rattle.kernel_names.proofs.NameLaws.{is_some-position, any_named}
use Rattle.kernel_formed.specs.NameLaws.{NoneTaken}
use Rattle.kernel_formed.proofs.NameLists.{all_at, all_distinct}

-- ---- what a declared name stands for is known

abbrev pub is_unknown : Role → Bool
is_unknown role.Unknown = true
is_unknown _ = false

known_test : (s : Sort) (before : List Said) → is_declaration s ≡ true → not (is_unknown (role_behind before s)) ≡ true
known_test sort.Own before h = h
known_test _ before h = refl

all_known : (before ds : List Said) → list_all (λ d. is_declaration d.sort) ds ≡ true → list_all (λ r. not (is_unknown r)) (roles_behind before ds) ≡ true
all_known before [] h = refl
all_known before (d ∷ ds) h =
    let parts = and_parts (is_declaration d.sort) (list_all (λ x. is_declaration x.sort) ds) h in
    and_from (not (is_unknown (role_behind before d.sort))) (list_all (λ r. not (is_unknown r)) (roles_behind (before ++ d ∷ []) ds))
    (known_test d.sort before parts.0) (all_known (before ++ d ∷ []) ds parts.1)

pub length-roles : (before ds : List Said) → length (roles_behind before ds) ≡ length ds
length-roles before [] = refl
length-roles before (d ∷ ds) = ap suc (length-roles (before ++ d ∷ []) ds)

found_test : (o : Option ℕ) (names : List (List ℕ)) (roles : List Role) (n : List ℕ) → position (bytes_eq n) names ≡ o → is_some o ≡ true
    → length roles ≡ length names → list_all (λ r. not (is_unknown r)) roles ≡ true
    → is_unknown (found_role roles o) ≡ false
found_test None names roles n found there many known = absurd (true≢false (sym there))
found_test (Some i) names roles n found there many known =
    let within = (position-Some (bytes_eq n) names i n found).0 in
    let at = slice_get-get_or roles i role.Unknown (omega (arith, within, many)) in
    ap (λ (o : Option Role). is_unknown (unwrap_or o role.Unknown)) at
    ∙ not-true _ (all_at (λ r. not (is_unknown r)) roles i (get_or roles i role.Unknown) at known)

pub all_declare : (said : List Said) → list_all (λ d. is_declaration d.sort) (declarations_in said) ≡ true
all_declare said =
    all_distinct (λ a b. bytes_eq a.name b.name) (λ d. is_declaration d.sort) (all_declarations said)
    (list_all-from_AllPass (λ (s : Said). is_declaration s.sort) (all_declarations said) (filter_passes (λ s. is_declaration s.sort) said))

known : (said : List Said) (n : List ℕ) → list_any (bytes_eq n) (names_declared said) ≡ true → is_unknown (role_in said n) ≡ false
known said n there =
    found_test (position (bytes_eq n) (names_declared said)) (names_declared said) (roles_declared said) n refl
    (is_some-position (bytes_eq n) (names_declared said) ∙ there)
    (length-roles [] (declarations_in said) ∙ sym (length-map (declarations_in said) (λ (d : Said). d.name)))
    (all_known [] (declarations_in said) (all_declare said))

-- ---- one more name

-- the sorts whose names may not stand for anything before
abbrev pub is_new : Sort → Bool
is_new sort.Own = false
is_new sort.Parameter = false
is_new _ = true

new_declares : (s : Sort) → is_new s ≡ true → is_declaration s ≡ true
new_declares sort.Own h = h
new_declares _ h = refl

unknown_if : (s : Sort) (r : Role) → is_new s ≡ true → is_taken_as s r ≡ false → is_unknown r ≡ true
unknown_if sort.Own r h e = absurd (true≢false (sym h))
unknown_if sort.Parameter r h e = absurd (true≢false (sym h))
unknown_if _ role.Unknown h e = refl
unknown_if _ _ h e = absurd (true≢false e)

free : (b : Bool) (n : List ℕ) → (if b then Some n else None) ≡ None → b ≡ false
free false n h = refl
free true n h = cc

or_none : {X : Type 0} (a b : Option X) → option_or a b ≡ None → (a ≡ None) × (b ≡ None)
or_none None b h = (refl, h)
or_none (Some x) b h = cc

-- what passes and has no like among these is one more of those that pass
more_test : {X : Type 0} (there : Bool) (same : X → X → Bool) (q : X → Bool) (xs : List X) (y : X) → list_any (λ x. same x y) xs ≡ there
    → (q y ≡ true → there ≡ false)
    → filter q (distinct same (xs ++ y ∷ [])) ≡ filter q (distinct same xs) ++ filter q (y ∷ [])
more_test false same q xs y is fresh = ap (filter q) (distinct-new same xs y is) ∙ filter-append q (distinct same xs) (y ∷ [])
more_test true same q xs y is fresh =
    ap (filter q) (distinct-again same xs y is)
    ∙ (sym (append-nil (filter q (distinct same xs))) ∙ ap (λ (b : Bool). filter q (distinct same xs) ++ cond b (y ∷ []) [])
    (sym (false_from_ne_true (q y) (λ passes. true≢false (fresh passes)))))

one_more : {X : Type 0} (same : X → X → Bool) (q : X → Bool) (xs : List X) (y : X) → (q y ≡ true → list_any (λ x. same x y) xs ≡ false)
    → filter q (distinct same (xs ++ y ∷ [])) ≡ filter q (distinct same xs) ++ filter q (y ∷ [])
one_more same q xs y fresh = more_test (list_any (λ x. same x y) xs) same q xs y refl fresh

-- sorts of which each is new
module _ (p : Sort → Bool) (new : (s : Sort) → p s ≡ true → is_new s ≡ true) where
  abbrev kept : List Said → List Said
  kept said = filter (λ s. p s.sort) said

  -- a name that is said as one of these sorts stands for nothing before
  fresh : (said : List Said) (s : Said) → is_taken_as s.sort (role_in said s.name) ≡ false → p s.sort ≡ true
      → list_any (λ x. bytes_eq x.name s.name) (all_declarations said) ≡ false
  fresh said s free passes =
      false_from_ne_true (list_any (λ x. bytes_eq x.name s.name) (all_declarations said)) (λ there.
      both_ways (is_unknown (role_in said s.name)) (known said s.name (any_named (λ (x : Said). x.name) s.name (all_declarations said) ∙ there))
      (unknown_if s.sort (role_in said s.name) (new s.sort passes) free))

  one_test : (declares : Bool) (said : List Said) (s : Said) → is_declaration s.sort ≡ declares → is_taken_as s.sort (role_in said s.name) ≡ false
      → kept (distinct (λ a b. bytes_eq a.name b.name) (all_declarations said ++ cond declares (s ∷ []) [])) ≡ kept (declarations_in said) ++ kept (s ∷ [])
  one_test true said s is free = one_more (λ a b. bytes_eq a.name b.name) (λ x. p x.sort) (all_declarations said) s (fresh said s free)
  one_test false said s own free =
      let other = false_from_ne_true (p s.sort) (λ passes. both_ways (is_declaration s.sort) own (new_declares s.sort (new s.sort passes))) in
      ap (λ (xs : List Said). kept (distinct (λ a b. bytes_eq a.name b.name) xs)) (append-nil (all_declarations said))
      ∙ (sym (append-nil (kept (declarations_in said))) ∙ ap (λ (b : Bool). kept (declarations_in said) ++ cond b (s ∷ []) []) (sym other))

  one_kept : (said : List Said) (s : Said) → is_taken_as s.sort (role_in said s.name) ≡ false
      → kept (declarations_in (said ++ s ∷ [])) ≡ kept (declarations_in said) ++ kept (s ∷ [])
  one_kept said s free =
      ap (λ (xs : List Said). kept (distinct (λ a b. bytes_eq a.name b.name) xs)) (filter-append (λ x. is_declaration x.sort) said (s ∷ []))
      ∙ one_test (is_declaration s.sort) said s refl free

  joined : (before one more : List Said) → kept (declarations_in (before ++ one)) ≡ kept (declarations_in before) ++ kept one
      → kept (declarations_in ((before ++ one) ++ more)) ≡ kept (declarations_in (before ++ one)) ++ kept more
      → kept (declarations_in (before ++ (one ++ more))) ≡ kept (declarations_in before) ++ kept (one ++ more)
  joined before one more first rest =
      ap (λ (xs : List Said). kept (declarations_in xs)) (sym (append_assoc before one more))
      ∙ (rest ∙ (ap (λ (xs : List Said). xs ++ kept more) first
      ∙ (append_assoc (kept (declarations_in before)) (kept one) (kept more)
      ∙ ap (λ (xs : List Said). kept (declarations_in before) ++ xs) (sym (filter-append (λ x. p x.sort) one more)))))

  none_more : (before : List Said) → kept (declarations_in (before ++ [])) ≡ kept (declarations_in before) ++ []
  none_more before = ap (λ (xs : List Said). kept (declarations_in xs)) (append-nil before) ∙ sym (append-nil (kept (declarations_in before)))

  kept_along : (before said : List Said) → (faults_along before said).taken ≡ None
      → kept (declarations_in (before ++ said)) ≡ kept (declarations_in before) ++ kept said
  kept_along before [] h = none_more before
  kept_along before (s ∷ said) h =
      let parts = or_none (if is_taken_as s.sort (role_in before s.name) then Some s.name else None) (faults_along (before ++ s ∷ []) said).taken h in
      joined before (s ∷ []) said (one_kept before s (free (is_taken_as s.sort (role_in before s.name)) s.name parts.0))
      (kept_along (before ++ s ∷ []) said parts.1)

  kept_behind : (before : List Said) (entries : List Entry) → AllByRecursion (λ f. f.taken ≡ None) (faults_behind before entries)
      → kept (declarations_in (before ++ said_by entries)) ≡ kept (declarations_in before) ++ kept (said_by entries)
  kept_behind before [] h = none_more before
  kept_behind before (e ∷ entries) h =
      let parts = or_none (faults_along before (said_in e.item)).taken (repeated_own e.item) h.0 in
      joined before (said_in e.item) (said_by entries) (kept_along before (said_in e.item) parts.0) (kept_behind (before ++ said_in e.item) entries h.1)

  -- those of these sorts that are said are those that are declared
  pub all_kept : (entries : List Entry) → NoneTaken entries
      → filter (λ s. p s.sort) (declarations_in (said_by entries)) ≡ filter (λ s. p s.sort) (said_by entries)
  all_kept entries h = kept_behind [] entries (recursion_from_All (λ (f : LineFaults). f.taken ≡ None) (faults_of entries) h)

none_repeated : (before : List Said) (entries : List Entry) → AllByRecursion (λ f. f.taken ≡ None) (faults_behind before entries)
    → AllByRecursion (λ e. repeated_own e.item ≡ None) entries
none_repeated before [] h = h
none_repeated before (e ∷ entries) h =
    ((or_none (faults_along before (said_in e.item)).taken (repeated_own e.item) h.0).1, none_repeated (before ++ said_in e.item) entries h.1)

-- no rule has a parameter of its own twice
pub all_own_once : (entries : List Entry) → NoneTaken entries → AllByRecursion (λ e. repeated_own e.item ≡ None) entries
all_own_once entries h = none_repeated [] entries (recursion_from_All (λ (f : LineFaults). f.taken ≡ None) (faults_of entries) h)
