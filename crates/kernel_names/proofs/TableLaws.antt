-- One more name at the end of what is said.
use Rattle.std.proofs.Common.{◌≡◌, ℕ, ◌+◌, Bool, true, false, cond, if◌then◌else◌, List, [], ◌∷◌, ◌++◌, map, length, arith, refl, sym, ap, ◌∙◌, bytes_eq, append_assoc, append-nil}
use Rattle.std.specs.Prelude.{flat_map}
use Rattle.std.specs.List.{list_any, filter}
use Rattle.std.proofs.lemmas.List.{length-append, length-map, map-append}
use Rattle.std.proofs.lemmas.Grind.{flat_map-append}
use Rattle.std.proofs.lemmas.List.Elements.{filter-append}
use Rattle.quasi_forms.specs.Alike.{distinct}
use Rattle.quasi_forms.proofs.FloorSums.{distinct-new, distinct-again}
use Rattle.untyped.specs.declared.scope.Role.{Role}
use Rattle.kernel_names.specs.declared.said.Sort.{Sort}
use Rattle.kernel_names.specs.declared.said.Sort.TheVariants as sort
use Rattle.kernel_names.specs.declared.said.Said.{Said}
use Rattle.kernel_names.specs.declared.table.Counts.{Counts}
use Rattle.kernel_names.specs.declared.table.Table.{Table}
use Rattle.kernel_names.specs.Said.{is_declaration, declarations_in, names_declared}
use Rattle.kernel_names.specs.Roles.{is_parameter, is_array, is_temp, is_rule, count_as, role_behind, roles_behind, stored_as}
use Rattle.kernel_names.specs.Tables.{IsTable, counts_of, counts_with, role_with}
use Rattle.kernel_names.proofs.NameLaws.{any_named}

-- ---- which declarations count

filter_one : (b : Bool) (p : Said → Bool) (xs : List Said) (s : Said) → p s ≡ b → filter p (xs ++ s ∷ []) ≡ filter p xs ++ cond b (s ∷ []) []
filter_one b p xs s h = filter-append p xs (s ∷ []) ∙ ap (λ (c : Bool). filter p xs ++ cond c (s ∷ []) []) h

any_declared : (said : List Said) (n : List ℕ) → list_any (bytes_eq n) (names_declared said) ≡ list_any (λ s. bytes_eq s.name n) (filter (λ s. is_declaration s.sort) said)
any_declared said n = any_named (λ (s : Said). s.name) n (filter (λ s. is_declaration s.sort) said)

pub declared_own : (said : List Said) (s : Said) → is_declaration s.sort ≡ false → declarations_in (said ++ s ∷ []) ≡ declarations_in said
declared_own said s own = ap (λ (xs : List Said). distinct (λ a b. bytes_eq a.name b.name) xs) (filter_one false (λ x. is_declaration x.sort) said s own ∙ append-nil (filter (λ x. is_declaration x.sort) said))

pub declared_again : (said : List Said) (s : Said) → is_declaration s.sort ≡ true → list_any (bytes_eq s.name) (names_declared said) ≡ true → declarations_in (said ++ s ∷ []) ≡ declarations_in said
declared_again said s is there =
    ap (λ (xs : List Said). distinct (λ a b. bytes_eq a.name b.name) xs) (filter_one true (λ x. is_declaration x.sort) said s is)
    ∙ distinct-again (λ a b. bytes_eq a.name b.name) (filter (λ x. is_declaration x.sort) said) s (sym (any_declared said s.name) ∙ there)

pub declared_new : (said : List Said) (s : Said) → is_declaration s.sort ≡ true → list_any (bytes_eq s.name) (names_declared said) ≡ false → declarations_in (said ++ s ∷ []) ≡ declarations_in said ++ s ∷ []
declared_new said s is fresh =
    ap (λ (xs : List Said). distinct (λ a b. bytes_eq a.name b.name) xs) (filter_one true (λ x. is_declaration x.sort) said s is)
    ∙ distinct-new (λ a b. bytes_eq a.name b.name) (filter (λ x. is_declaration x.sort) said) s (sym (any_declared said s.name) ∙ fresh)

-- ---- what one more stands for

roles_push : (before ds : List Said) (d : Said) → roles_behind before (ds ++ d ∷ []) ≡ roles_behind before ds ++ role_behind (before ++ ds) d.sort ∷ []
roles_push before [] d = ap (λ (b : List Said). role_behind b d.sort ∷ []) (sym (append-nil before))
roles_push before (x ∷ ds) d =
    ap (λ (rs : List Role). role_behind before x.sort ∷ rs) (roles_push (before ++ x ∷ []) ds d
    ∙ ap (λ (b : List Said). roles_behind (before ++ x ∷ []) ds ++ role_behind b d.sort ∷ []) (append_assoc before (x ∷ []) ds))

role_same : (ds : List Said) (s : Sort) → role_with (length ds) (counts_of ds) s ≡ role_behind ds s
role_same ds sort.Parameter = refl
role_same ds sort.Iname = refl
role_same ds (sort.Array places stored) = refl
role_same ds (sort.Temp places) = refl
role_same ds sort.Rule = refl
role_same ds sort.Own = refl

one_test : (b : Bool) (s : Said) → length (cond b (s ∷ []) []) ≡ cond b 1 0
one_test true s = refl
one_test false s = refl

count_push : (is : Sort → Bool) (ds : List Said) (d : Said) → count_as is (ds ++ d ∷ []) ≡ count_as is ds + cond (is d.sort) 1 0
count_push is ds d =
    ap (λ (xs : List Said). length xs) (filter-append (λ x. is x.sort) ds (d ∷ []))
    ∙ (length-append (filter (λ x. is x.sort) ds) (filter (λ x. is x.sort) (d ∷ [])) ∙ ap (λ (n : ℕ). count_as is ds + n) (one_test (is d.sort) d))

counts_same : (p a t r : ℕ) (c : Counts) → c.parameters ≡ p → c.arrays ≡ a → c.temps ≡ t → c.rules ≡ r → c ≡ record { parameters = p; arrays = a; temps = t; rules = r }
counts_same p a t r c e f g h =
    let first : c ≡ record { parameters = p; arrays = c.arrays; temps = c.temps; rules = c.rules } = ap (λ (n : ℕ). record { parameters = n; arrays = c.arrays; temps = c.temps; rules = c.rules }) e in
    let second = ap (λ (n : ℕ). record { parameters = p; arrays = n; temps = c.temps; rules = c.rules }) f in
    let third = ap (λ (n : ℕ). record { parameters = p; arrays = a; temps = n; rules = c.rules }) g in
    first ∙ (second ∙ (third ∙ ap (λ (n : ℕ). record { parameters = p; arrays = a; temps = t; rules = n }) h))

abbrev CountsAs : List Said → Said → Sort → Type 0
CountsAs ds d s = (is : Sort → Bool) → count_as is (ds ++ d ∷ []) ≡ count_as is ds + cond (is s) 1 0

counts_by : (s : Sort) (ds : List Said) (d : Said) → CountsAs ds d s → counts_of (ds ++ d ∷ []) ≡ counts_with (counts_of ds) s
counts_by sort.Parameter ds d at = counts_same _ _ _ _ (counts_of (ds ++ d ∷ [])) (at is_parameter) (omega (arith, at is_array)) (omega (arith, at is_temp)) (omega (arith, at is_rule))
counts_by sort.Iname ds d at = counts_same _ _ _ _ (counts_of (ds ++ d ∷ [])) (omega (arith, at is_parameter)) (omega (arith, at is_array)) (omega (arith, at is_temp)) (omega (arith, at is_rule))
counts_by (sort.Array places stored) ds d at = counts_same _ _ _ _ (counts_of (ds ++ d ∷ [])) (omega (arith, at is_parameter)) (at is_array) (omega (arith, at is_temp)) (omega (arith, at is_rule))
counts_by (sort.Temp places) ds d at = counts_same _ _ _ _ (counts_of (ds ++ d ∷ [])) (omega (arith, at is_parameter)) (omega (arith, at is_array)) (at is_temp) (omega (arith, at is_rule))
counts_by sort.Rule ds d at = counts_same _ _ _ _ (counts_of (ds ++ d ∷ [])) (omega (arith, at is_parameter)) (omega (arith, at is_array)) (omega (arith, at is_temp)) (at is_rule)
counts_by sort.Own ds d at = counts_same _ _ _ _ (counts_of (ds ++ d ∷ [])) (omega (arith, at is_parameter)) (omega (arith, at is_array)) (omega (arith, at is_temp)) (omega (arith, at is_rule))

-- ---- tables

pub table_none : (t : Table) → t.names ≡ [] → t.roles ≡ [] → t.stored ≡ [] → t.counts ≡ counts_of [] → IsTable t []
table_none t e f g h = record { names = e; roles = f; stored = g; counts = h }

pub table_same : (t : Table) (said : List Said) (s : Said) → declarations_in (said ++ s ∷ []) ≡ declarations_in said → IsTable t said → IsTable t (said ++ s ∷ [])
table_same t said s e h = record {
  names = h.names ∙ ap (λ (ds : List Said). map (λ d. d.name) ds) (sym e);
  roles = h.roles ∙ ap (roles_behind []) (sym e);
  stored = h.stored ∙ ap (flat_map (λ d. stored_as d.sort)) (sym e);
  counts = h.counts ∙ ap counts_of (sym e);
}

stored_push : (ds : List Said) (d : Said) → flat_map (λ x. stored_as x.sort) (ds ++ d ∷ []) ≡ flat_map (λ x. stored_as x.sort) ds ++ stored_as d.sort
stored_push ds d = flat_map-append (λ (x : Said). stored_as x.sort) ds (d ∷ []) ∙ ap (λ (bs : List Bool). flat_map (λ x. stored_as x.sort) ds ++ bs) (append-nil (stored_as d.sort))

-- a table with one more declaration
pub table_more : (t new : Table) (said : List Said) (s : Said) → declarations_in (said ++ s ∷ []) ≡ declarations_in said ++ s ∷ [] → IsTable t said
    → new.names ≡ t.names ++ s.name ∷ [] → new.roles ≡ t.roles ++ role_with (length t.names) t.counts s.sort ∷ [] → new.stored ≡ t.stored ++ stored_as s.sort → new.counts ≡ counts_with t.counts s.sort
    → IsTable new (said ++ s ∷ [])
table_more t new said s e h names roles stored counts =
    let ds = declarations_in said in
    let many = ap (λ (ns : List (List ℕ)). length ns) h.names ∙ length-map ds (λ (d : Said). d.name) in
    let role = ap (λ (n : ℕ). role_with n t.counts s.sort) many ∙ (ap (λ (c : Counts). role_with (length ds) c s.sort) h.counts ∙ role_same ds s.sort) in
    record {
      names = names ∙ (ap (λ (ns : List (List ℕ)). ns ++ s.name ∷ []) h.names ∙ (sym (map-append (λ (d : Said). d.name) ds (s ∷ [])) ∙ ap (λ (xs : List Said). map (λ d. d.name) xs) (sym e)));
      roles = roles ∙ (ap (λ (rs : List Role). rs ++ role_with (length t.names) t.counts s.sort ∷ []) h.roles ∙ (ap (λ (r : Role). roles_behind [] ds ++ r ∷ []) role ∙ (sym (roles_push [] ds s) ∙ ap (roles_behind []) (sym e))));
      stored = stored ∙ (ap (λ (bs : List Bool). bs ++ stored_as s.sort) h.stored ∙ (sym (stored_push ds s) ∙ ap (flat_map (λ d. stored_as d.sort)) (sym e)));
      counts = counts ∙ (ap (λ (c : Counts). counts_with c s.sort) h.counts ∙ (sym (counts_by s.sort ds s (λ is. count_push is ds s)) ∙ ap counts_of (sym e)));
    }

-- a declaration that is new
pub table_new : (t new : Table) (said : List Said) (s : Said) → is_declaration s.sort ≡ true → list_any (bytes_eq s.name) t.names ≡ false → IsTable t said
    → new.names ≡ (if list_any (bytes_eq s.name) t.names then t.names else (t.names ++ s.name ∷ [])) → new.roles ≡ t.roles ++ role_with (length t.names) t.counts s.sort ∷ [] → new.stored ≡ t.stored ++ stored_as s.sort → new.counts ≡ counts_with t.counts s.sort
    → IsTable new (said ++ s ∷ [])
table_new t new said s is fresh h names roles stored counts =
    let e = declared_new said s is (ap (λ (ns : List (List ℕ)). list_any (bytes_eq s.name) ns) (sym h.names) ∙ fresh) in
    table_more t new said s e h (names ∙ ap (λ (b : Bool). if b then t.names else (t.names ++ s.name ∷ [])) fresh) roles stored counts

-- a name that is declared already
pub table_again : (t : Table) (said : List Said) (s : Said) → is_declaration s.sort ≡ true → list_any (bytes_eq s.name) t.names ≡ true → IsTable t said → IsTable t (said ++ s ∷ [])
table_again t said s is there h = table_same t said s (declared_again said s is (ap (λ (ns : List (List ℕ)). list_any (bytes_eq s.name) ns) (sym h.names) ∙ there)) h

pub table_own : (t : Table) (said : List Said) (s : Said) → is_declaration s.sort ≡ false → IsTable t said → IsTable t (said ++ s ∷ [])
table_own t said s own h = table_same t said s (declared_own said s own) h
