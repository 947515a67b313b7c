-- What names stand for is in the kernel.
use Rattle.std.proofs.Common.{◌≡◌, ℕ, zero, suc, arith, Bool, true, false, cond, ◌||◌, if◌then◌else◌, List, [], ◌∷◌, ◌++◌, map, length, take, slice_get, position, Option, Some, None, unwrap_or, bytes_eq, refl, sym, ap, subst, ◌∙◌, append_assoc, append-nil}
use Rattle.std.specs.Prelude.{nat_eq, nat_lt, flat_map}
use Rattle.std.specs.List.{list_any, filter}
use Rattle.std.specs.Option.{option_map}
use Rattle.std.proofs.lemmas.Bool.{true≢false, or_left, or_right, lt-ltb, eq-eqb}
use Rattle.std.proofs.lemmas.List.{length-map}
use Rattle.std.proofs.lemmas.List.Folds.{list_any-append}
use Rattle.std.proofs.lemmas.Option.{slice_get-map, slice_get_within, none-some, same_Some}
use Rattle.std.proofs.lemmas.Slice.Eq.{bytes_eq-Decides}
use Rattle.expr_tree.specs.declared.tree.Cell.{Cell}
use Rattle.expr_tree.specs.declared.tree.Cell.TheVariants as cell
use Rattle.expr_tree.specs.Scenes.{is_among}
use Rattle.quasi_forms.specs.Alike.{distinct}
use Rattle.kernel_ir.specs.declared.kernel.Kernel.{Kernel}
use Rattle.kernel_ir.specs.declared.kernel.Array as array
use Rattle.kernel_ir.specs.declared.kernel.Temp as temp
use Rattle.kernel_ir.specs.Mentions.{shape_length, temp_length, is_count, has_cell}
use Rattle.kernel_ir.specs.Valid as ir
use Rattle.kernel_grammar.specs.declared.file.Entry.{Entry}
use Rattle.untyped.specs.declared.scope.Role.{Role}
use Rattle.untyped.specs.declared.scope.Role.TheVariants as role
use Rattle.kernel_names.specs.declared.said.Sort.{Sort}
use Rattle.kernel_names.specs.declared.said.Sort.TheVariants as sort
use Rattle.kernel_names.specs.declared.said.Said.{Said}
use Rattle.kernel_names.specs.declared.declarations.Declarations.{Declarations}
use Rattle.kernel_names.specs.Said.{said_by, declarations_in}
use Rattle.kernel_names.specs.Roles.{is_array, is_temp, is_rule, role_behind, roles_behind, found_role, stored_as, declarations_of, kernel_roles, no_iname, parameter_roles, body_roles, may_store, number_of, parameter_in, iname_in}
use Rattle.kernel_names.proofs.NameLaws.{any_distinct}
use Rattle.kernel_formed.specs.NameLaws.{NoneTaken, IsThere, HasNoInames}
use Rattle.kernel_formed.proofs.SaidParts.{HasNamesOf, array_said, temp_said, rule_said}
use Rattle.kernel_formed.proofs.NameLists.{passes_in, kept_place}
use Rattle.kernel_formed.proofs.Untaken.{is_unknown}
use Rattle.kernel_formed.proofs.KernelNames.{arrays_are, temps_are, rules_are}

-- ---- what stands for something has a place

standing_test : (o : Option Role) (roles : List Role) (i : ℕ) (r : Role) → slice_get roles i ≡ o → unwrap_or o role.Unknown ≡ r → is_unknown r ≡ false
    → slice_get roles i ≡ Some r
standing_test None roles i r at is known = absurd (true≢false (ap is_unknown is ∙ known))
standing_test (Some x) roles i r at is known = at ∙ ap Some is

standing : (roles : List Role) (o : Option ℕ) (r : Role) → found_role roles o ≡ r → is_unknown r ≡ false → (i : ℕ) × (slice_get roles i ≡ Some r)
standing roles None r is known = absurd (true≢false (ap is_unknown is ∙ known))
standing roles (Some i) r is known = (i, standing_test (slice_get roles i) roles i r refl is known)

declared_at : (before ds : List Said) (i : ℕ) (r : Role) → slice_get (roles_behind before ds) i ≡ Some r
    → (d : Said) × (slice_get ds i ≡ Some d) × (role_behind (before ++ take i ds) d.sort ≡ r)
declared_at before [] i r at = absurd (none-some r at)
declared_at before (d ∷ ds) zero r at = (d, refl, ap (λ (b : List Said). role_behind b d.sort) (append-nil before) ∙ same_Some (role_behind before d.sort) r at)
declared_at before (d ∷ ds) (suc i) r at =
    let found = declared_at (before ++ d ∷ []) ds i r at in
    (found.0, found.1, ap (λ (b : List Said). role_behind b found.0.sort) (sym (append_assoc before (d ∷ []) (take i ds))) ∙ found.2)

-- ---- cells

shape_test : (o : Option array.Array) (d : Said) (places : ℕ) (stored : Bool) → option_map array_said o ≡ Some d → d.sort ≡ sort.Array places stored
    → is_count (shape_length o) places ≡ true
shape_test None d places stored at is = absurd (none-some d at)
shape_test (Some a) d places stored at is =
    let same : sort.Array (length a.shape) a.stored ≡ sort.Array places stored = ap (λ (s : Said). s.sort) (same_Some (array_said a) d at) ∙ is in
    eq-eqb (length a.shape) places cc

temp_test : (o : Option temp.Temp) (d : Said) (places : ℕ) → option_map temp_said o ≡ Some d → d.sort ≡ sort.Temp places
    → is_count (temp_length o) places ≡ true
temp_test None d places at is = absurd (none-some d at)
temp_test (Some t) d places at is =
    let same : sort.Temp (length t.shape) ≡ sort.Temp places = ap (λ (s : Said). s.sort) (same_Some (temp_said t) d at) ∙ is in
    eq-eqb (length t.shape) places cc

-- the declarations of one sort of which this is one
made_at : {A : Type 0} (said : A → Said) (xs : List A) (is : Sort → Bool) (ds : List Said) (i : ℕ) (d : Said) → map said xs ≡ filter (λ x. is x.sort) ds
    → slice_get ds i ≡ Some d → is d.sort ≡ true
    → option_map said (slice_get xs (length (filter (λ x. is x.sort) (take i ds)))) ≡ Some d
made_at said xs is ds i d are at here =
    let n = length (filter (λ x. is x.sort) (take i ds)) in
    sym (slice_get-map said xs n) ∙ (ap (λ (ys : List Said). slice_get ys n) are ∙ kept_place (λ x. is x.sort) ds i d at here)

cell_test : (s : Sort) (K : Kernel) (ds : List Said) (i : ℕ) (d : Said) (c : Cell) (n : ℕ) → map array_said K.arrays ≡ filter (λ x. is_array x.sort) ds
    → map temp_said K.temps ≡ filter (λ x. is_temp x.sort) ds
    → slice_get ds i ≡ Some d → d.sort ≡ s → role_behind (take i ds) s ≡ role.Cell c n → has_cell K c n ≡ true
cell_test sort.Parameter K ds i d c n arrays temps at is e = cc
cell_test sort.Iname K ds i d c n arrays temps at is e = cc
cell_test sort.Rule K ds i d c n arrays temps at is e = cc
cell_test sort.Own K ds i d c n arrays temps at is e = cc
cell_test (sort.Array places stored) K ds i d c n arrays temps at is e =
    let place = length (filter (λ x. is_array x.sort) (take i ds)) in
    let same : cell.Array place ≡ c = cc in
    let many : places ≡ n = cc in
    let there = shape_test (slice_get K.arrays place) d places stored (made_at array_said K.arrays is_array ds i d arrays at (ap is_array is)) is in
    subst (λ (x : Cell). has_cell K x n ≡ true) same (subst (λ (m : ℕ). has_cell K (cell.Array place) m ≡ true) many there)
cell_test (sort.Temp places) K ds i d c n arrays temps at is e =
    let place = length (filter (λ x. is_temp x.sort) (take i ds)) in
    let same : cell.Temp place ≡ c = cc in
    let many : places ≡ n = cc in
    let there = temp_test (slice_get K.temps place) d places (made_at temp_said K.temps is_temp ds i d temps at (ap is_temp is)) is in
    subst (λ (x : Cell). has_cell K x n ≡ true) same (subst (λ (m : ℕ). has_cell K (cell.Temp place) m ≡ true) many there)

-- ---- rules

rule_test : (s : Sort) (K : Kernel) (ds : List Said) (i : ℕ) (d : Said) (r : ℕ) → map rule_said K.rules ≡ filter (λ x. is_rule x.sort) ds
    → slice_get ds i ≡ Some d → d.sort ≡ s → role_behind (take i ds) s ≡ role.Rule r → nat_lt r (length K.rules) ≡ true
rule_test sort.Parameter K ds i d r rules at is e = cc
rule_test sort.Iname K ds i d r rules at is e = cc
rule_test (sort.Array places stored) K ds i d r rules at is e = cc
rule_test (sort.Temp places) K ds i d r rules at is e = cc
rule_test sort.Own K ds i d r rules at is e = cc
rule_test sort.Rule K ds i d r rules at is e =
    let place = length (filter (λ x. is_rule x.sort) (take i ds)) in
    let same : place ≡ r = cc in
    let within = slice_get_within (filter (λ x. is_rule x.sort) ds) place d (kept_place (λ x. is_rule x.sort) ds i d at (ap is_rule is)) in
    let many = sym (length-map K.rules rule_said) ∙ ap length rules in
    lt-ltb r (length K.rules) (omega (arith, same, within, many))

-- ---- arrays that may be stored to

stored_test : (s : Sort) (d : Said) (ds : List Said) → d.sort ≡ s
    → stored_as s ++ flat_map (λ x. stored_as x.sort) ds ≡ flat_map (λ x. stored_as x.sort) (cond (is_array s) (d ∷ ds) ds)
stored_test (sort.Array places stored) d ds is = ap (λ (s : Sort). stored_as s ++ flat_map (λ (x : Said). stored_as x.sort) ds) (sym is)
stored_test sort.Parameter d ds is = refl
stored_test sort.Iname d ds is = refl
stored_test (sort.Temp places) d ds is = refl
stored_test sort.Rule d ds is = refl
stored_test sort.Own d ds is = refl

arrays_stored : (ds : List Said) → flat_map (λ d. stored_as d.sort) ds ≡ flat_map (λ d. stored_as d.sort) (filter (λ d. is_array d.sort) ds)
arrays_stored [] = refl
arrays_stored (d ∷ ds) = ap (λ (bs : List Bool). stored_as d.sort ++ bs) (arrays_stored ds) ∙ stored_test d.sort d (filter (λ x. is_array x.sort) ds) refl

said_stored : (arrays : List array.Array) → flat_map (λ d. stored_as d.sort) (map array_said arrays) ≡ map (λ a. a.stored) arrays
said_stored [] = refl
said_stored (a ∷ arrays) = ap (λ (bs : List Bool). a.stored ∷ bs) (said_stored arrays)

is_stored_test : (o : Option array.Array) → unwrap_or (option_map (λ a. a.stored) o) false ≡ true → ir.is_stored o ≡ true
is_stored_test None h = h
is_stored_test (Some a) h = h

module _ (K : Kernel) (entries : List Entry) (h : HasNamesOf K entries) (untaken : NoneTaken entries) where
  abbrev ds : List Said
  ds = declarations_in (said_by entries)

  abbrev all : Declarations
  all = declarations_of entries

  stored_are : all.stored ≡ map (λ a. a.stored) K.arrays
  stored_are = arrays_stored ds ∙ (ap (flat_map (λ (d : Said). stored_as d.sort)) (sym (arrays_are K entries h untaken)) ∙ said_stored K.arrays)

  pub stored_there : (c : Cell) → may_store all c ≡ true → ir.may_store K c ≡ true
  stored_there (cell.Array n) may =
      is_stored_test (slice_get K.arrays n) (ap (λ (o : Option Bool). unwrap_or o false) (sym (slice_get-map (λ (a : array.Array). a.stored) K.arrays n))
      ∙ (ap (λ (bs : List Bool). unwrap_or (slice_get bs n) false) (sym stored_are) ∙ may))
  stored_there (cell.Temp n) may = refl

  found : (name : List ℕ) (r : Role) → kernel_roles all name ≡ r → is_unknown r ≡ false → (i : ℕ) × (slice_get all.roles i ≡ Some r)
  found name r is known = standing all.roles (position (bytes_eq name) all.names) r is known

  pub kernel_there : IsThere K K.params (kernel_roles all)
  kernel_there = record {
    parameter = λ name v is. let at = found name (role.Parameter v) is refl in
        ap (λ (vs : List ℕ). is_among vs v) h.params ∙ passes_in parameter_in (λ u. nat_eq u v) all.roles at.0 (role.Parameter v) at.1
        (or_left (nat_eq v v) false (eq-eqb v v refl));
    iname = λ name v is. let at = found name (role.Iname v) is refl in
        ap (λ (vs : List ℕ). is_among vs v) h.inames ∙ passes_in iname_in (λ u. nat_eq u v) all.roles at.0 (role.Iname v) at.1
        (or_left (nat_eq v v) false (eq-eqb v v refl));
    cell = λ name c n is. let at = found name (role.Cell c n) is refl in
        let d = declared_at [] ds at.0 (role.Cell c n) at.1 in
        cell_test d.0.sort K ds at.0 d.0 c n (arrays_are K entries h untaken) (temps_are K entries h untaken) d.1 refl d.2;
    rule = λ name r is. let at = found name (role.Rule r) is refl in
        let d = declared_at [] ds at.0 (role.Rule r) at.1 in
        rule_test d.0.sort K ds at.0 d.0 r (rules_are K entries h untaken) d.1 refl d.2;
  }

-- ---- without inames

no_iname_test : (x r : Role) → no_iname x ≡ r → is_unknown r ≡ false → x ≡ r
no_iname_test (role.Parameter v) r is known = is
no_iname_test (role.Iname v) r is known = absurd (true≢false (ap is_unknown is ∙ known))
no_iname_test (role.Cell c n) r is known = is
no_iname_test (role.Rule n) r is known = is
no_iname_test role.Unknown r is known = is

no_iname_none : (x : Role) (v : ℕ) → no_iname x ≡ role.Iname v → ⊥
no_iname_none (role.Parameter u) v is = cc
no_iname_none (role.Iname u) v is = cc
no_iname_none (role.Cell c n) v is = cc
no_iname_none (role.Rule n) v is = cc
no_iname_none role.Unknown v is = cc

pub parameters_there : (K : Kernel) (D : Declarations) → IsThere K K.params (kernel_roles D) → IsThere K K.params (parameter_roles D)
parameters_there K D h = record {
  parameter = λ name v is. h.parameter name v (no_iname_test (kernel_roles D name) (role.Parameter v) is refl);
  iname = λ name v is. absurd (no_iname_none (kernel_roles D name) v is);
  cell = λ name c n is. h.cell name c n (no_iname_test (kernel_roles D name) (role.Cell c n) is refl);
  rule = λ name r is. h.rule name r (no_iname_test (kernel_roles D name) (role.Rule r) is refl);
}

pub parameters_alone : (D : Declarations) → HasNoInames (parameter_roles D)
parameters_alone D name v is = no_iname_none (kernel_roles D name) v is

-- ---- in the body of a rule

-- a role is one's own parameter or another role
own_parameter : (b : Bool) (u v : ℕ) (x : Role) (P : Type 0) → (if b then role.Parameter u else x) ≡ role.Parameter v → (b ≡ true → u ≡ v → P)
    → (x ≡ role.Parameter v → P) → P
own_parameter true u v x P is own other = own refl cc
own_parameter false u v x P is own other = other is

abbrev is_parameter_role : Role → Bool
is_parameter_role (role.Parameter v) = true
is_parameter_role _ = false

other_role : (b : Bool) (u : ℕ) (x r : Role) → (if b then role.Parameter u else x) ≡ r → is_parameter_role r ≡ false → x ≡ r
other_role true u x r is other = absurd (true≢false (ap is_parameter_role is ∙ other))
other_role false u x r is other = is

either : (b c rest more : Bool) → (b ≡ true → c ≡ true) → (rest ≡ true → more ≡ true) → (b || rest) ≡ true → (c || more) ≡ true
either true c rest more first later h = or_left c more (first refl)
either false c rest more first later h = or_right c more (later h)

pub own_among : (D : Declarations) (own : List (List ℕ)) (n : List ℕ) → list_any (bytes_eq n) own ≡ true
    → is_among (map (number_of D) own) (number_of D n) ≡ true
own_among D [] n there = there
own_among D (m ∷ own) n there =
    either (bytes_eq n m) (nat_eq (number_of D m) (number_of D n)) (list_any (bytes_eq n) own) (is_among (map (number_of D) own) (number_of D n))
    (λ same. eq-eqb (number_of D m) (number_of D n) (ap (number_of D) (sym ((bytes_eq-Decides n m).0 same)))) (own_among D own n) there

pub body_there : (K : Kernel) (D : Declarations) (own : List (List ℕ)) → IsThere K K.params (parameter_roles D)
    → IsThere K (map (number_of D) own ++ K.params) (body_roles D (distinct bytes_eq own))
body_there K D own h =
    let is_own = λ (name : List ℕ). list_any (bytes_eq name) (distinct bytes_eq own) in
    let joined = λ (v : ℕ). list_any-append (λ (u : ℕ). nat_eq u v) (map (number_of D) own) K.params in
    record {
      parameter = λ name v is. own_parameter (is_own name) (number_of D name) v (parameter_roles D name)
          (is_among (map (number_of D) own ++ K.params) v ≡ true) is
          (λ among same. joined v ∙ or_left (is_among (map (number_of D) own) v) (is_among K.params v)
          (subst (λ (u : ℕ). is_among (map (number_of D) own) u ≡ true) same (own_among D own name (sym (any_distinct name own) ∙ among))))
          (λ other. joined v ∙ or_right (is_among (map (number_of D) own) v) (is_among K.params v) (h.parameter name v other));
      iname = λ name v is. h.iname name v (other_role (is_own name) (number_of D name) (parameter_roles D name) (role.Iname v) is refl);
      cell = λ name c n is. h.cell name c n (other_role (is_own name) (number_of D name) (parameter_roles D name) (role.Cell c n) is refl);
      rule = λ name r is. h.rule name r (other_role (is_own name) (number_of D name) (parameter_roles D name) (role.Rule r) is refl);
    }

pub body_alone : (D : Declarations) (own : List (List ℕ)) → HasNoInames (body_roles D own)
body_alone D own name v is =
    parameters_alone D name v (other_role (list_any (bytes_eq name) own) (number_of D name) (parameter_roles D name) (role.Iname v) is refl)
