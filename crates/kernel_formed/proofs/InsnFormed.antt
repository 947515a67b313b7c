-- An instruction of a file in which no line is refused.
use Rattle.std.proofs.Common.{◌≡◌, ℕ, Bool, true, false, ◌&&◌, ◌||◌, not, nat_eq, nat_le, List, [], ◌∷◌, ◌++◌, map, length, ap, refl, sym, subst, ◌∙◌, bytes_eq, append-nil, ◌⊎◌, inl, inr}
use Rattle.std.specs.Prelude.{Option, Some, None, if◌then◌else◌, flat_map, unwrap_or, is_some}
use Rattle.std.specs.Option.{option_map}
use Rattle.std.specs.List.{list_all, list_any, filter}
use Rattle.std.proofs.lemmas.List.{length-map}
use Rattle.affine_rows.specs.declared.quasi.Quasi.{Quasi}
use Rattle.affine_rows.proofs.NameSets.{any_map}
use Rattle.expr_tree.specs.declared.tree.Cell.{Cell}
use Rattle.expr_tree.specs.declared.tree.Cell.TheVariants.{Temp}
use Rattle.expr_tree.specs.Scenes.{is_among, mentions_only, each_var}
use Rattle.std.proofs.lemmas.Bool.{and_from, and_parts}
use Rattle.kernel_grammar.specs.declared.file.Entry.{Entry}
use Rattle.kernel_grammar.specs.declared.item.InsnOption.{InsnOption}
use Rattle.kernel_grammar.specs.declared.item.Stored.{Stored}
use Rattle.kernel_grammar.specs.declared.item.Stored.TheVariants as stored
use Rattle.kernel_grammar.specs.declared.step.Extreme.TheVariants.{Min, Max}
use Rattle.kernel_grammar.specs.declared.step.Folding.TheVariants as folding
use Rattle.kernel_grammar.specs.declared.step.Step.{Step}
use Rattle.kernel_ir.specs.declared.kernel.Insn.{Insn}
use Rattle.kernel_ir.specs.declared.kernel.Kernel.{Kernel}
use Rattle.kernel_ir.specs.Mentions.{has_cell, listed, listed_in, listed_in_test, folded}
use Rattle.kernel_ir.specs.NameSpace.{all_differ, is_identifier, iname_vars}
use Rattle.kernel_ir.specs.Valid as valid
use Rattle.kernel_ir.specs.Valid.{IsInsn, in_insn, test_allowed, may_combine}
use Rattle.untyped.specs.declared.reading.Reading.{Reading}
use Rattle.untyped.specs.declared.scope.Role.{Role}
use Rattle.untyped.specs.declared.scope.Role.TheVariants as role
use Rattle.untyped.specs.declared.tree.Term.TheVariants as term
use Rattle.untyped.specs.declared.tree.Untyped.{Untyped}
use Rattle.untyped.specs.Exprs.{expr_of, test_of}
use Rattle.untyped.specs.Readings.{untyped_of}
use Rattle.untyped.proofs.Layers.{at-Read}
use Rattle.untyped_parts.specs.Conjuncts.{split_of}
use Rattle.untyped_parts.specs.Mentions.{term_listed, vars_in, vars_in_all, mentions, bound}
use Rattle.kernel_names.specs.declared.declarations.Declarations.{Declarations}
use Rattle.kernel_names.specs.declared.limit.LineFaults.{LineFaults}
use Rattle.kernel_names.specs.Lines.{no_faults, first_faults}
use Rattle.kernel_names.specs.Roles.{kernel_roles, may_store, name_of, inames_of}
use Rattle.kernel_lines.specs.Places.{index_of, forms_faults}
use Rattle.kernel_lines.specs.Stores.{cell_as, stored_cell, deps_of}
use Rattle.kernel_lines.specs.Values.{is_update, stored_faults}
use Rattle.kernel_files.specs.declared.insns.ReadInsn.{ReadInsn}
use Rattle.kernel_files.specs.declared.options.Predicate.{Predicate}
use Rattle.kernel_files.specs.Options.{options_of}
use Rattle.kernel_files.specs.Insns.{cell_faults, trees_in, read_insn, mentioned, bound_in, inames_among, first_taken, storing_of, rows_of, rest_in, insn_of}
use Rattle.kernel_formed.specs.ExpressionLaws.{IsSplit}
use Rattle.kernel_formed.specs.NameLaws.{NamesAreThere}
use Rattle.kernel_formed.specs.Shapes.{is_whole}
use Rattle.kernel_formed.specs.Sound.{Meant, IsFine, IsScoped, are_new, sound}
use Rattle.kernel_formed.specs.Taken.{IsTakenFrom}
use Rattle.kernel_formed.specs.Written.{option_fits}
use Rattle.kernel_formed.proofs.AllowedPredicates.{split}
use Rattle.kernel_formed.proofs.Scopes.{differ_first, differ_second, differ_apart, new_to_both}
use Rattle.kernel_formed.proofs.AllowedTrees.{stands_in, test_stands_in}
use Rattle.kernel_formed.proofs.BoundNames.{binds, test_binds}
use Rattle.kernel_formed.proofs.FormSums.{weaker, vars_test}
use Rattle.kernel_formed.proofs.NumberLists.{in_front, in_back, in_either, same_number, kept_among, filter_again, untaken_differ}
use Rattle.kernel_formed.proofs.Joining.{all_both, all_first, all_second, itself_among, all_among, differ_kept}
use Rattle.kernel_formed.specs.Meanings.{meant_in_insns}
use Rattle.kernel_formed.proofs.Permitted.{insns_permit, fits_in_insns}
use Rattle.kernel_formed.proofs.OptionsFine.{predicate_sound}
use Rattle.kernel_formed.proofs.PlacesFine.{fine_value, first_off, forms_pass}
use Rattle.kernel_formed.proofs.SoundNames.{mentioning, binding, places_pass, vars_pass_in, inames_pass_in}
use Rattle.kernel_formed.proofs.SoundReadings.{said_sound}
use Rattle.kernel_formed.proofs.TakenLists as taken
use Rattle.kernel_formed.proofs.FineLines.{both_fine}

-- ---- the cell

-- the name stands for this cell with so many places, which may be stored to
record IsCell (D : Declarations) (r : Role) (n : ℕ) (o : Option Cell) : Type 0 where
  pub cell : Cell
  pub role : r ≡ role.Cell cell n
  pub stored : may_store D cell ≡ true
  pub is : o ≡ Some cell

cell_by : (D : Declarations) (n : ℕ) (c : Cell) (places : ℕ) (a b : Bool) → nat_eq places n ≡ a → may_store D c ≡ b → is_some (if a && b then Some c else None) ≡ true → IsCell D (role.Cell c places) n (if a && b then Some c else None)
cell_by D n c places true true e f h = record { cell = c; role = ap (role.Cell c) (same_number places n e); stored = f; is = refl }
cell_by D n c places true false e f h = absurd (cc)
cell_by D n c places false b e f h = absurd (cc)

cell_case : (D : Declarations) (n : ℕ) (r : Role) → is_some (cell_as D n r) ≡ true → IsCell D r n (cell_as D n r)
cell_case D n (role.Cell c places) h = cell_by D n c places (nat_eq places n) (may_store D c) refl refl h
cell_case D n (role.Parameter v) h = absurd (cc)
cell_case D n (role.Iname v) h = absurd (cc)
cell_case D n (role.Rule r) h = absurd (cc)
cell_case D n role.Unknown h = absurd (cc)

some_case : (o : Option Cell) (name : List ℕ) → (if is_some o then None else Some name) ≡ None → is_some o ≡ true
some_case None name h = absurd (cc)
some_case (Some c) name h = refl

cell_of : (D : Declarations) (name : List ℕ) (n : ℕ) → cell_faults (stored_cell D name n) name ≡ no_faults → IsCell D (kernel_roles D name) n (stored_cell D name n)
cell_of D name n h = cell_case D n (kernel_roles D name) (some_case (stored_cell D name n) name (ap (λ (f : LineFaults). f.unknown) h))

-- ---- the value

pub stored_fine : (how : Stored) (r : Reading) → stored_faults how r ≡ no_faults → IsFine r.faults
stored_fine how r h =
    let deep = record r.faults { depth = r.faults.depth || (is_update how && nat_le 64 r.depth) } in
    let fine = fine_value deep h in
    record { wide = fine.wide; number = fine.number; depth = first_off r.faults.depth (is_update how && nat_le 64 r.depth) fine.depth; form = fine.form; unknown = fine.unknown; shape = fine.shape }

storing_combines : (how : Stored) → may_combine (storing_of how) ≡ true
storing_combines stored.Plain = refl
storing_combines (stored.Update folding.Sum) = refl
storing_combines (stored.Update folding.Product) = refl
storing_combines (stored.Update (folding.Extreme Min)) = refl
storing_combines (stored.Update (folding.Extreme Max)) = refl

-- ---- what is in scope

-- what may be meant and is mentioned is a parameter or an iname of the instruction
scope_case : (params inames ms : List ℕ) (v : ℕ) → (is_among params v ≡ true) ⊎ (is_among inames v ≡ true) → is_among ms v ≡ true → is_among (params ++ filter (is_among ms) inames) v ≡ true
scope_case params inames ms v (inl h) k = in_front params (filter (is_among ms) inames) v h
scope_case params inames ms v (inr h) k = in_back params (filter (is_among ms) inames) v (kept_among (is_among ms) inames v h k)

in_scope : (params inames ms vs : List ℕ) → list_all (is_among (params ++ inames)) vs ≡ true → list_all (is_among ms) vs ≡ true → list_all (is_among (params ++ filter (is_among ms) inames)) vs ≡ true
in_scope params inames ms [] h k = refl
in_scope params inames ms (v ∷ vs) h k =
    and_from (is_among (params ++ filter (is_among ms) inames) v) (list_all (is_among (params ++ filter (is_among ms) inames)) vs)
    (scope_case params inames ms v (in_either params inames v ((and_parts (is_among (params ++ inames) v) (list_all (is_among (params ++ inames)) vs) h).0)) ((and_parts (is_among ms v) (list_all (is_among ms) vs) k).0))
    (in_scope params inames ms vs ((and_parts (is_among (params ++ inames) v) (list_all (is_among (params ++ inames)) vs) h).1) ((and_parts (is_among ms v) (list_all (is_among ms) vs) k).1))

-- of an expression among others all that it mentions is mentioned
abbrev Covers : List ℕ → List ℕ → Type 0
Covers all some = list_all (is_among all) some ≡ true

covers_front : (us vs : List ℕ) → Covers (us ++ vs) us
covers_front us vs = weaker (is_among us) (is_among (us ++ vs)) (λ v h. in_front us vs v h) us (itself_among us)

covers_more : (us vs ws : List ℕ) → Covers vs ws → Covers (us ++ vs) ws
covers_more us vs ws h = weaker (is_among vs) (is_among (us ++ vs)) (λ v e. in_back us vs v e) ws h

covers_less : (us vs ws : List ℕ) → Covers us ws → Covers (us ++ vs) ws
covers_less us vs ws h = weaker (is_among us) (is_among (us ++ vs)) (λ v e. in_front us vs v e) ws h

abbrev read_of : Cell → List Quasi → Untyped
read_of c place = record { term = term.Read c place }

read_mentions : (c : Cell) (place : List Quasi) → mentions (read_of c place) ≡ vars_in_all place
read_mentions c place = at-Read (term_listed mentioning) c place

read_binds : (c : Cell) (place : List Quasi) → bound (read_of c place) ≡ []
read_binds c place = at-Read (term_listed binding) c place

-- each form of a place whose variables are among others
forms_over : (p : ℕ → Bool) (qs : List Quasi) → list_all p (vars_in_all qs) ≡ true → list_all (each_var p) qs ≡ true
forms_over p [] h = refl
forms_over p (q ∷ qs) h = and_from (each_var p q) (list_all (each_var p) qs) (vars_test p q ∙ (all_first p (vars_in q) (vars_in_all qs) h)) (forms_over p qs (all_second p (vars_in q) (vars_in_all qs) h))

-- ---- the instruction

pub none_name : (D : Declarations) (o : Option ℕ) → option_map (name_of D) o ≡ None → o ≡ None
none_name D None h = refl
none_name D (Some v) h = absurd (cc)

module _ (K : Kernel) where
  abbrev m : Meant
  m = meant_in_insns K

  abbrev SoundIn : Option Predicate → Type 0
  SoundIn None = Unit {0}
  SoundIn (Some p) = sound m p.tree ≡ true

  -- ---- the predicate

  -- its rows are over the scope, its data test is allowed there, and it binds no other inames
  record IsPredicate (scope : List ℕ) (p : Option Predicate) : Type 0 where
    pub rows : list_all (λ r. mentions_only scope r.form) (rows_of p) ≡ true
    pub test : test_allowed K (option_map test_of (rest_in p)) scope ≡ true
    pub binds : IsTakenFrom (listed_in folded (option_map test_of (rest_in p))) (flat_map bound (trees_in p))

  -- the data test by what is left of the predicate
  record IsTest (scope : List ℕ) (all : List ℕ) (rest : Option Untyped) : Type 0 where
    pub test : test_allowed K (option_map test_of rest) scope ≡ true
    pub binds : IsTakenFrom (listed_in folded (option_map test_of rest)) all

  rest_case : (scope : List ℕ) (e : Untyped) (rest : Option Untyped) → IsSplit m scope e → (split_of e).rest ≡ rest → list_all (is_among scope) (mentions e) ≡ true → all_differ nat_eq (bound e) ≡ true → are_new scope (bound e) ≡ true
      → IsTest scope (bound e) rest
  rest_case scope e None h is in_all differ new = record { test = refl; binds = taken.nothing (bound e) }
  rest_case scope e (Some r) h is in_all differ new =
      let rest = h.rest r is in
      let scoped : IsScoped scope r = record {
        mentions = rest.mentions (is_among scope) in_all;
        differ = subst (λ (vs : List ℕ). all_differ nat_eq vs ≡ true) (sym rest.bound) differ;
        new = subst (λ (vs : List ℕ). are_new scope vs ≡ true) (sym rest.bound) new;
      } in
      record {
        test = test_stands_in m (in_insn K) (insns_permit K) r scope rest.sound scoped;
        binds = subst (λ (vs : List ℕ). IsTakenFrom (listed_in_test folded (test_of r)) vs) rest.bound (test_binds r);
      }

  predicate_fits : (scope : List ℕ) (p : Option Predicate) → SoundIn p → list_all (is_among scope) (flat_map mentions (trees_in p)) ≡ true → all_differ nat_eq (flat_map bound (trees_in p)) ≡ true
      → are_new scope (flat_map bound (trees_in p)) ≡ true → IsPredicate scope p
  predicate_fits scope None h in_all differ new = record { rows = refl; test = refl; binds = taken.nothing [] }
  predicate_fits scope (Some p) h in_all differ new =
      let all = all_first (is_among scope) (mentions p.tree) [] in_all in
      let alone = append-nil (bound p.tree) in
      let s = split m scope p.tree h all in
      let t = rest_case scope p.tree (split_of p.tree).rest s refl all (subst (λ (vs : List ℕ). all_differ nat_eq vs ≡ true) alone differ) (subst (λ (vs : List ℕ). are_new scope vs ≡ true) alone new) in
      record { rows = s.rows; test = t.test; binds = subst (λ (vs : List ℕ). IsTakenFrom (listed_in folded (option_map test_of (split_of p.tree).rest)) vs) (sym alone) t.binds }

  predicate_vars : (p : Option Predicate) → SoundIn p → list_all m.var (flat_map mentions (trees_in p)) ≡ true
  predicate_vars None h = refl
  predicate_vars (Some p) h = all_both m.var (mentions p.tree) [] (vars_pass_in m p.tree h) refl

  predicate_inames : (p : Option Predicate) → SoundIn p → list_all m.iname (flat_map bound (trees_in p)) ≡ true
  predicate_inames None h = refl
  predicate_inames (Some p) h = all_both m.iname (bound p.tree) [] (inames_pass_in m p.tree h) refl

  -- ---- the instruction

  -- what it says may be meant
  pub record IsReadWell (r : ReadInsn) : Type 0 where
    pub cell : has_cell K r.cell (length r.place) ≡ true
    pub stored : valid.may_store K r.cell ≡ true
    pub place : list_all (each_var m.var) r.place ≡ true
    pub value : sound m r.value ≡ true
    pub predicate : SoundIn r.predicate

  known_deps : (ids : List (List ℕ)) (ds : List (List ℕ)) → map (λ A. A.id) K.insns ≡ ids → list_all (λ d. list_any (bytes_eq d) ids) ds ≡ true → list_all (λ d. list_any (λ B. bytes_eq d B.id) K.insns) ds ≡ true
  known_deps ids ds are h =
      weaker (λ d. list_any (bytes_eq d) ids) (λ d. list_any (λ B. bytes_eq d B.id) K.insns)
      (λ d k. any_map (λ (B : Insn). B.id) (bytes_eq d) K.insns ∙ (ap (λ (xs : List (List ℕ)). list_any (bytes_eq d) xs) are ∙ k)) ds h

  module _ (D : Declarations) (inames : iname_vars K ≡ inames_of D) (apart : all_differ nat_eq (K.params ++ iname_vars K) ≡ true) (r : ReadInsn) (h : IsReadWell r) (untaken : first_taken (inames_among D (mentioned r)) [] (bound_in r) ≡ None) where
    abbrev ms : List ℕ
    ms = mentioned r

    abbrev own : List ℕ
    own = inames_among D ms

    abbrev scope : List ℕ
    scope = K.params ++ own

    abbrev of_value : List ℕ
    of_value = bound r.value

    abbrev of_test : List ℕ
    of_test = flat_map bound (trees_in r.predicate)

    own_is : own ≡ filter (is_among ms) (iname_vars K)
    own_is = ap (λ (xs : List ℕ). filter (is_among ms) xs) (sym inames)

    -- what may be meant and is mentioned is in scope
    scoped : (vs : List ℕ) → list_all m.var vs ≡ true → Covers ms vs → list_all (is_among scope) vs ≡ true
    scoped vs pass cover = subst (λ (xs : List ℕ). list_all (is_among (K.params ++ xs)) vs ≡ true) (sym own_is) (in_scope K.params (iname_vars K) ms vs pass cover)

    abbrev of_read : List ℕ
    of_read = mentions (read_of r.cell r.place)

    abbrev after_value : List ℕ
    after_value = flat_map mentions (trees_in r.predicate)

    place_in : list_all (is_among scope) (vars_in_all r.place) ≡ true
    place_in =
        scoped (vars_in_all r.place) (places_pass m.var r.place h.place)
        (subst (λ (vs : List ℕ). Covers ms vs) (read_mentions r.cell r.place) (covers_less (of_read ++ (mentions r.value ++ after_value)) r.named of_read (covers_front of_read (mentions r.value ++ after_value))))

    value_in : list_all (is_among scope) (mentions r.value) ≡ true
    value_in =
        scoped (mentions r.value) (vars_pass_in m r.value h.value)
        (covers_less (of_read ++ (mentions r.value ++ after_value)) r.named (mentions r.value) (covers_more of_read (mentions r.value ++ after_value) (mentions r.value) (covers_front (mentions r.value) after_value)))

    test_in : list_all (is_among scope) after_value ≡ true
    test_in =
        scoped after_value (predicate_vars r.predicate h.predicate)
        (covers_less (of_read ++ (mentions r.value ++ after_value)) r.named after_value (covers_more of_read (mentions r.value ++ after_value) after_value (covers_more (mentions r.value) after_value after_value (itself_among after_value))))

    -- the inames of the instruction and of its reductions differ
    params_apart : are_new K.params (iname_vars K) ≡ true
    params_apart = differ_apart K.params (iname_vars K) apart

    own_differ : all_differ nat_eq own ≡ true
    own_differ = subst (λ (xs : List ℕ). all_differ nat_eq xs ≡ true) (sym own_is) (differ_kept (is_among ms) (iname_vars K) (differ_second K.params (iname_vars K) apart))

    all_apart : all_differ nat_eq (own ++ (of_value ++ of_test)) ≡ true
    all_apart =
        subst (λ (vs : List ℕ). all_differ nat_eq (own ++ (vs ++ (of_value ++ of_test))) ≡ true) (read_binds r.cell r.place)
        (untaken_differ own [] (bound_in r) (subst (λ (xs : List ℕ). all_differ nat_eq xs ≡ true) (sym (append-nil own)) own_differ) untaken)

    bound_differ : all_differ nat_eq (of_value ++ of_test) ≡ true
    bound_differ = differ_second own (of_value ++ of_test) all_apart

    bound_inames : list_all (is_among (iname_vars K)) (of_value ++ of_test) ≡ true
    bound_inames = all_both (is_among (iname_vars K)) of_value of_test (inames_pass_in m r.value h.value) (predicate_inames r.predicate h.predicate)

    bound_new : are_new scope (of_value ++ of_test) ≡ true
    bound_new =
        new_to_both K.params own (of_value ++ of_test) (all_among (λ v. not (is_among K.params v)) (iname_vars K) (of_value ++ of_test) params_apart bound_inames) (differ_apart own (of_value ++ of_test) all_apart)

    value_scoped : IsScoped scope r.value
    value_scoped = record {
      mentions = value_in;
      differ = differ_first of_value of_test bound_differ;
      new = all_first (λ v. not (is_among scope v)) of_value of_test bound_new;
    }

    predicate_is : IsPredicate scope r.predicate
    predicate_is = predicate_fits scope r.predicate h.predicate test_in (differ_second of_value of_test bound_differ) (all_second (λ v. not (is_among scope v)) of_value of_test bound_new)

    -- those of the data test stand first
    folds_differ : all_differ nat_eq (own ++ (listed_in folded (option_map test_of (rest_in r.predicate)) ++ listed folded (expr_of r.value))) ≡ true
    folds_differ =
        let folds = listed folded (expr_of r.value) in
        let test_folds = listed_in folded (option_map test_of (rest_in r.predicate)) in
        taken.differ_in (own ++ (test_folds ++ folds)) (own ++ (of_value ++ of_test))
        (taken.joined own own (test_folds ++ folds) (of_value ++ of_test) (taken.itself own) (taken.turned folds of_value test_folds of_test (binds r.value) predicate_is.binds)) all_apart

    pub insn_formed : (ids : List (List ℕ)) (id : List ℕ) (line : ℕ) (how : Stored) (options : List InsnOption) → map (λ A. A.id) K.insns ≡ ids → is_identifier id ≡ true
        → list_all (λ d. list_any (bytes_eq d) ids) (deps_of options) ≡ true → IsInsn K (insn_of D id line how r options)
    insn_formed ids id line how options are is_id deps = record {
      id = is_id;
      inames = own_is ∙ (filter_again (is_among ms) (iname_vars K) ∙ ap (λ (xs : List ℕ). filter (is_among xs) (iname_vars K)) (sym own_is));
      folds = folds_differ;
      rows = predicate_is.rows;
      cell = h.cell;
      place = forms_over (is_among scope) r.place place_in;
      stored = h.stored;
      storing = storing_combines how;
      test = predicate_is.test;
      value = stands_in m (in_insn K) (insns_permit K) r.value scope h.value value_scoped;
      deps = known_deps ids (deps_of options) are deps;
    }

-- ---- what is read without a fault

module _ (K : Kernel) (D : Declarations) (entries : List Entry) (there : NamesAreThere K D entries) where
  pub read_well : (ids : List (List ℕ)) (name : List ℕ) (place : List (List Step)) (how : Stored) (value : List Step) (options : List InsnOption)
      → list_all is_whole place ≡ true → is_whole value ≡ true → list_all option_fits options ≡ true → (read_insn D ids name place how value options).faults ≡ no_faults
      → IsReadWell K (read_insn D ids name place how value options)
  read_well ids name place how value options places_whole value_whole options_fit fine =
      let roles = kernel_roles D in
      let m = meant_in_insns K in
      let fits = fits_in_insns K roles there.kernel.cell there.kernel.rule there.kernel.parameter there.kernel.iname in
      let cell = stored_cell D name (length place) in
      let v = untyped_of roles value in
      let o = options_of D ids options in
      let of_cell = both_fine (cell_faults cell name) (first_faults (forms_faults roles name place) (first_faults (stored_faults how v) o.faults)) fine in
      let of_place = both_fine (forms_faults roles name place) (first_faults (stored_faults how v) o.faults) of_cell.1 in
      let of_value = both_fine (stored_faults how v) o.faults of_place.1 in
      let is_cell = cell_of D name (length place) of_cell.0 in
      let cell_is : is_cell.cell ≡ unwrap_or cell (Temp 0) = sym (ap (λ (x : Option Cell). unwrap_or x (Temp 0)) is_cell.is) in
      record {
        cell = ap (λ (n : ℕ). has_cell K (unwrap_or cell (Temp 0)) n) (length-map place (λ (steps : List Step). index_of (untyped_of roles steps).part))
            ∙ subst (λ (c : Cell). has_cell K c (length place) ≡ true) cell_is (there.kernel.cell name is_cell.cell (length place) is_cell.role);
        stored = subst (λ (c : Cell). valid.may_store K c ≡ true) cell_is (there.stored is_cell.cell is_cell.stored);
        place = forms_pass roles m fits name place places_whole of_place.0;
        value = said_sound m roles fits value value_whole (stored_fine how v of_value.0);
        predicate = predicate_sound D ids m fits options options_fit of_value.1;
      }
