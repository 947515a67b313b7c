-- The kernel of a file in which no line is refused is made of the trees of its lines, and a temporary without a kind is stored to.
use Rattle.std.proofs.Common.{◌≡◌, ℕ, zero, suc, Bool, true, false, ◌&&◌, ◌||◌, nat_eq, List, [], ◌∷◌, ◌++◌, map, length, take, slice_get, get_or, ap, refl, sym, subst, ◌∙◌, append_assoc, bytes_eq}
use Rattle.std.specs.Prelude.{Option, Some, None, is_some, filter, unwrap_or, if◌then◌else◌, cond}
use Rattle.std.specs.Option.{option_map}
use Rattle.std.specs.List.{list_all, list_any, AllByRecursion, IsDistinct, position}
use Rattle.std.proofs.lemmas.List.{append-nil, map-append}
use Rattle.std.proofs.lemmas.Option.{slice_get-get_or, none-some, same_Some, slice_get-map}
use Rattle.std.proofs.lemmas.Bool.{and_from, and_parts, or_left, or_right, true≢false, eq-eqb}
use Rattle.std.proofs.lemmas.List.Elements.{All-from_recursion}
use Rattle.std.proofs.lemmas.List.Folds.{list_all-append, list_any-append}
use Rattle.kernel_lines.specs.Lines.{stored_temp}
use Rattle.expr_tree.specs.declared.tree.Cell.{Cell}
use Rattle.expr_tree.specs.declared.tree.Cell.TheVariants as cell
use Rattle.kernel_grammar.specs.declared.file.Entry.{Entry}
use Rattle.kernel_grammar.specs.declared.item.Declared.{Declared}
use Rattle.kernel_grammar.specs.declared.item.Declared.TheVariants.{Not, Inferred, Of}
use Rattle.kernel_grammar.specs.declared.item.Item.{Item}
use Rattle.kernel_grammar.specs.declared.item.Item.TheVariants as item
use Rattle.kernel_grammar.specs.declared.step.Step.{Step}
use Rattle.kernel_grammar.specs.declared.file.KernelFile.{KernelFile}
use Rattle.kernel_ir.specs.declared.kernel.Insn.{Insn}
use Rattle.kernel_ir.specs.declared.kernel.Kernel.{Kernel}
use Rattle.kernel_ir.specs.declared.kernel.Temp as temp
use Rattle.kernel_ir.specs.declared.kernel.SubstRule.{SubstRule}
use Rattle.kernel_ir.specs.NameSpace.{all_differ}
use Rattle.type_infer.specs.Inferred.{is_temp as is_temp_cell}
use Rattle.untyped.specs.declared.scope.Role.{Role}
use Rattle.untyped.specs.declared.scope.Role.TheVariants as role
use Rattle.untyped.specs.Exprs.{expr_of}
use Rattle.untyped_parts.specs.declared.trees.InsnTree.{InsnTree}
use Rattle.untyped_parts.specs.declared.trees.RuleTree.{RuleTree}
use Rattle.kernel_names.specs.declared.declarations.Declarations.{Declarations}
use Rattle.kernel_names.specs.declared.limit.LineFaults.{LineFaults}
use Rattle.kernel_names.specs.declared.said.Said.{Said}
use Rattle.kernel_names.specs.Said.{said_in, said_by, declarations_in, names_declared}
use Rattle.kernel_names.specs.Roles.{declarations_of, kernel_roles, may_store, roles_behind, role_behind, found_role, is_temp}
use Rattle.kernel_names.specs.Lines.{no_faults, faults_behind}
use Rattle.kernel_names.specs.Ids.{ids_of, taken_behind}
use Rattle.kernel_names.proofs.NameLaws.{position_there}
use Rattle.kernel_lines.specs.Lines.{with_line}
use Rattle.kernel_lines.specs.Parts.{rule_of, rule_tree, temp_of}
use Rattle.kernel_lines.specs.Stores.{cell_as, stored_cell}
use Rattle.kernel_files.specs.declared.files.ReadLines.{ReadLines}
use Rattle.kernel_files.specs.Files.{no_lines, with_item, with_entry, entries_behind, entry_faults, next_id, next_taken, kernel_of, rule_trees, insn_trees, lines_refusal}
use Rattle.kernel_files.specs.Insns.{read_insn, insn_of, insn_tree, cell_faults, whole_faults, size_with}
use Rattle.kernel_kinds.specs.Laws.{IsInsnOf, AreInsnsOf, IsMadeOf, has_kind}
use Rattle.kernel_formed.specs.NameLaws.{IsOfLines, NoneTaken}
use Rattle.kernel_formed.proofs.AllNames.{names_split, names_differ, said_names, own_names}
use Rattle.kernel_formed.proofs.FineLines.{AreFine, both_fine, file_fine}
use Rattle.kernel_formed.proofs.Formed.{untaken, of_lines}
use Rattle.kernel_formed.proofs.KernelNames.{temps_are}
use Rattle.kernel_formed.proofs.NameLists.{all_weaker, all_at, behind}
use Rattle.kernel_formed.proofs.PartNames.{names_of_parts}
use Rattle.kernel_formed.proofs.PartsFormed.{same_parts}
use Rattle.kernel_formed.proofs.SaidParts.{temp_said}

-- ---- rules and instructions

insns_more : (Bs : List Insn) (As : List InsnTree) (B : Insn) (A : InsnTree) → AreInsnsOf Bs As → IsInsnOf B A → AreInsnsOf (Bs ++ B ∷ []) (As ++ A ∷ [])
insns_more [] [] B A h one = (one, tt)
insns_more [] (x ∷ As) B A h one = absurd h
insns_more (y ∷ Bs) [] B A h one = absurd h
insns_more (y ∷ Bs) (x ∷ As) B A h one = (h.0, insns_more Bs As B A h.1 one)

-- what is read so far is made of its trees
record AreTrees (k : ReadLines) : Type 0 where
  bodies : map (λ r. r.body) k.parts.rules ≡ map (λ r. expr_of r.body) k.parts.bodies
  insns : AreInsnsOf k.insns k.trees

-- ---- cells

abbrev same_cell : Cell → Cell → Bool
same_cell (cell.Array m) (cell.Array n) = nat_eq n m
same_cell (cell.Array m) (cell.Temp n) = false
same_cell (cell.Temp m) c = is_temp_cell m c

cell_itself : (c : Cell) → same_cell c c ≡ true
cell_itself (cell.Array n) = eq-eqb n n refl
cell_itself (cell.Temp n) = eq-eqb n n refl

-- the role is that of the cell
abbrev is_named : Role → Cell → Bool
is_named (role.Cell c n) d = same_cell c d
is_named _ d = false

some_cell : (c d : Cell) (b : Bool) → (if b then Some c else None) ≡ Some d → same_cell c d ≡ true
some_cell c d true e = subst (λ (x : Cell). same_cell c x ≡ true) (same_Some c d e) (cell_itself c)
some_cell c d false e = absurd (none-some d e)

-- the cell that a name stands for is that of its role
named_as : (D : Declarations) (n : ℕ) (r : Role) (d : Cell) → cell_as D n r ≡ Some d → is_named r d ≡ true
named_as D n (role.Cell c places) d e = some_cell c d (nat_eq places n && may_store D c) e
named_as D n (role.Parameter v) d e = absurd (none-some d e)
named_as D n (role.Iname v) d e = absurd (none-some d e)
named_as D n (role.Rule r) d e = absurd (none-some d e)
named_as D n role.Unknown d e = absurd (none-some d e)

named_test : (D : Declarations) (n : ℕ) (r : Role) (name : List ℕ) (o : Option Cell) → cell_as D n r ≡ o → cell_faults o name ≡ no_faults → is_named r (unwrap_or o (cell.Temp 0)) ≡ true
named_test D n r name (Some d) is fine = named_as D n r d is
named_test D n r name None is fine = let e = ap (λ (f : LineFaults). f.unknown) fine in absurd (cc)

more_any : (b : Bool) (f : Cell → Bool) (As : List InsnTree) (A : InsnTree) → (b || list_any (λ x. f x.cell) As) ≡ true → (b || list_any (λ x. f x.cell) (As ++ A ∷ [])) ≡ true
more_any true f As A h = refl
more_any false f As A h = list_any-append (λ (x : InsnTree). f x.cell) As (A ∷ []) ∙ or_left (list_any (λ x. f x.cell) As) (list_any (λ x. f x.cell) (A ∷ [])) h

last_any : (b : Bool) (f : Cell → Bool) (As : List InsnTree) (A : InsnTree) → f A.cell ≡ true → (b || list_any (λ x. f x.cell) (As ++ A ∷ [])) ≡ true
last_any b f As A h =
    or_right b (list_any (λ x. f x.cell) (As ++ A ∷ [])) (list_any-append (λ (x : InsnTree). f x.cell) As (A ∷ [])
    ∙ or_right (list_any (λ x. f x.cell) As) (list_any (λ x. f x.cell) (A ∷ [])) (or_left (f A.cell) false h))

module _ (D : Declarations) (ids : List (List ℕ)) where
  bodies_more : (rules : List SubstRule) (bodies : List RuleTree) (line : ℕ) (name : List ℕ) (params : List (List ℕ)) (body : List Step)
      → map (λ r. r.body) rules ≡ map (λ r. expr_of r.body) bodies
      → map (λ r. r.body) (rules ++ rule_of D name params body ∷ []) ≡ map (λ r. expr_of r.body) (bodies ++ rule_tree D line params body ∷ [])
  bodies_more rules bodies line name params body h =
      map-append (λ (r : SubstRule). r.body) rules (rule_of D name params body ∷ [])
      ∙ (ap (λ xs. xs ++ (rule_of D name params body).body ∷ []) h
      ∙ sym (map-append (λ (r : RuleTree). expr_of r.body) bodies (rule_tree D line params body ∷ [])))

  entry_trees : (k : ReadLines) (line : ℕ) (it : Item) → AreTrees k → AreTrees (with_item D ids (record k { parts = with_line D k.parts line it }) line it)
  entry_trees k line (item.Domain known inames conditions) h = record { bodies = h.bodies; insns = h.insns }
  entry_trees k line (item.Assume conditions) h = record { bodies = h.bodies; insns = h.insns }
  entry_trees k line (item.Array name kind shape stored) h = record { bodies = h.bodies; insns = h.insns }
  entry_trees k line (item.Temp name kind shape) h = record { bodies = h.bodies; insns = h.insns }
  entry_trees k line (item.Rule name params body) h = record { bodies = bodies_more k.parts.rules k.parts.bodies line name params body h.bodies; insns = h.insns }
  entry_trees k line (item.Insn declared name place how value options) h = record {
    bodies = h.bodies;
    insns = insns_more k.insns k.trees (insn_of D (next_id ids k) line how (read_insn D ids name place how value options) options) (insn_tree line (read_insn D ids name place how value options)) h.insns
        (record { line = refl; cell = refl; value = refl; test = refl });
  }

  all_trees : (k : ReadLines) (es : List Entry) → AreTrees k → AreTrees (entries_behind D ids k es)
  all_trees k [] h = h
  all_trees k (e ∷ es) h = all_trees (with_entry D ids k e) es (entry_trees k e.line e.item h)

  -- ---- temporaries without a kind

  -- it has a kind, or an instruction stores to what its name stands for
  abbrev has_store : List InsnTree → temp.Temp → Bool
  has_store As t = is_some t.kind || list_any (λ A. is_named (kernel_roles D t.name) A.cell) As

  more_stores : (As : List InsnTree) (A : InsnTree) (ts : List temp.Temp) → list_all (has_store As) ts ≡ true → list_all (has_store (As ++ A ∷ [])) ts ≡ true
  more_stores As A ts h = all_weaker (has_store As) (has_store (As ++ A ∷ [])) (λ t. more_any (is_some t.kind) (is_named (kernel_roles D t.name)) As A) ts h

  one_temp : (As : List InsnTree) (ts : List temp.Temp) (t : temp.Temp) → list_all (has_store As) ts ≡ true → has_store As t ≡ true → list_all (has_store As) (ts ++ t ∷ []) ≡ true
  one_temp As ts t h k = list_all-append (has_store As) ts (t ∷ []) ∙ and_from (list_all (has_store As) ts) (list_all (has_store As) (t ∷ [])) h (and_from (has_store As t) true k refl)

  -- the temporary that an instruction declares
  declared_store : (declared : Declared) (As : List InsnTree) (ts : List temp.Temp) (name : List ℕ) (A : InsnTree) → list_all (has_store As) ts ≡ true → is_named (kernel_roles D name) A.cell ≡ true
      → list_all (has_store (As ++ A ∷ [])) (ts ++ stored_temp declared name) ≡ true
  declared_store Not As ts name A h is = subst (λ (us : List temp.Temp). list_all (has_store (As ++ A ∷ [])) us ≡ true) (sym (append-nil ts)) (more_stores As A ts h)
  declared_store Inferred As ts name A h is =
      one_temp (As ++ A ∷ []) ts (temp_of name None []) (more_stores As A ts h) (last_any false (is_named (kernel_roles D name)) As A is)
  declared_store (Of kind) As ts name A h is = one_temp (As ++ A ∷ []) ts (temp_of name (Some kind) []) (more_stores As A ts h) refl

  module _ (taken : List Bool) where
    entry_stores : (k : ReadLines) (line : ℕ) (it : Item) → entry_faults D ids taken k it ≡ no_faults → list_all (has_store k.trees) k.parts.temps ≡ true
        → list_all (has_store (with_item D ids (record k { parts = with_line D k.parts line it }) line it).trees) (with_item D ids (record k { parts = with_line D k.parts line it }) line it).parts.temps ≡ true
    entry_stores k line (item.Domain known inames conditions) fine h = h
    entry_stores k line (item.Assume conditions) fine h = h
    entry_stores k line (item.Array name kind shape stored) fine h = h
    entry_stores k line (item.Temp name kind shape) fine h = one_temp k.trees k.parts.temps (temp_of name (Some kind) shape) h refl
    entry_stores k line (item.Rule name params body) fine h = h
    entry_stores k line (item.Insn declared name place how value options) fine h =
        let r = read_insn D ids name place how value options in
        let own = (both_fine r.faults (whole_faults D (next_id ids k) (next_taken taken k) (size_with k.size r) r) fine).0 in
        let cell_fine = (both_fine (cell_faults (stored_cell D name (length place)) name) _ own).0 in
        declared_store declared k.trees k.parts.temps name (insn_tree line r) h (named_test D (length place) (kernel_roles D name) name (stored_cell D name (length place)) refl cell_fine)

    all_stores : (said : List Said) (k : ReadLines) (es : List Entry) → AreFine D ids taken said k es → list_all (has_store k.trees) k.parts.temps ≡ true
        → list_all (has_store (entries_behind D ids k es).trees) (entries_behind D ids k es).parts.temps ≡ true
    all_stores said k [] fine h = h
    all_stores said k (e ∷ es) fine h = all_stores (said ++ said_in e.item) (with_entry D ids k e) es fine.1.1 (entry_stores k e.line e.item fine.1.0 h)

-- ---- what the name of a temporary stands for

record Kept {X : Type 0} (p : X → Bool) (xs : List X) (n : ℕ) (x : X) : Type 0 where
  at : ℕ
  here : slice_get xs at ≡ Some x
  before : length (filter p (take at xs)) ≡ n

kept_later : {X : Type 0} (p : X → Bool) (y : X) (xs : List X) (n : ℕ) (x : X) (b : Bool) → p y ≡ b → slice_get (cond b (y ∷ filter p xs) (filter p xs)) n ≡ Some x
    → ((m : ℕ) → slice_get (filter p xs) m ≡ Some x → Kept p xs m x) → Kept p (y ∷ xs) n x
kept_later p y xs zero x true is found rest = record { at = 0; here = found; before = refl }
kept_later {X} p y xs (suc n) x true is found rest =
    let k = rest n found in
    record { at = suc k.at; here = k.here; before = ap (λ (b : Bool). length (cond b (y ∷ filter p (take k.at xs)) (filter p (take k.at xs)))) is ∙ ap suc k.before }
kept_later {X} p y xs n x false is found rest =
    let k = rest n found in
    record { at = suc k.at; here = k.here; before = ap (λ (b : Bool). length (cond b (y ∷ filter p (take k.at xs)) (filter p (take k.at xs)))) is ∙ k.before }

-- what stands among those that pass stands in the list, behind as many that pass
kept_at : {X : Type 0} (p : X → Bool) (xs : List X) (n : ℕ) (x : X) → slice_get (filter p xs) n ≡ Some x → Kept p xs n x
kept_at p [] n x found = absurd (none-some x found)
kept_at p (y ∷ xs) n x found = kept_later p y xs n x (p y) refl found (λ m. kept_at p xs m x)

role_of : (before ds : List Said) (i : ℕ) (d : Said) → slice_get ds i ≡ Some d → slice_get (roles_behind before ds) i ≡ Some (role_behind (before ++ take i ds) d.sort)
role_of before [] i d at = absurd (none-some d at)
role_of before (x ∷ ds) zero d at = ap (λ (o : Option Said). option_map (λ y. role_behind before y.sort) o) at ∙ ap (λ (b : List Said). Some (role_behind b d.sort)) (sym (append-nil before))
role_of before (x ∷ ds) (suc i) d at = role_of (before ++ x ∷ []) ds i d at ∙ ap (λ (b : List Said). Some (role_behind b d.sort)) (append_assoc before (x ∷ []) (take i ds))

apart_test : (b : Bool) → (if b then false else true) ≡ true → b ≡ false
apart_test false h = refl
apart_test true h = absurd (true≢false (sym h))

all_apart : (n : List ℕ) (ns : List (List ℕ)) → list_all (λ m. if bytes_eq n m then false else true) ns ≡ true → AllByRecursion (λ m. bytes_eq n m ≡ false) ns
all_apart n [] h = tt
all_apart n (m ∷ ns) h =
    let parts = and_parts (if bytes_eq n m then false else true) (list_all (λ x. if bytes_eq n x then false else true) ns) h in
    (apart_test (bytes_eq n m) parts.0, all_apart n ns parts.1)

are_distinct : (ns : List (List ℕ)) → all_differ bytes_eq ns ≡ true → IsDistinct bytes_eq ns
unfolding IsDistinct
are_distinct [] h = tt
are_distinct (n ∷ ns) h =
    let parts = and_parts (list_all (λ m. if bytes_eq n m then false else true) ns) (all_differ bytes_eq ns) h in
    (all_apart n ns parts.0, are_distinct ns parts.1)

front_at : {X : Type 0} (xs ys : List X) (i : ℕ) (x : X) → slice_get xs i ≡ Some x → slice_get (xs ++ ys) i ≡ Some x
front_at [] ys i x at = absurd (none-some x at)
front_at (y ∷ xs) ys zero x at = at
front_at (y ∷ xs) ys (suc i) x at = front_at xs ys i x at

-- a name that is declared at this place stands for the role there
declared_role : (entries : List Entry) (i : ℕ) (d : Said) → slice_get (declarations_in (said_by entries)) i ≡ Some d
    → kernel_roles (declarations_of entries) d.name ≡ role_behind (take i (declarations_in (said_by entries))) d.sort
declared_role entries i d at =
    let ds = declarations_in (said_by entries) in
    let D = declarations_of entries in
    let named : slice_get (names_declared (said_by entries)) i ≡ Some d.name = slice_get-map (λ (s : Said). s.name) ds i ∙ ap (option_map (λ (s : Said). s.name)) at in
    let there : slice_get D.names i ≡ Some d.name = ap (λ (ns : List (List ℕ)). slice_get ns i) (names_split entries) ∙ front_at (names_declared (said_by entries)) (behind bytes_eq (said_names entries) (own_names entries)) i d.name named in
    let place : Some i ≡ position (bytes_eq d.name) D.names = position_there D.names d.name i (are_distinct D.names (names_differ entries)) there in
    ap (found_role D.roles) (sym place) ∙ ap (λ (o : Option Role). unwrap_or o role.Unknown) (role_of [] ds i d at)

-- ---- whole files

either_case : (a rest b : Bool) → (a || rest) ≡ true → (rest ≡ true → b ≡ true) → (a || b) ≡ true
either_case true rest b h step = refl
either_case false rest b h step = step h

no_temp : temp.Temp
no_temp = temp_of [] None []

kind_test : (o : Option temp.Temp) (t : temp.Temp) (b : Bool) (rest : Bool) → o ≡ Some t → (is_some t.kind || rest) ≡ true → (rest ≡ true → b ≡ true) → (has_kind o || b) ≡ true
kind_test o t b rest at h step = subst (λ (p : Option temp.Temp). (has_kind p || b) ≡ true) (sym at) (either_case (is_some t.kind) rest b h step)

module _ (entries : List Entry) (taken : List Bool) (ids : List (List ℕ)) (untaken : NoneTaken entries) (fine : AreFine (declarations_of entries) ids taken [] no_lines entries) where
  abbrev D : Declarations
  D = declarations_of entries

  abbrev read : ReadLines
  read = entries_behind D ids no_lines entries

  -- each temporary at its place
  temp_stored : (K : Kernel) → IsOfLines K entries → K.temps ≡ read.parts.temps → (n : ℕ) (t : temp.Temp) → slice_get K.temps n ≡ Some t
      → (has_kind (slice_get K.temps n) || list_any (λ A. is_temp_cell n A.cell) read.trees) ≡ true
  temp_stored K lines same n t at =
      let names = names_of_parts K entries lines in
      let ds = declarations_in (said_by entries) in
      let said : slice_get (filter (λ d. is_temp d.sort) ds) n ≡ Some (temp_said t) =
      ap (λ (xs : List Said). slice_get xs n) (sym (temps_are K entries names untaken)) ∙ (slice_get-map temp_said K.temps n ∙ ap (option_map temp_said) at) in
      let kept = kept_at (λ d. is_temp d.sort) ds n (temp_said t) said in
      let stands : kernel_roles D t.name ≡ role.Cell (cell.Temp n) (length t.shape) =
      declared_role entries kept.at (temp_said t) kept.here ∙ ap (λ (m : ℕ). role.Cell (cell.Temp m) (length t.shape)) kept.before in
      let stored = all_at (has_store D ids read.trees) K.temps n t at (subst (λ (ts : List temp.Temp). list_all (has_store D ids read.trees) ts ≡ true) (sym same) (all_stores D ids taken [] no_lines entries fine refl)) in
      kind_test (slice_get K.temps n) t (list_any (λ A. is_temp_cell n A.cell) read.trees) (list_any (λ A. is_named (kernel_roles D t.name) A.cell) read.trees) at stored
      (λ h. subst (λ (r : Role). list_any (λ A. is_named r A.cell) read.trees ≡ true) stands h)

pub file_made : (file : KernelFile) → lines_refusal file ≡ None → IsMadeOf (kernel_of file) (rule_trees file) (insn_trees file)
file_made file h =
    let es = file.entries in
    let D = declarations_of es in
    let ids = ids_of es in
    let taken = taken_behind [] ids in
    let fine = file_fine file h in
    let same = same_parts D ids no_lines es in
    let trees = all_trees D ids no_lines es (record { bodies = refl; insns = tt }) in
    record {
      bodies = trees.bodies;
      each = trees.insns;
      stored = λ n within.
          let there = slice_get-get_or (kernel_of file).temps n no_temp within in
          temp_stored es taken ids (All-from_recursion (λ (f : LineFaults). f.taken ≡ None) (faults_behind [] es) (untaken D ids taken [] no_lines es fine)) fine (kernel_of file) (of_lines file) refl n (get_or (kernel_of file).temps n no_temp) there;
    }
