-- The kernel of a file in which no line is refused is formed.
use Rattle.std.proofs.Common.{◌≡◌, ℕ, Bool, true, ◌&&◌, nat_eq, List, [], ◌∷◌, ◌++◌, map, ap, refl, sym, subst, ◌∙◌, bytes_eq}
use Rattle.std.specs.Prelude.{Some, None, if◌then◌else◌, length}
use Rattle.std.specs.Option.{option_map}
use Rattle.std.specs.List.{list_all, AllByRecursion}
use Rattle.std.specs.List.Sorted.{IsPermutation}
use Rattle.std.proofs.lemmas.List.Elements.{All-from_recursion, recursion_from_All}
use Rattle.std.proofs.lemmas.List.Folds.{list_all-map}
use Rattle.std.proofs.lemmas.List.Sorted.{IsPermutation-refl}
use Rattle.std.proofs.lemmas.Bool.{and_parts}
use Rattle.kernel_grammar.specs.declared.file.Entry.{Entry}
use Rattle.kernel_grammar.specs.declared.file.KernelFile.{KernelFile}
use Rattle.kernel_grammar.specs.declared.item.InsnOption.{InsnOption}
use Rattle.kernel_grammar.specs.declared.item.Item.{Item}
use Rattle.kernel_grammar.specs.declared.item.Item.TheVariants as item
use Rattle.kernel_grammar.specs.declared.item.Stored.{Stored}
use Rattle.kernel_grammar.specs.declared.step.Step.{Step}
use Rattle.kernel_ir.specs.declared.kernel.Iname.{Iname}
use Rattle.kernel_ir.specs.declared.kernel.Insn.{Insn}
use Rattle.kernel_ir.specs.declared.kernel.Kernel.{Kernel}
use Rattle.kernel_ir.specs.NameSpace.{is_identifier, all_differ, iname_vars}
use Rattle.kernel_ir.specs.Valid.{IsRule, IsInsn, IsFormed, is_on_axis}
use Rattle.untyped.specs.Readings.{untyped_of}
use Rattle.kernel_names.specs.declared.declarations.Declarations.{Declarations}
use Rattle.kernel_names.specs.declared.limit.LineFaults.{LineFaults}
use Rattle.kernel_names.specs.declared.said.Said.{Said}
use Rattle.kernel_names.specs.Ids.{ids_of, taken_behind}
use Rattle.kernel_names.specs.Lines.{no_faults, first_faults, faults_behind}
use Rattle.kernel_names.specs.Roles.{declarations_of, kernel_roles, inames_of, name_of}
use Rattle.kernel_names.specs.Said.{said_in, said_by, own_in}
use Rattle.kernel_lines.specs.declared.lines.KernelParts.{KernelParts}
use Rattle.kernel_lines.specs.Lines.{no_parts, with_line}
use Rattle.kernel_lines.specs.Places.{forms_faults}
use Rattle.kernel_lines.specs.Stores.{stored_cell}
use Rattle.kernel_lines.specs.Values.{stored_faults}
use Rattle.kernel_files.specs.declared.files.ReadLines.{ReadLines}
use Rattle.kernel_files.specs.Options.{options_of}
use Rattle.kernel_files.specs.Insns.{cell_faults, read_insn, insn_of, size_with, whole_faults, inames_among, mentioned, bound_in, first_taken}
use Rattle.kernel_files.specs.Files.{plain, no_lines, next_id, next_taken, insn_faults, with_item, entry_faults, with_entry, entries_behind, kernel_of, lines_refusal}
use Rattle.kernel_formed.specs.NameLaws.{AreIdentifiers, IsOfLines, NamesAreThere, AreVariables}
use Rattle.kernel_formed.specs.Shapes.{is_whole}
use Rattle.kernel_formed.specs.Written.{option_fits, steps_fit, is_written, AreWritten}
use Rattle.kernel_formed.proofs.Declared.{names_declared}
use Rattle.kernel_formed.proofs.Joining.{all_both}
use Rattle.kernel_formed.proofs.FineLines.{AreFine, both_fine, either_none, file_fine}
use Rattle.kernel_formed.proofs.IdLists.{file_ids}
use Rattle.kernel_formed.proofs.OptionsFine.{deps_known}
use Rattle.kernel_formed.proofs.PartsFormed.{PartsFormed, same_parts, all_parts_fine, parts_formed}
use Rattle.kernel_formed.proofs.InsnFormed.{insn_formed, read_well, none_name}

-- ---- names

pub untaken : (D : Declarations) (ids : List (List ℕ)) (taken : List Bool) (said : List Said) (k : ReadLines) (es : List Entry) → AreFine D ids taken said k es → AllByRecursion (λ f. f.taken ≡ None) (faults_behind said es)
untaken D ids taken said k [] h = tt
untaken D ids taken said k (e ∷ es) h = (ap (λ (f : LineFaults). f.taken) h.0, untaken D ids taken (said ++ said_in e.item) (with_entry D ids k e) es h.1.1)

identifiers : (es : List Entry) → AreWritten es → AreIdentifiers es
identifiers [] h = refl
identifiers (e ∷ es) h =
    let here = (and_parts (is_written e.item) (list_all (λ x. is_written x.item) es) h).0 in
    all_both (λ (s : Said). is_identifier s.name) (said_in e.item) (said_by es) ((and_parts (list_all (λ s. is_identifier s.name) (said_in e.item)) (steps_fit e.item) here).0)
    (identifiers es ((and_parts (is_written e.item) (list_all (λ x. is_written x.item) es) h).1))

-- ---- inames

plain_vars : (vs : List ℕ) → map (λ (i : Iname). i.var) (map plain vs) ≡ vs
plain_vars [] = refl
plain_vars (v ∷ vs) = ap (λ (us : List ℕ). v ∷ us) (plain_vars vs)

plain_tags : (vs : List ℕ) → list_all (λ i. is_on_axis i.tag) (map plain vs) ≡ true
plain_tags [] = refl
plain_tags (v ∷ vs) = plain_tags vs

-- ---- instructions

module _ (K : Kernel) (D : Declarations) (entries : List Entry) (there : NamesAreThere K D entries) (inames : iname_vars K ≡ inames_of D) (apart : all_differ nat_eq (K.params ++ iname_vars K) ≡ true)
    (ids : List (List ℕ)) (taken : List Bool) (are : map (λ A. A.id) K.insns ≡ ids) where
  abbrev Good : Insn → Type 0
  Good A = is_identifier A.id ≡ true → IsInsn K A

  more_good : (As : List Insn) (A : Insn) → AllByRecursion Good As → Good A → AllByRecursion Good (As ++ A ∷ [])
  more_good [] A h k = (k, tt)
  more_good (B ∷ Bs) A h k = (h.0, more_good Bs A h.1 k)

  new_good : (k : ReadLines) (line : ℕ) (name : List ℕ) (place : List (List Step)) (how : Stored) (value : List Step) (options : List InsnOption)
      → (list_all is_whole place && (is_whole value && list_all option_fits options)) ≡ true → insn_faults D ids taken k name place how value options ≡ no_faults
      → Good (insn_of D (next_id ids k) line how (read_insn D ids name place how value options) options)
  new_good k line name place how value options fits fine is_id =
      let r = read_insn D ids name place how value options in
      let roles = kernel_roles D in
      let o = options_of D ids options in
      let v = untyped_of roles value in
      let cell = stored_cell D name (length place) in
      let parts = both_fine r.faults (whole_faults D (next_id ids k) (next_taken taken k) (size_with k.size r) r) fine in
      let of_cell = both_fine (cell_faults cell name) (first_faults (forms_faults roles name place) (first_faults (stored_faults how v) o.faults)) parts.0 in
      let of_place = both_fine (forms_faults roles name place) (first_faults (stored_faults how v) o.faults) of_cell.1 in
      let of_value = both_fine (stored_faults how v) o.faults of_place.1 in
      let rest = (and_parts (list_all is_whole place) (is_whole value && list_all option_fits options) fits).1 in
      let well = read_well K D entries there ids name place how value options ((and_parts (list_all is_whole place) (is_whole value && list_all option_fits options) fits).0)
      ((and_parts (is_whole value) (list_all option_fits options) rest).0) ((and_parts (is_whole value) (list_all option_fits options) rest).1) parts.0 in
      let free = none_name D (first_taken (inames_among D (mentioned r)) [] (bound_in r))
      (either_none (option_map (name_of D) (first_taken (inames_among D (mentioned r)) [] (bound_in r))) (if next_taken taken k then Some (next_id ids k) else None) (ap (λ (f : LineFaults). f.taken) parts.1)).0 in
      insn_formed K D inames apart r well free ids (next_id ids k) line how options are is_id (deps_known D ids options of_value.1)

  item_good : (k : ReadLines) (p : KernelParts) (line : ℕ) (it : Item) → steps_fit it ≡ true → entry_faults D ids taken k it ≡ no_faults → AllByRecursion Good k.insns → AllByRecursion Good (with_item D ids (record k { parts = p }) line it).insns
  item_good k p line (item.Insn declared name place how value options) fits fine h =
      more_good k.insns (insn_of D (next_id ids k) line how (read_insn D ids name place how value options) options) h (new_good k line name place how value options fits fine)
  item_good k p line (item.Domain known inames conditions) fits fine h = h
  item_good k p line (item.Assume conditions) fits fine h = h
  item_good k p line (item.Array name kind shape stored) fits fine h = h
  item_good k p line (item.Temp name kind shape) fits fine h = h
  item_good k p line (item.Rule name params body) fits fine h = h

  all_good : (said : List Said) (k : ReadLines) (es : List Entry) → AreWritten es → AreFine D ids taken said k es → AllByRecursion Good k.insns → AllByRecursion Good (entries_behind D ids k es).insns
  all_good said k [] fits fine h = h
  all_good said k (e ∷ es) fits fine h =
      let here = (and_parts (is_written e.item) (list_all (λ x. is_written x.item) es) fits).0 in
      let steps = (and_parts (list_all (λ s. is_identifier s.name) (said_in e.item)) (steps_fit e.item) here).1 in
      all_good (said ++ said_in e.item) (with_entry D ids k e) es ((and_parts (is_written e.item) (list_all (λ x. is_written x.item) es) fits).1) fine.1.1
      (item_good k (with_line D k.parts e.line e.item) e.line e.item steps fine.1.0 h)

-- with their ids
named_insns : (K : Kernel) (As : List Insn) → AllByRecursion (λ A. is_identifier A.id ≡ true → IsInsn K A) As → list_all (λ A. is_identifier A.id) As ≡ true → AllByRecursion (IsInsn K) As
named_insns K [] h k = tt
named_insns K (A ∷ As) h k =
    (h.0 ((and_parts (is_identifier A.id) (list_all (λ B. is_identifier B.id) As) k).0), named_insns K As h.1 ((and_parts (is_identifier A.id) (list_all (λ B. is_identifier B.id) As) k).1))

-- ---- the kernel

-- a file's kernel is one of its lines
pub of_lines : (file : KernelFile) → IsOfLines (kernel_of file) file.entries
of_lines file =
    let D = declarations_of file.entries in
    let same = same_parts D (ids_of file.entries) no_lines file.entries in
    record {
      names = refl;
      params = refl;
      inames = plain_vars (inames_of D);
      arrays = ap (λ (p : KernelParts). p.arrays) same;
      temps = ap (λ (p : KernelParts). p.temps) same;
      rules = ap (λ (p : KernelParts). p.rules) same;
    }

pub file_formed : (file : KernelFile) → AreWritten file.entries → lines_refusal file ≡ None → IsFormed (kernel_of file)
file_formed file written h =
    let es = file.entries in
    let D = declarations_of es in
    let ids = ids_of es in
    let taken = taken_behind [] ids in
    let K = kernel_of file in
    let fine = file_fine file h in
    let has_ids = file_ids file written fine in
    let same = same_parts D ids no_lines es in
    let lines = of_lines file in
    let inames = lines.inames in
    let there = names_declared K es lines (All-from_recursion (λ (f : LineFaults). f.taken ≡ None) (faults_behind [] es) (untaken D ids taken [] no_lines es fine)) (identifiers es written) in
    let parts = subst (λ (p : KernelParts). PartsFormed K D es refl there p) (sym same)
    (parts_formed K D es refl there no_parts es (recursion_from_All (λ (e : Entry). AreVariables D (own_in e.item)) es there.own) written (all_parts_fine D ids taken [] no_lines es fine)
    (record { rows = refl; assumptions = refl; places = refl; shapes = refl; rules = tt })) in
    let good = all_good K D es there inames there.variables ids taken has_ids.are [] no_lines es written fine tt in
    let id_tests = sym (list_all-map is_identifier (λ (A : Insn). A.id) K.insns) ∙ (ap (λ (ns : List (List ℕ)). list_all is_identifier ns) has_ids.are ∙ has_ids.fit) in
    record {
      names = there.names;
      tags = plain_tags (inames_of D);
      priority = subst (λ (vs : List ℕ). IsPermutation vs (inames_of D)) (sym inames) (IsPermutation-refl (inames_of D));
      rows = parts.rows;
      assumptions = parts.assumptions;
      places = parts.places;
      shapes = parts.shapes;
      rules = All-from_recursion (IsRule K) K.rules parts.rules;
      insns = All-from_recursion (IsInsn K) K.insns (named_insns K K.insns good id_tests);
      ids = subst (λ (ns : List (List ℕ)). all_differ bytes_eq ns ≡ true) (sym has_ids.are) has_ids.differ;
    }
