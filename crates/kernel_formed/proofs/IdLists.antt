-- The ids of the instructions of a file in which no line is refused.
use Rattle.std.proofs.Common.{◌≡◌, ℕ, ◌+◌, ◌*◌, ◌≤◌, ◌<◌, ◌^◌, arith, Bool, true, false, ◌&&◌, ◌||◌, nat_lt, min, List, [], ◌∷◌, ◌++◌, map, length, slice_get, ap, refl, sym, subst, ◌∙◌, append_assoc, append-nil, bytes_eq}
use Rattle.std.specs.Prelude.{Option, Some, None, unwrap_or, if◌then◌else◌, codes, flat_map}
use Rattle.std.specs.Option.{option_or, option_map}
use Rattle.std.specs.List.{list_all, list_any}
use Rattle.std.specs.Fmt.{decimal}
use Rattle.std.specs.Int.{IsInRange}
use Rattle.std.specs.Str.Parse.{AllDigits}
use Rattle.std.proofs.lemmas.Bool.{ltb-false}
use Rattle.std.proofs.lemmas.Bool.Decides.{nat_tests}
use Rattle.std.proofs.lemmas.Str.Parse.{digit_from_value}
use Rattle.std.proofs.lemmas.List.{length-append, length-map, map-append}
use Rattle.std.proofs.lemmas.List.Folds.{list_all-append}
use Rattle.std.proofs.lemmas.Fmt.{decimal_is_IsNumeral}
use Rattle.std.proofs.lemmas.Bool.{and_from, and_parts}
use Rattle.kernel_grammar.specs.declared.file.Entry.{Entry}
use Rattle.kernel_grammar.specs.declared.item.Declared.{Declared}
use Rattle.kernel_grammar.specs.declared.item.InsnOption.{InsnOption}
use Rattle.kernel_grammar.specs.declared.item.InsnOption.TheVariants as option
use Rattle.kernel_grammar.specs.declared.item.Item.{Item}
use Rattle.kernel_grammar.specs.declared.item.Item.TheVariants as item
use Rattle.kernel_grammar.specs.declared.item.Stored.{Stored}
use Rattle.kernel_grammar.specs.declared.step.Step.{Step}
use Rattle.kernel_ir.specs.declared.kernel.Insn.{Insn}
use Rattle.kernel_ir.specs.NameSpace.{is_identifier, is_letter_or_digit, all_differ}
use Rattle.kernel_names.specs.declared.declarations.Declarations.{Declarations}
use Rattle.kernel_names.specs.declared.limit.Limit.{Limit}
use Rattle.kernel_names.specs.declared.limit.Limit.TheVariants as limit
use Rattle.kernel_names.specs.declared.limit.LineFaults.{LineFaults}
use Rattle.kernel_names.specs.declared.said.Said.{Said}
use Rattle.kernel_names.specs.Ids.{written_id, id_at, insn_options, ids_from, ids_of, taken_behind}
use Rattle.kernel_names.specs.Lines.{no_faults}
use Rattle.kernel_names.specs.Roles.{name_of, declarations_of}
use Rattle.kernel_names.specs.Said.{said_in}
use Rattle.kernel_names.proofs.NameLaws.{either_side}
use Rattle.kernel_lines.specs.declared.lines.KernelParts.{KernelParts}
use Rattle.kernel_files.specs.declared.files.ReadLines.{ReadLines}
use Rattle.kernel_files.specs.Files.{next_id, next_taken, no_lines, insn_faults, with_item, entry_faults, with_entry, entries_behind, lines_of}
use Rattle.kernel_lines.specs.Lines.{with_line}
use Rattle.kernel_grammar.specs.declared.file.KernelFile.{KernelFile}
use Rattle.kernel_files.specs.Insns.{read_insn, insn_of, trees, widths, size_with, whole_faults, inames_among, mentioned, bound_in, first_taken}
use Rattle.kernel_formed.specs.Shapes.{is_whole}
use Rattle.kernel_formed.specs.Written.{option_fits, steps_fit, is_written, AreWritten}
use Rattle.kernel_formed.proofs.NumberLists.{differ_more}
use Rattle.kernel_formed.proofs.FineLines.{AreFine, both_fine, either_none, get_behind}

-- ---- lists of names

any_side : (n : List ℕ) (xs : List (List ℕ)) → list_any (λ x. bytes_eq x n) xs ≡ list_any (bytes_eq n) xs
any_side n [] = refl
any_side n (x ∷ xs) = ap (λ (b : Bool). b || list_any (λ y. bytes_eq y n) xs) (either_side x n) ∙ ap (λ (b : Bool). bytes_eq n x || b) (any_side n xs)

all_more : (p : List ℕ → Bool) (xs : List (List ℕ)) (n : List ℕ) → list_all p xs ≡ true → p n ≡ true → list_all p (xs ++ n ∷ []) ≡ true
all_more p xs n h e = list_all-append p xs (n ∷ []) ∙ and_from (list_all p xs) (p n && true) h (and_from (p n) true e refl)

-- ---- ids that are not written

digit_fits : (c : ℕ) → IsInRange 48 57 c → is_letter_or_digit c ≡ true
digit_fits c h = grind (arith, nat_tests, h)

digits_fit : (ds : List ℕ) → AllDigits 10 ds → list_all is_letter_or_digit ds ≡ true
digits_fit [] h = refl
digits_fit (c ∷ cs) h = and_from (is_letter_or_digit c) (list_all is_letter_or_digit cs) (digit_fits c (digit_from_value c h.0)) (digits_fit cs h.1)

number_fits : (n : ℕ) → n < 2 ^ 64 → is_identifier (codes "insn_" ++ decimal n) ≡ true
number_fits n h = digits_fit (decimal n) (decimal_is_IsNumeral n h).0.1

-- ---- ids that are written

either_fits : (later : Option (List ℕ)) (name other : List ℕ) → ((n : List ℕ) → later ≡ Some n → is_identifier n ≡ true) → is_identifier name ≡ true → (n : List ℕ) → option_or later (Some name) ≡ Some n → is_identifier n ≡ true
either_fits None name other h e n is = subst (λ (x : List ℕ). is_identifier x ≡ true) (ap (λ (o : Option (List ℕ)). unwrap_or o name) is) e
either_fits (Some x) name other h e n is = h n is

written_fits : (options : List InsnOption) → list_all option_fits options ≡ true → (n : List ℕ) → written_id options ≡ Some n → is_identifier n ≡ true
written_fits [] h n is = absurd (cc)
written_fits (option.Id name ∷ options) h n is =
    either_fits (written_id options) name name (written_fits options ((and_parts (is_identifier name) (list_all option_fits options) h).1)) ((and_parts (is_identifier name) (list_all option_fits options) h).0) n is
written_fits (option.Dep automatic ids ∷ options) h n is = written_fits options h n is
written_fits (option.Inames names ∷ options) h n is = written_fits options h n is
written_fits (option.If steps ∷ options) h n is = written_fits options ((and_parts (is_whole steps) (list_all option_fits options) h).1) n is

id_case : (o : Option (List ℕ)) (place : ℕ) → ((n : List ℕ) → o ≡ Some n → is_identifier n ≡ true) → place < 2 ^ 64 → is_identifier (unwrap_or o (codes "insn_" ++ decimal place)) ≡ true
id_case None place h few = number_fits place few
id_case (Some n) place h few = h n refl

id_is_fine : (place : ℕ) (options : List InsnOption) → list_all option_fits options ≡ true → place < 2 ^ 64 → is_identifier (id_at place options) ≡ true
id_is_fine place options h few = id_case (written_id options) place (written_fits options h) few

-- ---- line by line

-- what is known of the ids of the instructions so far, and of those that come
record IdsBehind (ids : List (List ℕ)) (taken : List Bool) (k : ReadLines) (more : List (List InsnOption)) : Type 0 where
  pub front : List (List ℕ)
  pub marks : List Bool
  pub all : ids ≡ front ++ ids_from (length front) more
  pub all_marks : taken ≡ marks ++ taken_behind front (ids_from (length front) more)
  pub marked : length marks ≡ length front
  pub insns : map (λ A. A.id) k.insns ≡ front
  pub differ : all_differ bytes_eq front ≡ true
  pub fit : list_all is_identifier front ≡ true
  pub count : length front ≤ k.size
  pub few : k.size ≤ 64

not_over : (a b : Bool) (x y : Limit) → (if a then Some x else (if b then Some y else None)) ≡ None → b ≡ false
not_over true b x y h = absurd (cc)
not_over false true x y h = absurd (cc)
not_over false false x y h = refl

small_min : (m n : ℕ) → m ≡ min 65 n → m ≤ 64 → m ≡ n
small_min m n is h = grind (arith, is, h)

none_if : (b : Bool) (id : List ℕ) → (if b then Some id else None) ≡ None → b ≡ false
none_if true id h = absurd (cc)
none_if false id h = refl

same_ids : {ids : List (List ℕ)} {taken : List Bool} (k : ReadLines) (p : KernelParts) (more : List (List InsnOption)) → IdsBehind ids taken k more → IdsBehind ids taken (record k { parts = p }) more
same_ids k p more h = record { front = h.front; marks = h.marks; all = h.all; all_marks = h.all_marks; marked = h.marked; insns = h.insns; differ = h.differ; fit = h.fit; count = h.count; few = h.few }

module _ (D : Declarations) (ids : List (List ℕ)) (taken : List Bool) where
  insn_behind : (k : ReadLines) (p : KernelParts) (line : ℕ) (declared : Declared) (name : List ℕ) (place : List (List Step)) (how : Stored) (value : List Step) (options : List InsnOption) (more : List (List InsnOption))
      → list_all option_fits options ≡ true → insn_faults D ids taken k name place how value options ≡ no_faults → IdsBehind ids taken k (options ∷ more)
      → IdsBehind ids taken (with_item D ids (record k { parts = p }) line (item.Insn declared name place how value options)) more
  insn_behind k p line declared name place how value options more fits fine h =
      let front = h.front in
      let id = id_at (length front) options in
      let rest = ids_from (length front + 1) more in
      let r = read_insn D ids name place how value options in
      let many : length k.insns ≡ length front = sym (length-map k.insns (λ (A : Insn). A.id)) ∙ ap (λ (xs : List (List ℕ)). length xs) h.insns in
      let next : next_id ids k ≡ id =
      ap (λ (n : ℕ). unwrap_or (slice_get ids n) []) many
      ∙ (ap (λ (xs : List (List ℕ)). unwrap_or (slice_get xs (length front)) []) h.all ∙ ap (λ (o : Option (List ℕ)). unwrap_or o []) (get_behind front id rest)) in
      let whole = (both_fine r.faults (whole_faults D (next_id ids k) (next_taken taken k) (size_with k.size r) r) fine).1 in
      let free = none_if (next_taken taken k) (next_id ids k) (either_none (option_map (name_of D) (first_taken (inames_among D (mentioned r)) [] (bound_in r))) (if next_taken taken k then Some (next_id ids k) else None) (ap (λ (f : LineFaults). f.taken) whole)).1 in
      let new : list_any (bytes_eq id) front ≡ false =
      sym (ap (λ (n : ℕ). unwrap_or (slice_get taken n) false) (many ∙ sym h.marked)
      ∙ (ap (λ (bs : List Bool). unwrap_or (slice_get bs (length h.marks)) false) h.all_marks ∙ ap (λ (o : Option Bool). unwrap_or o false) (get_behind h.marks (list_any (bytes_eq id) front) (taken_behind (front ++ id ∷ []) rest)))) ∙ free in
      let size = size_with k.size r in
      let most = ltb-false 64 size (not_over (nat_lt 16 (length (inames_among D (mentioned r ++ bound_in r)))) (nat_lt 64 size) limit.Inames limit.Instructions (ap (λ (f : LineFaults). f.limit) whole)) in
      let exact = small_min size (k.size + 1 + 2 * length (flat_map widths (trees r))) refl most in
      let long : length (front ++ id ∷ []) ≡ length front + 1 = length-append front (id ∷ []) in
      record {
        front = front ++ id ∷ [];
        marks = h.marks ++ list_any (bytes_eq id) front ∷ [];
        all = h.all ∙ (sym (append_assoc front (id ∷ []) rest) ∙ ap (λ (n : ℕ). (front ++ id ∷ []) ++ ids_from n more) (sym long));
        all_marks = h.all_marks ∙ (sym (append_assoc h.marks (list_any (bytes_eq id) front ∷ []) (taken_behind (front ++ id ∷ []) rest)) ∙ ap (λ (n : ℕ). (h.marks ++ list_any (bytes_eq id) front ∷ []) ++ taken_behind (front ++ id ∷ []) (ids_from n more)) (sym long));
        marked = length-append h.marks (list_any (bytes_eq id) front ∷ []) ∙ (ap (λ (n : ℕ). n + 1) h.marked ∙ sym long);
        insns = map-append (λ (A : Insn). A.id) k.insns (insn_of D (next_id ids k) line how r options ∷ []) ∙ (ap (λ (xs : List (List ℕ)). xs ++ next_id ids k ∷ []) h.insns ∙ ap (λ (n : List ℕ). front ++ n ∷ []) next);
        differ = differ_more bytes_eq front id h.differ (any_side id front ∙ new);
        fit = all_more is_identifier front id h.fit (id_is_fine (length front) options fits (omega (arith, h.count, h.few)));
        count = subst (λ (n : ℕ). n ≤ size) (sym long) (omega (arith, h.count, exact));
        few = most;
      }

  item_behind : (k : ReadLines) (p : KernelParts) (line : ℕ) (it : Item) (more : List (List InsnOption)) → steps_fit it ≡ true → entry_faults D ids taken k it ≡ no_faults → IdsBehind ids taken k (insn_options it ++ more)
      → IdsBehind ids taken (with_item D ids (record k { parts = p }) line it) more
  item_behind k p line (item.Insn declared name place how value options) more fits fine h =
      let of_value = (and_parts (list_all is_whole place) (is_whole value && list_all option_fits options) fits).1 in
      insn_behind k p line declared name place how value options more ((and_parts (is_whole value) (list_all option_fits options) of_value).1) fine h
  item_behind k p line (item.Domain known inames conditions) more fits fine h = same_ids k p more h
  item_behind k p line (item.Assume conditions) more fits fine h = same_ids k p more h
  item_behind k p line (item.Array name kind shape stored) more fits fine h = same_ids k p more h
  item_behind k p line (item.Temp name kind shape) more fits fine h = same_ids k p more h
  item_behind k p line (item.Rule name params body) more fits fine h = same_ids k p more h

  along : (said : List Said) (k : ReadLines) (es : List Entry) → AreWritten es → AreFine D ids taken said k es → IdsBehind ids taken k (flat_map (λ e. insn_options e.item) es) → IdsBehind ids taken (entries_behind D ids k es) []
  along said k [] fits fine h = h
  along said k (e ∷ es) fits fine h =
      let here = (and_parts (is_written e.item) (list_all (λ x. is_written x.item) es) fits).0 in
      let steps = (and_parts (list_all (λ s. is_identifier s.name) (said_in e.item)) (steps_fit e.item) here).1 in
      along (said ++ said_in e.item) (with_entry D ids k e) es ((and_parts (is_written e.item) (list_all (λ x. is_written x.item) es) fits).1) fine.1.1
      (item_behind k (with_line D k.parts e.line e.item) e.line e.item (flat_map (λ x. insn_options x.item) es) steps fine.1.0 h)

-- ---- whole files

-- The ids of the instructions are those of the lines, and differ.
pub record HasIds (file : KernelFile) : Type 0 where
  pub are : map (λ A. A.id) (lines_of file).insns ≡ ids_of file.entries
  pub differ : all_differ bytes_eq (ids_of file.entries) ≡ true
  pub fit : list_all is_identifier (ids_of file.entries) ≡ true

ended : (file : KernelFile) → IdsBehind (ids_of file.entries) (taken_behind [] (ids_of file.entries)) (lines_of file) [] → HasIds file
ended file h =
    let all = h.all ∙ append-nil h.front in
    record {
      are = h.insns ∙ sym all;
      differ = subst (λ (xs : List (List ℕ)). all_differ bytes_eq xs ≡ true) (sym all) h.differ;
      fit = subst (λ (xs : List (List ℕ)). list_all is_identifier xs ≡ true) (sym all) h.fit;
    }

pub file_ids : (file : KernelFile) → AreWritten file.entries → AreFine (declarations_of file.entries) (ids_of file.entries) (taken_behind [] (ids_of file.entries)) [] no_lines file.entries → HasIds file
file_ids file fits fine =
    ended file (along (declarations_of file.entries) (ids_of file.entries) (taken_behind [] (ids_of file.entries)) [] no_lines file.entries fits fine
    (record { front = []; marks = []; all = refl; all_marks = refl; marked = refl; insns = refl; differ = refl; fit = refl; count = omega arith; few = omega arith }))
