-- All names of a file: those that are declared come first, they differ, and they are identifiers where each name that is said is one.
use Rattle.std.proofs.Common.{◌≡◌, ℕ, Bool, true, List, [], ◌∷◌, ◌++◌, map, bytes_eq, refl, sym, ap, ◌∙◌}
use Rattle.std.specs.Prelude.{flat_map}
use Rattle.std.specs.List.{list_all, list_any}
use Rattle.std.proofs.lemmas.Bool.{and_parts, and_from, or_left}
use Rattle.std.proofs.lemmas.List.Folds.{list_all-append, list_all-map, list_any-append}
use Rattle.std.proofs.lemmas.Slice.Eq.{bytes_eq-Decides}
use Rattle.kernel_ir.specs.NameSpace.{all_differ}
use Rattle.kernel_grammar.specs.declared.file.Entry.{Entry}
use Rattle.kernel_grammar.specs.declared.item.Item.{Item}
use Rattle.kernel_grammar.specs.declared.item.Item.TheVariants as item
use Rattle.kernel_names.specs.declared.said.Sort.TheVariants as sort
use Rattle.kernel_names.specs.declared.said.Said.{Said}
use Rattle.kernel_names.specs.Said.{said_as, said_in, said_by, is_declaration, all_declarations, names_declared, own_in, names_of}
use Rattle.kernel_names.proofs.NameLaws.{map_distinct}
use Rattle.kernel_formed.proofs.Differing.{differ_distinct}
use Rattle.kernel_formed.proofs.NameLists.{all_filter, all_distinct, behind, distinct-append}

-- the names of all lines, each as often as it is said
abbrev pub said_names : List Entry → List (List ℕ)
said_names entries = map (λ s. s.name) (all_declarations (said_by entries))

abbrev pub own_names : List Entry → List (List ℕ)
own_names entries = flat_map (λ e. own_in e.item) entries

pub names_split : (entries : List Entry) → names_of entries ≡ names_declared (said_by entries) ++ behind bytes_eq (said_names entries) (own_names entries)
names_split entries =
    distinct-append bytes_eq (said_names entries) (own_names entries)
    ∙ ap (λ (ns : List (List ℕ)). ns ++ behind bytes_eq (said_names entries) (own_names entries))
    (sym (map_distinct (λ (s : Said). s.name) (all_declarations (said_by entries))))

pub declared_known : (entries : List Entry) (n : List ℕ) → list_any (bytes_eq n) (names_declared (said_by entries)) ≡ true
    → list_any (bytes_eq n) (names_of entries) ≡ true
declared_known entries n there =
    let rest = behind bytes_eq (said_names entries) (own_names entries) in
    ap (λ (ns : List (List ℕ)). list_any (bytes_eq n) ns) (names_split entries)
    ∙ (list_any-append (bytes_eq n) (names_declared (said_by entries)) rest
    ∙ or_left (list_any (bytes_eq n) (names_declared (said_by entries))) (list_any (bytes_eq n) rest) there)

pub names_differ : (entries : List Entry) → all_differ bytes_eq (names_of entries) ≡ true
names_differ entries = differ_distinct bytes_eq bytes_eq-Decides (said_names entries ++ own_names entries)

-- ---- identifiers

own_said : (p : List ℕ → Bool) (line : Item) → list_all (λ s. p s.name) (said_in line) ≡ true → list_all p (own_in line) ≡ true
own_said p (item.Rule name params body) all =
    let parts = and_parts (p name) (list_all (λ s. p s.name) (said_as sort.Own params)) all in
    sym (list_all-map (λ (s : Said). p s.name) (λ n. record { sort = sort.Own; name = n }) params) ∙ parts.1
own_said p _ all = refl

own_are : (p : List ℕ → Bool) (entries : List Entry) → list_all (λ s. p s.name) (said_by entries) ≡ true → list_all p (own_names entries) ≡ true
own_are p [] all = refl
own_are p (e ∷ entries) all =
    let parts = and_parts (list_all (λ s. p s.name) (said_in e.item)) (list_all (λ s. p s.name) (said_by entries))
    (sym (list_all-append (λ (s : Said). p s.name) (said_in e.item) (said_by entries)) ∙ all) in
    list_all-append p (own_in e.item) (own_names entries) ∙ and_from (list_all p (own_in e.item)) (list_all p (own_names entries))
    (own_said p e.item parts.0) (own_are p entries parts.1)

pub names_are : (p : List ℕ → Bool) (entries : List Entry) → list_all (λ s. p s.name) (said_by entries) ≡ true → list_all p (names_of entries) ≡ true
names_are p entries all =
    all_distinct bytes_eq p (said_names entries ++ own_names entries)
    (list_all-append p (said_names entries) (own_names entries)
    ∙ and_from (list_all p (said_names entries)) (list_all p (own_names entries))
    (list_all-map p (λ (s : Said). s.name) (all_declarations (said_by entries))
    ∙ all_filter (λ (s : Said). p s.name) (λ s. is_declaration s.sort) (said_by entries) all)
    (own_are p entries all))
