-- A rule's own parameters are variables, and different ones.
use Rattle.std.proofs.Common.{◌≡◌, ℕ, Bool, true, false, if◌then◌else◌, List, [], ◌∷◌, ◌++◌, map, length, slice_get, Option, Some, None, unwrap_or, bytes_eq, refl, sym, ap, ◌∙◌, append_assoc, append-nil}
use Rattle.std.specs.Prelude.{nat_eq, nat_lt, flat_map, All}
use Rattle.std.specs.List.{list_all, list_any, AllByRecursion}
use Rattle.std.proofs.lemmas.Bool.{and_parts, or_right, lt-ltb, eqb-true}
use Rattle.std.proofs.lemmas.List.Folds.{list_all-append, list_all-map, list_any-append}
use Rattle.std.proofs.lemmas.List.Elements.{All-from_recursion}
use Rattle.std.proofs.lemmas.Option.{slice_get_within}
use Rattle.std.proofs.lemmas.Slice.Eq.{bytes_eq-Decides}
use Rattle.kernel_ir.specs.NameSpace.{all_differ}
use Rattle.kernel_grammar.specs.declared.file.Entry.{Entry}
use Rattle.kernel_grammar.specs.declared.item.Item.{Item}
use Rattle.kernel_grammar.specs.declared.item.Item.TheVariants as item
use Rattle.kernel_names.specs.declared.declarations.Declarations.{Declarations}
use Rattle.kernel_names.specs.Said.{own_in, names_of}
use Rattle.kernel_names.specs.Roles.{declarations_of, number_of, name_of}
use Rattle.kernel_names.specs.Lines.{repeated_behind, repeated_own}
use Rattle.kernel_names.proofs.NameLaws.{any_distinct, is_some-position}
use Rattle.kernel_formed.specs.NameLaws.{NoneTaken, AreVariables}
use Rattle.kernel_formed.proofs.Differing.{is_itself, differ_more}
use Rattle.kernel_formed.proofs.NameLists.{all_weaker, all_among, differ_unmap, named}
use Rattle.kernel_formed.proofs.Untaken.{all_own_once}
use Rattle.kernel_formed.proofs.AllNames.{said_names, own_names}

-- ---- names of which none is repeated

fresh_test : (b : Bool) (n : List ℕ) (rest : Option (List ℕ)) → (if b then Some n else rest) ≡ None → (b ≡ false) × (rest ≡ None)
fresh_test false n rest h = (refl, h)
fresh_test true n rest h = cc

unrepeated : (before ns : List (List ℕ)) → all_differ bytes_eq before ≡ true → repeated_behind before ns ≡ None → all_differ bytes_eq (before ++ ns) ≡ true
unrepeated before [] differ none = ap (λ (ns : List (List ℕ)). all_differ bytes_eq ns) (append-nil before) ∙ differ
unrepeated before (n ∷ ns) differ none =
    let parts = fresh_test (list_any (bytes_eq n) before) n (repeated_behind (before ++ n ∷ []) ns) none in
    ap (λ (xs : List (List ℕ)). all_differ bytes_eq xs) (sym (append_assoc before (n ∷ []) ns))
    ∙ unrepeated (before ++ n ∷ []) ns (differ_more bytes_eq bytes_eq-Decides before n differ parts.0) parts.1

own_differ : (line : Item) → repeated_own line ≡ None → all_differ bytes_eq (own_in line) ≡ true
own_differ (item.Rule name params body) none = unrepeated [] params refl none
own_differ _ none = refl

-- ---- names that are known have numbers of their own

known_at : (D : Declarations) (n : List ℕ) → list_any (bytes_eq n) D.names ≡ true → slice_get D.names (number_of D n) ≡ Some n
known_at D n there = named D.names n (is_some-position (bytes_eq n) D.names ∙ there)

names_back : (D : Declarations) (own : List (List ℕ)) → list_all (λ n. list_any (bytes_eq n) D.names) own ≡ true → map (name_of D) (map (number_of D) own) ≡ own
names_back D [] known = refl
names_back D (n ∷ own) known =
    let parts = and_parts (list_any (bytes_eq n) D.names) (list_all (λ m. list_any (bytes_eq m) D.names) own) known in
    ap (λ (m : List ℕ). m ∷ map (name_of D) (map (number_of D) own)) (ap (λ (o : Option (List ℕ)). unwrap_or o []) (known_at D n parts.0))
    ∙ ap (λ (ns : List (List ℕ)). n ∷ ns) (names_back D own parts.1)

variables : (D : Declarations) (own : List (List ℕ)) → list_all (λ n. list_any (bytes_eq n) D.names) own ≡ true → all_differ bytes_eq own ≡ true
    → AreVariables D own
variables D own known differ = record {
  within = list_all-map (λ v. nat_lt v (length D.names)) (number_of D) own
      ∙ all_weaker (λ n. list_any (bytes_eq n) D.names) (λ n. nat_lt (number_of D n) (length D.names))
      (λ n there. lt-ltb (number_of D n) (length D.names) (slice_get_within D.names (number_of D n) n (known_at D n there))) own known;
  differ =
      differ_unmap nat_eq bytes_eq (name_of D) (λ u v same. (bytes_eq-Decides (name_of D u) (name_of D v)).1 (ap (name_of D) (eqb-true u v same)))
      (map (number_of D) own)
      (ap (λ (ns : List (List ℕ)). all_differ bytes_eq ns) (names_back D own known) ∙ differ);
}

-- ---- each line

all_parts : {X Y : Type 0} (p : Y → Bool) (f : X → List Y) (xs : List X) → list_all p (flat_map f xs) ≡ true → AllByRecursion (λ x. list_all p (f x) ≡ true) xs
all_parts p f [] all = tt
all_parts p f (x ∷ xs) all =
    let parts = and_parts (list_all p (f x)) (list_all p (flat_map f xs)) (sym (list_all-append p (f x) (flat_map f xs)) ∙ all) in
    (parts.0, all_parts p f xs parts.1)

own_known : (entries : List Entry) → AllByRecursion (λ e. list_all (λ n. list_any (bytes_eq n) (names_of entries)) (own_in e.item) ≡ true) entries
own_known entries =
    all_parts (λ n. list_any (bytes_eq n) (names_of entries)) (λ (e : Entry). own_in e.item) entries
    (all_among bytes_eq (is_itself bytes_eq bytes_eq-Decides) (own_names entries) (names_of entries) (λ n there.
    any_distinct n (said_names entries ++ own_names entries)
    ∙ (list_any-append (bytes_eq n) (said_names entries) (own_names entries)
    ∙ or_right (list_any (bytes_eq n) (said_names entries)) (list_any (bytes_eq n) (own_names entries)) there)))

lines_are : (D : Declarations) (entries : List Entry) → AllByRecursion (λ e. list_all (λ n. list_any (bytes_eq n) D.names) (own_in e.item) ≡ true) entries
    → AllByRecursion (λ e. repeated_own e.item ≡ None) entries
    → AllByRecursion (λ e. AreVariables D (own_in e.item)) entries
lines_are D [] known once = tt
lines_are D (e ∷ entries) known once = (variables D (own_in e.item) known.0 (own_differ e.item once.0), lines_are D entries known.1 once.1)

pub own_are_variables : (entries : List Entry) → NoneTaken entries → All (λ e. AreVariables (declarations_of entries) (own_in e.item)) entries
own_are_variables entries untaken =
    let D = declarations_of entries in
    All-from_recursion (λ (e : Entry). AreVariables D (own_in e.item)) entries (lines_are D entries (own_known entries) (all_own_once entries untaken))
