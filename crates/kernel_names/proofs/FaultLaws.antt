-- What is wrong with names, one after the other.
use Rattle.std.proofs.Common.{◌≡◌, ℕ, ◌+◌, ◌<◌, Bool, if◌then◌else◌, List, [], ◌∷◌, ◌++◌, map, length, take, drop, get_or, Option, Some, None, refl, sym, ap, subst, ◌∙◌, bytes_eq, append_assoc, append-nil}
use Rattle.std.specs.List.{list_any}
use Rattle.std.specs.Option.{option_or}
use Rattle.std.proofs.lemmas.List.{map-append}
use Rattle.std.proofs.lemmas.Grind.{flat_map-append}
use Rattle.quasi_forms.specs.Alike.{distinct}
use Rattle.kernel_grammar.specs.declared.file.Entry.{Entry}
use Rattle.kernel_names.specs.declared.said.Said.{Said}
use Rattle.kernel_names.specs.declared.limit.Limit.{Limit}
use Rattle.kernel_names.specs.declared.limit.LineFaults.{LineFaults}
use Rattle.kernel_names.specs.declared.table.Table.{Table}
use Rattle.kernel_names.specs.declared.table.Counts.{Counts}
use Rattle.kernel_names.specs.declared.lines.Reading.{Reading}
use Rattle.kernel_names.specs.declared.declarations.Declarations.{Declarations}
use Rattle.untyped.specs.declared.scope.Role.{Role}
use Rattle.kernel_names.specs.Said.{said_in, said_by, declarations_in, names_declared}
use Rattle.kernel_names.specs.Roles.{is_parameter, count_as, role_at}
use Rattle.kernel_names.specs.Tables.{IsTable}
use Rattle.kernel_names.specs.Readings.{IsRead}
use Rattle.kernel_names.specs.Lines.{limit_with, limit_of, is_taken_as, role_in, first_faults, said_faults, faults_along, line_faults, faults_behind}
use Rattle.kernel_names.proofs.NameLaws.{inserted, next_take, next_drop}

-- ---- the first of each fault

or_or : {X : Type 0} (a b c : Option X) → option_or (option_or a b) c ≡ option_or a (option_or b c)
or_or None b c = refl
or_or (Some x) b c = refl

abbrev made : Option Limit → Option (List ℕ) → Option (List ℕ) → Option (List ℕ) → LineFaults
made limit unknown taken shape = record { limit = limit; unknown = unknown; taken = taken; shape = shape }

made_same : (l m : Option Limit) (u v t w s x : Option (List ℕ)) → l ≡ m → u ≡ v → t ≡ w → s ≡ x → made l u t s ≡ made m v w x
made_same l m u v t w s x e f g h =
    ap (λ (o : Option Limit). made o u t s) e ∙ (ap (λ (o : Option (List ℕ)). made m o t s) f ∙ (ap (λ (o : Option (List ℕ)). made m v o s) g ∙ ap (λ (o : Option (List ℕ)). made m v w o) h))

pub first_first : (a b c : LineFaults) → first_faults (first_faults a b) c ≡ first_faults a (first_faults b c)
first_first a b c = made_same _ _ _ _ _ _ _ _ (or_or a.limit b.limit c.limit) (or_or a.unknown b.unknown c.unknown) (or_or a.taken b.taken c.taken) (or_or a.shape b.shape c.shape)

-- ---- one name

pub name_read : (r new : Reading) (before : List Said) (s : Said) → IsRead r before → IsTable new.table (before ++ s ∷ []) → new.said ≡ (if list_any (bytes_eq s.name) r.said then r.said else (r.said ++ s.name ∷ [])) → IsRead new (before ++ s ∷ [])
name_read r new before s h table is = record {
  table = table;
  names = inserted (map (λ x. x.name) before) s.name r.said new.said h.names is ∙ ap (λ (ns : List (List ℕ)). distinct bytes_eq ns) (sym (map-append (λ (x : Said). x.name) before (s ∷ [])));
}

limit_is : (r : Reading) (said : List Said) → IsRead r said → limit_with r.table.counts.parameters (length r.said) ≡ limit_of said
limit_is r said h =
    ap (λ (c : Counts). limit_with c.parameters (length r.said)) h.table.counts
    ∙ ap (λ (ns : List (List ℕ)). limit_with (count_as is_parameter (declarations_in said)) (length ns)) h.names

role_is : (t : Table) (said : List Said) (n : List ℕ) → IsTable t said → role_at t.names t.roles n ≡ role_in said n
role_is t said n h = ap (λ (ns : List (List ℕ)). role_at ns t.roles n) h.names ∙ ap (λ (rs : List Role). role_at (names_declared said) rs n) h.roles

pub name_faults : (r new : Reading) (before : List Said) (s : Said) (limit : Option Limit) (role : Role) (taken : Bool) (name : Option (List ℕ)) → IsRead r before → IsRead new (before ++ s ∷ [])
    → limit ≡ limit_with new.table.counts.parameters (length new.said) → role ≡ role_at r.table.names r.table.roles s.name → taken ≡ is_taken_as s.sort role → name ≡ (if taken then Some s.name else None)
    → made limit None name None ≡ said_faults before s
name_faults r new before s limit role taken name h read e f g is =
    made_same _ _ _ _ _ _ _ _ (e ∙ limit_is new (before ++ s ∷ []) read) refl
    (is ∙ ap (λ (b : Bool). if b then Some s.name else None) (g ∙ ap (is_taken_as s.sort) (f ∙ role_is r.table before s.name h.table))) refl

-- ---- names one after the other

behind_more : (before said : List Said) (i : ℕ) (s : Said) → i < length said → s ≡ get_or said i s → (before ++ take i said) ++ s ∷ [] ≡ before ++ take (i + 1) said
behind_more before said i s within is = append_assoc before (take i said) (s ∷ []) ∙ ap (λ (xs : List Said). before ++ xs) (sym (next_take said i s within is))

pub faults_more : (before said : List Said) (i : ℕ) (s : Said) (f g next all : LineFaults) → i < length said → s ≡ get_or said i s → g ≡ said_faults (before ++ take i said) s → next ≡ first_faults f g
    → first_faults f (faults_along (before ++ take i said) (drop i said)) ≡ all → first_faults next (faults_along (before ++ take (i + 1) said) (drop (i + 1) said)) ≡ all
faults_more before said i s f g next all within is found joined h =
    let rest = drop (i + 1) said in
    let along : faults_along (before ++ take i said) (drop i said) ≡ first_faults g (faults_along (before ++ take (i + 1) said) rest) =
    ap (λ (ss : List Said). faults_along (before ++ take i said) ss) (next_drop said i s within is)
    ∙ (ap (λ (x : LineFaults). first_faults x (faults_along ((before ++ take i said) ++ s ∷ []) rest)) (sym found)
    ∙ ap (λ (b : List Said). first_faults g (faults_along b rest)) (behind_more before said i s within is)) in
    ap (λ (x : LineFaults). first_faults x (faults_along (before ++ take (i + 1) said) rest)) joined
    ∙ (first_first f g (faults_along (before ++ take (i + 1) said) rest) ∙ (ap (first_faults f) (sym along) ∙ h))

pub read_more : (r : Reading) (before said : List Said) (i : ℕ) (s : Said) → i < length said → s ≡ get_or said i s → IsRead r ((before ++ take i said) ++ s ∷ []) → IsRead r (before ++ take (i + 1) said)
read_more r before said i s within is h = subst (λ (b : List Said). IsRead r b) (behind_more before said i s within is) h

-- ---- lines one after the other

said_more : (entries : List Entry) (i : ℕ) (e : Entry) → i < length entries → e ≡ get_or entries i e → said_by (take i entries) ++ said_in e.item ≡ said_by (take (i + 1) entries)
said_more entries i e within is =
    sym (ap (λ (es : List Entry). said_by es) (next_take entries i e within is)
    ∙ (flat_map-append (λ (x : Entry). said_in x.item) (take i entries) (e ∷ []) ∙ ap (λ (ss : List Said). said_by (take i entries) ++ ss) (append-nil (said_in e.item))))

pub line_read : (r : Reading) (entries : List Entry) (i : ℕ) (e : Entry) → i < length entries → e ≡ get_or entries i e → IsRead r (said_by (take i entries) ++ said_in e.item) → IsRead r (said_by (take (i + 1) entries))
line_read r entries i e within is h = subst (λ (b : List Said). IsRead r b) (said_more entries i e within is) h

pub lines_more : (entries : List Entry) (i : ℕ) (e : Entry) (faults new all : List LineFaults) (f : LineFaults) → i < length entries → e ≡ get_or entries i e → f ≡ line_faults (said_by (take i entries)) e.item → new ≡ faults ++ f ∷ []
    → faults ++ faults_behind (said_by (take i entries)) (drop i entries) ≡ all → new ++ faults_behind (said_by (take (i + 1) entries)) (drop (i + 1) entries) ≡ all
lines_more entries i e faults new all f within is found pushed h =
    let rest = drop (i + 1) entries in
    let behind : faults_behind (said_by (take i entries)) (drop i entries) ≡ f ∷ faults_behind (said_by (take (i + 1) entries)) rest =
    ap (λ (es : List Entry). faults_behind (said_by (take i entries)) es) (next_drop entries i e within is)
    ∙ (ap (λ (x : LineFaults). x ∷ faults_behind (said_by (take i entries) ++ said_in e.item) rest) (sym found)
    ∙ ap (λ (b : List Said). f ∷ faults_behind b rest) (said_more entries i e within is)) in
    ap (λ (fs : List LineFaults). fs ++ faults_behind (said_by (take (i + 1) entries)) rest) pushed
    ∙ (append_assoc faults (f ∷ []) (faults_behind (said_by (take (i + 1) entries)) rest) ∙ (ap (λ (fs : List LineFaults). faults ++ fs) (sym behind) ∙ h))

-- ---- all declarations

pub declarations_same : (names others : List (List ℕ)) (roles more : List Role) (stored kept : List Bool) → names ≡ others → roles ≡ more → stored ≡ kept
    → ◌≡◌ {A = Declarations} (record { names = names; roles = roles; stored = stored }) (record { names = others; roles = more; stored = kept })
declarations_same names others roles more stored kept e f g =
    let first : ◌≡◌ {A = Declarations} (record { names = names; roles = roles; stored = stored }) (record { names = others; roles = roles; stored = stored }) =
    ap (λ (ns : List (List ℕ)). record { names = ns; roles = roles; stored = stored }) e in
    first ∙ (ap (λ (rs : List Role). record { names = others; roles = rs; stored = stored }) f ∙ ap (λ (bs : List Bool). record { names = others; roles = more; stored = bs }) g)
