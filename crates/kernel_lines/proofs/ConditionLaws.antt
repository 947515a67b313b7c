-- Conditions, one after the other.
use Rattle.std.proofs.Common.{◌≡◌, ℕ, ◌+◌, ◌<◌, Bool, List, [], ◌∷◌, ◌++◌, length, drop, get_or, sym, ap, ◌∙◌, append_assoc}
use Rattle.affine_rows.specs.declared.quasi.Quasi.{Quasi}
use Rattle.expr_tree.specs.declared.row.QuasiRow.{QuasiRow}
use Rattle.kernel_grammar.specs.declared.step.Step.{Step}
use Rattle.kernel_grammar.specs.declared.item.Relation.{Relation}
use Rattle.kernel_grammar.specs.declared.item.Chain.{Chain}
use Rattle.kernel_names.specs.declared.limit.LineFaults.{LineFaults}
use Rattle.kernel_names.specs.Lines.{first_faults}
use Rattle.kernel_names.proofs.NameLaws.{next_drop}
use Rattle.kernel_names.proofs.FaultLaws.{first_first}
use Rattle.untyped.specs.Readings.{Roles, untyped_of}
use Rattle.kernel_lines.specs.declared.conditions.Conditions.{Conditions}
use Rattle.untyped_parts.specs.declared.rows.RowReading.{RowReading}
use Rattle.kernel_lines.specs.Places.{reading_faults, index_of, forms_of, forms_faults}
use Rattle.kernel_lines.specs.Rows.{rows_between, rows_in, is_over}
use Rattle.kernel_lines.specs.Conditions.{form_faults, both, link_of, links_of, chain_of}

-- ---- index expressions

pub forms_more : (roles : Roles) (items : List (List Step)) (i : ℕ) (steps : List Step) (forms new all : List Quasi) (form : Quasi) → i < length items → steps ≡ get_or items i steps → form ≡ index_of (untyped_of roles steps).part → new ≡ forms ++ form ∷ []
    → forms ++ forms_of roles (drop i items) ≡ all → new ++ forms_of roles (drop (i + 1) items) ≡ all
forms_more roles items i steps forms new all form within is read pushed h =
    let rest = forms_of roles (drop (i + 1) items) in
    let split : forms_of roles (drop i items) ≡ form ∷ rest =
    ap (λ (xs : List (List Step)). forms_of roles xs) (next_drop items i steps within is) ∙ ap (λ (q : Quasi). q ∷ rest) (sym read) in
    ap (λ (qs : List Quasi). qs ++ rest) pushed ∙ (append_assoc forms (form ∷ []) rest ∙ (ap (λ (qs : List Quasi). forms ++ qs) (sym split) ∙ h))

pub faults_more : (roles : Roles) (word : List ℕ) (items : List (List Step)) (i : ℕ) (steps : List Step) (f next all : LineFaults) → i < length items → steps ≡ get_or items i steps → next ≡ first_faults f (reading_faults word (untyped_of roles steps))
    → first_faults f (forms_faults roles word (drop i items)) ≡ all → first_faults next (forms_faults roles word (drop (i + 1) items)) ≡ all
faults_more roles word items i steps f next all within is joined h =
    let rest = forms_faults roles word (drop (i + 1) items) in
    let here = reading_faults word (untyped_of roles steps) in
    let split : forms_faults roles word (drop i items) ≡ first_faults here rest = ap (λ (xs : List (List Step)). forms_faults roles word xs) (next_drop items i steps within is) in
    ap (λ (x : LineFaults). first_faults x rest) joined ∙ (first_first f here rest ∙ (ap (first_faults f) (sym split) ∙ h))

-- ---- conditions

conditions_same : (r s : List QuasiRow) (f g : LineFaults) → r ≡ s → f ≡ g → ◌≡◌ {A = Conditions} (record { rows = r; faults = f }) (record { rows = s; faults = g })
conditions_same r s f g e h =
    let first : ◌≡◌ {A = Conditions} (record { rows = r; faults = f }) (record { rows = s; faults = f }) = ap (λ (x : List QuasiRow). record { rows = x; faults = f }) e in
    first ∙ ap (λ (x : LineFaults). record { rows = s; faults = x }) h

pub both_both : (a b c : Conditions) → both (both a b) c ≡ both a (both b c)
both_both a b c = conditions_same _ _ _ _ (append_assoc a.rows b.rows c.rows) (first_first a.faults b.faults c.faults)

pub link_made : (roles : Roles) (word : List ℕ) (left right : List Quasi) (link : Relation × List (List Step)) (self : Conditions) (wrong joined faults last : LineFaults) (compared : List RowReading) (over : Bool) (rows : List QuasiRow)
    → right ≡ forms_of roles link.1 → wrong ≡ forms_faults roles word link.1 → compared ≡ rows_between link.0 left right → over ≡ is_over compared → rows ≡ self.rows ++ rows_in compared
    → last ≡ form_faults over → joined ≡ first_faults wrong last → faults ≡ first_faults self.faults joined → record { rows = rows; faults = faults } ≡ both self (link_of roles word left link)
link_made roles word left right link self wrong joined faults last compared over rows e f made g pushed h k m =
    let same = made ∙ ap (λ (qs : List Quasi). rows_between link.0 left qs) e in
    conditions_same rows _ faults _ (pushed ∙ ap (λ (cs : List RowReading). self.rows ++ rows_in cs) same)
    (m ∙ ap (first_faults self.faults) (k ∙ (ap (λ (x : LineFaults). first_faults x last) f ∙ ap (first_faults (forms_faults roles word link.1)) (h ∙ ap form_faults (g ∙ ap is_over same)))))

abbrev only : LineFaults → Conditions
only f = record { rows = []; faults = f }

pub links_start : (roles : Roles) (word : List ℕ) (self conditions : Conditions) (chain : Chain) (wrong : LineFaults) (left : List Quasi) → left ≡ forms_of roles chain.first → wrong ≡ forms_faults roles word chain.first
    → conditions ≡ both self (record { rows = []; faults = wrong }) → both conditions (links_of roles word left chain.rest) ≡ both self (chain_of roles word chain)
links_start roles word self conditions chain wrong left e f is =
    ap (λ (c : Conditions). both c (links_of roles word left chain.rest)) is
    ∙ (both_both self (only wrong) (links_of roles word left chain.rest)
    ∙ (ap (λ (x : LineFaults). both self (both (only x) (links_of roles word left chain.rest))) f
    ∙ ap (λ (qs : List Quasi). both self (both (only (forms_faults roles word chain.first)) (links_of roles word qs chain.rest))) e))

pub links_more : (roles : Roles) (word : List ℕ) (links : List (Relation × List (List Step))) (i : ℕ) (link : Relation × List (List Step)) (left right : List Quasi) (conditions next all : Conditions) → i < length links → link ≡ get_or links i link
    → next ≡ both conditions (link_of roles word left link) → right ≡ forms_of roles link.1 → both conditions (links_of roles word left (drop i links)) ≡ all → both next (links_of roles word right (drop (i + 1) links)) ≡ all
links_more roles word links i link left right conditions next all within is made e h =
    let rest = drop (i + 1) links in
    ap (λ (c : Conditions). both c (links_of roles word right rest)) made
    ∙ (both_both conditions (link_of roles word left link) (links_of roles word right rest)
    ∙ (ap (λ (qs : List Quasi). both conditions (both (link_of roles word left link) (links_of roles word qs rest))) e
    ∙ (ap (λ (ls : List (Relation × List (List Step))). both conditions (links_of roles word left ls)) (sym (next_drop links i link within is)) ∙ h)))
