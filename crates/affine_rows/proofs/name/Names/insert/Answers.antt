use Rattle.std.proofs.Common.{◌≡◌, ◌∙◌, ap, subst, bytes_eq, not, map, List, [], ◌∷◌, ◌++◌, ℕ, if◌then◌else◌}
use Rattle.std.specs.List.{list_any}
use Rattle.std.specs.String.{string_bytes}
use Rattle.affine_rows.proofs.NameSets.{distinct_map, inserted, is_new}
use Rattle.affine_rows.proofs.name.Names.insert.Goals as goal

pub invariant_of-self-2 : goal.invariant_of-self-2
invariant_of-self-2 c = distinct_map string_bytes bytes_eq c.insert.new.self.keys c.in_ok-insert.ensures.unique

pub returns-clause-added : goal.returns-clause-added
returns-clause-added c =
    subst (λ (x : List ℕ). c.in_ok-insert.field-0 ≡ not (list_any (bytes_eq x) c.args.self.now)) c.name.view_is
    (is_new c.args.self.now c.self.inside.set.keys c.name.inside.text c.in_ok-insert.field-0 c.self.view_is c.in_ok-insert.ensures.added)

pub returns-clause-names : goal.returns-clause-names
returns-clause-names c =
    subst (λ (x : List ℕ). map string_bytes c.insert.new.self.keys ≡ (if list_any (bytes_eq x) c.args.self.now then c.args.self.now else (c.args.self.now ++ x ∷ []))) c.name.view_is
    (ap (map string_bytes) c.in_ok-insert.ensures.keys ∙ inserted c.args.self.now c.self.inside.set.keys c.name.inside.text c.self.view_is)
