use Rattle.std.proofs.Common.{◌≡◌, ◌∙◌, sym, ap, subst, bytes_eq, List, [], ◌∷◌, ◌++◌, ℕ, rules, if◌then◌else◌}
use Rattle.std.proofs.lemmas.Option.{slice_get-get_or}
use Rattle.std.specs.List.{list_any, IsDistinct}
use Rattle.std.specs.Option.{option_copied}
use Rattle.affine_rows.proofs.NameSets.{copied_more}
use Rattle.affine_rows.proofs.name.Names.add_from.Goals as goal

pub returns-in_ok-insert : goal.returns-in_ok-insert
returns-in_ok-insert c =
    let distinct = subst (λ (x : List (List ℕ)). IsDistinct bytes_eq x) c.names.view_is c.names.invariant in
    let there = sym c.get.ensures ∙ ap option_copied c.in-Some.is in
    copied_more c.args.names.now c.args.self.now c.insert.new.self c.args.at c.in-Some.text.now c.requires.within distinct c.requires.copied there
    (subst (λ (n : List ℕ). c.insert.new.self ≡ (if list_any (bytes_eq n) c.args.self.now then c.args.self.now else (c.args.self.now ++ n ∷ []))) c.in_ok-from_str.ensures c.in_ok-insert.ensures.names)

pub returns-in_default : goal.returns-in_default
returns-in_default c = let there = slice_get-get_or c.args.names.now c.args.at [] c.requires.within in search (rules, there)
