use Rattle.std.proofs.Common.{◌≡◌, ℕ, List, Some, None, refl, subst, bytes_eq}
use Rattle.std.specs.List.{position}
use Rattle.kernel_names.proofs.NameLaws.{position_there, position_none}
use Rattle.kernel_names.proofs.numbering.Numbering.position.Goals as goal

pub returns-in-Some : goal.returns-in-Some
returns-in-Some c =
    subst (λ (names : List (List ℕ)). Some c.in-Some.at ≡ position (bytes_eq c.args.name.now) names) c.self.view_is
    (position_there c.self.inside.names c.args.name.now c.in-Some.at c.self.invariant.distinct c.in-Some.ensures.there)

pub returns-in-None : goal.returns-in-None
returns-in-None c =
    subst (λ (names : List (List ℕ)). None ≡ position (bytes_eq c.args.name.now) names) c.self.view_is
    (position_none c.self.inside.names c.args.name.now (c.in-None.ensures.absent refl))
