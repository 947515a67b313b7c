use Rattle.std.proofs.Common.{List, ℕ, ap, ◌∙◌, bytes_eq}
use Rattle.std.specs.List.{list_any}
use Rattle.kernel_names.proofs.NameLaws.{any_distinct}
use Rattle.kernel_names.proofs.ids.Ids.has.Goals as goal

pub returns : goal.returns
returns c =
    c.has.ensures ∙ (ap (λ (ns : List (List ℕ)). list_any (bytes_eq c.args.id.now) ns) c.args.self.now.known_are ∙ any_distinct c.args.id.now c.args.self.now.ids)
