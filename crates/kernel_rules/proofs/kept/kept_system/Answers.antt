use Rattle.std.proofs.Common.{◌≡◌, ◌∙◌, List, ap}
use Rattle.std.specs.Prelude.{filter}
use Rattle.affine_rows.specs.declared.row.Row.{Row}
use Rattle.kernel_rules.specs.Kept.{is_row}
use Rattle.kernel_rules.proofs.KeptRows.{kept_is_system}
use Rattle.kernel_rules.proofs.kept.kept_system.Goals as goal

pub returns-clause-queried : goal.returns-clause-queried
returns-clause-queried c =
    let rows : c.from_vec.result ≡ filter (is_row c.args.system.width) c.args.system.rows =
    c.from_vec.ensures ∙ c.keep_rows.ensures ∙ ap (λ (rs : List Row). filter (is_row c.args.system.width) rs) c.into_vec-rows.ensures in
    kept_is_system c.args.system c.from_vec.result c.requires rows
