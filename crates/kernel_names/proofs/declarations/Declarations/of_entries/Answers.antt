use Rattle.std.proofs.Common.{map, ◌∙◌}
use Rattle.kernel_names.specs.declared.said.Said.{Said}
use Rattle.kernel_names.specs.Said.{said_by, all_declarations}
use Rattle.kernel_names.proofs.NameLaws.{map_distinct}
use Rattle.kernel_names.proofs.FaultLaws.{declarations_same}
use Rattle.kernel_names.proofs.declarations.Declarations.of_entries.Goals as goal

pub returns-clause-declarations : goal.returns-clause-declarations
returns-clause-declarations c =
    let said = said_by c.args.entries.now in
    let table = c.in_ok-reading.ensures.reading.table in
    let names = c.in_ok-add_own.ensures (map (λ s. s.name) (all_declarations said)) (table.names ∙ map_distinct (λ (s : Said). s.name) (all_declarations said)) in
    declarations_same _ _ _ _ _ _ names table.roles table.stored
