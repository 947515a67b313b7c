use Rattle.kernel_files.proofs.FileLaws.{refused}
use Rattle.kernel_files.proofs.files.read_entries.Goals as goal

pub returns-in-Err-clause-refused : goal.returns-in-Err-clause-refused
returns-in-Err-clause-refused c =
    refused c.as_slice-entries.result.now c.args.file.now.entries c.in_ok-declarations.declarations c.in_ok-ids.ids.ids c.in_ok-ids.ids.taken c.in_ok-declarations.names c.as_slice.result.now c.in-Err.fault
    c.as_slice-entries.ensures c.in_ok-declarations.ensures.declarations c.in_ok-declarations.ensures.faults c.as_slice.ensures c.in_ok-ids.ensures.ids c.in_ok-ids.ensures.taken c.in-Err.ensures.refused
