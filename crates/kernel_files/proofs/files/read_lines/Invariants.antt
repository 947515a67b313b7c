use Rattle.std.proofs.Common.{◌≡◌, drop}
use Rattle.kernel_files.specs.Files.{no_lines, entries_behind, refusal_from}
use Rattle.kernel_files.proofs.files.read_lines.Given as goal

abbrev pub invariant-entries : goal.invariant-entries
invariant-entries g l = record {
  lines : entries_behind l.declarations l.ids.ids l.lines (drop l.at l.entries) ≡ entries_behind l.declarations l.ids.ids no_lines l.entries;
  refusal : refusal_from l.declarations l.ids.ids l.ids.taken l.names l.lines l.at (drop l.at l.entries) ≡ refusal_from l.declarations l.ids.ids l.ids.taken l.names no_lines 0 l.entries;
}
