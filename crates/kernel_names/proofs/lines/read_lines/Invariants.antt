use Rattle.std.proofs.Common.{◌≡◌, ◌++◌, take, drop}
use Rattle.kernel_names.specs.Said.{said_by}
use Rattle.kernel_names.specs.Lines.{faults_behind, faults_of}
use Rattle.kernel_names.specs.Readings.{IsRead}
use Rattle.kernel_names.proofs.lines.read_lines.Given as goal

abbrev pub invariant-lines : goal.invariant-lines
invariant-lines l = record {
  reading : IsRead l.reading (said_by (take l.entry-index l.entries));
  faults : l.faults ++ faults_behind (said_by (take l.entry-index l.entries)) (drop l.entry-index l.entries) ≡ faults_of l.entries;
}
