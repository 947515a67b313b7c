use Rattle.std.proofs.Common.{◌≡◌, ◌+◌, ◌≤◌, false, drop}
use Rattle.kernel_files.specs.FirstLine.{first_said}
use Rattle.kernel_files.proofs.first_line.first_said.Given as goal

abbrev pub invariant-bytes : goal.invariant-bytes
invariant-bytes l = record {
  rest : first_said l.comment l.line (drop l.at l.bytes) ≡ first_said false 1 l.bytes;
  line : l.line ≤ 1 + l.at;
}
