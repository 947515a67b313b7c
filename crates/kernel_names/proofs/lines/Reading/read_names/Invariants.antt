use Rattle.std.proofs.Common.{◌≡◌, ◌++◌, List, take, drop}
use Rattle.kernel_names.specs.declared.said.Said.{Said}
use Rattle.kernel_names.specs.Lines.{first_faults, faults_along}
use Rattle.kernel_names.specs.Readings.{IsRead}
use Rattle.kernel_names.proofs.lines.Reading.read_names.Given as goal

abbrev pub invariant-names : goal.invariant-names
invariant-names l = record {
  faults : (before : List Said) → IsRead l.fn.self before → first_faults l.faults (faults_along (before ++ take l.name-index l.said) (drop l.name-index l.said)) ≡ faults_along before l.said;
  read : (before : List Said) → IsRead l.fn.self before → IsRead l.self (before ++ take l.name-index l.said);
}
