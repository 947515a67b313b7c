use Rattle.std.proofs.Common.{◌++◌, take}
use Rattle.kernel_names.specs.Lines.{faults_along}
use Rattle.kernel_names.proofs.FaultLaws.{faults_more, read_more}
use Rattle.kernel_names.proofs.lines.Reading.read_names.Goals as goal

pub names-preserved : goal.names-preserved
names-preserved c = record {
  faults = λ before h.
      faults_more before c.args.said.now c.names.name-index c.name-item.result c.names.faults c.in_ok-read_name.field-0 c.or-faults.result (faults_along before c.args.said.now) c.names-test.true c.name-item.is
      (c.in_ok-read_name.ensures.faults (before ++ take c.names.name-index c.args.said.now) (c.names.invariant.read before h)) c.or-faults.ensures (c.names.invariant.faults before h);
  read = λ before h.
      read_more c.read_name.new.self before c.args.said.now c.names.name-index c.name-item.result c.names-test.true c.name-item.is
      (c.in_ok-read_name.ensures.read (before ++ take c.names.name-index c.args.said.now) (c.names.invariant.read before h));
}
