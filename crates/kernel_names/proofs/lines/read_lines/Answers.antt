use Rattle.std.proofs.Common.{take}
use Rattle.kernel_names.specs.Said.{said_by}
use Rattle.kernel_names.specs.Lines.{faults_of}
use Rattle.kernel_names.proofs.FaultLaws.{line_read, lines_more}
use Rattle.kernel_names.proofs.lines.read_lines.Goals as goal

pub lines-preserved : goal.lines-preserved
lines-preserved c = record {
  reading = line_read c.read_line.new.self c.args.entries.now c.lines.entry-index c.entry-item.result c.lines-test.true c.entry-item.is
      (c.in_ok-read_line.ensures.read (said_by (take c.lines.entry-index c.args.entries.now)) c.lines.invariant.reading);
  faults = lines_more c.args.entries.now c.lines.entry-index c.entry-item.result c.lines.faults c.push.new.self (faults_of c.args.entries.now) c.in_ok-read_line.field-0 c.lines-test.true c.entry-item.is
      (c.in_ok-read_line.ensures.faults (said_by (take c.lines.entry-index c.args.entries.now)) c.lines.invariant.reading) c.in_ok-push.ensures.ok c.lines.invariant.faults;
}
