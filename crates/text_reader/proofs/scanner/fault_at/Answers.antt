use Rattle.std.proofs.Common.{arith}
use Rattle.text_reader.proofs.Runs.{to_end}
use Rattle.text_reader.proofs.ReadSteps.{read_stuck, few_lines, starts_before}
use Rattle.text_reader.proofs.scanner.fault_at.Goals as goal

pub overflow_cast-result : goal.overflow_cast-result
overflow_cast-result c = omega (arith, few_lines _ _ _ _ _ c.requires.read.1)

pub overflow_sub-result : goal.overflow_sub-result
overflow_sub-result c = starts_before _ _ _ _ _ c.requires.read.1

pub returns : goal.returns
returns c = read_stuck c.args.form c.args.bytes.now c.args.place c.requires.read.0 c.in-Err.none.begun c.requires.read.1 c.requires.left (rw to_end at c.in-Err.ensures.stuck)
