use Rattle.text_reader.proofs.Runs.{runs_on, runs_to}
use Rattle.text_reader.proofs.lexeme.run_length.Goals as goal

pub bytes-preserved : goal.bytes-preserved
bytes-preserved c =
    let more = runs_on c.args.form c.args.piece c.args.bytes.now c.bytes.length c.ends.result c.ends.ensures c.bytes-test.true c.bytes.invariant.goes in
    record { within = more.0; goes = more.1 }

pub returns-clause-run : goal.returns-clause-run
returns-clause-run c = runs_to c.args.form c.args.piece c.args.bytes.now c.bytes.length c.ends.result c.ends.ensures c.bytes-test.false c.bytes.invariant.goes
