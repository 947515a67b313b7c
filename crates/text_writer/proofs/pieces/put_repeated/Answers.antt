-- Each turn writes the text once.
use Rattle.text_writer.proofs.Lists.{advance, repeated_step}
use Rattle.text_writer.proofs.pieces.put_repeated.Goals as goal

pub loop-preserved : goal.loop-preserved
loop-preserved c = let turn = repeated_step c.args.text.now c.args.count c.loop.counter c.loop-test.true in advance _ _ _ _ _ _ c.loop.invariant turn c.in_ok-put.ensures
