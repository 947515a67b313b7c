use Rattle.std.proofs.Common.{take}
use Rattle.kernel_expressions.specs.Texts.{texts}
use Rattle.kernel_syntax.proofs.Candidates.{taken, begun_name, begun_known_in}
use Rattle.kernel_syntax.proofs.place.begun.Goals as goal

pub returns-then-branch : goal.returns-then-branch
returns-then-branch c = λ within tried. begun_name tried (taken (take c.args.at (texts c.args.all.now)) c.args.text.now c.if-branch.true (c.in_ok-takes_name.ensures within))

pub returns : goal.returns
returns c = λ within tried. begun_known_in c.longest.result tried (taken (take c.args.at (texts c.args.all.now)) c.args.text.now c.if-branch.false (c.in_ok-takes_name.ensures within)) (c.longest.ensures within)
