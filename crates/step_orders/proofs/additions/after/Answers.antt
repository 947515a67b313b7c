use Rattle.std.proofs.Common.{◌∙◌, refl}
use Rattle.step_orders.specs.Additions.{same_cell, word_at}
use Rattle.step_orders.proofs.Sums.{added}
use Rattle.step_orders.proofs.additions.after.Goals as goal

pub returns : goal.returns
returns c = λ d.
    c.with_word.ensures d
    ∙ rw (c.word.ensures, c.word-2.ensures)
    (added (same_cell c.args.step.into d) c.args.step.into d (word_at c.args.store) (word_at c.args.store c.args.step.from) refl)
