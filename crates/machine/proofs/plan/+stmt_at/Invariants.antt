use Rattle.machine.proofs.plan.+stmt_at.Given as goal

abbrev pub decreases-stmt_at : goal.decreases-stmt_at
decreases-stmt_at l = l.at
