use Rattle.machine.proofs.barriers.+same_loops.Given as goal

abbrev pub decreases-same_loops : goal.decreases-same_loops
decreases-same_loops l = l.at
