use Rattle.kernel_edits.proofs.trees.rewritten_test.Given as goal

abbrev pub ghosts-test_in : goal.ghosts-test_in
ghosts-test_in g a = record { name = a.blank.name; parts = a.blank.parts }
