use Rattle.kernel_edits.proofs.trees.rewritten_value.Given as goal

abbrev pub ghosts-value_in : goal.ghosts-value_in
ghosts-value_in g a = record { name = a.blank.name; parts = a.blank.parts }
