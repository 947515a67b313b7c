use Rattle.subst_rules.proofs.replace.leaf_tree.Given as goal

abbrev pub ghosts-leaf_of : goal.ghosts-leaf_of
ghosts-leaf_of a = record { name = a.blank.name; parts = a.blank.parts }
