use Rattle.subst_rules.proofs.rounds.next_tree.Given as goal

abbrev pub ghosts-replaced : goal.ghosts-replaced
ghosts-replaced a = record { name = a.blank.name; parts = a.blank.parts }
