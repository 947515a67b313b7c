use Rattle.subst_rules.proofs.rounds.next_test.Given as goal

abbrev pub ghosts-replaced_test : goal.ghosts-replaced_test
ghosts-replaced_test a = record { name = a.blank.name; parts = a.blank.parts }
