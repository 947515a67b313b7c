use Rattle.subst_rules.proofs.replace.body_with.Given as goal

abbrev pub ghosts-with_arguments : goal.ghosts-with_arguments
ghosts-with_arguments a = record { name = a.blank.name; parts = a.blank.parts }
