use Rattle.tree_tests.proofs.trees.ninth_uncounted.Given as goal

abbrev pub ghosts-ninth : goal.ghosts-ninth
ghosts-ninth a = record {
  name = a.blank.name;
  parts = a.blank.parts;
}
