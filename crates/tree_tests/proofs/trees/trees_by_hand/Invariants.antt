use Rattle.tree_tests.proofs.trees.trees_by_hand.Given as goal

abbrev pub ghosts-seen : goal.ghosts-seen
ghosts-seen g a = record {
  name = a.blank.name;
  parts = a.blank.parts;
}
