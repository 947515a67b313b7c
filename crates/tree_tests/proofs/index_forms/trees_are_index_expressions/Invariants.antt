use Rattle.tree_tests.proofs.index_forms.trees_are_index_expressions.Given as goal

abbrev pub ghosts-sample_trees : goal.ghosts-sample_trees
ghosts-sample_trees g a = record {
  name = a.blank.name;
  parts = a.blank.parts;
}
