-- What stands in one node.
use Rattle.std.specs.Prelude.{List}
use Rattle.expr_tree.specs.declared.tree.Node.{Node, fold-Node}
use Rattle.kernel_ir.specs.Mentions.{Listing, node_listed, test_listed, expr_listed}

abbrev pub listed_in_node : {A : Type 0} → Listing A → Node → List A
listed_in_node {A} w = fold-Node (List A) (List A) (List A) (node_listed w) (test_listed w) expr_listed
