-- What is listed, followed by what is left of the block, is the whole block.
use Rattle.std.proofs.Common.{◌≡◌, ◌++◌, drop, map}
use Rattle.code_tree.specs.Cells.{cells_in, joined}
use Rattle.code_text.specs.Cited.{values, cells_within}
use Rattle.code_text.proofs.cells.+cells.Given as goal

abbrev pub invariant-list_block-loop-cell : goal.invariant-list_block-loop-cell
invariant-list_block-loop-cell l =
    values l.cells.items ++ (drop l.cell-index l.cell-items ++ joined (map cells_within l.block.children)) ≡ values l.fn.cells.items ++ cells_in l.fn.block

abbrev pub invariant-list_block-loop-child : goal.invariant-list_block-loop-child
invariant-list_block-loop-child l =
    values l.cells.items ++ joined (map cells_within (drop l.child-index l.child-items)) ≡ values l.fn.cells.items ++ cells_in l.fn.block
