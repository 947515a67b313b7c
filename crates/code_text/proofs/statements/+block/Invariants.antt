-- What is written, followed by the statements that are left, is the whole block.
use Rattle.std.proofs.Common.{◌≡◌, ◌++◌, drop, map}
use Rattle.code_text.specs.StatementText.{all_lines, lines_of, lines_of_stmt}
use Rattle.code_text.proofs.statements.+block.Given as goal

abbrev pub invariant-write_block-loop-child : goal.invariant-write_block-loop-child
invariant-write_block-loop-child l =
    l.out.items ++ (all_lines (map (lines_of_stmt l.spelling.code.now) (drop l.child-index l.child-items))).at l.depth
    ≡ l.fn.out.items ++ (lines_of l.spelling.code.now l.block).at l.depth
