-- No statement so far has an assignment.
use Rattle.std.proofs.Common.{◌≡◌, drop, map}
use Rattle.code_text.specs.StatementText.{all_lines, lines_of, lines_of_stmt}
use Rattle.code_text.proofs.statements.+first_set.Given as goal

abbrev pub invariant-first_set-loop-child : goal.invariant-first_set-loop-child
invariant-first_set-loop-child l = (all_lines (map (lines_of_stmt l.code) (drop l.child-index l.child-items))).first ≡ (lines_of l.code l.block).first
