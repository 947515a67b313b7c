-- The blanks, the head and the rest of each sort of statement.
use Rattle.std.proofs.lemmas.Result.{on_ok_weaker}
use Rattle.code_text.proofs.Pieces.{three}
use Rattle.code_text.proofs.StatementLines.{lines-When, lines-Check, lines-Set, lines-Barrier}
use Rattle.code_text.proofs.statements.+block.Goals as goal

pub write_stmt-returns-in_ok-write_guard-in-When : goal.write_stmt-returns-in_ok-write_guard-in-When
write_stmt-returns-in_ok-write_guard-in-When t c =
    let head = rw c.as_slice.ensures at c.in_ok-write_guard-in-When.ensures in
    rw (c.in-When.is, lines-When) (on_ok_weaker c.write_body-in-When.result (λ e. three _ _ _ _ _ _ _ c.in_ok-write_blanks.ensures.text head e) c.write_body-in-When.ensures)

pub write_stmt-returns-in_ok-write_check-in-Check : goal.write_stmt-returns-in_ok-write_check-in-Check
write_stmt-returns-in_ok-write_check-in-Check t c =
    let head = rw c.kind_asked.ensures at c.in_ok-write_check-in-Check.ensures in
    rw (c.in-Check.is, lines-Check) (on_ok_weaker c.write_body-in-Check.result (λ e. three _ _ _ _ _ _ _ c.in_ok-write_blanks.ensures.text head e) c.write_body-in-Check.ensures)

pub write_stmt-returns-in_ok-write_set-in-Set : goal.write_stmt-returns-in_ok-write_set-in-Set
write_stmt-returns-in_ok-write_set-in-Set t c =
    let set = rw c.as_ref.ensures.value at c.in_ok-write_set-in-Set.ensures in
    rw (c.in-Set.is, lines-Set) (on_ok_weaker c.put.result (λ e. three _ _ _ _ _ _ _ c.in_ok-write_blanks.ensures.text set e) c.put.ensures)

pub write_stmt-returns-in_ok-put-in-Barrier : goal.write_stmt-returns-in_ok-put-in-Barrier
write_stmt-returns-in_ok-put-in-Barrier t c =
    rw (c.in-Barrier.is, lines-Barrier) (on_ok_weaker c.put-in-Barrier-2.result (λ e. three _ _ _ _ _ _ _ c.in_ok-write_blanks.ensures.text c.in_ok-put-in-Barrier.ensures e) c.put-in-Barrier-2.ensures)
