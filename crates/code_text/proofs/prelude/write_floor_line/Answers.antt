-- The head, a type and the rest.
use Rattle.std.proofs.lemmas.Result.{on_ok_weaker}
use Rattle.code_text.proofs.Pieces.{three}
use Rattle.code_text.proofs.prelude.write_floor_line.Goals as goal

pub returns : goal.returns
returns c =
    let type = rw c.index_name.ensures at c.in_ok-put.ensures in
    on_ok_weaker c.put-2.result (λ e. three _ _ _ _ _ _ _ c.in_ok-write_head.ensures type e) c.put-2.ensures
