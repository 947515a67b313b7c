-- The six parts.
use Rattle.std.proofs.lemmas.Result.{on_ok_weaker}
use Rattle.code_text.proofs.Pieces.{six}
use Rattle.code_text.proofs.prelude.write_prelude.Goals as goal

pub returns : goal.returns
returns c =
    on_ok_weaker c.write_kind_pair-4.result (λ e. six _ _ _ _ _ _ _ _ _ _ _ _ _
    c.in_ok-write_floor_line.ensures c.in_ok-write_pair.ensures c.in_ok-write_kind_pair.ensures c.in_ok-write_kind_pair-2.ensures c.in_ok-write_kind_pair-3.ensures e)
    c.write_kind_pair-4.ensures
