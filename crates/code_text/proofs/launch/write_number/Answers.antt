-- The three parts where the bound is no number.
use Rattle.std.proofs.lemmas.Result.{on_ok_weaker}
use Rattle.code_text.proofs.Pieces.{three}
use Rattle.code_text.proofs.launch.write_number.Goals as goal

pub returns-in_ok-write_bound-in-None : goal.returns-in_ok-write_bound-in-None
returns-in_ok-write_bound-in-None c =
    rw c.in-None.is (on_ok_weaker c.put-in-None-2.result (λ e. three _ _ _ _ _ _ _ c.in_ok-put-in-None.ensures c.in_ok-write_bound-in-None.ensures e) c.put-in-None-2.ensures)
