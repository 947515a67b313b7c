-- The six axes.
use Rattle.std.proofs.lemmas.Result.{on_ok_weaker}
use Rattle.code_text.proofs.Pieces.{six}
use Rattle.code_text.proofs.opening.write_axes.Goals as goal

pub returns-in_ok-write_axis-in-OpenCl-5 : goal.returns-in_ok-write_axis-in-OpenCl-5
returns-in_ok-write_axis-in-OpenCl-5 c =
    rw c.in-OpenCl.is (on_ok_weaker c.write_axis-in-OpenCl-5.result (λ e. six _ _ _ _ _ _ _ _ _ _ _ _ _
    c.in_ok-write_axis-in-OpenCl.ensures c.in_ok-write_axis-in-OpenCl-2.ensures c.in_ok-write_axis-in-OpenCl-3.ensures c.in_ok-write_axis-in-OpenCl-4.ensures
    c.in_ok-write_axis-in-OpenCl-5.ensures e) c.write_axis-in-OpenCl-5.ensures)
