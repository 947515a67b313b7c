-- Blanks that stand in a vector are few.
use Rattle.std.proofs.Common.{◌<◌, ◌^◌, length, arith}
use Rattle.std.proofs.lemmas.Result.{on_ok_weaker}
use Rattle.code_text.proofs.StatementLines.{few_blanks}
use Rattle.code_text.proofs.statements.write_blanks.Goals as goal

pub returns-clause-small : goal.returns-clause-small
returns-clause-small c =
    let within : length c.put_repeated.new.out.items < 2 ^ 64 = omega (arith, c.put_repeated.new.out.ok, c.put_repeated.new.out.small) in
    on_ok_weaker c.put_repeated.result (λ e. few_blanks _ _ _ e within) c.put_repeated.ensures
