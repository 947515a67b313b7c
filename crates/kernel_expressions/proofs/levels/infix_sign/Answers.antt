use Rattle.kernel_expressions.proofs.NoInfix.{no_sign}
use Rattle.kernel_expressions.proofs.levels.infix_sign.Goals as goal

pub returns-in_err-relation_of-in_default : goal.returns-in_err-relation_of-in_default
returns-in_err-relation_of-in_default c = rw c.from_residual.ensures (no_sign c.args.sign (record { unequal = c.in_default.not-NotEqual; bar = c.in_default.not-Bar; caret = c.in_default.not-Caret; ampersand = c.in_default.not-Ampersand; plus = c.in_default.not-Plus; minus = c.in_default.not-Minus; star = c.in_default.not-Star; slashes = c.in_default.not-SlashSlash; percent = c.in_default.not-Percent })
    c.in_err-relation_of-in_default.ensures)
