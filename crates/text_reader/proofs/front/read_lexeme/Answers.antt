use Rattle.std.proofs.Common.{arith}
use Rattle.text_reader.proofs.Runs.{to_end}
use Rattle.text_reader.proofs.ReadSteps.{read_next, few_lines}
use Rattle.text_reader.proofs.front.read_lexeme.Goals as goal

pub push_lexeme-requires-clause-line : goal.push_lexeme-requires-clause-line
push_lexeme-requires-clause-line c = omega (arith, few_lines _ _ _ _ _ c.requires.read)

pub behind-requires-clause-line : goal.behind-requires-clause-line
behind-requires-clause-line c = omega (arith, few_lines _ _ _ _ _ c.requires.read)

pub returns-in_ok-push_lexeme-in-Ok-clause-read : goal.returns-in_ok-push_lexeme-in-Ok-clause-read
returns-in_ok-push_lexeme-in-Ok-clause-read c = read_next c.args.form c.args.bytes.now c.args.place c.behind.result c.args.tokens.now.items c.push_lexeme.new.tokens.items c.in-Ok.lexeme.piece c.in-Ok.lexeme.length c.requires.read (rw to_end at c.in-Ok.ensures.within) (rw to_end at c.in-Ok.ensures.lexeme) c.behind.ensures c.in_ok-push_lexeme-in-Ok.ensures
