use Rattle.text_reader.proofs.FrontLexemes.{two_bytes, one_byte_short, no_byte}
use Rattle.text_reader.proofs.lexeme.sign_length.Goals as goal

pub returns-then-not-lacks_pair-clause-lexeme : goal.returns-then-not-lacks_pair-clause-lexeme
returns-then-not-lacks_pair-clause-lexeme c = two_bytes c.args.form c.args.bytes.now c.lacks_pair.result c.requires c.lacks_pair.ensures c.if-not-lacks_pair.true

pub returns-then-first-eq13-clause-stuck : goal.returns-then-first-eq13-clause-stuck
returns-then-first-eq13-clause-stuck c = one_byte_short c.args.form c.args.bytes.now c.lacks_pair.result c.is_single.result c.begins_pair.result c.requires c.lacks_pair.ensures c.if-not-lacks_pair.false c.is_single.ensures c.if-is_single.false c.begins_pair.ensures c.if-first-eq13.either

pub returns-else-first-eq13-clause-stuck : goal.returns-else-first-eq13-clause-stuck
returns-else-first-eq13-clause-stuck c = no_byte c.args.form c.args.bytes.now c.is_single.result c.begins_pair.result c.requires c.is_single.ensures c.if-is_single.false c.begins_pair.ensures c.if-first-eq13.false
