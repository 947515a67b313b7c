use Rattle.std.proofs.Common.{sym, ◌∙◌}
use Rattle.text_reader.proofs.Stuck.{word_none, word_kept}
use Rattle.text_reader.proofs.lexeme.word_length.Goals as goal

pub returns-then-length-eq0-clause-stuck : goal.returns-then-length-eq0-clause-stuck
returns-then-length-eq0-clause-stuck c = word_none c.args.form c.args.bytes.now c.run_length-length.result c.requires c.run_length-length.ensures.run c.if-length-eq0.true

pub returns-then-is_kept-clause-stuck : goal.returns-then-is_kept-clause-stuck
returns-then-is_kept-clause-stuck c = word_kept c.args.form c.args.bytes.now c.run_length-length.result c.requires c.run_length-length.ensures.run (sym c.is_kept.ensures ∙ c.if-is_kept.true)
