use Rattle.first_form.proofs.Shown.{is_text}
use Rattle.first_form.proofs.refused.name_of.Goals as goal

pub unwrap-requires : goal.unwrap-requires
unwrap-requires c = is_text _ _ _ c.args.word.now c.requires c.from_utf8.ensures.cases
