use Rattle.std.proofs.Common.{not}
use Rattle.expr_tree.specs.Scenes.{is_among}
use Rattle.quasi_forms.proofs.FormVariables.{each_passes, one_fails}
use Rattle.quasi_forms.proofs.mentions.+none.Goals as goal

pub mentions_none-returns-then-terms_mention_none : goal.mentions_none-returns-then-terms_mention_none
mentions_none-returns-then-terms_mention_none t c =
    each_passes (λ v. not (is_among c.args.vars.now v)) c.args.form.now c.as_slice.result.now c.as_slice-then-terms_mention_none.result.now c.terms_mention_none.result c.floors_mention_none.result c.as_slice.ensures c.as_slice-then-terms_mention_none.ensures c.terms_mention_none.ensures c.if-terms_mention_none.true c.floors_mention_none.ensures

pub mentions_none-returns-else-terms_mention_none : goal.mentions_none-returns-else-terms_mention_none
mentions_none-returns-else-terms_mention_none t c = one_fails (λ v. not (is_among c.args.vars.now v)) c.args.form.now c.as_slice.result.now c.terms_mention_none.result c.as_slice.ensures c.terms_mention_none.ensures c.if-terms_mention_none.false
