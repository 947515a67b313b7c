use Rattle.expr_tree.specs.Scenes.{is_among}
use Rattle.quasi_forms.proofs.FormVariables.{each_passes, one_fails}
use Rattle.quasi_forms.proofs.mentions.+only.Goals as goal

pub mentions_only-returns-then-terms_mention_only : goal.mentions_only-returns-then-terms_mention_only
mentions_only-returns-then-terms_mention_only t c =
    each_passes (is_among c.args.vars.now) c.args.form.now c.as_slice.result.now c.as_slice-then-terms_mention_only.result.now c.terms_mention_only.result c.floors_mention_only.result c.as_slice.ensures c.as_slice-then-terms_mention_only.ensures c.terms_mention_only.ensures c.if-terms_mention_only.true c.floors_mention_only.ensures

pub mentions_only-returns-else-terms_mention_only : goal.mentions_only-returns-else-terms_mention_only
mentions_only-returns-else-terms_mention_only t c = one_fails (is_among c.args.vars.now) c.args.form.now c.as_slice.result.now c.terms_mention_only.result c.as_slice.ensures c.terms_mention_only.ensures c.if-terms_mention_only.false
