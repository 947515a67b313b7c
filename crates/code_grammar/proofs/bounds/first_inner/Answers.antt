use Rattle.code_grammar.proofs.Counted.{copy_within}
use Rattle.code_grammar.proofs.bounds.first_inner.Goals as goal

pub new-requires : goal.new-requires
new-requires c = copy_within c.quasi-quasi.result.now c.args.form.now c.as_slice.result.now c.index-as_slice-0.result c.in_ok-copy.field-0 c.quasi-quasi.ensures.same c.quasi-quasi.ensures.form c.as_slice.ensures c.requires c.index-as_slice-0.is c.in_ok-copy.ensures
