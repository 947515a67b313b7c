use Rattle.std.proofs.Common.{◌≡◌, List, subst}
use Rattle.affine_rows.specs.declared.quasi.Quasi.{Quasi}
use Rattle.kernel_grammar.specs.declared.step.Step.{Step}
use Rattle.kernel_lines.specs.Places.{forms_of, forms_faults}
use Rattle.kernel_lines.specs.Rows.{rows_between}
use Rattle.kernel_lines.proofs.ConditionLaws.{link_made}
use Rattle.kernel_lines.proofs.conditions.Conditions.with_link.Goals as goal

pub returns-clause-conditions : goal.returns-clause-conditions
returns-clause-conditions g c =
    let roles = g.S.Scope.roles c.args.scope.now in
    let word = c.args.word.now in
    let right = subst (λ (xs : List (List Step)). c.in_ok-right.right ≡ forms_of roles xs) c.as_slice.ensures c.in_ok-right.ensures.forms in
    let wrong = subst (λ (xs : List (List Step)). c.in_ok-right.wrong ≡ forms_faults roles word xs) c.as_slice.ensures c.in_ok-right.ensures.faults in
    let compared = subst (λ (qs : List Quasi). c.in_ok-compared.compared ≡ rows_between c.args.link.now.0 c.args.left.now qs) c.as_slice-2.ensures c.in_ok-compared.ensures in
    link_made roles word c.args.left.now c.in_ok-right.right c.args.link.now c.args.self c.in_ok-right.wrong c.or.result c.or-faults.result c.form_faults.result c.in_ok-compared.compared c.in_ok-over.over c.add_rows.new.rows
    right wrong compared c.in_ok-over.ensures.over c.in_ok-over.ensures.rows c.form_faults.ensures c.or.ensures c.or-faults.ensures
