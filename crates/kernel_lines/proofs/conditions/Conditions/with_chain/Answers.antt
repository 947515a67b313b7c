use Rattle.std.proofs.Common.{◌≡◌, List, sym, subst}
use Rattle.affine_rows.specs.declared.quasi.Quasi.{Quasi}
use Rattle.kernel_grammar.specs.declared.step.Step.{Step}
use Rattle.kernel_grammar.specs.declared.item.Relation.{Relation}
use Rattle.kernel_lines.specs.Places.{forms_of, forms_faults}
use Rattle.kernel_lines.specs.Conditions.{both, chain_of, link_of, links_of}
use Rattle.kernel_lines.proofs.ConditionLaws.{links_start, links_more}
use Rattle.kernel_lines.proofs.conditions.Conditions.with_chain.Goals as goal

pub links-init : goal.links-init
links-init g c =
    let roles = g.S.Scope.roles c.args.scope.now in
    let word = c.args.word.now in
    let left = subst (λ (xs : List (List Step)). c.in_ok-left.left ≡ forms_of roles xs) c.as_slice.ensures c.in_ok-left.ensures.forms in
    let wrong = subst (λ (xs : List (List Step)). c.in_ok-left.wrong ≡ forms_faults roles word xs) c.as_slice.ensures c.in_ok-left.ensures.faults in
    subst (λ (ls : List (Relation × List (List Step))). both c.with_faults-conditions.result (links_of roles word c.in_ok-left.left ls) ≡ both c.args.self (chain_of roles word c.args.chain.now)) (sym c.as_slice-link-items.ensures)
    (links_start roles word c.args.self c.with_faults-conditions.result c.args.chain.now c.in_ok-left.wrong c.in_ok-left.left left wrong c.with_faults-conditions.ensures)

pub links-preserved : goal.links-preserved
links-preserved g c =
    let roles = g.S.Scope.roles c.args.scope.now in
    let word = c.args.word.now in
    let made = subst (λ (qs : List Quasi). c.in_ok-more.more ≡ both c.links.conditions (link_of roles word qs c.link-item.result)) c.as_slice-in-links.ensures c.in_ok-more.ensures.conditions in
    links_more roles word c.as_slice-link-items.result.now c.links.link-index c.link-item.result c.links.left c.in_ok-more.right c.links.conditions c.in_ok-more.more (both c.args.self (chain_of roles word c.args.chain.now))
    c.links-test.true c.link-item.is made c.in_ok-more.ensures.right c.links.invariant
