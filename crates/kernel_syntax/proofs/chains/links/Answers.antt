use Rattle.kernel_syntax.proofs.Leads.{passes}
use Rattle.kernel_syntax.proofs.ChainSteps.{links_none, links_on}
use Rattle.kernel_syntax.proofs.ChainEnds.{links_start, links_go, links_stop, links_end}
use Rattle.kernel_syntax.proofs.chains.links.Goals as goal

pub links-init : goal.links-init
links-init c = (links_none _ _ _ _ c.requires c.new-links.ensures, links_start _ _ c.requires)

pub links-preserved : goal.links-preserved
links-preserved c = (
  links_on _ _ _ _ _ _ _ _ _ c.in_ok-push.ensures.ok c.links.invariant.0 c.in-Some.ensures c.in_ok-next.ensures.read,
  links_go _ _ _ _ _ _ _ c.links.invariant.1 c.in-Some.ensures c.in_ok-next.ensures.read c.in_ok-next.ensures.ends,
)

pub returns-in_err-next-clause-stops : goal.returns-in_err-next-clause-stops
returns-in_err-next-clause-stops c = passes _ _ _ c.from_residual.ensures.1 (links_stop _ _ _ _ _ c.links.invariant.1 c.in-Some.ensures c.in_err-next.ensures.stops)

pub returns-clause-ends : goal.returns-clause-ends
returns-clause-ends c = links_end _ _ _ c.links.invariant.1 c.in_default.ensures
