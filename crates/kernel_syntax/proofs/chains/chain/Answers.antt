use Rattle.kernel_syntax.proofs.Leads.{passes}
use Rattle.kernel_syntax.proofs.ChainSteps.{chain_whole}
use Rattle.kernel_syntax.proofs.ChainEnds.{chain_first, chain_rest, chain_none, chain_ends}
use Rattle.kernel_syntax.proofs.chains.chain.Goals as goal

pub returns-clause-read : goal.returns-clause-read
returns-clause-read c = chain_whole _ _ _ _ _ _ _ _ c.len.ensures c.if-len-eq0.false c.in_ok-first.ensures.read c.in_ok-rest.ensures.read

pub returns-in_err-first-clause-stops : goal.returns-in_err-first-clause-stops
returns-in_err-first-clause-stops c = λ within. passes _ _ _ c.from_residual.ensures.1 (chain_first _ _ _ within c.in_err-first.ensures.stops)

pub returns-in_err-rest-clause-stops : goal.returns-in_err-rest-clause-stops
returns-in_err-rest-clause-stops c = λ within. passes _ _ _ c.from_residual-in_err-rest.ensures.1 (chain_rest _ _ _ _ _ _ within c.in_ok-first.ensures.read c.in_ok-first.ensures.ends c.in_err-rest.ensures.stops)

pub returns-then-len-eq0-clause-stops : goal.returns-then-len-eq0-clause-stops
returns-then-len-eq0-clause-stops c = λ within. chain_none _ _ _ _ _ _ _ _ c.len.ensures c.if-len-eq0.true c.in_ok-first.ensures.read c.in_ok-first.ensures.ends c.in_ok-rest.ensures.read c.in_ok-rest.ensures.ends

pub returns-clause-ends : goal.returns-clause-ends
returns-clause-ends c = chain_ends _ _ _ _ _ _ _ c.in_ok-first.ensures.read c.in_ok-first.ensures.ends c.in_ok-rest.ensures.read c.in_ok-rest.ensures.ends
