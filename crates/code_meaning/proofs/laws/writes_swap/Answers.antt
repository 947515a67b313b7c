use Rattle.code_meaning.proofs.Swaps.{puts_swap, puts_swap_apart}
use Rattle.code_meaning.proofs.laws.writes_swap.Goals as goal

pub returns-clause-places : goal.returns-clause-places
returns-clause-places c start = puts_swap

pub returns-clause-arrays : goal.returns-clause-arrays
returns-clause-arrays c start = puts_swap_apart
