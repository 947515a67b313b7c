use Rattle.std.proofs.Common.{◌≡◌, drop}
use Rattle.kernel_lines.specs.Conditions.{both, links_of, chain_of}
use Rattle.kernel_lines.proofs.conditions.Conditions.with_chain.Given as goal

abbrev pub invariant-links : goal.invariant-links
invariant-links g l =
    both l.conditions (links_of (g.S.Scope.roles l.scope) l.word l.left (drop l.link-index l.link-items)) ≡ both l.fn.self (chain_of (g.S.Scope.roles l.scope) l.word l.chain)
