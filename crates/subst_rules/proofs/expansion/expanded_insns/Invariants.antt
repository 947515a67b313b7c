use Rattle.std.proofs.Common.{◌≡◌, ◌++◌, map, drop}
use Rattle.kernel_limits.specs.Asked.{expanded_insn, first_in}
use Rattle.subst_rules.specs.Refused.{insn_limit}
use Rattle.subst_rules.proofs.expansion.expanded_insns.Given as goal

abbrev pub invariant-loop-insn : goal.invariant-loop-insn
invariant-loop-insn l = record {
  made : l.made ++ map (expanded_insn l.kernel) (drop l.insn-index l.insn-items) ≡ map (expanded_insn l.kernel) l.insn-items;
  fits : first_in (insn_limit l.kernel) (drop l.insn-index l.insn-items) ≡ first_in (insn_limit l.kernel) l.insn-items;
}
