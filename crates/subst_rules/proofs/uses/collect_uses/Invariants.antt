use Rattle.std.proofs.Common.{◌≡◌, ◌++◌, drop}
use Rattle.std.specs.Prelude.{flat_map}
use Rattle.subst_rules.specs.Uses.{uses_in_insn}
use Rattle.subst_rules.proofs.uses.collect_uses.Given as goal

abbrev pub invariant-loop-insn : goal.invariant-loop-insn
invariant-loop-insn l = l.uses ++ flat_map (uses_in_insn l.rule) (drop l.insn-index l.insn-items) ≡ flat_map (uses_in_insn l.rule) l.insn-items
