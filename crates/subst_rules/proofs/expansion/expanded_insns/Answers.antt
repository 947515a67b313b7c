use Rattle.std.proofs.Common.{◌∙◌, ap, List, map}
use Rattle.kernel_ir.specs.declared.kernel.Insn.{Insn}
use Rattle.kernel_limits.specs.Asked.{expanded_insn, first_in}
use Rattle.subst_rules.specs.Refused.{insn_limit}
use Rattle.subst_rules.proofs.InOrder.{next_in, next_made, fault_in}
use Rattle.subst_rules.proofs.expansion.expanded_insns.Goals as goal

pub returns-in-Err-clause-refused : goal.returns-in-Err-clause-refused
returns-in-Err-clause-refused c = fault_in Insn c.as_slice-insn-items.result.now c.loop-insn.insn-index c.insn-item.result c.loop-insn-test.true c.insn-item.is
    (insn_limit c.args.kernel.now) (first_in (insn_limit c.args.kernel.now) c.args.kernel.now.insns) c.in-Err.fault
    (c.loop-insn.invariant.fits ∙ ap (λ (xs : List Insn). first_in (insn_limit c.args.kernel.now) xs) c.as_slice-insn-items.ensures) c.in-Err.ensures.refused

pub loop-insn-preserved : goal.loop-insn-preserved
loop-insn-preserved c = record {
  made = next_made Insn c.as_slice-insn-items.result.now c.loop-insn.insn-index c.insn-item.result c.loop-insn-test.true c.insn-item.is
      Insn (expanded_insn c.args.kernel.now) c.loop-insn.made c.push.new.self (map (expanded_insn c.args.kernel.now) c.as_slice-insn-items.result.now) c.in-Ok.insn c.in_ok-push-in-Ok.ensures.ok c.in-Ok.ensures.insn c.loop-insn.invariant.made;
  fits = next_in Insn c.as_slice-insn-items.result.now c.loop-insn.insn-index c.insn-item.result c.loop-insn-test.true c.insn-item.is
      (insn_limit c.args.kernel.now) (first_in (insn_limit c.args.kernel.now) c.as_slice-insn-items.result.now) c.in-Ok.ensures.refused c.loop-insn.invariant.fits;
}
