use Rattle.std.proofs.Common.{◌≡◌, ◌<◌, All, take_all, get_or, length, List, ap, arith, subst, ◌∙◌}
use Rattle.affine_rows.specs.Forms.{IsForm}
use Rattle.kernel_ir.specs.declared.kernel.Insn.{Insn}
use Rattle.kernel_ir.specs.Limits.{forms_of}
use Rattle.kernel_limits.specs.Asked.{insns_refusal}
use Rattle.kernel_limits.proofs.Steps.{insns_next, insns_refused, all_next}
use Rattle.kernel_limits.proofs.insns.check_insns.Goals as goal

pub returns-in_err-count-clause-refused : goal.returns-in_err-count-clause-refused
returns-in_err-count-clause-refused c =
    let insns : c.as_slice-insns.result.now ≡ c.args.kernel.now.insns = c.as_slice-insns.ensures in
    let within : c.loop-at.at < length c.args.kernel.now.insns = omega (arith, ap length insns) in
    let is : c.index-insns-at.result ≡ get_or c.args.kernel.now.insns c.loop-at.at c.index-insns-at.result = c.index-insns-at.is ∙ ap (λ (xs : List Insn). get_or xs c.loop-at.at c.index-insns-at.result) insns in
    insns_refused c.args.kernel.now c.loop-at.count c.args.kernel.now.insns c.loop-at.at c.index-insns-at.result (insns_refusal c.args.kernel.now 0 c.args.kernel.now.insns) c.from_residual.result c.in_err-count.field-0.0 within is c.in_err-count.ensures.refused c.loop-at.invariant.rest c.from_residual.ensures.1

pub loop-at-preserved : goal.loop-at-preserved
loop-at-preserved c =
    let insns : c.as_slice-insns.result.now ≡ c.args.kernel.now.insns = c.as_slice-insns.ensures in
    let within : c.loop-at.at < length c.args.kernel.now.insns = omega (arith, ap length insns) in
    let is : c.index-insns-at.result ≡ get_or c.args.kernel.now.insns c.loop-at.at c.index-insns-at.result = c.index-insns-at.is ∙ ap (λ (xs : List Insn). get_or xs c.loop-at.at c.index-insns-at.result) insns in
    record {
      rest = insns_next c.args.kernel.now c.loop-at.count c.in_ok-count.count c.args.kernel.now.insns c.loop-at.at c.index-insns-at.result (insns_refusal c.args.kernel.now 0 c.args.kernel.now.insns) within is c.in_ok-count.ensures.refused c.in_ok-count.ensures.count c.loop-at.invariant.rest;
      few = c.in_ok-count.ensures.within;
      forms = all_next (λ A. All IsForm (forms_of c.args.kernel.now A)) c.args.kernel.now.insns c.loop-at.at c.index-insns-at.result within is c.loop-at.invariant.forms c.in_ok-count.ensures.forms;
    }

pub returns-clause-forms : goal.returns-clause-forms
returns-clause-forms c =
    let insns : c.as_slice-insns.result.now ≡ c.args.kernel.now.insns = c.as_slice-insns.ensures in
    subst (All (λ A. All IsForm (forms_of c.args.kernel.now A))) (take_all c.loop-at.at c.args.kernel.now.insns (omega (arith, ap length insns))) c.loop-at.invariant.forms
