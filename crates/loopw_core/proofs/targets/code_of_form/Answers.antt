use Rattle.std.proofs.Common.{◌≡◌, ◌∙◌, List, ℕ, refl, sym, ap, subst, inl, inr}
use Rattle.inst_model.specs.Arguments.{Arguments, Meets}
use Rattle.code_tree.specs.declared.code.Code.{Code}
use Rattle.code_meaning.specs.RightFor.{IsRightFor}
use Rattle.first_form.specs.Kernels.{kernel_of}
use Rattle.loopw_core.proofs.NoForms.{no_form}
use Rattle.loopw_core.proofs.targets.code_of_form.Goals as goal

pub returns-in-Ok : goal.returns-in-Ok
returns-in-Ok c = record {
  for_target = ap (λ (code : Code). code.target) c.in_ok-code-in-Ok.ensures;
  for_c = refl;
  right = inl (record {
    form = c.in-Ok.form;
    file = c.in-Ok.ensures.file;
    right = λ a meets. subst (λ (code : Code). IsRightFor code (kernel_of c.in-Ok.form) a) (sym c.in_ok-code-in-Ok.ensures) (c.code_is_right.ensures c.in-Ok.form a meets);
  });
}

pub returns : goal.returns
returns c =
    let none = no_form c.args.kernel.now c.in-Err-NotBuilt.field-0 c.in-Err-NotBuilt.field-0-0 c.in-Err-NotBuilt.field-0-1 c.in-Err-NotBuilt.field-0-is c.in-Err-NotBuilt.ensures.refused in
    (none, λ code. inr none)
