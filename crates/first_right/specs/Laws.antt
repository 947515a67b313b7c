-- What kernels of the one form store, and that their code is right.
use Rattle.std.specs.Prelude.{◌≡◌, List, [], ◌∷◌, map}
use Rattle.kernel_ir.specs.declared.kernel.Kernel.{Kernel}
use Rattle.inst_model.specs.Arguments.{Arguments, Meets}
use Rattle.code_meaning.specs.RightFor.{IsRightFor}
use Rattle.first_form.specs.declared.form.FirstForm.{FirstForm}
use Rattle.first_form.specs.Kernels.{kernel_of}
use Rattle.first_form.specs.Codes.{code_of}

-- The code of each kernel of the one form is right for it under all arguments that meet the kernel.
abbrev pub CodeIsRight : Type 0
CodeIsRight = (f : FirstForm) (a : Arguments) → Meets (kernel_of f) a → IsRightFor (code_of f) (kernel_of f) a
