-- What is written for the files that the words name.
use Rattle.std.specs.Prelude.{◌≡◌, ◌⊎◌, ℕ, List, [], ◌∷◌, Option, Some, None}
use Rattle.code_tree.specs.declared.code.Code.{Code}
use Rattle.code_tree.specs.declared.code.Target.{Target}
use Rattle.code_tree.specs.declared.code.Target.TheVariants.{C, OpenCl}
use Rattle.code_text.specs.Text.{text_of}
use Rattle.kernel_ir.specs.declared.kernel.Kernel.{Kernel}
use Rattle.kernel_printer.specs.KernelText.{kernel_text}
use Rattle.inst_model.specs.Arguments.{Arguments, Meets}
use Rattle.first_form.specs.declared.form.FirstForm.{FirstForm}
use Rattle.first_form.specs.Form.{IsFile}
use Rattle.first_form.specs.Kernels.{kernel_of}
use Rattle.code_meaning.specs.RightFor.{IsRightFor}
use Rattle.loopw_core.specs.declared.words.Form.{Form}
use Rattle.loopw_core.specs.declared.words.Form.TheVariants.{Write, Show, Eval, Run, Gen}
use Rattle.loopw_core.specs.declared.fault.JobFault.{JobFault}
use Rattle.loopw_core.specs.declared.fault.JobFault.TheVariants.{OutOfMemory, Refused}

-- The kernel file is of the one form of five lines, and the code is right for its kernel under all arguments that meet it: no race, no divergent barrier, nothing outside the arrays, no more steps than the step count, and the stored arrays as every respecting order of the kernel leaves them.
pub record IsRightCode (code : Code) (kernel : List ℕ) : Type 0 where
  pub form : FirstForm
  pub file : IsFile kernel form
  pub right : (a : Arguments) → Meets (kernel_of form) a → IsRightFor code (kernel_of form) a

-- the kernel file is not of that form
abbrev pub IsOfNoForm : List ℕ → Type 0
IsOfNoForm kernel = (form : FirstForm) → IsFile kernel form → ⊥

-- that is known of target C without a script
abbrev pub IsRightWhereKnown : Target → Code → List ℕ → List ℕ → Type 0
IsRightWhereKnown C code kernel [] = IsRightCode code kernel ⊎ IsOfNoForm kernel
IsRightWhereKnown C code kernel (c ∷ script) = Unit {0}
IsRightWhereKnown OpenCl code kernel script = Unit {0}

-- The text is that of a code tree for the target.
pub record IsCodeText (target : Target) (kernel script text : List ℕ) : Type 0 where
  pub code : Code
  pub for_target : code.target ≡ target
  pub is : text ≡ text_of code
  pub right : IsRightWhereKnown target code kernel script

-- The text is that of a kernel.
pub record IsKernelText (text : List ℕ) : Type 0 where
  pub kernel : Kernel
  pub is : text ≡ kernel_text kernel

abbrev pub first_of : List (List ℕ) → List ℕ
first_of [] = []
first_of (file ∷ files) = file

-- a script that is not read is empty
abbrev pub second_of : List (List ℕ) → List ℕ
second_of [] = []
second_of (file ∷ files) = first_of files

-- what the text is that is written for these files
abbrev pub IsText : Form → List (List ℕ) → List ℕ → Type 0
IsText (Write target) files text = IsCodeText target (first_of files) (second_of files) text
IsText Show files text = IsKernelText text
IsText Eval files text = Unit {0}
IsText Run files text = Unit {0}
IsText (Gen count) files text = Unit {0}

-- without a script, the kernel is not of the one form
abbrev pub IsNoForm : List ℕ → List ℕ → Type 0
IsNoForm [] kernel = IsOfNoForm kernel
IsNoForm (c ∷ script) kernel = Unit {0}

-- a kernel of the one form is not refused for target C without a script
abbrev pub MayRefuseFor : Target → List ℕ → List ℕ → Type 0
MayRefuseFor C kernel script = IsNoForm script kernel
MayRefuseFor OpenCl kernel script = Unit {0}

abbrev pub MayRefuse : Form → List (List ℕ) → Type 0
MayRefuse (Write target) files = MayRefuseFor target (first_of files) (second_of files)
MayRefuse Show files = Unit {0}
MayRefuse Eval files = Unit {0}
MayRefuse Run files = Unit {0}
MayRefuse (Gen count) files = Unit {0}

-- want of memory, or a refusal that may come
abbrev pub IsRefusalOf : Type 0 → JobFault → Type 0
IsRefusalOf may OutOfMemory = Unit {0}
IsRefusalOf may (Refused refusal word) = may

-- what a code that is known to be right has besides its target
pub record IsKnownCode (target : Target) (kernel script : List ℕ) (code : Code) : Type 0 where
  pub for_target : code.target ≡ target
  pub for_c : target ≡ C
  pub right : IsRightWhereKnown target code kernel script

abbrev pub IsKnown : Target → List ℕ → List ℕ → Option Code → Type 0
IsKnown target kernel script None = MayRefuseFor target kernel script × ((code : Code) → IsRightWhereKnown target code kernel script)
IsKnown target kernel script (Some code) = IsKnownCode target kernel script code
