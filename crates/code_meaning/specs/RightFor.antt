-- Code that is right for a kernel.
use Rattle.std.specs.Prelude.{◌≡◌, List}
use Rattle.wrap_words.specs.declared.kind.Word.{Word}
use Rattle.kernel_ir.specs.declared.kernel.Kernel.{Kernel}
use Rattle.inst_model.specs.Arguments.{Arguments}
use Rattle.inst_model.specs.Instances.{Instance, IsRespectingOrder}
use Rattle.inst_model.specs.Running.{stored}
use Rattle.code_tree.specs.declared.code.Code.{Code}
use Rattle.code_meaning.specs.States.{Inputs}
use Rattle.code_meaning.specs.Runs.{IsRight}

-- what a code is given: the parameters' numbers and the arrays' words
abbrev pub inputs_of : Arguments → Inputs
inputs_of a = record { params = a.numbers; arrays = a.lists }

-- The code is right for the kernel under the arguments: no step of any run meets a fault, no run is longer than the step count, and each run that cannot go on has ended every item and leaves in the stored arrays what every respecting order of the kernel stores. There is such an order.
pub record IsRightFor (code : Code) (K : Kernel) (a : Arguments) : Type 0 where
  pub wanted : List (List Word)
  pub right : IsRight code (inputs_of a) wanted
  pub stores : (order : List Instance) → IsRespectingOrder K a order → stored K a order ≡ wanted
  pub order : List Instance
  pub respects : IsRespectingOrder K a order
