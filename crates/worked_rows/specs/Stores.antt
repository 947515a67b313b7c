-- What a kernel stores under some arguments.
use Rattle.std.specs.Prelude.{◌≡◌, List}
use Rattle.wrap_words.specs.declared.kind.Word.{Word}
use Rattle.kernel_ir.specs.declared.kernel.Kernel.{Kernel}
use Rattle.inst_model.specs.Arguments.{Arguments, Meets}
use Rattle.inst_model.specs.Instances.{Instance, IsRespectingOrder}
use Rattle.inst_model.specs.Running.{stored}

-- The arguments meet the kernel, it has a respecting order, and every respecting order stores these lists.
pub record Stores (K : Kernel) (a : Arguments) (lists : List (List Word)) : Type 0 where
  pub meets : Meets K a
  pub order : List Instance
  pub respects : IsRespectingOrder K a order
  pub always : (xs : List Instance) → IsRespectingOrder K a xs → stored K a xs ≡ lists
