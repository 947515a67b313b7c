-- Kernels of which all respecting orders store the same.
use Rattle.std.specs.Prelude.{◌≡◌, Bool, true, false, List}
use Rattle.expr_tree.specs.declared.tree.Op.{Op}
use Rattle.expr_tree.specs.declared.tree.Op.TheVariants.{Add, Mul, Min, Max}
use Rattle.kernel_ir.specs.declared.kernel.Kernel.{Kernel}
use Rattle.kernel_ir.specs.declared.kernel.Storing.{Storing}
use Rattle.kernel_ir.specs.declared.kernel.Storing.TheVariants.{Update}
use Rattle.step_orders.specs.Orders.{Has}
use Rattle.inst_model.specs.Arguments.{Arguments}
use Rattle.inst_model.specs.Instances.{Instance, IsInstance, IsRespectingOrder, directly_before}
use Rattle.inst_model.specs.Running.{read_spots, stored_spot, stored}

-- one of the four operators that combine, twice
abbrev pub same_operator : Op → Op → Bool
same_operator Add Add = true
same_operator Mul Mul = true
same_operator Min Min = true
same_operator Max Max = true
same_operator _ _ = false

-- two updates by one operator
abbrev pub update_alike : Storing → Storing → Bool
update_alike (Update f) (Update g) = same_operator f g
update_alike _ _ = false

-- Two instances do not conflict: neither reads the cell that the other stores to, and they store to one cell only by updates by one operator.
pub record Apart (K : Kernel) (a : Arguments) (x y : Instance) : Type 0 where
  pub first : Has (read_spots K a x) (stored_spot K a y) → ⊥
  pub second : Has (read_spots K a y) (stored_spot K a x) → ⊥
  pub one_cell : stored_spot K a x ≡ stored_spot K a y → update_alike x.insn.storing y.insn.storing ≡ true

-- two different instances, neither directly before the other, do not conflict
abbrev pub UnorderedAreApart : Kernel → Arguments → Type 0
UnorderedAreApart K a =
    (x y : Instance) → IsInstance K a x → IsInstance K a y → (x ≡ y → ⊥)
    → directly_before K x y ≡ false → directly_before K y x ≡ false → Apart K a x y

-- All respecting orders of such a kernel store the same.
abbrev pub RespectingOrdersStoreAlike : Type 0
RespectingOrdersStoreAlike =
    (K : Kernel) (a : Arguments) → UnorderedAreApart K a
    → (xs ys : List Instance) → IsRespectingOrder K a xs → IsRespectingOrder K a ys → stored K a xs ≡ stored K a ys
