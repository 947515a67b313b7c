-- The kinds that are kept of cells are those that they have.
use Rattle.std.proofs.Common.{◌≡◌, ℕ, ◌<◌, List, map, length, slice_get, Option, Some, None, refl, ap, ◌∙◌}
use Rattle.std.proofs.Math.Path.{fun_ext}
use Rattle.std.specs.Option.{option_map}
use Rattle.std.proofs.lemmas.Option.{slice_get-map}
use Rattle.expr_tree.specs.declared.tree.Cell.{Cell}
use Rattle.expr_tree.specs.declared.tree.Cell.TheVariants.{Array, Temp}
use Rattle.kernel_ir.specs.Kinds.{array_kind}
use Rattle.kernel_ir.specs.declared.kernel.Array as array
use Rattle.kernel_ir.specs.declared.kernel.Kernel.{Kernel}
use Rattle.kind_faults.specs.declared.leads.Leading.{Leading}
use Rattle.type_infer.specs.Inferred.{kind_by}
use Rattle.type_infer.proofs.TempKinds.{same_kinds}
use Rattle.untyped_parts.specs.declared.trees.InsnTree.{InsnTree}
use Rattle.untyped_parts.specs.declared.trees.RuleTree.{RuleTree}
use Rattle.kernel_kinds.specs.Leads.{cell_kind, stored_leading}
use Rattle.kernel_kinds.specs.Tables.{cells_in, kind_at}
use Rattle.kernel_kinds.specs.declared.found.Cells.{Cells}

of_array : (o : Option array.Array) → option_map (λ (a : array.Array). a.kind) o ≡ array_kind o
of_array None = refl
of_array (Some a) = refl

module _ (K : Kernel) (rules : List RuleTree) (insns : List InsnTree) (stored : ℕ → Option Leading) (c : Cells)
    (arrays : c.arrays ≡ map (λ a. a.kind) K.arrays) (temps : (t : ℕ) → kind_at c.temps t ≡ kind_by K stored t)
    (same : (t : ℕ) → t < length K.temps → stored t ≡ stored_leading rules insns t) where
  each_kind : (cell : Cell) → cells_in c cell ≡ cell_kind K rules insns cell
  each_kind (Array n) = ap (λ kinds. slice_get kinds n) arrays ∙ (slice_get-map (λ (a : array.Array). a.kind) K.arrays n ∙ of_array (slice_get K.arrays n))
  each_kind (Temp t) = temps t ∙ same_kinds K stored (stored_leading rules insns) same t

  pub all_kinds : cells_in c ≡ cell_kind K rules insns
  all_kinds = fun_ext each_kind
