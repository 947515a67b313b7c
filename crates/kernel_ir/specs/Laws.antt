-- Laws about valid kernels.
use Rattle.std.specs.Prelude.{[], ◌∷◌}
use Rattle.kernel_ir.specs.Valid.{IsValid}
use Rattle.kernel_ir.specs.Samples.{doubling}

-- `out[i] = 2*a[i]` is valid.
abbrev pub DoublingIsValid : Type 0
DoublingIsValid = IsValid (doubling (0 ∷ []))

-- Without its iname among those of the instruction it is not.
abbrev pub DoublingNeedsItsIname : Type 0
DoublingNeedsItsIname = IsValid (doubling []) → ⊥
