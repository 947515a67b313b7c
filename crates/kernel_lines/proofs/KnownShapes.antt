-- What is wrong behind what is no index expression.
use Rattle.std.proofs.Common.{◌≡◌, ℕ, false, List, Option, Some, None, is_none, refl, ap}
use Rattle.std.specs.Option.{option_or}
use Rattle.kernel_names.specs.declared.limit.LineFaults.{LineFaults}
use Rattle.kernel_names.specs.Lines.{first_faults}

first_known : (a b c : Option (List ℕ)) → is_none a ≡ false → option_or a b ≡ option_or a c
first_known None b c h = absurd (cc)
first_known (Some x) b c h = refl

abbrev with_shape : LineFaults → Option (List ℕ) → LineFaults
with_shape f shape = record f { shape = shape }

pub shape_known : (before next : LineFaults) (shape : Option (List ℕ)) → is_none before.shape ≡ false → first_faults before (record next { shape = shape }) ≡ first_faults before next
shape_known before next shape h = ap (with_shape (first_faults before next)) (first_known before.shape shape next.shape h)
