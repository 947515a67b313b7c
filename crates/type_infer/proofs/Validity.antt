-- A kernel with inferred kinds that is not refused is valid.
use Rattle.std.proofs.Common.{◌≡◌, None}
use Rattle.kernel_ir.specs.declared.kernel.Kernel.{Kernel}
use Rattle.kernel_ir.specs.Valid.{IsValid}
use Rattle.type_infer.specs.Inferred.{inferred, inferred_kind}
use Rattle.type_infer.specs.Typing.{IsTypable, typing_refusal}
use Rattle.type_infer.proofs.InferredFormed.{formed_kept, acyclic_kept, limits_kept, arities_kept}
use Rattle.type_infer.proofs.KernelTyped.{typed}

pub valid : (K : Kernel) → IsTypable K → typing_refusal K ≡ None → IsValid (inferred K)
valid K is e = let formed = formed_kept K (inferred_kind K) is.formed in record {
  formed = formed;
  arities = arities_kept K (inferred_kind K) is.arities;
  acyclic = acyclic_kept K (inferred_kind K) is.acyclic;
  typed = typed (inferred K) formed e;
  within = limits_kept K (inferred_kind K) is.within;
}
