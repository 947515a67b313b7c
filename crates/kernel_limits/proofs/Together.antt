-- All limits of a kernel.
use Rattle.std.proofs.Common.{List, [], ◌∷◌, All}
use Rattle.std.proofs.lemmas.List.Elements.{All-nil, All-cons, All-head, All-tail}
use Rattle.kernel_ir.specs.declared.kernel.Kernel.{Kernel}
use Rattle.kernel_ir.specs.declared.kernel.Insn.{Insn}
use Rattle.kernel_ir.specs.Limits.{IsWithin}
use Rattle.kernel_limits.specs.Asked.{IsSizedInsn}
use Rattle.kernel_limits.specs.Laws.{IsShallow, LimitsTogether}

within : (K : Kernel) (As : List Insn) → All (IsSizedInsn K) As → All (IsShallow K) As → All (IsWithin K) As
within K [] sized shallow = All-nil (IsWithin K)
within K (A ∷ As) sized shallow =
    let s : IsSizedInsn K A = All-head (IsSizedInsn K) A As sized in
    let d : IsShallow K A = All-head (IsShallow K) A As shallow in
    All-cons (IsWithin K) A As
    (record { forms = s.forms; inames = s.inames; value_depth = d.value_depth; test_depth = d.test_depth; nodes = d.nodes; accesses = s.accesses; floors = s.floors })
    (within K As (All-tail (IsSizedInsn K) A As sized) (All-tail (IsShallow K) A As shallow))

pub together : LimitsTogether
together K sized bodies shallow = record {
  names = sized.names;
  params = sized.params;
  count = sized.count;
  places = sized.places;
  temp_places = sized.temp_places;
  cells = sized.cells;
  sizes = sized.sizes;
  bodies = bodies;
  insns = within K K.insns sized.insns shallow;
}
