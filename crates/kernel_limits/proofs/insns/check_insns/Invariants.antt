use Rattle.std.proofs.Common.{◌≡◌, ◌≤◌, drop, take, All}
use Rattle.affine_rows.specs.Forms.{IsForm}
use Rattle.kernel_ir.specs.Limits.{forms_of}
use Rattle.kernel_limits.specs.Asked.{insns_refusal}
use Rattle.kernel_limits.proofs.insns.check_insns.Given as goal

abbrev pub invariant-loop-at : goal.invariant-loop-at
invariant-loop-at l = record { rest : insns_refusal l.kernel l.count (drop l.at l.kernel.insns) ≡ insns_refusal l.kernel 0 l.kernel.insns; few : l.count ≤ 64; forms : All (λ A. All IsForm (forms_of l.kernel A)) (take l.at l.kernel.insns) }
