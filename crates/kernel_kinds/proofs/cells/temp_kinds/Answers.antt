use Rattle.std.proofs.Common.{length, ap, sym, ◌∙◌, ⊎_elim, arith}
use Rattle.std.proofs.lemmas.Bool.{cases_lt}
use Rattle.std.proofs.lemmas.Option.{slice_get_past}
use Rattle.kind_faults.specs.Leads.{leading_at}
use Rattle.type_infer.proofs.TempKinds.{no_kind}
use Rattle.kernel_kinds.specs.Tables.{kept_kind}
use Rattle.kernel_kinds.proofs.cells.temp_kinds.Goals as goal

pub returns : goal.returns
returns c t = ⊎_elim (λ there. c.loop-temp.invariant.same t (omega (arith, there)))
    (λ past. ap kept_kind (slice_get_past c.loop-temp.kinds t (omega (arith, past, c.loop-temp.invariant.each)))
    ∙ sym (no_kind c.args.kernel.now (leading_at c.args.stored.now) (length c.args.kernel.now.temps) t (omega (arith, past))))
    (cases_lt t (length c.args.kernel.now.temps))
