use Rattle.std.proofs.Common.{◌∙◌, map, sym, subst, ap, ◌<◌}
use Rattle.kind_faults.specs.Leads.{leading_at}
use Rattle.kernel_kinds.proofs.CellKinds.{all_kinds}
use Rattle.kernel_kinds.proofs.cells.cell_kinds.Goals as goal

pub stored_leads-requires : goal.stored_leads-requires
stored_leads-requires c = ap leading_at c.as_slice.ensures.value ∙ c.in_ok-leads.ensures

pub returns : goal.returns
returns c =
    let K = c.args.kernel.now in
    all_kinds K c.args.rules.now c.args.insns.now (leading_at c.as_slice-3.result.now) _
    (c.in_ok-array_kinds.ensures ∙ ap (map (λ a. a.kind)) c.as_slice-2.ensures) c.in_ok-temp_kinds.ensures
    (λ t less. ap (λ stored. leading_at stored t) c.as_slice-3.ensures.value ∙ c.in_ok-stored.ensures t (subst (λ n. t < n) (sym c.len.ensures) less))
