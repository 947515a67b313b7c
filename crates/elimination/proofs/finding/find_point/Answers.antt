use Rattle.std.proofs.Common.{refl, arith, ◌+◌, ◌-◌, sym, subst, map, List, ℕ}
use Rattle.std.specs.Prelude.{◌↔◌, IsTrue}
use Rattle.std.proofs.lemmas.Result.{err_from_is_err_and}
use Rattle.affine_rows.specs.declared.row.Row.{Row}
use Rattle.affine_rows.specs.Reduced.{reduced_row}
use Rattle.elimination.specs.Shadows.{HasPoint}
use Rattle.elimination.specs.Points.{HoldAt, IsNext, IsNextFault, over_of}
use Rattle.affine_rows.specs.Rows.{env_of}
use Rattle.elimination.specs.Finding.{IsFixed, IsStage}
use Rattle.elimination.proofs.Tightening.{not_so}
use Rattle.elimination.proofs.PointStages.{chosen_more, holds_next, no_point, origin_fixed, past_fault, point_of, stage_at, stage_has}
use Rattle.elimination.proofs.ChosenOnce.{empty_past, last_chosen, none_past, the_chosen}
use Rattle.elimination.proofs.finding.find_point.Goals as goal

none_there : goal.returns-then-not-all_hold-clause-found
none_there c =
    let last : IsStage c.args.system.now.width (map reduced_row c.args.system.now.rows) 0 c.index.result.now =
    stage_at c.args.system.now.width (map reduced_row c.args.system.now.rows) 0 c.in_ok-stages.stages.items c.args.system.now.width 0 c.index.result.now _ c.in_ok-stages.ensures.stages (omega (arith, c.in_ok-stages.ensures.stages.count)) c.index.ensures (omega arith) in
    let reach : IsTrue c.all_hold.result ↔ HoldAt c.index.result.now.rows c.in_ok-point.point = subst (λ (rows : List Row). IsTrue c.all_hold.result ↔ HoldAt rows c.in_ok-point.point) c.as_slice.ensures c.all_hold.ensures in
    no_point c.args.system.now.width c.args.system.now.rows c.index.result.now c.in_ok-point.point c.requires.rows c.in_ok-point.ensures last
    (not_so c.all_hold.result (HoldAt c.index.result.now.rows c.in_ok-point.point) reach c.if-not-all_hold.true)

pub returns-then-not-all_hold-clause-found : goal.returns-then-not-all_hold-clause-found
returns-then-not-all_hold-clause-found c = none_there c

pub loop-var-init : goal.loop-var-init
loop-var-init c =
    let last : IsStage c.args.system.now.width (map reduced_row c.args.system.now.rows) 0 c.index.result.now =
    stage_at c.args.system.now.width (map reduced_row c.args.system.now.rows) 0 c.in_ok-stages.stages.items c.args.system.now.width 0 c.index.result.now _ c.in_ok-stages.ensures.stages (omega (arith, c.in_ok-stages.ensures.stages.count)) c.index.ensures (omega arith) in
    let reach : IsTrue c.all_hold.result ↔ HoldAt c.index.result.now.rows c.in_ok-point.point = subst (λ (rows : List Row). IsTrue c.all_hold.result ↔ HoldAt rows c.in_ok-point.point) c.as_slice.ensures c.all_hold.ensures in
    record {
      chosen = c.in_ok-point.ensures;
      fixed = origin_fixed c.args.system.now.width c.in_ok-point.point c.in_ok-point.ensures;
      holds = holds_next c.args.system.now.width (map reduced_row c.args.system.now.rows) 0 c.index.result.now c.in_ok-point.point last (reach.0 c.if-not-all_hold.false);
    }

pub next_point-requires-clause-some : goal.next_point-requires-clause-some
next_point-requires-clause-some c =
    let here : IsStage c.args.system.now.width (map reduced_row c.args.system.now.rows) (c.loop-var.var + 1) c.index-in-loop-var.result.now =
    stage_at c.args.system.now.width (map reduced_row c.args.system.now.rows) 0 c.in_ok-stages.stages.items (c.args.system.now.width - 1 - c.loop-var.var) (c.loop-var.var + 1) c.index-in-loop-var.result.now _ c.in_ok-stages.ensures.stages (omega (arith, c.in_ok-stages.ensures.stages.count, c.loop-var-test.true)) c.index-in-loop-var.ensures (omega (arith, c.loop-var-test.true)) in
    subst (λ (rows : List Row). HasPoint c.loop-var.var rows (over_of c.loop-var.point) (env_of c.loop-var.point.at)) (sym c.as_slice-rows.ensures)
    (stage_has c.args.system.now.width (map reduced_row c.args.system.now.rows) c.loop-var.var c.index-in-loop-var.result.now c.loop-var.point c.loop-var-test.true here c.loop-var.invariant.fixed.positive c.loop-var.invariant.holds)

pub returns-in_err-point-2-clause-fault : goal.returns-in_err-point-2-clause-fault
returns-in_err-point-2-clause-fault c =
    let here : IsStage c.args.system.now.width (map reduced_row c.args.system.now.rows) (c.loop-var.var + 1) c.index-in-loop-var.result.now =
    stage_at c.args.system.now.width (map reduced_row c.args.system.now.rows) 0 c.in_ok-stages.stages.items (c.args.system.now.width - 1 - c.loop-var.var) (c.loop-var.var + 1) c.index-in-loop-var.result.now _ c.in_ok-stages.ensures.stages (omega (arith, c.in_ok-stages.ensures.stages.count, c.loop-var-test.true)) c.index-in-loop-var.ensures (omega (arith, c.loop-var-test.true)) in
    let p = err_from_is_err_and c.from_residual-in_err-point-2.result c.from_residual-in_err-point-2.ensures.1 in
    rw (p.1, p.2)
    (past_fault c.args.system.now.width (map reduced_row c.args.system.now.rows) c.loop-var.var c.index-in-loop-var.result.now c.loop-var.point (c.args.system.now.width + 1 + c.loop-var.var) c.in_err-point-2.field-0.0 c.loop-var-test.true refl here c.loop-var.invariant.chosen c.loop-var.invariant.fixed.small
    (subst (λ (rows : List Row). IsNextFault rows c.loop-var.var c.loop-var.point (c.args.system.now.width + 1 + c.loop-var.var) c.in_err-point-2.field-0.0) c.as_slice-rows.ensures c.in_err-point-2.ensures.fault))

pub loop-var-preserved : goal.loop-var-preserved
loop-var-preserved c =
    let here : IsStage c.args.system.now.width (map reduced_row c.args.system.now.rows) (c.loop-var.var + 1) c.index-in-loop-var.result.now =
    stage_at c.args.system.now.width (map reduced_row c.args.system.now.rows) 0 c.in_ok-stages.stages.items (c.args.system.now.width - 1 - c.loop-var.var) (c.loop-var.var + 1) c.index-in-loop-var.result.now _ c.in_ok-stages.ensures.stages (omega (arith, c.in_ok-stages.ensures.stages.count, c.loop-var-test.true)) c.index-in-loop-var.ensures (omega (arith, c.loop-var-test.true)) in
    record {
      chosen = chosen_more c.args.system.now.width (map reduced_row c.args.system.now.rows) c.loop-var.var c.index-in-loop-var.result.now c.loop-var.point c.in_ok-point-2.point here c.loop-var.invariant.chosen
          (subst (λ (rows : List Row). IsNext rows c.loop-var.var c.loop-var.point c.in_ok-point-2.point) c.as_slice-rows.ensures c.in_ok-point-2.ensures.next);
      fixed = subst (λ (n : ℕ). IsFixed n (c.loop-var.var + 1) c.in_ok-point-2.point) c.loop-var.invariant.fixed.long c.in_ok-point-2.ensures.fixed;
      holds = holds_next c.args.system.now.width (map reduced_row c.args.system.now.rows) (c.loop-var.var + 1) c.index-in-loop-var.result.now c.in_ok-point-2.point here (subst (λ (rows : List Row). HoldAt rows c.in_ok-point-2.point) c.as_slice-rows.ensures c.in_ok-point-2.ensures.holds);
    }

pub returns-clause-found : goal.returns-clause-found
returns-clause-found c =
    point_of c.args.system.now.width c.args.system.now.rows c.loop-var.var c.loop-var.point (omega (arith, c.loop-var-test.false, c.loop-var.auto.var-end)) c.loop-var.invariant.fixed c.loop-var.invariant.holds

pub returns-then-not-all_hold-clause-within : goal.returns-then-not-all_hold-clause-within
returns-then-not-all_hold-clause-within c = record {
  stages = c.in_ok-stages.ensures.within;
  point = (λ fault past. empty_past c.args.system.now.width c.args.system.now.rows fault (none_there c) past);
}

pub returns-clause-within : goal.returns-clause-within
returns-clause-within c = record {
  stages = c.in_ok-stages.ensures.within;
  point = (λ fault past. none_past c.args.system.now.width (map reduced_row c.args.system.now.rows) c.loop-var.point fault (last_chosen c.args.system.now.width (map reduced_row c.args.system.now.rows) c.loop-var.var c.loop-var.point (omega (arith, c.loop-var-test.false, c.loop-var.auto.var-end)) c.loop-var.invariant.chosen) c.loop-var.invariant.fixed.small past);
}

pub returns-clause-chosen : goal.returns-clause-chosen
returns-clause-chosen c =
    the_chosen c.args.system.now.width (map reduced_row c.args.system.now.rows) c.loop-var.point
    (last_chosen c.args.system.now.width (map reduced_row c.args.system.now.rows) c.loop-var.var c.loop-var.point (omega (arith, c.loop-var-test.false, c.loop-var.auto.var-end)) c.loop-var.invariant.chosen)
    c.loop-var.invariant.fixed.small
