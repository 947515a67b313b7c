use Rattle.std.proofs.Common.{arith, ◌≡◌, ◌∙◌, ◌+◌, ◌-◌, map, [], refl, ℕ}
use Rattle.affine_rows.specs.Reduced.{reduced_row}
use Rattle.elimination.specs.Finding.{IsStage}
use Rattle.elimination.proofs.ShadowFaults.{begin_within, begin_count, cancel_within, cancel_count}
use Rattle.elimination.proofs.PointStages.{stage_at, stage_next, stages_begin, stages_more}
use Rattle.elimination.proofs.finding.all_stages.Goals as goal

pub variables-init : goal.variables-init
variables-init c = record {
  stages = stages_begin c.args.system.now.width (map reduced_row c.args.system.now.rows) c.in_ok-reduced_system.field-0 c.new-stages.result.items c.push.new.self.items c.new-stages.ensures.items c.in_ok-reduced_system.ensures.system c.in_ok-reduced_system.ensures.width c.in_ok-reduced_system.ensures.rows c.in_ok-push.ensures.items;
  within = begin_within [] c.args.system.now.width (map reduced_row c.args.system.now.rows);
  count = (let e : c.args.system.now.width - c.args.system.now.width ≡ 0 = omega arith in e) ∙ begin_count [] c.args.system.now.width;
  below = omega arith;
}

pub variables-preserved : goal.variables-preserved
variables-preserved c =
    let width : ℕ = c.args.system.now.width in
    let last : IsStage c.args.system.now.width (map reduced_row c.args.system.now.rows) c.variables.next c.index.result.now =
    stage_at c.args.system.now.width (map reduced_row c.args.system.now.rows) c.variables.next c.variables.stages.items (c.len.result - 1) c.variables.next c.index.result.now _ c.variables.invariant.stages (omega (arith, c.variables.invariant.stages.count, c.len.ensures)) c.index.ensures (omega (arith, c.variables.invariant.stages.count, c.len.ensures)) in
    let made = stage_next c.args.system.now.width (map reduced_row c.args.system.now.rows) (c.variables.next - 1) c.variables.next c.index.result.now c.in_ok-made.made (omega (arith, c.variables.invariant.below)) (omega arith) last c.in_ok-made.ensures.width c.in_ok-made.ensures.system c.in_ok-made.ensures.rows in
    record {
      stages = stages_more c.args.system.now.width (map reduced_row c.args.system.now.rows) (c.variables.next - 1) c.variables.next c.in_ok-made.made c.variables.stages.items c.push-in-variables.new.self.items (omega arith) c.variables.invariant.stages made c.in_ok-push-2.ensures.items;
      within = cancel_within [] (c.variables.next - 1) c.variables.next c.args.system.now.width (map reduced_row c.args.system.now.rows) c.index.result.now.rows (omega (arith, c.variables.invariant.below)) (omega arith) refl last.is c.variables.invariant.within c.in_ok-made.ensures.few c.in_ok-made.ensures.fits;
      count = (let e : c.args.system.now.width - (c.variables.next - 1) ≡ c.args.system.now.width - c.variables.next + 1 = omega (arith, c.variables.invariant.below) in e)
          ∙ cancel_count [] (c.variables.next - 1) c.variables.next c.args.system.now.width (c.args.system.now.width - c.variables.next) (omega (arith, c.variables.invariant.below)) (omega arith) refl c.variables.invariant.count;
      below = omega (arith, c.variables.invariant.below);
    }
