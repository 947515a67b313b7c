use Rattle.std.proofs.Common.{arith, ◌≡◌, ◌∙◌, ap, sym, map, ◌-◌, ℕ}
use Rattle.affine_rows.specs.Reduced.{reduced_row}
use Rattle.elimination.specs.Stages.{cancelled_from, shadow_rows}
use Rattle.elimination.proofs.ShadowLaw.{begin, cancels, keeps, reduced_AreShadow}
use Rattle.std.proofs.Common.{inr, subst}
use Rattle.std.proofs.lemmas.Result.{err_from_is_err_and}
use Rattle.elimination.specs.Refusals.{AreWithin}
use Rattle.elimination.proofs.ShadowFaults.{begin_within, begin_count, cancel_within, cancel_count, keep_within, keep_count, stopped}
use Rattle.elimination.proofs.projection.shadow.Goals as goal

pub variables-init : goal.variables-init
variables-init c = record {
  width = c.in_ok-made.ensures.width;
  system = c.in_ok-made.ensures.system;
  rows = begin c.args.keep.now c.args.system.now.width (map reduced_row c.args.system.now.rows) c.in_ok-made.made.rows c.in_ok-made.ensures.rows;
  few = omega arith;
  within = begin_within c.args.keep.now c.args.system.now.width (map reduced_row c.args.system.now.rows);
  count = begin_count c.args.keep.now c.args.system.now.width;
}

pub variables-preserved-in_ok-made-2 : goal.variables-preserved-in_ok-made-2
variables-preserved-in_ok-made-2 c = record {
  width = c.in_ok-made-2.ensures.width ∙ c.variables.invariant.width;
  system = c.in_ok-made-2.ensures.system;
  rows = cancels c.args.keep.now (c.variables.next - 1) c.variables.next c.args.system.now.width (map reduced_row c.args.system.now.rows) c.variables.made.rows c.in_ok-made-2.made.rows (omega arith) (omega arith) (sym c.is_cancelled.ensures ∙ c.if-is_cancelled.true) c.variables.invariant.rows c.in_ok-made-2.ensures.rows;
  few = omega arith;
  within = cancel_within c.args.keep.now (c.variables.next - 1) c.variables.next c.args.system.now.width (map reduced_row c.args.system.now.rows) c.variables.made.rows (omega arith) (omega arith) (sym c.is_cancelled.ensures ∙ c.if-is_cancelled.true) c.variables.invariant.rows c.variables.invariant.within c.in_ok-made-2.ensures.few c.in_ok-made-2.ensures.fits;
  count = cancel_count c.args.keep.now (c.variables.next - 1) c.variables.next c.args.system.now.width c.variables.number (omega arith) (omega arith) (sym c.is_cancelled.ensures ∙ c.if-is_cancelled.true) c.variables.invariant.count;
}

pub variables-preserved : goal.variables-preserved
variables-preserved c = record {
  width = c.variables.invariant.width;
  system = c.variables.invariant.system;
  rows = keeps c.args.keep.now (c.variables.next - 1) c.variables.next c.args.system.now.width (map reduced_row c.args.system.now.rows) c.variables.made.rows (omega arith) (omega arith) (sym c.is_cancelled.ensures ∙ c.if-is_cancelled.false) c.variables.invariant.rows;
  few = omega arith;
  within = keep_within c.args.keep.now (c.variables.next - 1) c.variables.next c.args.system.now.width (map reduced_row c.args.system.now.rows) (omega arith) (omega arith) (sym c.is_cancelled.ensures ∙ c.if-is_cancelled.false) c.variables.invariant.within;
  count = keep_count c.args.keep.now (c.variables.next - 1) c.variables.next c.args.system.now.width c.variables.number (omega arith) (omega arith) (sym c.is_cancelled.ensures ∙ c.if-is_cancelled.false) c.variables.invariant.count;
}

rows_are : goal.returns-clause-rows
rows_are c = c.variables.invariant.rows ∙ ap (λ (n : ℕ). shadow_rows (cancelled_from c.args.keep.now n c.args.system.now.width) (map reduced_row c.args.system.now.rows)) (let e : c.variables.next ≡ 0 = omega arith in e)

pub returns-clause-rows : goal.returns-clause-rows
returns-clause-rows c = rows_are c

pub returns-clause-points : goal.returns-clause-points
returns-clause-points c = reduced_AreShadow (cancelled_from c.args.keep.now 0 c.args.system.now.width) c.args.system.now.rows c.variables.made.rows (rows_are c)

pub returns-clause-within : goal.returns-clause-within
returns-clause-within c = subst (λ (n : ℕ). AreWithin (cancelled_from c.args.keep.now n c.args.system.now.width) (map reduced_row c.args.system.now.rows)) (let e : c.variables.next ≡ 0 = omega arith in e) c.variables.invariant.within

pub returns-in_err-made-2-clause-fault : goal.returns-in_err-made-2-clause-fault
returns-in_err-made-2-clause-fault c =
    let p = err_from_is_err_and c.from_residual-in_err-made-2.result c.from_residual-in_err-made-2.ensures.1 in
    rw (p.1, p.2)
    (inr (stopped c.args.keep.now (c.variables.next - 1) c.variables.next c.args.system.now.width c.variables.number (map reduced_row c.args.system.now.rows) c.variables.made.rows c.in_err-made-2.field-0.0 (omega arith) (omega arith) (sym c.is_cancelled.ensures ∙ c.if-is_cancelled.true) c.variables.invariant.rows c.variables.invariant.within c.variables.invariant.count c.in_err-made-2.ensures.fault))
