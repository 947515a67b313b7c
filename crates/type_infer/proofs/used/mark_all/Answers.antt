use Rattle.std.proofs.Common.{◌≡◌, ◌+◌, ◌-◌, ◌||◌, ℕ, length, refl, ap, subst, ◌∙◌, arith}
use Rattle.expr_tree.specs.Scenes.{is_among}
use Rattle.type_infer.specs.Orders.{marked_at}
use Rattle.type_infer.proofs.Marks.{IsMarked, marks_start, marks_step, marks_end, length_unmarked}
use Rattle.type_infer.proofs.used.mark_all.Goals as goal

pub back-init : goal.back-init
back-init c = let h = c.mark.auto in record {
  within = omega arith;
  marked = marks_start c.args.uses.now c.args.order.now c.args.rules.now c.requires.order c.mark.new.marks (length c.args.order.now) refl
      (let e = ap length c.requires.unmarked ∙ length_unmarked c.args.uses.now in omega (arith, e)) c.requires.rules
      (subst (λ z. (r : ℕ) → marked_at c.mark.new.marks r ≡ (marked_at z r || is_among c.args.rules.now r)) c.requires.unmarked c.mark.ensures);
}

pub back-preserved : goal.back-preserved
back-preserved c = record {
  within = omega arith;
  marked = marks_step c.args.uses.now c.args.order.now c.args.rules.now c.requires.order c.back.marks c.mark_used.new.marks (c.back.at - 1) 0
      (let is : c.back.at ≡ (c.back.at - 1) + 1 = omega arith in subst (λ at. IsMarked c.args.uses.now c.args.order.now c.args.rules.now at c.back.marks) is c.back.invariant.marked)
      (omega arith) c.mark_used.ensures (omega arith);
}

pub returns : goal.returns
returns c = marks_end c.args.uses.now c.args.order.now c.args.rules.now c.requires.order c.back.marks
    (let is : c.back.at ≡ 0 = omega arith in subst (λ at. IsMarked c.args.uses.now c.args.order.now c.args.rules.now at c.back.marks) is c.back.invariant.marked)
