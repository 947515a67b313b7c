use Rattle.std.proofs.Common.{refl, ◌≤◌, rules, arith, ◌≡◌, ◌∙◌, ◌^◌, subst, sym, FitsSigned, pos, ◌*ℤ◌, unsigned_abs, cond, nat_eq, get_or}
use Rattle.std.specs.Int.{w64, w128}
use Rattle.std.proofs.lemmas.Int.{to_z-of_z}
use Rattle.std.proofs.lemmas.List.{take_all}
use Rattle.std.proofs.lemmas.List.Elements.{All-push}
use Rattle.std.proofs.lemmas.Result.{err_from_is_err_and}
use Rattle.elimination.specs.Points.{AreSmall, moved_numbers}
use Rattle.elimination.proofs.NextPoint.{length-moved, number_is, numbers_more, small_same, wide_here}
use Rattle.elimination.proofs.placing.moved_numbers.Goals as goal

pub returns-in_err-narrow-clause-fault : goal.returns-in_err-narrow-clause-fault
returns-in_err-narrow-clause-fault c =
    let fits : FitsSigned w64 (get_or c.args.at.now c.loop-i.i (pos 0)) = search rules in
    let to_fits : FitsSigned w128 c.args.to.number = search rules in
    let number_fits : FitsSigned w128 c.moved_number-number.result = search rules in
    let made : c.moved_number-number.result ≡ cond (nat_eq c.loop-i.i c.args.var) c.args.to.number (pos c.args.to.by *ℤ get_or c.args.at.now c.loop-i.i (pos 0)) = simp to_z-of_z at c.moved_number-number.ensures in
    let is = number_is c.args.to.by c.args.var c.loop-i.i c.args.to.number c.args.at.now _ c.moved_number-number.result c.loop-i-test.true refl made in
    let past = simp to_z-of_z at c.in_err-narrow.ensures.fault in
    let p = err_from_is_err_and c.from_residual.result c.from_residual.ensures.1 in
    rw (p.1, p.2) (wide_here c.args.to.by c.args.var c.loop-i.i c.args.to.number c.args.at.now c.moved_number-number.result c.args.stage c.in_err-narrow.field-0.0 c.loop-i-test.true is past)

pub loop-i-preserved : goal.loop-i-preserved
loop-i-preserved c =
    let fits : FitsSigned w64 (get_or c.args.at.now c.loop-i.i (pos 0)) = search rules in
    let to_fits : FitsSigned w128 c.args.to.number = search rules in
    let number_fits : FitsSigned w128 c.moved_number-number.result = search rules in
    let narrow_fits : FitsSigned w64 c.in_ok-narrow.field-0 = search rules in
    let made : c.moved_number-number.result ≡ cond (nat_eq c.loop-i.i c.args.var) c.args.to.number (pos c.args.to.by *ℤ get_or c.args.at.now c.loop-i.i (pos 0)) = simp to_z-of_z at c.moved_number-number.ensures in
    let is = number_is c.args.to.by c.args.var c.loop-i.i c.args.to.number c.args.at.now _ c.moved_number-number.result c.loop-i-test.true refl made in
    let same = simp to_z-of_z at c.in_ok-narrow.ensures.same in
    let small = simp to_z-of_z at c.in_ok-narrow.ensures.small in
    let pushed = simp to_z-of_z at c.in_ok-push.ensures.items in
    record {
      numbers = numbers_more c.args.to.by c.args.var c.loop-i.i c.args.to.number c.args.at.now c.loop-i.made.items c.push.new.self.items c.in_ok-narrow.field-0 c.loop-i-test.true c.loop-i.invariant.numbers pushed (same ∙ is);
      small = subst AreSmall (sym pushed) (All-push (λ z. unsigned_abs z ≤ 2 ^ 56) c.loop-i.made.items c.in_ok-narrow.field-0 c.loop-i.invariant.small (small_same c.in_ok-narrow.field-0 c.moved_number-number.result same small));
    }

pub returns-clause-numbers : goal.returns-clause-numbers
returns-clause-numbers c = c.loop-i.invariant.numbers ∙ take_all c.loop-i.i (moved_numbers c.args.to.by c.args.var c.args.to.number c.args.at.now) (omega (arith, length-moved c.args.to.by c.args.var c.args.to.number c.args.at.now))
