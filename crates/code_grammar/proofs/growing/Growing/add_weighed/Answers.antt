use Rattle.std.proofs.Common.{rules, arith, FitsSigned}
use Rattle.std.specs.Int.{w64}
use Rattle.std.proofs.lemmas.Int.{to_z-of_z}
use Rattle.affine_rows.specs.declared.quasi.Floor.{out-Floor}
use Rattle.code_grammar.proofs.Counted.{floor_counted}
use Rattle.code_grammar.proofs.growing.Growing.add_weighed.Goals as goal

pub invariant_of-self-2 : goal.invariant_of-self-2
invariant_of-self-2 c =
    let constant_fits : FitsSigned w64 c.self.inside.constant = search rules in
    let times_fit : FitsSigned w64 (out-Floor c.args.part.floor).times = search rules in
    let constant = simp to_z-of_z at c.unsigned_abs.ensures.value in
    let times = simp to_z-of_z at c.unsigned_abs-2.ensures.value in
    rw c.in_ok-push.ensures.ok (floor_counted _ _ _ _ _ _ _ _ _ c.args.part.floor c.self.invariant c.requires.within
    (omega (arith, c.saturating_add-sum.ensures, c.requires.sum, c.if-sum-gt-MOST.false))
    (omega (arith, c.saturating_add-floors_constant.ensures, c.saturating_add-constant.ensures, c.requires.constant, c.if-constant-gt-MOST.false))
    (omega (arith, c.saturating_add-times.ensures, times, c.if-times-gt-MOST_TIMES.false))
    (omega (arith, c.if-sum-gt-MOST.false))
    (omega (arith, constant, c.saturating_add-constant.ensures, c.if-constant-gt-MOST.false))
    (omega (arith, c.if-times-gt-MOST_TIMES.false)))
