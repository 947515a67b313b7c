use Rattle.std.proofs.Common.{ap, sym, subst, arith, take, take_all, ℕ, ℤ, pos, List, unsigned_abs}
use Rattle.std.proofs.lemmas.List.Sums.{sum_by_more_le}
use Rattle.affine_rows.specs.declared.quasi.Quasi.{Quasi}
use Rattle.quasi_forms.specs.Collected.{put_parts}
use Rattle.quasi_forms.specs.Combined.{Multiples, IsSum}
use Rattle.quasi_forms.proofs.PutParts.{weight-parts, length-parts, part_at, parts_next}
use Rattle.quasi_forms.proofs.put.put_sum.Goals as goal

pub add_one-requires-clause-room : goal.add_one-requires-clause-room
add_one-requires-clause-room c =
    let vs : List ℕ = c.args.vars.now in
    let bs : List Quasi = c.args.forms.now in
    let ts : List (ℕ × ℤ) = c.args.terms.now in
    let i : ℕ = c.loop-at.at in
    let e : Quasi = c.index-forms-at.result in
    let here = ap (λ (m : ℤ × Quasi). unsigned_abs m.0) (part_at vs bs ts i 0 e c.loop-at-test.true c.requires.count) in
    let more = sum_by_more_le (λ (m : ℤ × Quasi). unsigned_abs m.0) (put_parts vs bs ts) i (pos 0, e) (omega (arith, c.loop-at-test.true, length-parts vs bs ts c.requires.count)) in
    record { multiples = take i (put_parts vs bs ts); sum = c.loop-at.invariant; light = omega (arith, here, more, weight-parts vs bs ts c.requires.differ, c.requires.terms) }

pub loop-at-preserved : goal.loop-at-preserved
loop-at-preserved c =
    let vs : List ℕ = c.args.vars.now in
    let bs : List Quasi = c.args.forms.now in
    let ts : List (ℕ × ℤ) = c.args.terms.now in
    let i : ℕ = c.loop-at.at in
    subst (λ (ms : Multiples). IsSum ms c.add_one.new.sum.constant c.add_one.new.sum.terms.items c.add_one.new.sum.floors.items)
    (sym (parts_next vs bs ts i 0 c.index-forms-at.result c.loop-at-test.true c.requires.count c.index-forms-at.is)) (c.in_ok-add_one.ensures (take i (put_parts vs bs ts)) c.loop-at.invariant)

pub returns : goal.returns
returns c =
    let ms : Multiples = put_parts c.args.vars.now c.args.forms.now c.args.terms.now in
    subst (λ (ms : Multiples). IsSum ms c.loop-at.sum.constant c.loop-at.sum.terms.items c.loop-at.sum.floors.items)
    (take_all c.loop-at.at ms (omega (arith, c.loop-at-test.false, length-parts c.args.vars.now c.args.forms.now c.args.terms.now c.requires.count))) c.loop-at.invariant
