use Rattle.std.proofs.Common.{sym, subst}
use Rattle.affine_rows.specs.declared.row.Row.{Row}
use Rattle.affine_rows.specs.Reduced.{IsSomeRow}
use Rattle.set_query.proofs.Halving.{both_halves, opposite_IsRow}
use Rattle.set_query.proofs.bounding.add_halves.Goals as goal

pub add_half-requires-then-row-clause-some : goal.add_half-requires-then-row-clause-some
add_half-requires-then-row-clause-some c = subst (λ (r : Row). IsSomeRow r) (sym c.in_ok-opposite.ensures) (c.requires.0, opposite_IsRow c.requires.0 c.args.row.now c.requires.1)

pub returns-in_ok-add_half-2 : goal.returns-in_ok-add_half-2
returns-in_ok-add_half-2 c = both_halves c.args.side c.args.var c.args.row.now c.in_ok-inequality.field-0 c.in_ok-opposite.field-0 c.args.made.now c.add_half.new.made c.add_half-then-row.new.made c.if-row.true c.in_ok-inequality.ensures c.in_ok-opposite.ensures c.in_ok-add_half.ensures c.in_ok-add_half-2.ensures
