use Rattle.std.proofs.Common.{FitsSigned}
use Rattle.std.specs.Int.{w64}
use Rattle.std.proofs.lemmas.Int.{to_z-of_z}
use Rattle.quasi_forms.proofs.FlatRows.{flat_is}
use Rattle.quasi_forms.proofs.flattened.flat_terms.Goals as goal

pub returns : goal.returns
returns c =
    let fits : FitsSigned w64 c.args.by = c.ranges.by in
    flat_is c.args.width c.args.floors.now c.args.by c.args.form.now c.new-terms.result.items c.add_scaled.new.made.items c.add_floor_terms.new.made.items c.as_slice.result.now c.as_slice-2.result.now
    c.new-terms.ensures.items c.as_slice.ensures c.as_slice-2.ensures (simp to_z-of_z at c.in_ok-add_scaled.ensures) (simp to_z-of_z at c.in_ok-add_floor_terms.ensures)
