use Rattle.std.proofs.Common.{ap, FitsSigned}
use Rattle.std.specs.Prelude.{Err}
use Rattle.std.specs.Int.{w64}
use Rattle.std.proofs.lemmas.Int.{to_z-of_z}
use Rattle.quasi_forms.specs.Collected.{floor_form}
use Rattle.untyped.proofs.Collecting.{kept, refused}
use Rattle.untyped.proofs.index.floored.Goals as goal

pub returns-in-Ok : goal.returns-in-Ok
returns-in-Ok c =
    let fits : FitsSigned w64 c.args.by = c.ranges.by in
    let form = simp to_z-of_z at c.in-Ok.ensures.form in
    let within = simp to_z-of_z at c.in-Ok.ensures.within in
    kept c.args.constant (floor_form c.args.a.now c.args.by) c.in-Ok.form form within

pub returns-in-Err-Limit : goal.returns-in-Err-Limit
returns-in-Err-Limit c =
    let fits : FitsSigned w64 c.args.by = c.ranges.by in
    let limit = c.in-Err-Limit.ensures.limit (ap Err c.in-Err-Limit.field-0-is) in
    let past = simp to_z-of_z at limit in
    refused c.args.constant (floor_form c.args.a.now c.args.by) c.one.result c.one.ensures past
