use Rattle.std.proofs.Common.{ℕ, ap, ◌∙◌}
use Rattle.kernel_names.specs.declared.lines.Reading.{Reading}
use Rattle.kernel_names.specs.Lines.{limit_with}
use Rattle.kernel_names.proofs.FaultLaws.{name_read, name_faults}
use Rattle.kernel_names.proofs.lines.Reading.read_name.Goals as goal

pub returns-clause-faults : goal.returns-clause-faults
returns-clause-faults c = λ before h.
    let new : Reading = record { table = c.declare.new.self; said = c.insert.new.self } in
    let read = name_read c.args.self.now new before c.args.said.now h (c.in_ok-declare.ensures before h.table) c.in_ok-insert.ensures in
    name_faults c.args.self.now new before c.args.said.now c.limit_with.result c.role.result c.is_taken_as-taken.result c.in_ok-name_if.field-0 h read
    (c.limit_with.ensures ∙ ap (λ (n : ℕ). limit_with c.declare.new.self.counts.parameters n) c.len.ensures) c.role.ensures c.is_taken_as-taken.ensures c.in_ok-name_if.ensures

pub returns-clause-read : goal.returns-clause-read
returns-clause-read c = λ before h.
    name_read c.args.self.now (record { table = c.declare.new.self; said = c.insert.new.self }) before c.args.said.now h (c.in_ok-declare.ensures before h.table) c.in_ok-insert.ensures
