use Rattle.std.proofs.Common.{length, refl, ◌∙◌, sym, ap}
use Rattle.std.proofs.lemmas.Option.{slice_get_past, slice_get_read}
use Rattle.kernel_kinds.specs.Asked.{rule_asked}
use Rattle.kernel_kinds.specs.Tables.{known_by}
use Rattle.kernel_kinds.proofs.kept.kept_of.Goals as goal

pub returns-in-None : goal.returns-in-None
returns-in-None c =
    c.none.ensures ∙ sym (ap (rule_asked (known_by c.args.cells.now c.args.table.now)) (slice_get_past c.args.rules.now c.args.rule c.in-None.ensures.lookup.3))

pub returns-in-Some : goal.returns-in-Some
returns-in-Some c =
    let found = c.in-Some.ensures.lookup in
    c.of_body.ensures ∙ sym (ap (rule_asked (known_by c.args.cells.now c.args.table.now))
    (slice_get_read c.args.rules.now (length c.args.rules.now) c.args.rule c.in-Some.rule.now refl found.3.0 found.1))
