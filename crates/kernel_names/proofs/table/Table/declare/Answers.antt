use Rattle.std.proofs.Common.{◌≡◌, true, sym, ◌∙◌, rules}
use Rattle.kernel_names.specs.declared.said.Said.{Said}
use Rattle.kernel_names.specs.Said.{is_declaration}
use Rattle.kernel_names.proofs.TableLaws.{table_new, table_again}
use Rattle.kernel_names.proofs.table.Table.declare.Goals as goal

pub returns-then-has : goal.returns-then-has
returns-then-has c = λ said h.
    let s : Said = record { sort = c.args.sort; name = c.args.name.now } in
    let is : is_declaration c.args.sort ≡ true = search rules in
    table_again c.args.self.now said s is (sym c.has.ensures ∙ c.if-has.true) h

pub returns : goal.returns
returns c = λ said h.
    let s : Said = record { sort = c.args.sort; name = c.args.name.now } in
    let is : is_declaration c.args.sort ≡ true = search rules in
    table_new c.args.self.now c.add.new.self said s is (sym c.has.ensures ∙ c.if-has.false) h c.in_ok-add.ensures.names c.in_ok-add.ensures.roles c.in_ok-add.ensures.stored c.in_ok-add.ensures.counts
