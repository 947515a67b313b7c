use Rattle.first_form.proofs.Shown.{names_pass}
use Rattle.first_form.proofs.reader.form_of.Goals as goal

pub name_of-requires : goal.name_of-requires
name_of-requires c = (names_pass c.args.lines.param.now c.args.lines.iname.now c.args.lines.input.now c.args.lines.output.now c.requires).param

pub name_of-requires-2 : goal.name_of-requires-2
name_of-requires-2 c = (names_pass c.args.lines.param.now c.args.lines.iname.now c.args.lines.input.now c.args.lines.output.now c.requires).iname

pub name_of-requires-3 : goal.name_of-requires-3
name_of-requires-3 c = (names_pass c.args.lines.param.now c.args.lines.iname.now c.args.lines.input.now c.args.lines.output.now c.requires).input

pub name_of-requires-4 : goal.name_of-requires-4
name_of-requires-4 c = (names_pass c.args.lines.param.now c.args.lines.iname.now c.args.lines.input.now c.args.lines.output.now c.requires).output
