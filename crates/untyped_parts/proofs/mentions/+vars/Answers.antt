use Rattle.untyped_parts.proofs.FormVars.{all_vars}
use Rattle.untyped_parts.proofs.mentions.+vars.Goals as goal

pub add_vars-returns : goal.add_vars-returns
add_vars-returns t c =
    all_vars c.args.form.now c.args.vars.now.items c.add_term_vars.new.vars.items c.add_floor_vars.new.vars.items c.as_slice.result.now c.as_slice-2.result.now
    c.as_slice.ensures c.as_slice-2.ensures c.in_ok-add_term_vars.ensures c.in_ok-add_floor_vars.ensures
