use Rattle.affine_rows.proofs.NameSets.{absent_if, there_if}
use Rattle.affine_rows.proofs.name.Names.position.Goals as goal

pub returns-clause-there : goal.returns-clause-there
returns-clause-there c = there_if c.args.self.now c.args.name.now c.as_str.result.now c.self.inside.set.keys c.get_index_of.result c.self.view_is c.as_str.ensures c.get_index_of.ensures.index

pub returns-clause-absent : goal.returns-clause-absent
returns-clause-absent c = absent_if c.args.self.now c.args.name.now c.as_str.result.now c.self.inside.set.keys c.get_index_of.result c.self.view_is c.as_str.ensures c.get_index_of.ensures.found
