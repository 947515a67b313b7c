use Rattle.std.proofs.Common.{rules, tests, nat_eq}
use Rattle.std.proofs.lemmas.Iterator.{YieldsList-from_slice}
use Rattle.std.proofs.lemmas.Iterator.Search.{find_from_yields_List}
use Rattle.kernel_ir.specs.declared.kernel.Iname.{Iname}
use Rattle.kernel_ir.proofs.variables.first_with.Goals as goal

pub returns : goal.returns
returns c = find_from_yields_List (λ (i : Iname). nat_eq i.var c.args.var) _ _ _ c.find.ensures.ran (YieldsList-from_slice c.args.inames.now c.iter.ensures.rest) (λ x b q k. search (rules, tests))
