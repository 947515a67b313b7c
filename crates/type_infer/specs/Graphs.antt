-- What the rules of a kernel use.
use Rattle.std.specs.Prelude.{◌≡◌, List, map}
use Rattle.kernel_ir.specs.declared.kernel.SubstRule.{SubstRule}
use Rattle.type_infer.specs.declared.inference.CallGraph.{CallGraph}
use Rattle.type_infer.specs.Orders.{IsCallOrder}
use Rattle.type_infer.specs.Tables.{rules_in}

-- the rules that each of these uses, and an order of them
pub record IsGraphOf (rules : List SubstRule) (g : CallGraph) : Type 0 where
  pub uses : g.uses ≡ map (λ r. rules_in r.body) rules
  pub order : IsCallOrder (map (λ r. rules_in r.body) rules) g.order
