-- The first read or cast of an expression outside its inner tests, with the rules in it replaced.
use Rattle.std.specs.Prelude.{ℕ, zero, suc, List, length, slice_get, Option, Some, None}
use Rattle.std.specs.Option.{option_or}
use Rattle.expr_tree.specs.declared.tree.Node.TheOpen.{Node-F, Test-F, Expr-F}
use Rattle.expr_tree.specs.declared.tree.Expr.{Expr, fold-Expr}
use Rattle.kernel_ir.specs.declared.kernel.Kernel.{Kernel}
use Rattle.kernel_ir.specs.declared.kernel.SubstRule.{SubstRule}
use Rattle.kind_faults.specs.declared.leads.Leading.{Leading}
use Rattle.kind_faults.specs.declared.leads.Leading.TheVariants as lead

-- One node, with what each child leads with in its place, and with what uses of rules lead with.
abbrev pub node_leads : (ℕ → Option Leading) → Node-F (Option Leading) (Unit {0}) (Option Leading) → Option Leading
node_leads call (Node-F.Literal n) = None
node_leads call (Node-F.Leaf form) = None
node_leads call (Node-F.Read cell place) = Some (lead.Read cell)
node_leads call (Node-F.Call rule arguments) = call rule
node_leads call (Node-F.Neg a) = a
node_leads call (Node-F.Inv a) = a
node_leads call (Node-F.Shl a by) = a
node_leads call (Node-F.Shr a by) = a
node_leads call (Node-F.Bin op a b) = option_or a b
node_leads call (Node-F.Pick t a b) = option_or a b
node_leads call (Node-F.Cast to a) = Some (lead.Cast to)
node_leads call (Node-F.Fold op inames a) = a

-- tests inside do not count
abbrev pub test_leads : Test-F (Option Leading) (Unit {0}) (Option Leading) → Unit {0}
test_leads t = tt

abbrev pub expr_leads : Expr-F (Option Leading) (Unit {0}) (Option Leading) → Option Leading
expr_leads e = e.node

abbrev pub leading_of : (ℕ → Option Leading) → Expr → Option Leading
leading_of call = fold-Expr (Option Leading) (Unit {0}) (Option Leading) (node_leads call) test_leads expr_leads

-- a use of a rule leads with what its body leads with
abbrev pub rule_leading : (ℕ → Option Leading) → Option SubstRule → Option Leading
rule_leading call None = None
rule_leading call (Some rule) = leading_of call rule.body

abbrev pub leading_to : List SubstRule → ℕ → ℕ → Option Leading
leading_to rules zero rule = None
leading_to rules (suc n) rule = rule_leading (leading_to rules n) (slice_get rules rule)

-- rules use each other at most as deep as there are rules
abbrev pub leading : Kernel → Expr → Option Leading
leading K = leading_of (leading_to K.rules (length K.rules))
