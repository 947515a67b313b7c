-- The first place at fault of an expression that is asked for a kind.
use Rattle.std.specs.Prelude.{ℕ, zero, suc, ◌&&◌, nat_lt, length, slice_get, Option, Some, None, unwrap_or}
use Rattle.std.specs.Option.{option_or}
use Rattle.wrap_words.specs.declared.kind.Kind.{Kind}
use Rattle.wrap_words.specs.Words.{modulus_of, width_of}
use Rattle.expr_tree.specs.declared.tree.Node.TheOpen.{Node-F, Test-F, Expr-F}
use Rattle.expr_tree.specs.declared.tree.Test.{Test, fold-Test}
use Rattle.expr_tree.specs.declared.tree.Expr.{Expr, fold-Expr}
use Rattle.expr_tree.specs.Value.{is_unsigned, first_of_two}
use Rattle.kernel_ir.specs.declared.kernel.Kernel.{Kernel}
use Rattle.kernel_ir.specs.declared.kernel.SubstRule.{SubstRule}
use Rattle.kernel_ir.specs.Kinds.{cell_kind}
use Rattle.kind_faults.specs.declared.faults.Mismatch.{Mismatch}
use Rattle.kind_faults.specs.Faults as faults
use Rattle.kind_faults.specs.Faults.{Judged, unless, kind_fault, read_fault, side_kind}

-- the kinds of cells, and what uses of rules are
abbrev pub Known : Type 0
Known = faults.Known Judged

-- One node, with each child judged in its place; a test has a fault at the kind that is asked of the node in which it stands.
abbrev pub node_judged : Known → Node-F Judged (Kind → Option Mismatch) Judged → Judged
node_judged w (Node-F.Literal n) = record { first = None; fault = λ k. unless (nat_lt n (modulus_of k)) k }
node_judged w (Node-F.Leaf form) = record { first = None; fault = λ k. None }
node_judged w (Node-F.Read cell place) = record { first = w.cell cell; fault = read_fault (w.cell cell) }
node_judged w (Node-F.Call rule arguments) = w.call rule
node_judged w (Node-F.Neg a) = a
node_judged w (Node-F.Inv a) = a
node_judged w (Node-F.Shl a by) = record { first = a.first; fault = λ k. option_or (a.fault k) (unless (nat_lt by (width_of k)) k) }
node_judged w (Node-F.Shr a by) =
    record { first = a.first; fault = λ k. option_or (a.fault k) (unless (is_unsigned k && nat_lt by (width_of k)) k) }
node_judged w (Node-F.Bin op a b) = record { first = first_of_two a.first b.first; fault = λ k. option_or (a.fault k) (b.fault k) }
node_judged w (Node-F.Pick t a b) =
    record { first = first_of_two a.first b.first; fault = λ k. option_or (t k) (option_or (a.fault k) (b.fault k)) }
node_judged w (Node-F.Cast to a) =
    record { first = Some to; fault = λ k. option_or (kind_fault to k) (a.fault (unwrap_or a.first to)) }
node_judged w (Node-F.Fold op inames a) = a

abbrev pub test_judged : Test-F Judged (Kind → Option Mismatch) Judged → Kind → Option Mismatch
test_judged (Test-F.Words rel a b) k = option_or (a.fault (side_kind a b k)) (b.fault (side_kind a b k))
test_judged (Test-F.Index rel a b) k = None
test_judged (Test-F.All p q) k = option_or (p k) (q k)
test_judged (Test-F.Any p q) k = option_or (p k) (q k)
test_judged (Test-F.Not p) k = p k

abbrev pub expr_judged : Expr-F Judged (Kind → Option Mismatch) Judged → Judged
expr_judged e = e.node

abbrev pub judged_of : Known → Expr → Judged
judged_of w = fold-Expr Judged (Kind → Option Mismatch) Judged (node_judged w) test_judged expr_judged

abbrev pub mismatch_of_test : Known → Test → Kind → Option Mismatch
mismatch_of_test w = fold-Test Judged (Kind → Option Mismatch) Judged (node_judged w) test_judged expr_judged

-- the first fault of an expression that is asked for a kind
abbrev pub mismatch_of : Known → Expr → Kind → Option Mismatch
mismatch_of w e k = (judged_of w e).fault k

-- ---- in a kernel, where the fault of a use of a rule is that of its body

-- there is no such rule
abbrev pub no_judgement : Judged
no_judgement = record { first = None; fault = λ k. Some (record { wanted = k; found = None }) }

abbrev pub rule_judged : Known → Option SubstRule → Judged
rule_judged w None = no_judgement
rule_judged w (Some rule) = judged_of w rule.body

-- the kinds of a kernel's cells, and what uses of rules are
abbrev pub known_with : Kernel → (ℕ → Judged) → Known
known_with K call = record { cell = cell_kind K; call = call }

abbrev pub judged_to : Kernel → ℕ → ℕ → Judged
judged_to K zero rule = no_judgement
judged_to K (suc n) rule = rule_judged (known_with K (judged_to K n)) (slice_get K.rules rule)

-- rules use each other at most as deep as there are rules
abbrev pub known_in : Kernel → Known
known_in K = known_with K (judged_to K (length K.rules))
