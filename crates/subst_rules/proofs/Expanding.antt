-- Uses replaced one depth after the other give the expanded tree.
use Rattle.std.specs.Prelude.{◌≡◌, ℕ, zero, suc, ◌+◌, ◌-◌, ◌<◌, ◌≤◌, Bool, true, false, List, map, slice_get, Option, Some, None, unwrap_or, Result, Ok}
use Rattle.std.specs.List.{list_all}
use Rattle.std.proofs.Common.{refl, sym, ap, ◌∙◌, arith}
use Rattle.affine_rows.specs.declared.quasi.Quasi.{Quasi}
use Rattle.expr_tree.specs.declared.build.ExprFault.{ExprFault}
use Rattle.expr_tree.specs.declared.tree.Node.{Node, out-Node, map-Node}
use Rattle.expr_tree.specs.declared.tree.Node.TheOpen.{Node-F, Test-F}
use Rattle.expr_tree.specs.declared.tree.Node.TheVariants as node
use Rattle.expr_tree.specs.declared.tree.Test.{Test, map-Test, fold-Test}
use Rattle.expr_tree.specs.declared.tree.Test.TheVariants as test
use Rattle.expr_tree.specs.declared.tree.Expr.{Expr, fold-Expr}
use Rattle.expr_tree.specs.Rewritten.{Rules, Outcome, tree_of, first_of, answered, node_outcome, test_outcome, outcome_of, outcome_of_test, rewritten, rewritten_test}
use Rattle.expr_tree.specs.Keeping.{all_parts, is_made_of, test_is_made_of}
use Rattle.expr_tree.proofs.AllParts.{all_made, all_tests_made}
use Rattle.expr_tree.proofs.Unreplaced.{trees_stay, tests_stay}
use Rattle.quasi_forms.specs.Collected.{put_form}
use Rattle.kernel_ir.specs.declared.kernel.Kernel.{Kernel}
use Rattle.kernel_ir.specs.declared.kernel.SubstRule.{SubstRule}
use Rattle.kernel_ir.specs.Expanded.{put_in_layer, putting, used_in_layer, expanding, body_at, expanding_to}
use Rattle.quasi_forms.specs.Fits.{fits}
use Rattle.subst_rules.specs.Replaced.{within, put_layer, putting_within, answer, body_with, use_layer, replacing, refusal_to, test_refusal_to, is_no_use, use_free}
use Rattle.subst_rules.proofs.Fusion.{fused, fused_test}
use Rattle.expr_tree.proofs.Made.{made-Literal, made-Leaf, made-Read, made-Call, made-Neg, made-Inv, made-Shl, made-Shr, made-Bin, made-Pick, made-Cast, made-Fold, made-Words, made-Index, made-All, made-Any, made-Not}
use Rattle.subst_rules.proofs.Agreeing.{Agrees, agree, agree_on_tests, Quiet, quiet, quiet_on_tests}

-- ---- new trees as a fold

module _ (r : Rules) where
  abbrev built_node : Node-F Expr Test Expr → Expr
  built_node (Node-F.Literal n) = (answered (r.leaf (node.Literal n)) (tree_of (node.Literal n))).new
  built_node (Node-F.Leaf form) = (answered (r.leaf (node.Leaf form)) (tree_of (node.Leaf form))).new
  built_node (Node-F.Read cell place) = (answered (r.leaf (node.Read cell place)) (tree_of (node.Read cell place))).new
  built_node (Node-F.Call rule arguments) = (answered (r.leaf (node.Call rule arguments)) (tree_of (node.Call rule arguments))).new
  built_node (Node-F.Neg a) = tree_of (node.Neg a)
  built_node (Node-F.Inv a) = tree_of (node.Inv a)
  built_node (Node-F.Shl a by) = tree_of (node.Shl a by)
  built_node (Node-F.Shr a by) = tree_of (node.Shr a by)
  built_node (Node-F.Bin op a b) = tree_of (node.Bin op a b)
  built_node (Node-F.Pick t a b) = tree_of (node.Pick t a b)
  built_node (Node-F.Cast kind a) = tree_of (node.Cast kind a)
  built_node (Node-F.Fold op inames a) = tree_of (node.Fold op (answered (r.over inames) inames).new a)

  abbrev built_test : Test-F Expr Test Expr → Test
  built_test (Test-F.Words rel a b) = test.Words rel a b
  built_test (Test-F.Index rel a b) = test.Index rel (answered (r.form a) a).new (answered (r.form b) b).new
  built_test (Test-F.All p q) = test.All p q
  built_test (Test-F.Any p q) = test.Any p q
  built_test (Test-F.Not p) = test.Not p

  abbrev built : Expr → Expr
  built = fold-Expr Expr Test Expr built_node built_test (λ e. e.node)

  abbrev built_of_test : Test → Test
  built_of_test = fold-Test Expr Test Expr built_node built_test (λ e. e.node)

  abbrev new_tree : Outcome Expr → Expr
  new_tree o = o.new

  abbrev new_test : Outcome Test → Test
  new_test o = o.new

  node_built : (y : Node-F (Outcome Expr) (Outcome Test) (Outcome Expr)) → (node_outcome r y).new ≡ built_node (map-Node _ _ _ _ _ _ new_tree new_test new_tree y)
  node_built (Node-F.Literal n) = refl
  node_built (Node-F.Leaf form) = refl
  node_built (Node-F.Read cell place) = refl
  node_built (Node-F.Call rule arguments) = refl
  node_built (Node-F.Neg a) = refl
  node_built (Node-F.Inv a) = refl
  node_built (Node-F.Shl a by) = refl
  node_built (Node-F.Shr a by) = refl
  node_built (Node-F.Bin op a b) = refl
  node_built (Node-F.Pick t a b) = refl
  node_built (Node-F.Cast kind a) = refl
  node_built (Node-F.Fold op inames a) = refl

  test_built : (y : Test-F (Outcome Expr) (Outcome Test) (Outcome Expr)) → (test_outcome r y).new ≡ built_test (map-Test _ _ _ _ _ _ new_tree new_test new_tree y)
  test_built (Test-F.Words rel a b) = refl
  test_built (Test-F.Index rel a b) = refl
  test_built (Test-F.All p q) = refl
  test_built (Test-F.Any p q) = refl
  test_built (Test-F.Not p) = refl

  new_built : (e : Expr) → rewritten r e ≡ built e
  new_built = fused (Outcome Expr) (Outcome Test) Expr Test (node_outcome r) (test_outcome r) built_node built_test new_tree new_test node_built test_built

  new_test_built : (t : Test) → rewritten_test r t ≡ built_of_test t
  new_test_built = fused_test (Outcome Expr) (Outcome Test) Expr Test (node_outcome r) (test_outcome r) built_node built_test new_tree new_test node_built test_built

-- ---- uses replaced, and then those that came in

pub leaf_new : (at : ℕ → List Quasi → Option Expr) (n : Node) (y : Node-F Node Test Expr) → out-Node n ≡ y → (answered ((expanding at).leaf n) (tree_of n)).new ≡ unwrap_or (used_in_layer at y) (tree_of n)
leaf_new at n y is = ap (λ (z : Node-F Node Test Expr). unwrap_or (used_in_layer at z) (tree_of n)) is

use_at : (at : ℕ → List Quasi → Option Expr) (rule : ℕ) (arguments : List Quasi) → rewritten (expanding at) (tree_of (node.Call rule arguments)) ≡ unwrap_or (at rule arguments) (tree_of (node.Call rule arguments))
use_at at rule arguments =
    new_built (expanding at) (tree_of (node.Call rule arguments))
    ∙ (made-Call Expr Test (built_node (expanding at)) (built_test (expanding at)) rule arguments ∙ leaf_new at (node.Call rule arguments) (Node-F.Call rule arguments) (node.outs-Call rule arguments))

module _ (one two three : ℕ → List Quasi → Option Expr)
    (use_is : (rule : ℕ) (arguments : List Quasi) → rewritten (expanding two) (unwrap_or (one rule arguments) (tree_of (node.Call rule arguments))) ≡ unwrap_or (three rule arguments) (tree_of (node.Call rule arguments))) where
  abbrev then_two : Outcome Expr → Expr
  then_two o = built (expanding two) o.new

  abbrev then_two_test : Outcome Test → Test
  then_two_test o = built_of_test (expanding two) o.new

  abbrev nd : Node-F Expr Test Expr → Expr
  nd = built_node (expanding two)

  abbrev ts : Test-F Expr Test Expr → Test
  ts = built_test (expanding two)

  two_node : (y : Node-F (Outcome Expr) (Outcome Test) (Outcome Expr)) → then_two (node_outcome (expanding one) y) ≡ built_node (expanding three) (map-Node _ _ _ _ _ _ then_two then_two_test then_two y)
  two_node (Node-F.Literal n) = ap (built (expanding two)) (leaf_new one (node.Literal n) (Node-F.Literal n) (node.outs-Literal n)) ∙ (made-Literal Expr Test nd ts n
      ∙ (leaf_new two (node.Literal n) (Node-F.Literal n) (node.outs-Literal n) ∙ sym (leaf_new three (node.Literal n) (Node-F.Literal n) (node.outs-Literal n))))
  two_node (Node-F.Leaf q) = ap (built (expanding two)) (leaf_new one (node.Leaf q) (Node-F.Leaf q) (node.outs-Leaf q)) ∙ (made-Leaf Expr Test nd ts q
      ∙ (leaf_new two (node.Leaf q) (Node-F.Leaf q) (node.outs-Leaf q) ∙ sym (leaf_new three (node.Leaf q) (Node-F.Leaf q) (node.outs-Leaf q))))
  two_node (Node-F.Read cell place) = ap (built (expanding two)) (leaf_new one (node.Read cell place) (Node-F.Read cell place) (node.outs-Read cell place)) ∙ (made-Read Expr Test nd ts cell place
      ∙ (leaf_new two (node.Read cell place) (Node-F.Read cell place) (node.outs-Read cell place) ∙ sym (leaf_new three (node.Read cell place) (Node-F.Read cell place) (node.outs-Read cell place))))
  two_node (Node-F.Call rule arguments) = ap (built (expanding two)) (leaf_new one (node.Call rule arguments) (Node-F.Call rule arguments) (node.outs-Call rule arguments))
      ∙ (sym (new_built (expanding two) (unwrap_or (one rule arguments) (tree_of (node.Call rule arguments))))
      ∙ (use_is rule arguments ∙ sym (leaf_new three (node.Call rule arguments) (Node-F.Call rule arguments) (node.outs-Call rule arguments))))
  two_node (Node-F.Neg a) = made-Neg Expr Test nd ts a.new
  two_node (Node-F.Inv a) = made-Inv Expr Test nd ts a.new
  two_node (Node-F.Shl a by) = made-Shl Expr Test nd ts a.new by
  two_node (Node-F.Shr a by) = made-Shr Expr Test nd ts a.new by
  two_node (Node-F.Bin op a b) = made-Bin Expr Test nd ts op a.new b.new
  two_node (Node-F.Pick t a b) = made-Pick Expr Test nd ts t.new a.new b.new
  two_node (Node-F.Cast kind a) = made-Cast Expr Test nd ts kind a.new
  two_node (Node-F.Fold op inames a) = made-Fold Expr Test nd ts op inames a.new

  two_test : (y : Test-F (Outcome Expr) (Outcome Test) (Outcome Expr)) → then_two_test (test_outcome (expanding one) y) ≡ built_test (expanding three) (map-Test _ _ _ _ _ _ then_two then_two_test then_two y)
  two_test (Test-F.Words rel a b) = made-Words Expr Test nd ts rel a.new b.new
  two_test (Test-F.Index rel a b) = made-Index Expr Test nd ts rel a b
  two_test (Test-F.All p q) = made-All Expr Test nd ts p.new q.new
  two_test (Test-F.Any p q) = made-Any Expr Test nd ts p.new q.new
  two_test (Test-F.Not p) = made-Not Expr Test nd ts p.new

  then_is : (e : Expr) → rewritten (expanding two) (rewritten (expanding one) e) ≡ rewritten (expanding three) e
  then_is e = new_built (expanding two) (rewritten (expanding one) e)
      ∙ (fused (Outcome Expr) (Outcome Test) Expr Test (node_outcome (expanding one)) (test_outcome (expanding one)) (built_node (expanding three)) (built_test (expanding three)) then_two then_two_test two_node two_test e
      ∙ sym (new_built (expanding three) e))

  then_test_is : (t : Test) → rewritten_test (expanding two) (rewritten_test (expanding one) t) ≡ rewritten_test (expanding three) t
  then_test_is t = new_test_built (expanding two) (rewritten_test (expanding one) t)
      ∙ (fused_test (Outcome Expr) (Outcome Test) Expr Test (node_outcome (expanding one)) (test_outcome (expanding one)) (built_node (expanding three)) (built_test (expanding three)) then_two then_two_test two_node two_test t
      ∙ sym (new_test_built (expanding three) t))

-- ---- one depth more

abbrev pub plain_body : Option SubstRule → List Quasi → Option Expr
plain_body None arguments = None
plain_body (Some r) arguments = Some (rewritten (putting r.params arguments) r.body)

-- each use replaced, those in the bodies not
abbrev pub bodies_of : List SubstRule → ℕ → List Quasi → Option Expr
bodies_of rules rule arguments = plain_body (slice_get rules rule) arguments

abbrev tree_to : Kernel → ℕ → ℕ → List Quasi → Option Expr
tree_to K zero = λ rule arguments. None
tree_to K (suc n) = λ rule arguments. body_at (expanding_to K n) (slice_get K.rules rule) arguments

no_body : (K : Kernel) (n rule : ℕ) (arguments : List Quasi) → slice_get K.rules rule ≡ None → tree_to K n rule arguments ≡ None
no_body K zero rule arguments is = refl
no_body K (suc n) rule arguments is = ap (λ (o : Option SubstRule). body_at (expanding_to K n) o arguments) is

module _ (K : Kernel) where
  use_deeper : (n : ℕ) (o : Option SubstRule) (rule : ℕ) (arguments : List Quasi) → slice_get K.rules rule ≡ o
      → rewritten (expanding (tree_to K n)) (unwrap_or (plain_body o arguments) (tree_of (node.Call rule arguments))) ≡ unwrap_or (body_at (expanding (tree_to K n)) o arguments) (tree_of (node.Call rule arguments))
  use_deeper n None rule arguments is = use_at (tree_to K n) rule arguments ∙ ap (λ (x : Option Expr). unwrap_or x (tree_of (node.Call rule arguments))) (no_body K n rule arguments is)
  use_deeper n (Some r) rule arguments is = refl

  pub deeper : (n : ℕ) (e : Expr) → rewritten (expanding_to K n) (rewritten (expanding (bodies_of K.rules)) e) ≡ rewritten (expanding_to K (suc n)) e
  deeper zero = then_is (bodies_of K.rules) (tree_to K zero) (tree_to K (suc zero)) (λ rule arguments. use_deeper zero (slice_get K.rules rule) rule arguments refl)
  deeper (suc n) = then_is (bodies_of K.rules) (tree_to K (suc n)) (tree_to K (suc (suc n))) (λ rule arguments. use_deeper (suc n) (slice_get K.rules rule) rule arguments refl)

  pub deeper_test : (n : ℕ) (t : Test) → rewritten_test (expanding_to K n) (rewritten_test (expanding (bodies_of K.rules)) t) ≡ rewritten_test (expanding_to K (suc n)) t
  deeper_test zero = then_test_is (bodies_of K.rules) (tree_to K zero) (tree_to K (suc zero)) (λ rule arguments. use_deeper zero (slice_get K.rules rule) rule arguments refl)
  deeper_test (suc n) = then_test_is (bodies_of K.rules) (tree_to K (suc n)) (tree_to K (suc (suc n))) (λ rule arguments. use_deeper (suc n) (slice_get K.rules rule) rule arguments refl)

-- ---- where no form passes its limit

within_same : (b : Bool) (put old : Expr) → Agrees (within b (Some put)) (Ok (Some put)) old
within_same true put old none = refl
within_same false put old none = absurd (cc)

form_within_same : (b : Bool) (put old : Quasi) → Agrees (within b (Some put)) (Ok (Some put)) old
form_within_same true put old none = refl
form_within_same false put old none = absurd (cc)

put_same : (vs : List ℕ) (fs : List Quasi) (y : Node-F Node Test Expr) (old : Expr) → Agrees (put_layer vs fs y) (Ok (put_in_layer (put_form vs fs) y)) old
put_same vs fs (Node-F.Leaf q) old = within_same (fits vs fs q) (tree_of (node.Leaf (put_form vs fs q))) old
put_same vs fs (Node-F.Read cell place) old = within_same (list_all (fits vs fs) place) (tree_of (node.Read cell (map (put_form vs fs) place))) old
put_same vs fs (Node-F.Call rule arguments) old = within_same (list_all (fits vs fs) arguments) (tree_of (node.Call rule (map (put_form vs fs) arguments))) old
put_same vs fs _ old = λ none. refl

put_agrees : (vs : List ℕ) (fs : List Quasi) (e : Expr) → (outcome_of (putting_within vs fs) e).refusal ≡ None → (outcome_of (putting_within vs fs) e).new ≡ rewritten (putting vs fs) e
put_agrees vs fs = agree (putting_within vs fs) (putting vs fs) (λ n. put_same vs fs (out-Node n) (tree_of n)) (λ q. form_within_same (fits vs fs q) (put_form vs fs q) q) (λ is none. refl)

answer_same : (f : Option ExprFault) (new plain old : Expr) → (f ≡ None → new ≡ plain) → Agrees (answer f new) (Ok (Some plain)) old
answer_same None new plain old same none = same refl
answer_same (Some f) new plain old same none = absurd (cc)

body_same : (o : Option SubstRule) (arguments : List Quasi) (old : Expr) → Agrees (body_with o arguments) (Ok (plain_body o arguments)) old
body_same None arguments old = λ none. refl
body_same (Some r) arguments old = answer_same (outcome_of (putting_within r.params arguments) r.body).refusal (outcome_of (putting_within r.params arguments) r.body).new (rewritten (putting r.params arguments) r.body) old (put_agrees r.params arguments r.body)

use_same : (rules : List SubstRule) (y : Node-F Node Test Expr) (old : Expr) → Agrees (use_layer rules y) (Ok (used_in_layer (bodies_of rules) y)) old
use_same rules (Node-F.Call rule arguments) old = body_same (slice_get rules rule) arguments old
use_same rules _ old = λ none. refl

pub round_is : (rules : List SubstRule) (e : Expr) → (outcome_of (replacing rules) e).refusal ≡ None → (outcome_of (replacing rules) e).new ≡ rewritten (expanding (bodies_of rules)) e
round_is rules = agree (replacing rules) (expanding (bodies_of rules)) (λ n. use_same rules (out-Node n) (tree_of n)) (λ q none. refl) (λ is none. refl)

pub test_round_is : (rules : List SubstRule) (t : Test) → (outcome_of_test (replacing rules) t).refusal ≡ None → (outcome_of_test (replacing rules) t).new ≡ rewritten_test (expanding (bodies_of rules)) t
test_round_is rules = agree_on_tests (replacing rules) (expanding (bodies_of rules)) (λ n. use_same rules (out-Node n) (tree_of n)) (λ q none. refl) (λ is none. refl)

-- ---- where nothing is left to replace

none_put : (y : Node-F Node Test Expr) → used_in_layer (λ rule arguments. None) y ≡ None
none_put (Node-F.Call rule arguments) = refl
none_put _ = refl

pub end_is : (K : Kernel) (e : Expr) → rewritten (expanding_to K zero) e ≡ e
end_is K e = (trees_stay (expanding_to K zero) e (quiet (expanding_to K zero) all_parts (λ n made. ap (λ (o : Option Expr). let x : Result (Option Expr) ExprFault = Ok o in x) (none_put (out-Node n))) (λ q made. refl) (λ is made. refl) e (all_made e)).changed).same

pub test_end_is : (K : Kernel) (t : Test) → rewritten_test (expanding_to K zero) t ≡ t
test_end_is K t = (tests_stay (expanding_to K zero) t (quiet_on_tests (expanding_to K zero) all_parts (λ n made. ap (λ (o : Option Expr). let x : Result (Option Expr) ExprFault = Ok o in x) (none_put (out-Node n))) (λ q made. refl) (λ is made. refl) t (all_tests_made t)).changed).same

no_use_put : (at : ℕ → List Quasi → Option Expr) (y : Node-F Node Test Expr) → is_no_use y ≡ true → (let x : Result (Option Expr) ExprFault = Ok (used_in_layer at y) in x) ≡ Ok None
no_use_put at (Node-F.Call rule arguments) h = absurd (cc)
no_use_put at _ h = refl

no_use_with : (rules : List SubstRule) (y : Node-F Node Test Expr) → is_no_use y ≡ true → use_layer rules y ≡ Ok None
no_use_with rules (Node-F.Call rule arguments) h = absurd (cc)
no_use_with rules _ h = refl

quiet_end : (at : ℕ → List Quasi → Option Expr) (e : Expr) → is_made_of use_free e ≡ true → rewritten (expanding at) e ≡ e
quiet_end at e free = (trees_stay (expanding at) e (quiet (expanding at) use_free (λ n made. no_use_put at (out-Node n) made) (λ q made. refl) (λ is made. refl) e free).changed).same

quiet_test_end : (at : ℕ → List Quasi → Option Expr) (t : Test) → test_is_made_of use_free t ≡ true → rewritten_test (expanding at) t ≡ t
quiet_test_end at t free = (tests_stay (expanding at) t (quiet_on_tests (expanding at) use_free (λ n made. no_use_put at (out-Node n) made) (λ q made. refl) (λ is made. refl) t free).changed).same

pub free_is : (K : Kernel) (n : ℕ) (e : Expr) → is_made_of use_free e ≡ true → rewritten (expanding_to K n) e ≡ e
free_is K zero e free = end_is K e
free_is K (suc n) e free = quiet_end (tree_to K (suc n)) e free

pub free_test_is : (K : Kernel) (n : ℕ) (t : Test) → test_is_made_of use_free t ≡ true → rewritten_test (expanding_to K n) t ≡ t
free_test_is K zero t free = test_end_is K t
free_test_is K (suc n) t free = quiet_test_end (tree_to K (suc n)) t free

quiet_round : (rules : List SubstRule) (e : Expr) → is_made_of use_free e ≡ true → Quiet (outcome_of (replacing rules) e)
quiet_round rules = quiet (replacing rules) use_free (λ n made. no_use_with rules (out-Node n) made) (λ q made. refl) (λ is made. refl)

quiet_test_round : (rules : List SubstRule) (t : Test) → test_is_made_of use_free t ≡ true → Quiet (outcome_of_test (replacing rules) t)
quiet_test_round rules = quiet_on_tests (replacing rules) use_free (λ n made. no_use_with rules (out-Node n) made) (λ q made. refl) (λ is made. refl)

pub free_fits : (rules : List SubstRule) (n : ℕ) (e : Expr) → is_made_of use_free e ≡ true → refusal_to rules n e ≡ None
free_fits rules zero e free = refl
free_fits rules (suc n) e free =
    let q = quiet_round rules e free in
    ap (λ (f : Option ExprFault). first_of f (refusal_to rules n (outcome_of (replacing rules) e).new)) q.refusal
    ∙ (ap (refusal_to rules n) (trees_stay (replacing rules) e q.changed).same ∙ free_fits rules n e free)

pub free_test_fits : (rules : List SubstRule) (n : ℕ) (t : Test) → test_is_made_of use_free t ≡ true → test_refusal_to rules n t ≡ None
free_test_fits rules zero t free = refl
free_test_fits rules (suc n) t free =
    let q = quiet_test_round rules t free in
    ap (λ (f : Option ExprFault). first_of f (test_refusal_to rules n (outcome_of_test (replacing rules) t).new)) q.refusal
    ∙ (ap (test_refusal_to rules n) (tests_stay (replacing rules) t q.changed).same ∙ free_test_fits rules n t free)

-- ---- round by round

one_left : (n i : ℕ) → i < n → n - i ≡ suc (n - (i + 1))
one_left n i h = omega arith

none_left : (n i : ℕ) → n ≤ i → n - i ≡ 0
none_left n i h = omega arith

module _ (K : Kernel) (n i : ℕ) where
  pub tree_next : (old new goal : Expr) → i < n → (outcome_of (replacing K.rules) old).refusal ≡ None → new ≡ (outcome_of (replacing K.rules) old).new → rewritten (expanding_to K (n - i)) old ≡ goal → rewritten (expanding_to K (n - (i + 1))) new ≡ goal
  tree_next old new goal h none is before =
      ap (rewritten (expanding_to K (n - (i + 1)))) (is ∙ round_is K.rules old none)
      ∙ (deeper K (n - (i + 1)) old ∙ (ap (λ (m : ℕ). rewritten (expanding_to K m) old) (sym (one_left n i h)) ∙ before))

  pub test_next : (old new goal : Test) → i < n → (outcome_of_test (replacing K.rules) old).refusal ≡ None → new ≡ (outcome_of_test (replacing K.rules) old).new → rewritten_test (expanding_to K (n - i)) old ≡ goal → rewritten_test (expanding_to K (n - (i + 1))) new ≡ goal
  test_next old new goal h none is before =
      ap (rewritten_test (expanding_to K (n - (i + 1)))) (is ∙ test_round_is K.rules old none)
      ∙ (deeper_test K (n - (i + 1)) old ∙ (ap (λ (m : ℕ). rewritten_test (expanding_to K m) old) (sym (one_left n i h)) ∙ before))

  pub refusal_next : (old new : Expr) (goal : Option ExprFault) → i < n → (outcome_of (replacing K.rules) old).refusal ≡ None → new ≡ (outcome_of (replacing K.rules) old).new → refusal_to K.rules (n - i) old ≡ goal → refusal_to K.rules (n - (i + 1)) new ≡ goal
  refusal_next old new goal h none is before =
      ap (refusal_to K.rules (n - (i + 1))) is
      ∙ (sym (ap (λ (f : Option ExprFault). first_of f (refusal_to K.rules (n - (i + 1)) (outcome_of (replacing K.rules) old).new)) none)
      ∙ (ap (λ (m : ℕ). refusal_to K.rules m old) (sym (one_left n i h)) ∙ before))

  pub test_refusal_next : (old new : Test) (goal : Option ExprFault) → i < n → (outcome_of_test (replacing K.rules) old).refusal ≡ None → new ≡ (outcome_of_test (replacing K.rules) old).new → test_refusal_to K.rules (n - i) old ≡ goal → test_refusal_to K.rules (n - (i + 1)) new ≡ goal
  test_refusal_next old new goal h none is before =
      ap (test_refusal_to K.rules (n - (i + 1))) is
      ∙ (sym (ap (λ (f : Option ExprFault). first_of f (test_refusal_to K.rules (n - (i + 1)) (outcome_of_test (replacing K.rules) old).new)) none)
      ∙ (ap (λ (m : ℕ). test_refusal_to K.rules m old) (sym (one_left n i h)) ∙ before))

  pub refusal_here : (old : Expr) (f : ExprFault) → i < n → (outcome_of (replacing K.rules) old).refusal ≡ Some f → refusal_to K.rules (n - i) old ≡ Some f
  refusal_here old f h is = ap (λ (m : ℕ). refusal_to K.rules m old) (one_left n i h) ∙ ap (λ (g : Option ExprFault). first_of g (refusal_to K.rules (n - (i + 1)) (outcome_of (replacing K.rules) old).new)) is

  pub test_refusal_here : (old : Test) (f : ExprFault) → i < n → (outcome_of_test (replacing K.rules) old).refusal ≡ Some f → test_refusal_to K.rules (n - i) old ≡ Some f
  test_refusal_here old f h is = ap (λ (m : ℕ). test_refusal_to K.rules m old) (one_left n i h) ∙ ap (λ (g : Option ExprFault). first_of g (test_refusal_to K.rules (n - (i + 1)) (outcome_of_test (replacing K.rules) old).new)) is

  pub last_tree : (e : Expr) → n ≤ i → rewritten (expanding_to K (n - i)) e ≡ e
  last_tree e h = ap (λ (m : ℕ). rewritten (expanding_to K m) e) (none_left n i h) ∙ end_is K e

  pub last_test : (t : Test) → n ≤ i → rewritten_test (expanding_to K (n - i)) t ≡ t
  last_test t h = ap (λ (m : ℕ). rewritten_test (expanding_to K m) t) (none_left n i h) ∙ test_end_is K t

  pub last_refusal : (e : Expr) → n ≤ i → refusal_to K.rules (n - i) e ≡ None
  last_refusal e h = ap (λ (m : ℕ). refusal_to K.rules m e) (none_left n i h)

  pub last_test_refusal : (t : Test) → n ≤ i → test_refusal_to K.rules (n - i) t ≡ None
  last_test_refusal t h = ap (λ (m : ℕ). test_refusal_to K.rules m t) (none_left n i h)
