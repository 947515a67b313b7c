-- When expansion is refused, and how.
use Rattle.std.specs.Prelude.{◌≡◌, ℕ, ◌+◌, ◌^◌, ◌<◌, ℤ, pos, ◌⊎◌, true, false, ◌||◌, nat_eq, nat_lt, if◌then◌else◌, codes, List, [], ◌∷◌, ◌++◌, length, slice_get, Option, Some, None, Result, Ok, Err}
use Rattle.expr_tree.specs.declared.build.ExprFault.{ExprFault}
use Rattle.expr_tree.specs.declared.build.ExprFault.TheVariants.{Limit}
use Rattle.expr_tree.specs.declared.tree.Test.{Test}
use Rattle.expr_tree.specs.Depth.{depth_of}
use Rattle.kernel_ir.specs.declared.fault.Site.TheVariants as site
use Rattle.kernel_ir.specs.declared.fault.Refusal.{Refusal}
use Rattle.kernel_ir.specs.declared.fault.Fault.{Fault}
use Rattle.kernel_ir.specs.declared.fault.Fault.TheVariants.{OutOfMemory, Rule}
use Rattle.kernel_ir.specs.declared.kernel.Kernel.{Kernel}
use Rattle.kernel_ir.specs.declared.kernel.Insn.{Insn}
use Rattle.kernel_ir.specs.declared.kernel.SubstRule.{SubstRule}
use Rattle.kernel_ir.specs.Refusals.{refusal, passed_limit}
use Rattle.kernel_ir.specs.Expanded.{expanded}
use Rattle.kernel_ir.specs.Limits.{value_depth, value_of, test_of, depth_of_option, nodes_of, nodes_of_test}
use Rattle.kernel_ir.specs.Valid.{params_of, calls_along, HasNoRuleCycle}
use Rattle.kernel_limits.specs.Asked.{first_of, first_in, limit_refusal as other_limit}
use Rattle.subst_rules.specs.declared.sizes.Size.{Size}
use Rattle.subst_rules.specs.Sizes.{size_in, size_with, test_size_with}
use Rattle.subst_rules.specs.Replaced.{refusal_to, test_refusal_to}
use Rattle.subst_rules.specs.Uses.{calls_in_insn, calls_of}

-- The call refuses as the predicate says: of no refusal where it answers, of the one that is given else; it may want memory.
abbrev pub RefusesAs : {T : Type 0} → (Option Refusal → Type 0) → Result T Fault → Type 0
RefusesAs expected (Ok answer) = expected None
RefusesAs expected (Err OutOfMemory) = Unit {0}
RefusesAs expected (Err (Rule given)) = expected (Some given)

abbrev pub name_of_rule : Option SubstRule → List ℕ
name_of_rule None = []
name_of_rule (Some r) = r.name

-- ---- rule 8: uses with another count of arguments

-- rule, given, wanted
abbrev pub arity : List SubstRule → ℕ → ℕ × ℕ → Refusal
arity rules line c = record (refusal site.Kernel 8 (name_of_rule (slice_get rules c.0) ∷ []) (pos c.1 ∷ pos (length (params_of (slice_get rules c.0))) ∷ [])) { line = line }

abbrev pub use_refusal : List SubstRule → ℕ → ℕ × ℕ → Option Refusal
use_refusal rules line c = if nat_eq c.1 (length (params_of (slice_get rules c.0))) then None else Some (arity rules line c)

-- bodies in order, without a line
abbrev pub bodies_refusal : List SubstRule → Option Refusal
bodies_refusal rules = first_in (first_in (use_refusal rules 0)) (calls_of rules)

-- instructions in order, at their lines
abbrev pub insn_refusal : List SubstRule → Insn → Option Refusal
insn_refusal rules A = first_in (use_refusal rules A.line) (calls_in_insn A)

abbrev pub arity_refusal : Kernel → Option Refusal
arity_refusal K = first_of (bodies_refusal K.rules) (first_in (insn_refusal K.rules) K.insns)

-- ---- rule 7: rules that reach themselves

-- the rule reaches itself, and none that is declared before it does
pub record IsFirstCycle (K : Kernel) (rule : ℕ) : Type 0 where
  pub way : List ℕ
  pub reaches : calls_along K rule (way ++ rule ∷ []) ≡ true
  pub first : (earlier : ℕ) (round : List ℕ) → earlier < rule → calls_along K earlier (round ++ earlier ∷ []) ≡ false

abbrev pub rule_cycle : Kernel → ℕ → Refusal
rule_cycle K rule = refusal site.Kernel 7 (name_of_rule (slice_get K.rules rule) ∷ []) []

-- the first rule in declared order that reaches itself is refused
abbrev pub IsCycleRefusal : Kernel → Option Refusal → Type 0
IsCycleRefusal K None = HasNoRuleCycle K
IsCycleRefusal K (Some r) = (rule : ℕ) × IsFirstCycle K rule × (r ≡ rule_cycle K rule)

-- ---- rule 3: what gets too large

abbrev pub limit_at : ℕ → List ℕ → ℤ → Refusal
limit_at line what limit = record (passed_limit site.Kernel what limit) { line = line }

abbrev pub too_deep : ℕ → Refusal
too_deep line = limit_at line (codes "depth") (pos 64)

-- an expanded body is too deep, where it stands
abbrev pub body_refusal : Kernel → SubstRule → Option Refusal
body_refusal K r = if nat_lt 64 (depth_of (expanded K r.body)) then Some (too_deep 0) else None

-- the depth of value, an update's counted one deeper, and of the predicate, then the nodes of both
abbrev pub size_refusal : Kernel → Insn → Option Refusal
size_refusal K A =
    if nat_lt 64 (value_depth A.storing (depth_of (value_of K A))) || nat_lt 64 (depth_of_option (test_of K A)) then Some (too_deep A.line)
    else (if nat_lt 4096 (nodes_of_test (test_of K A) + nodes_of (value_of K A)) then Some (limit_at A.line (codes "nodes") (pos 4096)) else None)

-- a form that is collected on the way is too large
abbrev pub form_limit : ℕ → Option ExprFault → Option Refusal
form_limit line (Some Limit) = Some (limit_at line (codes "form") (pos (2 ^ 62)))
form_limit line _ = None

abbrev pub test_fault : Kernel → Option Test → Option ExprFault
test_fault K None = None
test_fault K (Some t) = test_refusal_to K.rules (length K.rules) t

abbrev pub form_refusal : Kernel → Insn → Option Refusal
form_refusal K A = first_of (form_limit A.line (refusal_to K.rules (length K.rules) A.value)) (form_limit A.line (test_fault K A.test))

abbrev pub insn_limit : Kernel → Insn → Option Refusal
insn_limit K A = first_of (size_refusal K A) (form_refusal K A)

-- bodies in order, then instructions in order, then all other limits of the expanded kernel
abbrev pub limit_refusal : Kernel → Option Refusal
limit_refusal K = first_of (first_in (body_refusal K) K.rules) (first_of (first_in (insn_limit K) K.insns) (other_limit K))

-- ---- all three

abbrev pub after : Option Refusal → (Option Refusal → Type 0) → Option Refusal → Type 0
after None later r = later r
after (Some first) later r = r ≡ Some first

-- without a rule that reaches itself what gets too large, else that rule
abbrev pub IsCycleOrLimit : Kernel → Option Refusal → Type 0
IsCycleOrLimit K r = (HasNoRuleCycle K × (r ≡ limit_refusal K)) ⊎ ((rule : ℕ) × IsFirstCycle K rule × (r ≡ Some (rule_cycle K rule)))

-- Of what expansion is refused, if of anything: rule 8, then rule 7, then rule 3.
abbrev pub IsExpansionRefusal : Kernel → Option Refusal → Type 0
IsExpansionRefusal K = after (arity_refusal K) (IsCycleOrLimit K)

-- ---- the same by a table of the bodies' sizes

abbrev pub body_refusal_by : List Size → SubstRule → Option Refusal
body_refusal_by table r = if nat_lt 64 (size_with (size_in table) r.body).depth then Some (too_deep 0) else None

abbrev pub option_size : List Size → Option Test → Size
option_size table None = record { depth = 0; nodes = 0 }
option_size table (Some t) = test_size_with (size_in table) t

abbrev pub sizes_refusal : Insn → Size → Size → Option Refusal
sizes_refusal A v t =
    if nat_lt 64 (value_depth A.storing v.depth) || nat_lt 64 t.depth then Some (too_deep A.line)
    else (if nat_lt 4096 (t.nodes + v.nodes) then Some (limit_at A.line (codes "nodes") (pos 4096)) else None)

abbrev pub size_refusal_by : List Size → Insn → Option Refusal
size_refusal_by table A = sizes_refusal A (size_with (size_in table) A.value) (option_size table A.test)
