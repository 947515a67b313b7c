-- Valid kernels.
use Rattle.std.specs.Prelude.{◌≡◌, ℕ, zero, suc, ◌+◌, Bool, true, false, not, ◌&&◌, ◌||◌, nat_eq, nat_lt, bytes_eq, is_some, List, [], ◌∷◌, ◌++◌, map, flat_map, filter, length, slice_get, Option, Some, None, All, unwrap_or}
use Rattle.std.specs.List.{list_all, list_any}
use Rattle.std.specs.List.Sorted.{IsPermutation}
use Rattle.wrap_words.specs.declared.kind.Kind.{Kind}
use Rattle.wrap_words.specs.declared.kind.Kind.TheVariants.{I32}
use Rattle.expr_tree.specs.declared.tree.Cell.{Cell}
use Rattle.expr_tree.specs.declared.tree.Cell.TheVariants.{Array, Temp}
use Rattle.expr_tree.specs.declared.tree.Test.{Test}
use Rattle.expr_tree.specs.Scenes.{is_among, mentions_only}
use Rattle.expr_tree.specs.Meaning.{combines}
use Rattle.kernel_ir.specs.declared.kernel.Kernel.{Kernel}
use Rattle.kernel_ir.specs.declared.kernel.Insn.{Insn}
use Rattle.kernel_ir.specs.declared.kernel.SubstRule.{SubstRule}
use Rattle.kernel_ir.specs.declared.kernel.Tag.{Tag}
use Rattle.kernel_ir.specs.declared.kernel.Tag.TheVariants.{Group, Local, Plain as no_axis}
use Rattle.kernel_ir.specs.declared.kernel.Storing.{Storing}
use Rattle.kernel_ir.specs.declared.kernel.Storing.TheVariants.{Plain, Update}
use Rattle.kernel_ir.specs.declared.kernel.Array as array
use Rattle.kernel_ir.specs.NameSpace.{HasNames, is_identifier, all_differ, iname_vars}
use Rattle.kernel_ir.specs.Mentions.{Allowed, is_allowed, is_allowed_test, listed, listed_in, calls, has_cell}
use Rattle.kernel_ir.specs.Kinds.{kinds_in, typing_of, typing_of_test, cell_kind}
use Rattle.kernel_ir.specs.Limits.{IsWithinLimits, all_inames}

-- ---- what is mentioned is there, and in scope

-- the rule exists, whatever the count of arguments
abbrev pub has_rule : Kernel → ℕ → ℕ → Bool
has_rule K rule n = nat_lt rule (length K.rules)

-- the reduction is over one or more inames of the kernel that are not in scope
abbrev pub may_fold : Kernel → List ℕ → List ℕ → Bool
may_fold K scope inames = nat_lt 0 (length inames) && list_all (λ v. is_among (iname_vars K) v && not (is_among scope v)) inames

abbrev pub in_insn : Kernel → Allowed
in_insn K = record { read = has_cell K; call = has_rule K; fold = may_fold K }

-- a rule's body has no reduction
abbrev pub in_rule : Kernel → Allowed
in_rule K = record { read = has_cell K; call = has_rule K; fold = λ scope inames. false }

abbrev pub test_allowed : Kernel → Option Test → List ℕ → Bool
test_allowed K None scope = true
test_allowed K (Some t) scope = is_allowed_test (in_insn K) t scope

-- an array that is stored to is no `input`
abbrev pub is_stored : Option array.Array → Bool
is_stored None = false
is_stored (Some a) = a.stored

abbrev pub may_store : Kernel → Cell → Bool
may_store K (Array n) = is_stored (slice_get K.arrays n)
may_store K (Temp n) = true

abbrev pub may_combine : Storing → Bool
may_combine Plain = true
may_combine (Update op) = combines op

-- parameters of its own that differ, and a body over these and the kernel's parameters
pub record IsRule (K : Kernel) (r : SubstRule) : Type 0 where
  pub params : list_all (λ v. nat_lt v (length K.names)) r.params ≡ true
  pub differ : all_differ nat_eq r.params ≡ true
  pub body : is_allowed (in_rule K) r.body (r.params ++ K.params) ≡ true

-- Inames in declared order; rows, subscripts, predicate and value over these, the parameters and the inames of reductions around; no iname
-- of a reduction occurs outside it; ids of other instructions.
pub record IsInsn (K : Kernel) (A : Insn) : Type 0 where
  pub id : is_identifier A.id ≡ true
  pub inames : A.inames ≡ filter (is_among A.inames) (iname_vars K)
  pub folds : all_differ nat_eq (all_inames A) ≡ true
  pub rows : list_all (λ r. mentions_only (K.params ++ A.inames) r.form) A.rows ≡ true
  pub cell : has_cell K A.cell (length A.place) ≡ true
  pub place : list_all (mentions_only (K.params ++ A.inames)) A.place ≡ true
  pub stored : may_store K A.cell ≡ true
  pub storing : may_combine A.storing ≡ true
  pub test : test_allowed K A.test (K.params ++ A.inames) ≡ true
  pub value : is_allowed (in_insn K) A.value (K.params ++ A.inames) ≡ true
  pub deps : list_all (λ d. list_any (λ B. bytes_eq d B.id) K.insns) A.deps ≡ true

-- there are three group axes and three local axes
abbrev pub is_on_axis : Tag → Bool
is_on_axis no_axis = true
is_on_axis (Group axis) = nat_lt axis 3
is_on_axis (Local axis) = nat_lt axis 3

-- Names, numbers and scopes: all of a valid kernel but rules 3 and 7 to 10.
pub record IsFormed (K : Kernel) : Type 0 where
  pub names : HasNames K
  pub tags : list_all (λ i. is_on_axis i.tag) K.inames ≡ true
  pub priority : IsPermutation (iname_vars K) K.priority
  pub rows : list_all (λ r. mentions_only (K.params ++ iname_vars K) r.form) K.rows ≡ true
  pub assumptions : list_all (λ r. mentions_only K.params r.form) K.assumptions ≡ true
  pub places : list_all (λ a. nat_lt 0 (length a.shape)) K.arrays ≡ true
  pub shapes : list_all (λ a. list_all (mentions_only K.params) a.shape) K.arrays ≡ true
  pub rules : All (IsRule K) K.rules
  pub insns : All (IsInsn K) K.insns
  pub ids : all_differ bytes_eq (map (λ A. A.id) K.insns) ≡ true

-- ---- rules 7 and 8

-- the uses of rules in instructions
abbrev pub insn_calls : Kernel → List (ℕ × ℕ)
insn_calls K = flat_map (λ A. listed_in calls A.test ++ listed calls A.value) K.insns

-- and those in bodies too
abbrev pub all_calls : Kernel → List (ℕ × ℕ)
all_calls K = flat_map (λ r. listed calls r.body) K.rules ++ insn_calls K

abbrev pub params_of : Option SubstRule → List ℕ
params_of None = []
params_of (Some r) = r.params

-- each use has as many arguments as the rule has parameters
abbrev pub HasArities : Kernel → Type 0
HasArities K = list_all (λ c. nat_eq c.1 (length (params_of (slice_get K.rules c.0)))) (all_calls K) ≡ true

abbrev pub body_calls : Option SubstRule → List (ℕ × ℕ)
body_calls None = []
body_calls (Some r) = listed calls r.body

-- each rule on the way uses the next one
abbrev pub calls_along : Kernel → ℕ → List ℕ → Bool
calls_along K rule [] = true
calls_along K rule (next ∷ way) = list_any (λ c. nat_eq c.0 next) (body_calls (slice_get K.rules rule)) && calls_along K next way

-- no rule reaches itself
abbrev pub HasNoRuleCycle : Kernel → Type 0
HasNoRuleCycle K = (rule : ℕ) (way : List ℕ) → calls_along K rule (way ++ rule ∷ []) ≡ false

-- ---- rules 9 and 10

abbrev pub test_typed : Kernel → Option Test → Kind → Bool
test_typed K None k = true
test_typed K (Some t) k = typing_of_test (kinds_in K) t k

-- value and predicate have the kind of the stored cell
abbrev pub insn_typed : Kernel → Insn → Option Kind → Bool
insn_typed K A None = false
insn_typed K A (Some k) = (typing_of (kinds_in K) A.value).has k && test_typed K A.test k

-- the rules that these use, up to so many uses on a way
abbrev pub used_from : Kernel → ℕ → List ℕ → List ℕ
used_from K zero rules = rules
used_from K (suc n) rules = rules ++ used_from K n (flat_map (λ r. map (λ c. c.0) (body_calls (slice_get K.rules r))) rules)

-- the rules that instructions use, also through other rules
abbrev pub used_rules : Kernel → List ℕ
used_rules K = used_from K (length K.rules) (map (λ c. c.0) (insn_calls K))

-- the body has the kind of its first read or cast, or else int32
abbrev pub rule_typed : Kernel → SubstRule → Bool
rule_typed K r = let t = typing_of (kinds_in K) r.body in t.has (unwrap_or t.first I32)

-- each rule from this place on that no instruction uses has that kind; in those that are used the kind of the instruction is asked
abbrev pub rules_typed : Kernel → ℕ → List SubstRule → Bool
rules_typed K at [] = true
rules_typed K at (r ∷ rs) = (is_among (used_rules K) at || rule_typed K r) && rules_typed K (at + 1) rs

-- each temporary has a kind, and each expression has the kind that is asked of it
pub record IsTyped (K : Kernel) : Type 0 where
  pub temps : list_all (λ t. is_some t.kind) K.temps ≡ true
  pub insns : list_all (λ A. insn_typed K A (cell_kind K A.cell)) K.insns ≡ true
  pub rules : rules_typed K 0 K.rules ≡ true

-- A valid kernel.
pub record IsValid (K : Kernel) : Type 0 where
  pub formed : IsFormed K
  pub arities : HasArities K
  pub acyclic : HasNoRuleCycle K
  pub typed : IsTyped K
  pub within : IsWithinLimits K
