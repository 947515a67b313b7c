-- The uses of rules in trees, each with the count of its arguments, in the order of the text.
use Rattle.std.specs.Prelude.{ℕ, List, [], ◌∷◌, ◌++◌, map, flat_map, length, Option, Some, None}
use Rattle.type_infer.specs.Orders.{HasNoCycle, reached}
use Rattle.untyped.specs.declared.tree.Term.TheOpen.{Term-F, Untyped-F}
use Rattle.untyped.specs.declared.tree.Untyped.{Untyped, fold-Untyped}
use Rattle.untyped_parts.specs.declared.trees.InsnTree.{InsnTree}
use Rattle.untyped_parts.specs.declared.trees.RuleTree.{RuleTree}

-- One term, with what is listed of each part in its place.
abbrev pub term_calls : Term-F (List (ℕ × ℕ)) (List (ℕ × ℕ)) → List (ℕ × ℕ)
term_calls (Term-F.Index form constant) = []
term_calls (Term-F.Literal n) = []
term_calls (Term-F.Read cell place) = []
term_calls (Term-F.Use rule arguments) = (rule, length arguments) ∷ []
term_calls (Term-F.Prefix op a) = a
term_calls (Term-F.Infix op a b) = a ++ b
term_calls (Term-F.ShiftLeft a by) = a
term_calls (Term-F.ShiftRight a by) = a
term_calls (Term-F.Cast kind a) = a
term_calls (Term-F.Choose t a b) = t ++ (a ++ b)
term_calls (Term-F.Fold how inames a) = a

abbrev pub tree_calls : Untyped-F (List (ℕ × ℕ)) (List (ℕ × ℕ)) → List (ℕ × ℕ)
tree_calls e = e.term

-- the uses in an expression
abbrev pub calls : Untyped → List (ℕ × ℕ)
calls = fold-Untyped (List (ℕ × ℕ)) (List (ℕ × ℕ)) term_calls tree_calls

abbrev pub calls_in : Option Untyped → List (ℕ × ℕ)
calls_in None = []
calls_in (Some e) = calls e

-- those in an instruction: value before data test
abbrev pub calls_in_insn : InsnTree → List (ℕ × ℕ)
calls_in_insn A = calls A.value ++ calls_in A.test

-- those in each rule's body
abbrev pub calls_of : List RuleTree → List (List (ℕ × ℕ))
calls_of rules = map (λ r. calls r.body) rules

-- ---- without the counts

abbrev pub rules_in : List (ℕ × ℕ) → List ℕ
rules_in cs = map (λ c. c.0) cs

-- the rules that each rule uses
abbrev pub uses_of : List RuleTree → List (List ℕ)
uses_of rules = map rules_in (calls_of rules)

-- no rule reaches itself
abbrev pub HasNoUseCycle : List RuleTree → Type 0
HasNoUseCycle rules = HasNoCycle (uses_of rules)

-- the rules that instructions use, also through other rules
abbrev pub used_rules : List RuleTree → List InsnTree → List ℕ
used_rules rules insns = reached (uses_of rules) (length rules) (rules_in (flat_map calls_in_insn insns))
