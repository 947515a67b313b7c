-- The rules of a kernel as lists of the rules that each uses.
use Rattle.std.proofs.Common.{◌≡◌, ℕ, zero, suc, ◌<◌, Bool, true, ◌&&◌, nat_eq, nat_lt, List, [], ◌∷◌, ◌++◌, map, flat_map, length, slice_get, Option, Some, None, All, refl, sym, ap, ap₂, subst, ◌∙◌, ⊎_elim}
use Rattle.std.specs.List.{list_any}
use Rattle.std.proofs.Math.Path.{fun_ext}
use Rattle.std.proofs.lemmas.Bool.{true≢false, ltb-true}
use Rattle.std.proofs.lemmas.List.Elements.{All-head, All-tail}
use Rattle.affine_rows.proofs.NameSets.{any_map}
use Rattle.expr_tree.specs.declared.tree.Test.{Test}
use Rattle.expr_tree.specs.Scenes.{is_among}
use Rattle.kernel_ir.specs.declared.kernel.Kernel.{Kernel}
use Rattle.kernel_ir.specs.declared.kernel.Insn.{Insn}
use Rattle.kernel_ir.specs.declared.kernel.SubstRule.{SubstRule}
use Rattle.kernel_ir.specs.Mentions.{calls, listed, listed_in}
use Rattle.kernel_ir.specs.Valid.{IsFormed, IsRule, IsInsn, HasNoRuleCycle, body_calls, calls_along, in_insn, in_rule, test_allowed, insn_calls, used_from, used_rules}
use Rattle.type_infer.specs.Orders.{used_by, uses_along, UsesRules, HasNoCycle, reached}
use Rattle.type_infer.specs.Tables.{rules_in, calls_in_insns}
use Rattle.type_infer.proofs.Walks.{among_cases}
use Rattle.type_infer.proofs.SameCalls.{map-append_first}
use Rattle.type_infer.proofs.AllowedCalls.{allowed_calls, allowed_test_calls}
use Rattle.type_infer.proofs.LeadTables.{uses_in, length_uses}

used_by_is : (rules : List SubstRule) (r : ℕ) → used_by (uses_in rules) r ≡ map (λ c. c.0) (body_calls (slice_get rules r))
used_by_is [] r = refl
used_by_is (s ∷ rules) zero = refl
used_by_is (s ∷ rules) (suc r) = used_by_is rules r

among_first : (cs : List (ℕ × ℕ)) (v : ℕ) → is_among (map (λ c. c.0) cs) v ≡ list_any (λ c. nat_eq c.0 v) cs
among_first cs v = sym (any_map (λ (c : ℕ × ℕ). c.0) (λ u. nat_eq u v) cs)

along_is : (K : Kernel) (rule : ℕ) (way : List ℕ) → uses_along (uses_in K.rules) rule way ≡ calls_along K rule way
along_is K rule [] = refl
along_is K rule (next ∷ way) = ap₂ (λ (p q : Bool). p && q)
    (ap (λ z. is_among z next) (used_by_is K.rules rule) ∙ among_first (body_calls (slice_get K.rules rule)) next) (along_is K next way)

pub no_cycle : (K : Kernel) → HasNoRuleCycle K → HasNoCycle (uses_in K.rules)
no_cycle K none rule way = along_is K rule (way ++ rule ∷ []) ∙ none rule way

-- ---- only rules that there are are used

called_within : (K : Kernel) (rule n : ℕ) → nat_lt rule (length K.rules) ≡ true → rule < length (uses_in K.rules)
called_within K rule n e = subst (λ m. rule < m) (sym (length_uses K.rules)) (ltb-true rule (length K.rules) e)

body_within : (K : Kernel) (r : SubstRule) → IsRule K r → (u : ℕ) → is_among (rules_in r.body) u ≡ true → u < length (uses_in K.rules)
body_within K r is = allowed_calls (in_rule K) (λ u. u < length (uses_in K.rules)) (called_within K) r.body (r.params ++ K.params) is.body

bodies_within : (K : Kernel) (rules : List SubstRule) → All (IsRule K) rules → (r u : ℕ) → is_among (used_by (uses_in rules) r) u ≡ true → u < length (uses_in K.rules)
bodies_within K [] all r u e = absurd (true≢false (sym e))
bodies_within K (s ∷ rules) all zero u e = body_within K s (All-head (IsRule K) s rules all) u e
bodies_within K (s ∷ rules) all (suc r) u e = bodies_within K rules (All-tail (IsRule K) s rules all) r u e

pub uses_rules : (K : Kernel) → IsFormed K → UsesRules (uses_in K.rules)
uses_rules K is = bodies_within K K.rules is.rules

test_within : (K : Kernel) (t : Option Test) (scope : List ℕ) → test_allowed K t scope ≡ true → (u : ℕ) → is_among (map (λ c. c.0) (listed_in calls t)) u ≡ true → u < length (uses_in K.rules)
test_within K None scope e u h = absurd (true≢false (sym h))
test_within K (Some t) scope e u h = allowed_test_calls (in_insn K) (λ u. u < length (uses_in K.rules)) (called_within K) t scope e u h

insns_within : (K : Kernel) (insns : List Insn) → All (IsInsn K) insns → (u : ℕ) → is_among (calls_in_insns insns) u ≡ true → u < length (uses_in K.rules)
insns_within K [] all u e = absurd (true≢false (sym e))
insns_within K (A ∷ insns) all u e = let is = All-head (IsInsn K) A insns all in
    ⊎_elim
    (λ own. ⊎_elim (test_within K A.test (K.params ++ A.inames) is.test u)
    (allowed_calls (in_insn K) (λ v. v < length (uses_in K.rules)) (called_within K) A.value (K.params ++ A.inames) is.value u)
    (among_cases (map (λ c. c.0) (listed_in calls A.test)) (map (λ c. c.0) (listed calls A.value)) u own))
    (insns_within K insns (All-tail (IsInsn K) A insns all) u)
    (among_cases (map (λ c. c.0) (listed_in calls A.test) ++ map (λ c. c.0) (listed calls A.value)) (calls_in_insns insns) u e)

pub called_rules : (K : Kernel) → IsFormed K → (u : ℕ) → is_among (calls_in_insns K.insns) u ≡ true → u < length (uses_in K.rules)
called_rules K is = insns_within K K.insns is.insns

-- ---- what instructions use

called_is : (insns : List Insn) → calls_in_insns insns ≡ map (λ c. c.0) (flat_map (λ A. listed_in calls A.test ++ listed calls A.value) insns)
called_is [] = refl
called_is (A ∷ insns) =
    ap₂ (λ (p q : List ℕ). p ++ q) (sym (map-append_first (listed_in calls A.test) (listed calls A.value))) (called_is insns)
    ∙ sym (map-append_first (listed_in calls A.test ++ listed calls A.value) (flat_map (λ A. listed_in calls A.test ++ listed calls A.value) insns))

reached_is : (K : Kernel) (n : ℕ) (rules : List ℕ) → reached (uses_in K.rules) n rules ≡ used_from K n rules
reached_is K zero rules = refl
reached_is K (suc n) rules = ap (λ z. rules ++ z)
    (ap (λ (f : ℕ → List ℕ). reached (uses_in K.rules) n (flat_map f rules)) (fun_ext (used_by_is K.rules))
    ∙ reached_is K n (flat_map (λ r. map (λ c. c.0) (body_calls (slice_get K.rules r))) rules))

pub used_is : (K : Kernel) (uses : List (List ℕ)) (called : List ℕ) → uses ≡ uses_in K.rules → called ≡ calls_in_insns K.insns → reached uses (length uses) called ≡ used_rules K
used_is K uses called e h =
    ap₂ (λ (us : List (List ℕ)) (rs : List ℕ). reached us (length us) rs) e (h ∙ called_is K.insns)
    ∙ (ap (λ n. reached (uses_in K.rules) n (map (λ c. c.0) (insn_calls K))) (length_uses K.rules) ∙ reached_is K (length K.rules) (map (λ c. c.0) (insn_calls K)))
