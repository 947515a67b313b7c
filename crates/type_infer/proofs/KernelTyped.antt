-- A formed kernel that is not refused for its kinds is typed.
use Rattle.std.proofs.Common.{◌≡◌, ℕ, zero, suc, ◌+◌, Bool, true, false, ◌&&◌, ◌||◌, cond, List, [], ◌∷◌, ◌++◌, length, slice_get, Option, Some, None, unwrap_or, is_some, All, refl, sym, ap, ◌∙◌}
use Rattle.std.specs.List.{list_all}
use Rattle.std.specs.Option.{option_or, is_none}
use Rattle.std.proofs.lemmas.Bool.{true≢false}
use Rattle.std.proofs.lemmas.List.Elements.{All-head, All-tail}
use Rattle.wrap_words.specs.declared.kind.Kind.{Kind}
use Rattle.wrap_words.specs.declared.kind.Kind.TheVariants.{I32}
use Rattle.expr_tree.specs.declared.tree.Cell.{Cell}
use Rattle.expr_tree.specs.declared.tree.Cell.TheVariants.{Array, Temp}
use Rattle.expr_tree.specs.declared.tree.Expr.{Expr}
use Rattle.expr_tree.specs.declared.tree.Test.{Test}
use Rattle.expr_tree.specs.Scenes.{is_among}
use Rattle.kernel_ir.specs.declared.kernel.Kernel.{Kernel}
use Rattle.kernel_ir.specs.declared.kernel.Insn.{Insn}
use Rattle.kernel_ir.specs.declared.kernel.SubstRule.{SubstRule}
use Rattle.kernel_ir.specs.declared.kernel.Array as array
use Rattle.kernel_ir.specs.declared.kernel.Temp as temp
use Rattle.kernel_ir.specs.declared.fault.Refusal.{Refusal}
use Rattle.kernel_ir.specs.Kinds.{kinds_to, kinds_in, cell_kind, array_kind, temp_kind, typing_of, rule_typing}
use Rattle.kernel_ir.specs.Mentions.{is_allowed, has_cell, shape_length, temp_length, is_count}
use Rattle.kernel_ir.specs.Valid.{IsFormed, IsRule, IsInsn, IsTyped, in_insn, in_rule, test_allowed, insn_typed, test_typed, rule_typed, rules_typed, used_rules}
use Rattle.kind_faults.specs.declared.faults.Mismatch.{Mismatch}
use Rattle.type_infer.specs.Judged.{judged_of, judged_to, known_in, known_with, rule_judged, mismatch_of}
use Rattle.type_infer.specs.Typing.{mismatch_at, type_unknown, unknown_stored, test_mismatch, insn_mismatch, insn_refusal, insns_refusal, temps_refusal, body_mismatch, rules_refusal, kinds_refusal}
use Rattle.type_infer.proofs.Agreement.{Agrees, agrees, agrees_test}

both : (p q : Bool) → p ≡ true → q ≡ true → (p && q) ≡ true
both true q e h = h
both false q e h = absurd (true≢false (sym e))

first_of : (p q : Bool) → (p && q) ≡ true → p ≡ true
first_of true q e = refl
first_of false q e = e

second_of : (p q : Bool) → (p && q) ≡ true → q ≡ true
second_of true q e = e
second_of false q e = absurd (true≢false (sym e))

-- ---- no refusal

none_first : {T : Type 0} (a b : Option T) → option_or a b ≡ None → a ≡ None
none_first None b e = refl
none_first (Some x) b e = e

none_second : {T : Type 0} (a b : Option T) → option_or a b ≡ None → b ≡ None
none_second None b e = e
none_second (Some x) b e = absurd (cc)

no_fault : (line : ℕ) (m : Option Mismatch) → mismatch_at line m ≡ None → m ≡ None
no_fault line None e = refl
no_fault line (Some m) e = absurd (cc)

some_if : (b : Bool) (r : Refusal) → cond b None (Some r) ≡ None → b ≡ true
some_if true r e = refl
some_if false r e = absurd (cc)

pub temps_known : (ts : List temp.Temp) → temps_refusal ts ≡ None → list_all (λ t. is_some t.kind) ts ≡ true
temps_known [] e = refl
temps_known (t ∷ ts) e = both (is_some t.kind) (list_all (λ t. is_some t.kind) ts) (some_if (is_some t.kind) _ (none_first (type_unknown 0 t) (temps_refusal ts) e))
    (temps_known ts (none_second (type_unknown 0 t) (temps_refusal ts) e))

-- ---- kinds of cells

array_has : (o : Option array.Array) (n : ℕ) → is_count (shape_length o) n ≡ true → is_some (array_kind o) ≡ true
array_has None n e = absurd (true≢false (sym e))
array_has (Some a) n e = refl

temp_has : (ts : List temp.Temp) (at n : ℕ) → list_all (λ t. is_some t.kind) ts ≡ true → is_count (temp_length (slice_get ts at)) n ≡ true → is_some (temp_kind (slice_get ts at)) ≡ true
temp_has [] at n all e = absurd (true≢false (sym e))
temp_has (t ∷ ts) zero n all e = first_of (is_some t.kind) (list_all (λ t. is_some t.kind) ts) all
temp_has (t ∷ ts) (suc at) n all e = temp_has ts at n (second_of (is_some t.kind) (list_all (λ t. is_some t.kind) ts) all) e

module _ (K : Kernel) (formed : IsFormed K) (known : list_all (λ t. is_some t.kind) K.temps ≡ true) where
  cell_has : (c : Cell) (n : ℕ) → has_cell K c n ≡ true → is_some (cell_kind K c) ≡ true
  cell_has (Array at) n e = array_has (slice_get K.arrays at) n e
  cell_has (Temp at) n e = temp_has K.temps at n known e

  cells_same : (n : ℕ) (c : Cell) → (kinds_to K n).cell c ≡ cell_kind K c
  cells_same zero c = refl
  cells_same (suc n) c = refl

  rule_agrees : (n : ℕ) (rules : List SubstRule) → All (IsRule K) rules → ((r : ℕ) → Agrees ((kinds_to K n).call r) (judged_to K n r)) → (r : ℕ)
      → Agrees (rule_typing (kinds_to K n) (slice_get rules r)) (rule_judged (known_with K (judged_to K n)) (slice_get rules r))
  rule_agrees n [] all below r = record { first = refl; has = λ k. refl }
  rule_agrees n (s ∷ rules) all below zero =
      agrees (in_rule K) (kinds_to K n) (known_with K (judged_to K n)) (cells_same n) cell_has below s.body (s.params ++ K.params) (All-head (IsRule K) s rules all).body
  rule_agrees n (s ∷ rules) all below (suc r) = rule_agrees n rules (All-tail (IsRule K) s rules all) below r

  rules_agree : (n r : ℕ) → Agrees ((kinds_to K n).call r) (judged_to K n r)
  rules_agree zero r = record { first = refl; has = λ k. refl }
  rules_agree (suc n) r = rule_agrees n K.rules formed.rules (rules_agree n) r

  -- an expression has a kind exactly where it has no fault at it
  pub kinds_agree : (e : Expr) (scope : List ℕ) → is_allowed (in_insn K) e scope ≡ true → Agrees (typing_of (kinds_in K) e) (judged_of (known_in K) e)
  kinds_agree = agrees (in_insn K) (kinds_in K) (known_in K) (cells_same (length K.rules)) cell_has (rules_agree (length K.rules))

  pub test_kinds_agree : (t : Option Test) (scope : List ℕ) → test_allowed K t scope ≡ true → (k : Kind) → test_typed K t k ≡ is_none (test_mismatch (known_in K) t k)
  test_kinds_agree None scope e k = refl
  test_kinds_agree (Some t) scope e k = agrees_test (in_insn K) (kinds_in K) (known_in K) (cells_same (length K.rules)) cell_has (rules_agree (length K.rules)) t scope e k

  typed_at : (A : Insn) → IsInsn K A → (o : Option Kind) → is_some o ≡ true → insn_mismatch (known_in K) A o ≡ None → insn_typed K A o ≡ true
  typed_at A is None h e = absurd (true≢false (sym h))
  typed_at A is (Some k) h e = both ((typing_of (kinds_in K) A.value).has k) (test_typed K A.test k)
      ((kinds_agree A.value (K.params ++ A.inames) is.value).has k ∙ ap is_none (none_first (mismatch_of (known_in K) A.value k) (test_mismatch (known_in K) A.test k) e))
      (test_kinds_agree A.test (K.params ++ A.inames) is.test k ∙ ap is_none (none_second (mismatch_of (known_in K) A.value k) (test_mismatch (known_in K) A.test k) e))

  insns_typed : (As : List Insn) → All (IsInsn K) As → insns_refusal K (known_in K) As ≡ None → list_all (λ A. insn_typed K A (cell_kind K A.cell)) As ≡ true
  insns_typed [] all e = refl
  insns_typed (A ∷ As) all e =
      let is = All-head (IsInsn K) A As all in
      let here = none_first (insn_refusal K (known_in K) A) (insns_refusal K (known_in K) As) e in
      both (insn_typed K A (cell_kind K A.cell)) (list_all (λ A. insn_typed K A (cell_kind K A.cell)) As)
      (typed_at A is (cell_kind K A.cell) (cell_has A.cell (length A.place) is.cell)
      (no_fault A.line (insn_mismatch (known_in K) A (cell_kind K A.cell))
      (none_second (unknown_stored K A.line A.cell) (mismatch_at A.line (insn_mismatch (known_in K) A (cell_kind K A.cell))) here)))
      (insns_typed As (All-tail (IsInsn K) A As all) (none_second (insn_refusal K (known_in K) A) (insns_refusal K (known_in K) As) e))

  used_or : (b q : Bool) (m : Option Mismatch) → cond b None (mismatch_at 0 m) ≡ None → (m ≡ None → q ≡ true) → (b || q) ≡ true
  used_or true q m e h = refl
  used_or false q m e h = h (no_fault 0 m e)

  body_typed : (r : SubstRule) → IsRule K r → body_mismatch (known_in K) r ≡ None → rule_typed K r ≡ true
  body_typed r is e =
      let all = agrees (in_rule K) (kinds_in K) (known_in K) (cells_same (length K.rules)) cell_has (rules_agree (length K.rules)) r.body (r.params ++ K.params) is.body in
      all.has (unwrap_or (typing_of (kinds_in K) r.body).first I32) ∙ ap is_none (ap (λ o. (judged_of (known_in K) r.body).fault (unwrap_or o I32)) all.first ∙ e)

  rules_typed_from : (at : ℕ) (rs : List SubstRule) → All (IsRule K) rs → rules_refusal K (known_in K) at rs ≡ None → rules_typed K at rs ≡ true
  rules_typed_from at [] all e = refl
  rules_typed_from at (r ∷ rs) all e =
      let own = cond (is_among (used_rules K) at) None (mismatch_at 0 (body_mismatch (known_in K) r)) in
      both (is_among (used_rules K) at || rule_typed K r) (rules_typed K (at + 1) rs)
      (used_or (is_among (used_rules K) at) (rule_typed K r) (body_mismatch (known_in K) r) (none_first own (rules_refusal K (known_in K) (at + 1) rs) e) (body_typed r (All-head (IsRule K) r rs all)))
      (rules_typed_from (at + 1) rs (All-tail (IsRule K) r rs all) (none_second own (rules_refusal K (known_in K) (at + 1) rs) e))

pub typed : (K : Kernel) → IsFormed K → kinds_refusal K (known_in K) ≡ None → IsTyped K
typed K formed e =
    let later = none_second (insns_refusal K (known_in K) K.insns) (option_or (temps_refusal K.temps) (rules_refusal K (known_in K) 0 K.rules)) e in
    let known = temps_known K.temps (none_first (temps_refusal K.temps) (rules_refusal K (known_in K) 0 K.rules) later) in
    record {
      temps = known;
      insns = insns_typed K formed known K.insns formed.insns (none_first (insns_refusal K (known_in K) K.insns) (option_or (temps_refusal K.temps) (rules_refusal K (known_in K) 0 K.rules)) e);
      rules = rules_typed_from K formed known 0 K.rules formed.rules (none_second (temps_refusal K.temps) (rules_refusal K (known_in K) 0 K.rules) later);
    }
