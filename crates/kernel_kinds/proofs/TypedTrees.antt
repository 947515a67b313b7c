-- A kernel whose trees are not refused for kinds is not refused either.
use Rattle.std.proofs.Common.{◌≡◌, ℕ, zero, suc, ◌+◌, ◌<◌, Bool, true, false, cond, is_some, List, [], ◌∷◌, ◌++◌, map, flat_map, find, All, length, slice_get, get_or, drop, Option, Some, None, unwrap_or, refl, sym, ap, ap₂, subst, ◌∙◌, ⊎_elim, arith}
use Rattle.std.proofs.Math.Path.{fun_ext}
use Rattle.std.proofs.lemmas.Bool.{true≢false}
use Rattle.std.proofs.lemmas.Option.{slice_get-map}
use Rattle.std.proofs.lemmas.List.{length-map}
use Rattle.std.specs.List.{list_any}
use Rattle.std.specs.Option.{option_map}
use Rattle.wrap_words.specs.declared.kind.Kind.{Kind}
use Rattle.wrap_words.specs.declared.kind.Kind.TheVariants.{I32}
use Rattle.expr_tree.specs.declared.tree.Cell.{Cell}
use Rattle.expr_tree.specs.declared.tree.Cell.TheVariants.{Array, Temp}
use Rattle.expr_tree.specs.declared.tree.Expr.{Expr}
use Rattle.expr_tree.specs.Scenes.{is_among}
use Rattle.expr_tree.specs.Value.{first_of_two}
use Rattle.std.proofs.lemmas.List.Elements.{All-head, All-tail}
use Rattle.kernel_ir.specs.Kinds as kinds
use Rattle.kernel_ir.specs.Mentions as mentions
use Rattle.kernel_ir.specs.Mentions.{has_cell, is_count, listed, listed_in, shape_length, temp_length}
use Rattle.kernel_ir.specs.declared.kernel.Array as array
use Rattle.kernel_ir.specs.Valid as valid
use Rattle.kernel_ir.specs.declared.fault.Refusal.{Refusal}
use Rattle.kernel_ir.specs.declared.kernel.Insn.{Insn}
use Rattle.kernel_ir.specs.declared.kernel.Kernel.{Kernel}
use Rattle.kernel_ir.specs.declared.kernel.SubstRule.{SubstRule}
use Rattle.kernel_ir.specs.declared.kernel.Temp as temp
use Rattle.kernel_limits.specs.Asked.{first_of, first_in}
use Rattle.kind_faults.specs.declared.faults.Mismatch.{Mismatch}
use Rattle.kind_faults.specs.declared.leads.Leading.{Leading}
use Rattle.type_infer.specs.Inferred.{inferred, is_temp, kind_by, kind_to, leading_kind, own_kind, with_kinds}
use Rattle.type_infer.specs.Inferred as infer
use Rattle.type_infer.specs.Judged as judged
use Rattle.type_infer.specs.Leads as lead
use Rattle.type_infer.specs.Typing as typing
use Rattle.type_infer.specs.Typing.{kind_unknown, mismatch_at}
use Rattle.type_infer.specs.Orders.{reached, used_by}
use Rattle.type_infer.proofs.Marks.{among_flat, flat_all}
use Rattle.type_infer.proofs.TempKinds.{same_kinds}
use Rattle.type_infer.proofs.Walks.{among_cases, among_left, among_right, or_cases, same_number}
use Rattle.untyped.specs.Asked.{Known, asked_of}
use Rattle.untyped.specs.Exprs.{expr_of, test_of}
use Rattle.untyped.specs.declared.tree.Untyped.{Untyped}
use Rattle.untyped_parts.specs.Leads.{leading_of}
use Rattle.untyped_parts.specs.declared.trees.InsnTree.{InsnTree}
use Rattle.untyped_parts.specs.declared.trees.RuleTree.{RuleTree}
use Rattle.kernel_kinds.specs.Asked.{asked_to, known_of, known_with, rule_asked}
use Rattle.kernel_kinds.specs.Calls.{calls, calls_in, calls_in_insn, rules_in, uses_of, used_rules}
use Rattle.kernel_kinds.specs.Kinds.{body_fault, insn_fault, insn_refusal, rule_refusal, rules_refusal, test_fault, unknown_at, unknown_stored}
use Rattle.kernel_kinds.specs.Laws.{IsInsnOf, AreInsnsOf, IsMadeOf, TypedByTrees, has_kind}
use Rattle.kernel_kinds.specs.Leads.{body_leading, cell_kind, leading_to, stored_leading, value_leading}
use Rattle.kernel_kinds.proofs.Within.{true_or_false}
use Rattle.kernel_kinds.proofs.FaultlessUses.{In, both_kept, keeps, turned_kept}
use Rattle.kernel_kinds.proofs.Faultless.{Fits, Matches, behind, both_none, none_first, none_second, some_fault, sound}

-- ---- refusals that are none

first_none : (f g : Option Refusal) → first_of f g ≡ None → f ≡ None
first_none None g e = refl
first_none (Some r) g e = e

second_none : (f g : Option Refusal) → first_of f g ≡ None → g ≡ None
second_none None g e = e
second_none (Some r) g e = absurd cc

no_fault : (line : ℕ) (m : Option Mismatch) → mismatch_at line m ≡ None → m ≡ None
no_fault line None e = refl
no_fault line (Some m) e = absurd cc

no_refusal : (line : ℕ) (m : Option Mismatch) → m ≡ None → mismatch_at line m ≡ None
no_refusal line m e = ap (mismatch_at line) e

known_if : (line : ℕ) (name : List ℕ) (k : Option Kind) → kind_unknown line name k ≡ None → is_some k ≡ true
known_if line name None e = absurd cc
known_if line name (Some k) e = refl

unknown_none : (line : ℕ) (name : List ℕ) (k : Option Kind) → is_some k ≡ true → kind_unknown line name k ≡ None
unknown_none line name None e = absurd (true≢false (sym e))
unknown_none line name (Some k) e = refl

-- ---- a kernel with other kinds

with_kinds_at : (kind : ℕ → Option Kind) (at : ℕ) (ts : List temp.Temp) (n : ℕ)
    → slice_get (with_kinds kind at ts) n ≡ option_map (λ (t : temp.Temp). record t { kind = kind (at + n) }) (slice_get ts n)
with_kinds_at kind at [] n = refl
with_kinds_at kind at (t ∷ ts) zero = let is : at ≡ at + 0 = omega arith in ap (λ m. Some (record t { kind = kind m })) is
with_kinds_at kind at (t ∷ ts) (suc n) = let is : (at + 1) + n ≡ at + suc n = omega arith in
    with_kinds_at kind (at + 1) ts n ∙ ap (λ m. option_map (λ (t : temp.Temp). record t { kind = kind m }) (slice_get ts n)) is

kind_there : (o : Option temp.Temp) (k : Option Kind) → (o ≡ None → k ≡ None) → kinds.temp_kind (option_map (λ (t : temp.Temp). record t { kind = k }) o) ≡ k
kind_there None k h = sym (h refl)
kind_there (Some t) k h = refl

unknown_there : (line : ℕ) (o : Option temp.Temp) (k : Option Kind)
    → typing.unknown_at line (option_map (λ (t : temp.Temp). record t { kind = k }) o) ≡ unknown_at line o k
unknown_there line None k = refl
unknown_there line (Some t) k = refl

none_without : (K : Kernel) (stored : ℕ → Option Leading) (n t : ℕ) → slice_get K.temps t ≡ None → kind_to K stored n t ≡ None
none_without K stored zero t e = refl
none_without K stored (suc n) t e = ap (λ o. own_kind o (leading_kind K (kind_to K stored n) (stored t))) e

temps_accepted : (kind : ℕ → Option Kind) (at : ℕ) (ts : List temp.Temp) → ((n : ℕ) → n < length ts → is_some (kind (at + n)) ≡ true)
    → typing.temps_refusal (with_kinds kind at ts) ≡ None
temps_accepted kind at [] each = refl
temps_accepted kind at (t ∷ ts) each =
    let is : at + 0 ≡ at = omega arith in
    both_none _ _ (unknown_none 0 t.name (kind at) (subst (λ m. is_some (kind m) ≡ true) is (each 0 (omega arith))))
    (temps_accepted kind (at + 1) ts (λ n h. let later : at + suc n ≡ (at + 1) + n = omega arith in
    subst (λ m. is_some (kind m) ≡ true) later (each (suc n) (omega (arith, h)))))

-- ---- rules by their bodies

some_same : {X : Type 0} (x y : X) → Some x ≡ Some y → x ≡ y
some_same x y e = ap (λ o. unwrap_or o x) e

-- ---- what is there

array_there : (o : Option array.Array) (m : ℕ) → is_count (shape_length o) m ≡ true → is_some (kinds.array_kind o) ≡ true
array_there None m e = absurd (true≢false (sym e))
array_there (Some a) m e = refl

temp_there : (line : ℕ) (o : Option temp.Temp) (k : Option Kind) (m : ℕ) → is_count (temp_length o) m ≡ true → unknown_at line o k ≡ None → is_some k ≡ true
temp_there line None k m e h = absurd (true≢false (sym e))
temp_there line (Some t) k m e h = known_if line t.name k h

unknown_known : (line : ℕ) (o : Option temp.Temp) (k : Option Kind) → (o ≡ None → ⊥) → unknown_at line o k ≡ None → is_some k ≡ true
unknown_known line None k there e = absurd (there refl)
unknown_known line (Some t) k there e = known_if line t.name k e

some_of : (o : Option Kind) → is_some o ≡ true → (k : Kind) × (o ≡ Some k)
some_of None e = absurd (true≢false (sym e))
some_of (Some k) e = (k, refl)

not_past : {X : Type 0} (xs : List X) (i : ℕ) → i < length xs → slice_get xs i ≡ None → ⊥
not_past [] i h e = omega (arith, h)
not_past (x ∷ xs) zero h e = absurd cc
not_past (x ∷ xs) (suc i) h e = not_past xs i (omega (arith, h)) e

some_first : (k other : Option Kind) → is_some k ≡ true → is_some (first_of_two k other) ≡ true
some_first None other e = absurd (true≢false (sym e))
some_first (Some k) other e = refl

own_has : (o : Option temp.Temp) (other : Option Kind) → has_kind o ≡ true → is_some (own_kind o other) ≡ true
own_has None other e = absurd (true≢false (sym e))
own_has (Some t) other e = some_first t.kind other e

own_known : (K : Kernel) (stored : ℕ → Option Leading) (n t : ℕ) → t < n → has_kind (slice_get K.temps t) ≡ true → is_some (kind_to K stored n t) ≡ true
own_known K stored zero t less e = absurd (omega (arith, less))
own_known K stored (suc n) t less e = own_has (slice_get K.temps t) _ e

picked : {X Y Z : Type 0} (f : Option X → Z) (g : Option Y → Z) (x : X) (y : Y) (o : Option X) (p : Option Y) (b : Bool) → f (Some x) ≡ g (Some y) → f o ≡ g p
    → f (cond b (Some x) o) ≡ g (cond b (Some y) p)
picked f g x y o p true here later = here
picked f g x y o p false here later = later

unless_used : (b : Bool) (m : Option Mismatch) → m ≡ None → cond b None (mismatch_at 0 m) ≡ None
unless_used true m e = refl
unless_used false m e = ap (mismatch_at 0) e

abbrev tree_uses : Option RuleTree → List ℕ
tree_uses None = []
tree_uses (Some t) = rules_in (calls t.body)

used_at : (rules : List RuleTree) (r : ℕ) → used_by (uses_of rules) r ≡ tree_uses (slice_get rules r)
used_at [] r = refl
used_at (t ∷ rules) zero = refl
used_at (t ∷ rules) (suc r) = used_at rules r

flat_in : (P Q : ℕ → Type 0) (f g : ℕ → List ℕ) → ((r : ℕ) → P r → In Q (f r) (g r)) → (us vs : List ℕ) → In P us vs → In Q (flat_map f us) (flat_map g vs)
flat_in P Q f g each us vs below = flat_all (λ c. (is_among (flat_map g vs) c ≡ true) × Q c) f us
    (λ r among c used. let there = below r among in let kept = each r there.1 c used in (among_flat g vs r c there.0 kept.0, kept.1))

module _ (K : Kernel) (rules : List RuleTree) (insns : List InsnTree) (made : IsMadeOf K rules insns) where
  abbrev kind : ℕ → Option Kind
  kind = kind_by K (stored_leading rules insns)

  -- the kernel with the kinds that the trees give
  abbrev J : Kernel
  J = record K { temps = with_kinds kind 0 K.temps }

  cells_same : (c : Cell) → kinds.cell_kind J c ≡ cell_kind K rules insns c
  cells_same (Array n) = refl
  cells_same (Temp n) = ap kinds.temp_kind (with_kinds_at kind 0 K.temps n)
      ∙ (let is : 0 + n ≡ n = omega arith in ap (λ m. kinds.temp_kind (option_map (λ (t : temp.Temp). record t { kind = kind m }) (slice_get K.temps n))) is
      ∙ kind_there (slice_get K.temps n) (kind n) (none_without K (stored_leading rules insns) (length K.temps) n))

  bodies_at : (r : ℕ) → option_map (λ (s : SubstRule). s.body) (slice_get K.rules r) ≡ option_map (λ (t : RuleTree). expr_of t.body) (slice_get rules r)
  bodies_at r = sym (slice_get-map (λ (s : SubstRule). s.body) K.rules r)
      ∙ (ap (λ bodies. slice_get bodies r) made.bodies ∙ slice_get-map (λ (t : RuleTree). expr_of t.body) rules r)

  abbrev v : ℕ → judged.Known
  v m = judged.known_with J (judged.judged_to J m)

  abbrev w : ℕ → Known
  w m = known_with (cell_kind K rules insns) (asked_to (cell_kind K rules insns) rules m)

  abbrev c : ℕ → ℕ → Option Leading
  c m = lead.leading_to K.rules m

  abbrev d : ℕ → ℕ → Option Leading
  d m = leading_to rules m

  abbrev UsesFit : ℕ → Type 0
  UsesFit m = (rule : ℕ) (k : Kind) → ((w m).call rule).value.fault k ≡ None → Fits ((v m).call rule) ((w m).call rule).value (c m rule) (d m rule) k

  no_test_of : (m : ℕ) (o : Option RuleTree) (k : Kind) → (rule_asked (w m) o).test k ≡ None → ⊥
  no_test_of m None k e = some_fault _ e
  no_test_of m (Some r) k e = behind ((asked_of (w m) r.body).test k) _ e

  no_test : (m rule : ℕ) (k : Kind) → ((w m).call rule).test k ≡ None → ⊥
  no_test zero rule k e = some_fault _ e
  no_test (suc m) rule k e = no_test_of m (slice_get rules rule) k e

  matches : (m : ℕ) → UsesFit m → Matches (v m) (w m) (c m) (d m)
  matches m fit = record { cells = cells_same; uses = fit; tests = no_test m }

  body_fits : (m : ℕ) → UsesFit m → (o : Option SubstRule) (p : Option RuleTree)
      → option_map (λ (s : SubstRule). s.body) o ≡ option_map (λ (t : RuleTree). expr_of t.body) p → (k : Kind)
      → (rule_asked (w m) p).value.fault k ≡ None
      → Fits (judged.rule_judged (v m) o) (rule_asked (w m) p).value (lead.rule_leading (c m) o) (body_leading (d m) p) k
  body_fits m fit o None same k e = absurd (some_fault _ e)
  body_fits m fit None (Some r) same k e = absurd cc
  body_fits m fit (Some s) (Some r) same k e =
      subst (λ b. Fits (judged.judged_of (v m) b) (asked_of (w m) r.body).value (lead.leading_of (c m) b) (leading_of (d m) r.body) k)
      (sym (some_same s.body (expr_of r.body) same))
      ((sound (v m) (w m) (c m) (d m) (matches m fit) r.body).value k e)

  uses_fit : (m : ℕ) → UsesFit m
  uses_fit zero rule k e = absurd (some_fault _ e)
  uses_fit (suc m) rule k e = body_fits m (uses_fit m) (slice_get K.rules rule) (slice_get rules rule) (bodies_at rule) k e

  abbrev M : ℕ
  M = length rules

  -- what is made of a tree, at the depth of the rules
  fits : (e : Untyped) (k : Kind) → (asked_of (w M) e).value.fault k ≡ None
      → Fits (judged.judged_of (v M) (expr_of e)) (asked_of (w M) e).value (lead.leading_of (c M) (expr_of e)) (leading_of (d M) e) k
  fits e = (sound (v M) (w M) (c M) (d M) (matches M (uses_fit M)) e).value

  test_fits : (e : Untyped) (k : Kind) → (asked_of (w M) e).test k ≡ None → judged.mismatch_of_test (v M) (test_of e) k ≡ None
  test_fits e = (sound (v M) (w M) (c M) (d M) (matches M (uses_fit M)) e).test

  same_depth : length K.rules ≡ length rules
  same_depth = sym (length-map K.rules (λ (s : SubstRule). s.body)) ∙ (ap length made.bodies ∙ length-map rules (λ (t : RuleTree). expr_of t.body))

  -- ---- instructions

  stored_same : (line : ℕ) (cell : Cell) → typing.unknown_stored J line cell ≡ unknown_stored K (w M) line cell
  stored_same line (Array n) = refl
  stored_same line (Temp n) = ap (typing.unknown_at line) (with_kinds_at kind 0 K.temps n)
      ∙ (let is : 0 + n ≡ n = omega arith in ap
      (λ m. typing.unknown_at line (option_map (λ (t : temp.Temp). record t { kind = kind m }) (slice_get K.temps n))) is
      ∙ unknown_there line (slice_get K.temps n) (kind n))

  test_accepted : (o : Option Untyped) (k : Kind) → test_fault (w M) o k ≡ None → typing.test_mismatch (v M) (option_map test_of o) k ≡ None
  test_accepted None k e = refl
  test_accepted (Some t) k e = test_fits t k e

  fault_accepted : (B : Insn) (A : InsnTree) → IsInsnOf B A → (o : Option Kind) → insn_fault (w M) A o ≡ None → typing.insn_mismatch (v M) B o ≡ None
  fault_accepted B A is None e = refl
  fault_accepted B A is (Some k) e =
      let value = none_first ((asked_of (w M) A.value).value.fault k) _ e in
      let test = none_second ((asked_of (w M) A.value).value.fault k) _ e in
      both_none _ _ (subst (λ b. (judged.judged_of (v M) b).fault k ≡ None) (sym is.value) (fits A.value k value).fault)
      (subst (λ t. typing.test_mismatch (v M) t k ≡ None) (sym is.test) (test_accepted A.test k test))

  insn_accepted : (B : Insn) (A : InsnTree) → IsInsnOf B A → insn_refusal K (w M) A ≡ None → typing.insn_refusal J (v M) B ≡ None
  insn_accepted B A is e =
      let first = first_none (unknown_stored K (w M) A.line A.cell) (mismatch_at A.line (insn_fault (w M) A (cell_kind K rules insns A.cell))) e in
      let second = no_fault A.line (insn_fault (w M) A (cell_kind K rules insns A.cell)) (second_none (unknown_stored K (w M) A.line A.cell) _ e) in
      both_none _ _ (ap₂ (typing.unknown_stored J) is.line is.cell ∙ (stored_same A.line A.cell ∙ first))
      (no_refusal B.line (typing.insn_mismatch (v M) B (kinds.cell_kind J B.cell))
      (ap (typing.insn_mismatch (v M) B) (ap (kinds.cell_kind J) is.cell ∙ cells_same A.cell) ∙ fault_accepted B A is (cell_kind K rules insns A.cell) second))

  insns_accepted : (Bs : List Insn) (As : List InsnTree) → AreInsnsOf Bs As → first_in (insn_refusal K (w M)) As ≡ None → typing.insns_refusal J (v M) Bs ≡ None
  insns_accepted [] [] are e = refl
  insns_accepted [] (A ∷ As) are e = absurd are
  insns_accepted (B ∷ Bs) [] are e = absurd are
  insns_accepted (B ∷ Bs) (A ∷ As) are e =
      both_none _ _ (insn_accepted B A are.0 (first_none (insn_refusal K (w M) A) (first_in (insn_refusal K (w M)) As) e))
      (insns_accepted Bs As are.1 (second_none (insn_refusal K (w M) A) (first_in (insn_refusal K (w M)) As) e))

  module _ (formed : valid.IsFormed K) (accepted : first_in (insn_refusal K (w M)) insns ≡ None) where
    -- ---- each stored cell has a kind

    cell_known : (line : ℕ) (cell : Cell) (m : ℕ) → has_cell K cell m ≡ true → unknown_stored K (w M) line cell ≡ None
        → is_some (cell_kind K rules insns cell) ≡ true
    cell_known line (Array n) m there e = array_there (slice_get K.arrays n) m there
    cell_known line (Temp n) m there e = temp_there line (slice_get K.temps n) (kind n) m there e

    insn_known : (B : Insn) (A : InsnTree) → IsInsnOf B A → valid.IsInsn K B → insn_refusal K (w M) A ≡ None → (k : Kind) × (insn_fault (w M) A (Some k) ≡ None)
    insn_known B A is formed_insn e =
        let first = first_none (unknown_stored K (w M) A.line A.cell) (mismatch_at A.line (insn_fault (w M) A (cell_kind K rules insns A.cell))) e in
        let second = no_fault A.line (insn_fault (w M) A (cell_kind K rules insns A.cell)) (second_none (unknown_stored K (w M) A.line A.cell) _ e) in
        let known = some_of (cell_kind K rules insns A.cell)
        (cell_known A.line A.cell (length B.place) (subst (λ z. has_cell K z (length B.place) ≡ true) is.cell formed_insn.cell) first) in
        (known.0, subst (λ o. insn_fault (w M) A o ≡ None) known.1 second)

    -- ---- temporaries

    stored_here : (t line : ℕ) (cell : Cell) → t < length K.temps → is_temp t cell ≡ true → unknown_stored K (w M) line cell ≡ None → is_some (kind t) ≡ true
    stored_here t line (Array n) less is e = absurd (true≢false (sym is))
    stored_here t line (Temp n) less is e = subst (λ z. is_some (kind z) ≡ true) (same_number n t is)
        (unknown_known line (slice_get K.temps n) (kind n)
        (λ none. not_past K.temps t less (subst (λ z. slice_get K.temps z ≡ None) (same_number n t is) none)) e)

    stored_known : (As : List InsnTree) (t : ℕ) → t < length K.temps → list_any (λ A. is_temp t A.cell) As ≡ true → first_in (insn_refusal K (w M)) As ≡ None
        → is_some (kind t) ≡ true
    stored_known [] t less is e = absurd (true≢false (sym is))
    stored_known (A ∷ As) t less is e = ⊎_elim
        (λ here. stored_here t A.line A.cell less here
        (first_none (unknown_stored K (w M) A.line A.cell) _ (first_none (insn_refusal K (w M) A) (first_in (insn_refusal K (w M)) As) e)))
        (λ later. stored_known As t less later (second_none (insn_refusal K (w M) A) (first_in (insn_refusal K (w M)) As) e))
        (or_cases (is_temp t A.cell) (list_any (λ A. is_temp t A.cell) As) is)

    temp_known : (t : ℕ) → t < length K.temps → is_some (kind t) ≡ true
    temp_known t less = ⊎_elim (λ own. own_known K (stored_leading rules insns) (length K.temps) t less own) (λ later. stored_known insns t less later accepted)
        (or_cases (has_kind (slice_get K.temps t)) (list_any (λ A. is_temp t A.cell) insns) (made.stored t less))

    -- ---- leads

    leads_found : (Bs : List Insn) (As : List InsnTree) → AreInsnsOf Bs As → All (valid.IsInsn K) Bs → first_in (insn_refusal K (w M)) As ≡ None → (t : ℕ)
        → infer.value_leading K (find (λ B. is_temp t B.cell) Bs) ≡ value_leading (d M) (find (λ A. is_temp t A.cell) As)
    leads_found [] [] are all e t = refl
    leads_found [] (A ∷ As) are all e t = absurd are
    leads_found (B ∷ Bs) [] are all e t = absurd are
    leads_found (B ∷ Bs) (A ∷ As) are all e t =
        let own = first_none (insn_refusal K (w M) A) (first_in (insn_refusal K (w M)) As) e in
        let known = insn_known B A are.0 (All-head (valid.IsInsn K) B Bs all) own in
        let fit = fits A.value known.0 (none_first ((asked_of (w M) A.value).value.fault known.0) _ known.1) in
        ap (λ z. infer.value_leading K (cond (is_temp t z) (Some B) (find (λ B. is_temp t B.cell) Bs))) are.0.cell
        ∙ picked (infer.value_leading K) (value_leading (d M)) B A (find (λ B. is_temp t B.cell) Bs) (find (λ A. is_temp t A.cell) As) (is_temp t A.cell)
        (ap₂ (λ (n : ℕ) (b : Expr). lead.leading_of (lead.leading_to K.rules n) b) same_depth are.0.value ∙ fit.lead)
        (leads_found Bs As are.1 (All-tail (valid.IsInsn K) B Bs all) (second_none (insn_refusal K (w M) A) (first_in (insn_refusal K (w M)) As) e) t)

    kinds_same : J ≡ inferred K
    kinds_same = ap (λ (f : ℕ → Option Kind). record K { temps = with_kinds f 0 K.temps })
        (fun_ext (same_kinds K (stored_leading rules insns) (infer.stored_leading K)
        (λ t less. sym (leads_found K.insns insns made.each formed.insns accepted t))))

    -- ---- the rules that are used

    abbrev Called : ℕ → ℕ → Type 0
    Called m r = (k : Kind) × (((w m).call r).value.fault k ≡ None)

    abbrev kernel_uses : ℕ → List ℕ
    kernel_uses r = map (λ c. c.0) (valid.body_calls (slice_get J.rules r))

    body_keeps : (m : ℕ) (o : Option SubstRule) (p : Option RuleTree)
        → option_map (λ (s : SubstRule). s.body) o ≡ option_map (λ (t : RuleTree). expr_of t.body) p → (k : Kind)
        → (rule_asked (w m) p).value.fault k ≡ None → In (Called m) (tree_uses p) (map (λ c. c.0) (valid.body_calls o))
    body_keeps m o None same k e = absurd (some_fault _ e)
    body_keeps m None (Some t) same k e = absurd cc
    body_keeps m (Some s) (Some t) same k e =
        subst (λ b. In (Called m) (rules_in (calls t.body)) (map (λ c. c.0) (listed mentions.calls b))) (sym (some_same s.body (expr_of t.body) same))
        ((keeps (w m) (Called m) (λ rule k e. (k, e)) (no_test m) t.body).value k e)

    reach : (n : ℕ) (us vs : List ℕ) → In (Called n) us vs → (r : ℕ) → is_among (reached (uses_of rules) n us) r ≡ true
        → is_among (valid.used_from J n vs) r ≡ true
    reach zero us vs f r h = (f r h).0
    reach (suc n) us vs f r h = ⊎_elim
        (λ first. among_left vs (valid.used_from J n (flat_map kernel_uses vs)) r (f r first).0)
        (λ later. among_right vs (valid.used_from J n (flat_map kernel_uses vs)) r (reach n (flat_map (used_by (uses_of rules)) us) (flat_map kernel_uses vs)
        (flat_in (Called (suc n)) (Called n) (used_by (uses_of rules)) kernel_uses
        (λ q asked. subst (λ z. In (Called n) z (kernel_uses q)) (sym (used_at rules q))
        (body_keeps n (slice_get K.rules q) (slice_get rules q) (bodies_at q) asked.0 asked.1)) us vs f) r later))
        (among_cases us (reached (uses_of rules) n (flat_map (used_by (uses_of rules)) us)) r h)

    test_keeps : (o : Option Untyped) (k : Kind) → test_fault (w M) o k ≡ None
        → In (Called M) (rules_in (calls_in o)) (rules_in (listed_in mentions.calls (option_map test_of o)))
    test_keeps None k e = λ r among. absurd (true≢false (sym among))
    test_keeps (Some t) k e = (keeps (w M) (Called M) (λ rule k e. (k, e)) (no_test M) t).test k e

    insn_keeps : (B : Insn) (A : InsnTree) → IsInsnOf B A → (k : Kind) → insn_fault (w M) A (Some k) ≡ None
        → In (Called M) (rules_in (calls_in_insn A)) (rules_in (listed_in mentions.calls B.test ++ listed mentions.calls B.value))
    insn_keeps B A is k e =
        subst (λ t. In (Called M) (rules_in (calls_in_insn A)) (rules_in (listed_in mentions.calls t ++ listed mentions.calls B.value))) (sym is.test)
        (subst (λ b. In (Called M) (rules_in (calls_in_insn A)) (rules_in (listed_in mentions.calls (option_map test_of A.test) ++ listed mentions.calls b)))
        (sym is.value)
        (turned_kept (w M) (Called M) (λ rule k e. (k, e)) (no_test M) (calls A.value) (calls_in A.test) (listed mentions.calls (expr_of A.value))
        (listed_in mentions.calls (option_map test_of A.test))
        ((keeps (w M) (Called M) (λ rule k e. (k, e)) (no_test M) A.value).value k (none_first ((asked_of (w M) A.value).value.fault k) _ e))
        (test_keeps A.test k (none_second ((asked_of (w M) A.value).value.fault k) _ e))))

    roots_keep : (Bs : List Insn) (As : List InsnTree) → AreInsnsOf Bs As → All (valid.IsInsn K) Bs → first_in (insn_refusal K (w M)) As ≡ None
        → In (Called M) (rules_in (flat_map calls_in_insn As)) (rules_in (flat_map (λ B. listed_in mentions.calls B.test ++ listed mentions.calls B.value) Bs))
    roots_keep [] [] are all e = λ r among. absurd (true≢false (sym among))
    roots_keep [] (A ∷ As) are all e = absurd are
    roots_keep (B ∷ Bs) [] are all e = absurd are
    roots_keep (B ∷ Bs) (A ∷ As) are all e =
        let known = insn_known B A are.0 (All-head (valid.IsInsn K) B Bs all) (first_none (insn_refusal K (w M) A) (first_in (insn_refusal K (w M)) As) e) in
        both_kept (w M) (Called M) (λ rule k e. (k, e)) (no_test M) (calls_in_insn A) (flat_map calls_in_insn As)
        (listed_in mentions.calls B.test ++ listed mentions.calls B.value)
        (flat_map (λ B. listed_in mentions.calls B.test ++ listed mentions.calls B.value) Bs) (insn_keeps B A are.0 known.0 known.1)
        (roots_keep Bs As are.1 (All-tail (valid.IsInsn K) B Bs all) (second_none (insn_refusal K (w M) A) (first_in (insn_refusal K (w M)) As) e))

    used_kept : (r : ℕ) → is_among (used_rules rules insns) r ≡ true → is_among (valid.used_rules J) r ≡ true
    used_kept r h = subst (λ n. is_among (valid.used_from J n (map (λ c. c.0) (valid.insn_calls J))) r ≡ true) (sym same_depth)
        (reach M (rules_in (flat_map calls_in_insn insns)) (map (λ c. c.0) (valid.insn_calls J)) (roots_keep K.insns insns made.each formed.insns accepted) r h)

    -- ---- rules that are not used

    body_accepted : (s : SubstRule) (t : RuleTree) → s.body ≡ expr_of t.body → body_fault (w M) t ≡ None → typing.body_mismatch (v M) s ≡ None
    body_accepted s t same e =
        let fit = fits t.body (unwrap_or (asked_of (w M) t.body).value.first I32) e in
        subst (λ b. (judged.judged_of (v M) b).fault (unwrap_or (judged.judged_of (v M) b).first I32) ≡ None) (sym same)
        (ap (λ o. (judged.judged_of (v M) (expr_of t.body)).fault (unwrap_or o I32)) fit.first ∙ fit.fault)

    rule_accepted : (at : ℕ) (s : SubstRule) (t : RuleTree) → s.body ≡ expr_of t.body → rule_refusal (w M) (is_among (used_rules rules insns) at) t ≡ None
        → cond (is_among (valid.used_rules J) at) None (mismatch_at 0 (typing.body_mismatch (v M) s)) ≡ None
    rule_accepted at s t same e = ⊎_elim
        (λ used. ap (λ b. cond b None (mismatch_at 0 (typing.body_mismatch (v M) s))) (used_kept at used))
        (λ unused. unless_used (is_among (valid.used_rules J) at) (typing.body_mismatch (v M) s)
        (body_accepted s t same (no_fault t.line (body_fault (w M) t) (sym (ap (λ b. rule_refusal (w M) b t) unused) ∙ e))))
        (true_or_false (is_among (used_rules rules insns) at))

    rules_accepted : (at : ℕ) (ss : List SubstRule) (ts : List RuleTree) → map (λ s. s.body) ss ≡ map (λ t. expr_of t.body) ts
        → rules_refusal (w M) (is_among (used_rules rules insns)) at ts ≡ None → typing.rules_refusal J (v M) at ss ≡ None
    rules_accepted at [] ts same e = refl
    rules_accepted at (s ∷ ss) [] same e = absurd (omega (arith, ap length same))
    rules_accepted at (s ∷ ss) (t ∷ ts) same e =
        both_none _ _ (rule_accepted at s t (ap (λ bodies. get_or bodies 0 s.body) same)
        (first_none (rule_refusal (w M) (is_among (used_rules rules insns) at) t) _ e))
        (rules_accepted (at + 1) ss ts (ap (drop 1) same) (second_none (rule_refusal (w M) (is_among (used_rules rules insns) at) t) _ e))

    -- ---- all

    kernel_accepted : rules_refusal (w M) (is_among (used_rules rules insns)) 0 rules ≡ None → typing.typing_refusal K ≡ None
    kernel_accepted e = subst (λ z. typing.kinds_refusal z (judged.known_in z) ≡ None) kinds_same
        (subst (λ n. typing.kinds_refusal J (judged.known_with J (judged.judged_to J n)) ≡ None) (sym same_depth)
        (both_none _ _ (insns_accepted K.insns insns made.each accepted)
        (both_none _ _ (temps_accepted kind 0 K.temps
        (λ t less. let is : t ≡ 0 + t = omega arith in subst (λ z. is_some (kind z) ≡ true) is (temp_known t less)))
        (rules_accepted 0 K.rules rules made.bodies e))))

pub typed_by_trees : TypedByTrees
typed_by_trees K rules insns formed made e =
    kernel_accepted K rules insns made formed (first_none (first_in (insn_refusal K (known_of K rules insns)) insns) _ e)
    (second_none (first_in (insn_refusal K (known_of K rules insns)) insns) _ e)
