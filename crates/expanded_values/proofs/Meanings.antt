-- Expanded expressions mean what they meant.
use Rattle.std.specs.Prelude.{◌≡◌, ℕ, zero, suc, ℤ, nat_eq, nat_le, Bool, true, false, not, ◌&&◌, ◌||◌, if◌then◌else◌, List, [], ◌∷◌, ◌++◌, map, filter, length, slice_get, Option, Some, None, unwrap_or}
use Rattle.std.specs.List.{list_all, AllByRecursion}
use Rattle.std.proofs.Common.{refl, sym, ap, ap₂, ◌∙◌, arith}
use Rattle.std.proofs.lemmas.List.{length-map}
use Rattle.wrap_words.specs.Words.{word_of}
use Rattle.affine_rows.specs.declared.quasi.Quasi.{Quasi}
use Rattle.affine_rows.specs.Rows.{Env}
use Rattle.affine_rows.specs.Forms.{form_at}
use Rattle.expr_tree.specs.declared.tree.Cell.{Cell}
use Rattle.expr_tree.specs.declared.tree.Rel.{Rel}
use Rattle.expr_tree.specs.declared.tree.Node.TheOpen.{Node-F, Test-F}
use Rattle.expr_tree.specs.declared.tree.Node.TheVariants as node
use Rattle.expr_tree.specs.declared.tree.Test.{Test}
use Rattle.expr_tree.specs.declared.tree.Expr.{Expr}
use Rattle.expr_tree.specs.Value.{Store, Sense, TestSense, node_sense, test_sense, same_kind, compares}
use Rattle.expr_tree.specs.Scenes.{Scene, given, is_among, mentions_only, widened, choices, every_number, rows_hold, rows_over}
use Rattle.expr_tree.specs.Meaning.{World, node_meaning, test_meaning, meaning_of, meaning_of_test, reduced}
use Rattle.expr_tree.specs.Rewritten.{tree_of, rewritten, rewritten_test}
use Rattle.expr_tree.specs.Keeping.{is_made_of, test_is_made_of}
use Rattle.quasi_forms.specs.Collected.{put_form}
use Rattle.quasi_forms.specs.Placed.{vars_differ}
use Rattle.quasi_forms.proofs.Placing.{put-at}
use Rattle.quasi_forms.proofs.FloorWidths.{kept_value}
use Rattle.kernel_ir.specs.declared.kernel.Kernel.{Kernel}
use Rattle.kernel_ir.specs.declared.kernel.SubstRule.{SubstRule}
use Rattle.kernel_ir.specs.Expanded.{putting, body_at, expanding_to}
use Rattle.kernel_ir.specs.Mentions.{is_allowed}
use Rattle.kernel_ir.specs.Valid.{in_rule, params_of}
use Rattle.inst_model.specs.Running.{within_rule, points_of, rule_meaning, world_to}
use Rattle.expr_tree.proofs.Made.{made-Literal, made-Leaf, made-Read, made-Call}
use Rattle.subst_rules.proofs.Expanding.{leaf_new, end_is, test_end_is}
use Rattle.quasi_forms.proofs.Likeness.{both as split}
use Rattle.expanded_values.proofs.Passing.{equal_numbers, passes_use, passing}
use Rattle.expanded_values.proofs.Related.{Related, related, related_test}
use Rattle.expanded_values.proofs.Standing.{tree_at, layer_mentions, body_parts, is_right, no_params, insn_parts, body_made, put_made, put_new}

abbrev Meant : Type 0
Meant = Scene → Sense

abbrev MeantTest : Type 0
MeantTest = Scene → TestSense

-- ---- numbers given to variables

other_step : (params : List ℕ) (u v : ℕ) (z rest own : ℤ) (b : Bool) → nat_eq u v ≡ b → not (is_among params u) ≡ true → is_among params v ≡ true → rest ≡ own → (if b then z else rest) ≡ own
other_step params u v z rest own true e apart among h =
    absurd (let same = equal_numbers u v e in let clash : false ≡ true = sym (ap not (ap (is_among params) same ∙ among)) ∙ apart in cc)
other_step params u v z rest own false e apart among h = h

-- variables that are not given numbers keep theirs
pub given_other : (params us : List ℕ) (zs : List ℤ) (env : Env) (v : ℕ) → list_all (λ u. not (is_among params u)) us ≡ true → is_among params v ≡ true → given us zs env v ≡ env v
given_other params [] zs env v apart among = refl
given_other params (u ∷ us) [] env v apart among = refl
given_other params (u ∷ us) (z ∷ zs) env v apart among =
    let parts = split (not (is_among params u)) (list_all (λ u. not (is_among params u)) us) apart in
    other_step params u v z (given us zs env v) (env v) (nat_eq u v) refl parts.0 among (given_other params us zs env v parts.1 among)

agree_step : (u v : ℕ) (z new env : ℤ) (b rest : Bool) → (b || rest) ≡ true → (rest ≡ true → new ≡ env) → (if b then z else new) ≡ (if b then z else env)
agree_step u v z new env true rest h later = refl
agree_step u v z new env false rest h later = later h

given_agree : (us params : List ℕ) (zs : List ℤ) (env new : Env) (v : ℕ) → length us ≡ length zs → is_among (us ++ params) v ≡ true → (is_among params v ≡ true → new v ≡ env v) → given us zs new v ≡ given us zs env v
given_agree [] params zs env new v count among same = same among
given_agree (u ∷ us) params [] env new v count among same = absurd (omega (arith, count))
given_agree (u ∷ us) params (z ∷ zs) env new v count among same =
    agree_step u v z (given us zs new v) (given us zs env v) (nat_eq u v) (is_among (us ++ params) v) among (λ later. given_agree us params zs env new v (omega (arith, count)) later same)

-- ---- a rule's body at the arguments

module _ (w : World) (vars vs : List ℕ) (fs : List Quasi) (at back : Scene)
    (forms : (q : Quasi) → mentions_only vars q ≡ true → form_at at.env (put_form vs fs q) ≡ form_at back.env q)
    (uses : (rule : ℕ) (numbers : List ℤ) → w.call rule numbers at ≡ w.call rule numbers back) where
  abbrev SameAt : Meant → Meant → Type 0
  SameAt a b = a at ≡ b back

  abbrev SameTestAt : MeantTest → MeantTest → Type 0
  SameTestAt a b = a at ≡ b back

  places : (qs : List Quasi) → list_all (mentions_only vars) qs ≡ true → map (form_at at.env) (map (put_form vs fs) qs) ≡ map (form_at back.env) qs
  places [] h = refl
  places (q ∷ qs) h = let parts = split (mentions_only vars q) (list_all (mentions_only vars) qs) h in ap₂ (λ (z : ℤ) (zs : List ℤ). z ∷ zs) (forms q parts.0) (places qs parts.1)

  leaf_sense : ℤ → Sense
  leaf_sense z = record { first = None; has = λ k. true; at = λ k. word_of k z }

  read_sense : Cell → ℕ → List ℤ → Sense
  read_sense cell n zs = record { first = Some (w.store.kind cell); has = λ k. same_kind (w.store.kind cell) k && (nat_le n 8 && w.store.has cell zs); at = λ k. w.store.word cell zs }

  index_sense : Rel → ℤ → ℤ → TestSense
  index_sense rel x y = record { has = λ k. true; holds = λ k. compares rel x y }

  put_layers : Related (putting vs fs) (body_parts vars) Meant MeantTest Meant MeantTest (node_meaning w) (test_meaning w) (node_meaning w) (test_meaning w) SameAt SameTestAt
  unfolding leaf_sense read_sense index_sense
  put_layers = record {
    literal = λ n made. ap (λ (e : Expr). meaning_of w e at) (put_new vs fs (node.Literal n) (Node-F.Literal n) (node.outs-Literal n)) ∙ ap (λ (f : Meant). f at) (made-Literal Meant MeantTest (node_meaning w) (test_meaning w) n);
    leaf = λ q made. ap (λ (e : Expr). meaning_of w e at) (put_new vs fs (node.Leaf q) (Node-F.Leaf q) (node.outs-Leaf q))
        ∙ (ap (λ (f : Meant). f at) (made-Leaf Meant MeantTest (node_meaning w) (test_meaning w) (put_form vs fs q)) ∙ ap leaf_sense (forms q (sym (ap (layer_mentions vars) (node.outs-Leaf q)) ∙ made)));
    read = λ cell place made. ap (λ (e : Expr). meaning_of w e at) (put_new vs fs (node.Read cell place) (Node-F.Read cell place) (node.outs-Read cell place))
        ∙ (ap (λ (f : Meant). f at) (made-Read Meant MeantTest (node_meaning w) (test_meaning w) cell (map (put_form vs fs) place))
        ∙ ap₂ (read_sense cell) (length-map place (put_form vs fs)) (places place (sym (ap (layer_mentions vars) (node.outs-Read cell place)) ∙ made)));
    call = λ rule arguments made. ap (λ (e : Expr). meaning_of w e at) (put_new vs fs (node.Call rule arguments) (Node-F.Call rule arguments) (node.outs-Call rule arguments))
        ∙ (ap (λ (f : Meant). f at) (made-Call Meant MeantTest (node_meaning w) (test_meaning w) rule (map (put_form vs fs) arguments))
        ∙ (ap (λ (zs : List ℤ). w.call rule zs at) (places arguments (sym (ap (layer_mentions vars) (node.outs-Call rule arguments)) ∙ made)) ∙ uses rule (map (form_at back.env) arguments)));
    neg = λ a b h. ap (λ (x : Sense). node_sense at.env w.store (Node-F.Neg x)) h;
    inv = λ a b h. ap (λ (x : Sense). node_sense at.env w.store (Node-F.Inv x)) h;
    shl = λ a b by h. ap (λ (x : Sense). node_sense at.env w.store (Node-F.Shl x by)) h;
    shr = λ a b by h. ap (λ (x : Sense). node_sense at.env w.store (Node-F.Shr x by)) h;
    bin = λ op a b c d h g. ap₂ (λ (x y : Sense). node_sense at.env w.store (Node-F.Bin op x y)) h g;
    pick = λ t u a b c d f h g. ap (λ (x : TestSense). node_sense at.env w.store (Node-F.Pick x (a at) (c at))) f ∙ ap₂ (λ (x y : Sense). node_sense at.env w.store (Node-F.Pick (u back) x y)) h g;
    cast = λ kind a b h. ap (λ (x : Sense). node_sense at.env w.store (Node-F.Cast kind x)) h;
    fold = λ op inames a b made h. absurd (let clash : false ≡ true = made in cc);
    words = λ rel a b c d h g. ap₂ (λ (x y : Sense). test_sense at.env w.store (Test-F.Words rel x y)) h g;
    index = λ rel a b made more. ap₂ (index_sense rel) (forms a made) (forms b more);
    all = λ t u v x h g. ap₂ (λ (p q : TestSense). test_sense at.env w.store (Test-F.All p q)) h g;
    any = λ t u v x h g. ap₂ (λ (p q : TestSense). test_sense at.env w.store (Test-F.Any p q)) h g;
    not = λ t u h. ap (λ (p : TestSense). test_sense at.env w.store (Test-F.Not p)) h;
  }

  body_means : (e : Expr) → is_made_of (body_parts vars) e ≡ true → meaning_of w (rewritten (putting vs fs) e) at ≡ meaning_of w e back
  body_means = related (putting vs fs) (body_parts vars) Meant MeantTest Meant MeantTest (node_meaning w) (test_meaning w) (node_meaning w) (test_meaning w) SameAt SameTestAt put_layers

use_case : (base : Env) (w : World) (o : Option SubstRule) (numbers : List ℤ) (at back : Scene) → at.scope ≡ back.scope → rule_meaning base w o numbers at ≡ rule_meaning base w o numbers back
use_case base w None numbers at back e = refl
use_case base w (Some r) numbers at back e = ap (λ (scope : List ℕ). meaning_of w r.body (let x : Scene = record { scope = scope; env = given r.params numbers base } in x)) e

-- what is known of a rule of a formed kernel
pub record IsBody (K : Kernel) (r : SubstRule) : Type 0 where
  pub differ : vars_differ r.params ≡ true
  pub allowed : is_allowed (in_rule K) r.body (r.params ++ K.params) ≡ true
  pub right : is_made_of (passing (is_right K)) r.body ≡ true

module _ (K : Kernel) (base : Env) (s : Store) where
  -- the numbers of the parameters are the given ones
  abbrev Agrees : Scene → Type 0
  Agrees at = (v : ℕ) → is_among K.params v ≡ true → at.env v ≡ base v

  same_use : (n rule : ℕ) (numbers : List ℤ) (at back : Scene) → at.scope ≡ back.scope → (world_to K base s n).call rule numbers at ≡ (world_to K base s n).call rule numbers back
  same_use zero rule numbers at back e = refl
  same_use (suc n) rule numbers at back e = use_case base (world_to K base s n) (slice_get K.rules rule) numbers at back e

  use_means : (n : ℕ) (r : SubstRule) (arguments : List Quasi) (at : Scene) → IsBody K r → length r.params ≡ length arguments → Agrees at
      → meaning_of (world_to K base s n) (rewritten (putting r.params arguments) r.body) at ≡ meaning_of (world_to K base s n) r.body (within_rule base r (map (form_at at.env) arguments) at)
  use_means n r arguments at body count agrees =
      let numbers : List ℤ = map (form_at at.env) arguments in
      let enough : length r.params ≡ length numbers = count ∙ sym (length-map arguments (form_at at.env)) in
      body_means (world_to K base s n) (r.params ++ K.params) r.params arguments at (within_rule base r numbers at)
      (λ q only. put-at r.params arguments body.differ count q at.env
      ∙ kept_value (is_among (r.params ++ K.params)) (given r.params numbers base) (given r.params numbers at.env) (λ v among. given_agree r.params K.params numbers base at.env v enough among (agrees v)) q only)
      (λ rule zs. same_use n rule zs at (within_rule base r numbers at) refl)
      r.body (body_made K (r.params ++ K.params) r.body body.allowed)

  -- ---- the points of a reduction

  all_widened : (inames : List ℕ) (at : Scene) → no_params K inames ≡ true → Agrees at → (zss : List (List ℤ)) → AllByRecursion Agrees (map (widened at inames) zss)
  all_widened inames at apart agrees [] = tt
  all_widened inames at apart agrees (zs ∷ zss) = ((λ v among. given_other K.params inames zs at.env v apart among ∙ agrees v among), all_widened inames at apart agrees zss)

  at_points : (a b : Meant) → ((at : Scene) → Agrees at → a at ≡ b at) → (xs : List Scene) → AllByRecursion Agrees xs → map a xs ≡ map b xs
  at_points a b same [] all = refl
  at_points a b same (x ∷ xs) all = ap₂ (λ (y : Sense) (ys : List Sense). y ∷ ys) (same x all.0) (at_points a b same xs all.1)

  module _ (bodies : (rule : ℕ) (r : SubstRule) → slice_get K.rules rule ≡ Some r → IsBody K r) where
    abbrev Same : Meant → Meant → Type 0
    Same a b = (at : Scene) → Agrees at → a at ≡ b at

    abbrev SameTest : MeantTest → MeantTest → Type 0
    SameTest a b = (at : Scene) → Agrees at → a at ≡ b at

    abbrev MeansTo : ℕ → Type 0
    MeansTo n = (e : Expr) → is_made_of (insn_parts K) e ≡ true → (at : Scene) → Agrees at → meaning_of (world_to K base s zero) (rewritten (expanding_to K n) e) at ≡ meaning_of (world_to K base s n) e at

    abbrev first_node : Node-F Meant MeantTest Meant → Meant
    first_node = node_meaning (world_to K base s zero)

    abbrev first_test : Test-F Meant MeantTest Meant → MeantTest
    first_test = test_meaning (world_to K base s zero)

    call_case : (n rule : ℕ) (arguments : List Quasi) (o : Option SubstRule) → MeansTo n → slice_get K.rules rule ≡ o → nat_eq (length arguments) (length (params_of o)) ≡ true → (at : Scene) → Agrees at
        → meaning_of (world_to K base s zero) (unwrap_or (body_at (expanding_to K n) o arguments) (tree_of (node.Call rule arguments))) at ≡ rule_meaning base (world_to K base s n) o (map (form_at at.env) arguments) at
    call_case n rule arguments None means is right at agrees = ap (λ (f : Meant). f at) (made-Call Meant MeantTest first_node first_test rule arguments)
    call_case n rule arguments (Some r) means is right at agrees =
        let body = bodies rule r is in
        means (rewritten (putting r.params arguments) r.body) (put_made K (r.params ++ K.params) r.params arguments r.body body.right body.allowed) at agrees
        ∙ use_means n r arguments at body (sym (equal_numbers (length arguments) (length r.params) right)) agrees

    layers : (n : ℕ) → MeansTo n → Related (expanding_to K (suc n)) (insn_parts K) Meant MeantTest Meant MeantTest first_node first_test (node_meaning (world_to K base s (suc n))) (test_meaning (world_to K base s (suc n))) Same SameTest
    layers n means = record {
      literal = λ m made at agrees. ap (λ (e : Expr). meaning_of (world_to K base s zero) e at) (leaf_new (tree_at K n) (node.Literal m) (Node-F.Literal m) (node.outs-Literal m)) ∙ ap (λ (f : Meant). f at) (made-Literal Meant MeantTest first_node first_test m);
      leaf = λ q made at agrees. ap (λ (e : Expr). meaning_of (world_to K base s zero) e at) (leaf_new (tree_at K n) (node.Leaf q) (Node-F.Leaf q) (node.outs-Leaf q)) ∙ ap (λ (f : Meant). f at) (made-Leaf Meant MeantTest first_node first_test q);
      read = λ cell place made at agrees. ap (λ (e : Expr). meaning_of (world_to K base s zero) e at) (leaf_new (tree_at K n) (node.Read cell place) (Node-F.Read cell place) (node.outs-Read cell place))
          ∙ ap (λ (f : Meant). f at) (made-Read Meant MeantTest first_node first_test cell place);
      call = λ rule arguments made at agrees. ap (λ (e : Expr). meaning_of (world_to K base s zero) e at) (leaf_new (tree_at K n) (node.Call rule arguments) (Node-F.Call rule arguments) (node.outs-Call rule arguments))
          ∙ call_case n rule arguments (slice_get K.rules rule) means refl (sym (ap (passes_use (is_right K)) (node.outs-Call rule arguments)) ∙ made) at agrees;
      neg = λ a b h at agrees. ap (λ (x : Sense). node_sense at.env s (Node-F.Neg x)) (h at agrees);
      inv = λ a b h at agrees. ap (λ (x : Sense). node_sense at.env s (Node-F.Inv x)) (h at agrees);
      shl = λ a b by h at agrees. ap (λ (x : Sense). node_sense at.env s (Node-F.Shl x by)) (h at agrees);
      shr = λ a b by h at agrees. ap (λ (x : Sense). node_sense at.env s (Node-F.Shr x by)) (h at agrees);
      bin = λ op a b c d h g at agrees. ap₂ (λ (x y : Sense). node_sense at.env s (Node-F.Bin op x y)) (h at agrees) (g at agrees);
      pick = λ t u a b c d f h g at agrees. ap (λ (x : TestSense). node_sense at.env s (Node-F.Pick x (a at) (c at))) (f at agrees) ∙ ap₂ (λ (x y : Sense). node_sense at.env s (Node-F.Pick (u at) x y)) (h at agrees) (g at agrees);
      cast = λ kind a b h at agrees. ap (λ (x : Sense). node_sense at.env s (Node-F.Cast kind x)) (h at agrees);
      fold = λ op inames a b made h at agrees. ap₂ (λ (x : Sense) (xs : List Sense). reduced op x.first xs) (h at agrees)
          (at_points a b h (points_of K inames at) (all_widened inames at made agrees (filter (λ zs. rows_hold (widened at inames zs).env (rows_over K.params K.rows at.scope inames)) (choices every_number inames))));
      words = λ rel a b c d h g at agrees. ap₂ (λ (x y : Sense). test_sense at.env s (Test-F.Words rel x y)) (h at agrees) (g at agrees);
      index = λ rel a b made more at agrees. refl;
      all = λ t u v x h g at agrees. ap₂ (λ (p q : TestSense). test_sense at.env s (Test-F.All p q)) (h at agrees) (g at agrees);
      any = λ t u v x h g at agrees. ap₂ (λ (p q : TestSense). test_sense at.env s (Test-F.Any p q)) (h at agrees) (g at agrees);
      not = λ t u h at agrees. ap (λ (p : TestSense). test_sense at.env s (Test-F.Not p)) (h at agrees);
    }

    pub means_to : (n : ℕ) → MeansTo n
    means_to zero e made at agrees = ap (λ (x : Expr). meaning_of (world_to K base s zero) x at) (end_is K e)
    means_to (suc n) e made at agrees =
        related (expanding_to K (suc n)) (insn_parts K) Meant MeantTest Meant MeantTest first_node first_test (node_meaning (world_to K base s (suc n))) (test_meaning (world_to K base s (suc n))) Same SameTest (layers n (means_to n)) e made at agrees

    pub test_means_to : (n : ℕ) (t : Test) → test_is_made_of (insn_parts K) t ≡ true → (at : Scene) → Agrees at → meaning_of_test (world_to K base s zero) (rewritten_test (expanding_to K n) t) at ≡ meaning_of_test (world_to K base s n) t at
    test_means_to zero t made at agrees = ap (λ (x : Test). meaning_of_test (world_to K base s zero) x at) (test_end_is K t)
    test_means_to (suc n) t made at agrees =
        related_test (expanding_to K (suc n)) (insn_parts K) Meant MeantTest Meant MeantTest first_node first_test (node_meaning (world_to K base s (suc n))) (test_meaning (world_to K base s (suc n))) Same SameTest (layers n (means_to n)) t made at agrees
