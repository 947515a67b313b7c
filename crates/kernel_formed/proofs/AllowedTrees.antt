-- What is sound may stand wherever all that it mentions is in scope.
use Rattle.std.proofs.Common.{◌≡◌, ℕ, pos, Bool, true, false, ◌&&◌, nat_lt, List, [], ◌∷◌, ◌++◌, length, Option, Some, None, refl, sym, ap, subst, ◌∙◌}
use Rattle.std.specs.List.{list_all}
use Rattle.std.proofs.lemmas.Bool.{and_from, and_parts}
use Rattle.std.proofs.lemmas.List.Folds.{list_all-append}
use Rattle.wrap_words.specs.declared.kind.Kind.{Kind}
use Rattle.affine_rows.specs.declared.quasi.Quasi.{Quasi}
use Rattle.expr_tree.specs.declared.tree.Cell.{Cell}
use Rattle.expr_tree.specs.declared.tree.Op.{Op}
use Rattle.expr_tree.specs.declared.tree.Rel.{Rel}
use Rattle.expr_tree.specs.declared.tree.Rel.TheVariants as rel
use Rattle.expr_tree.specs.declared.tree.Expr.{Expr}
use Rattle.expr_tree.specs.declared.tree.Node.TheOpen.{Node-F}
use Rattle.expr_tree.specs.declared.tree.Node.TheVariants as node
use Rattle.expr_tree.specs.declared.tree.Test.TheVariants as test
use Rattle.expr_tree.specs.Rewritten.{tree_of}
use Rattle.expr_tree.specs.Scenes.{is_among, each_var, mentions_only}
use Rattle.expr_tree.specs.Meaning.{combines}
use Rattle.expr_tree.proofs.Made.{made-Literal, made-Leaf, made-Read, made-Call, made-Neg, made-Inv, made-Shl, made-Shr, made-Bin, made-Pick, made-Cast, made-Fold, made-Words, made-Index, made-All, made-Any, made-Not}
use Rattle.kernel_grammar.specs.declared.item.Relation.TheVariants as relation
use Rattle.kernel_grammar.specs.declared.step.Prefix.{Prefix}
use Rattle.kernel_grammar.specs.declared.step.Prefix.TheVariants.{Not, Negate, Invert}
use Rattle.kernel_grammar.specs.declared.step.Infix.{Infix}
use Rattle.kernel_grammar.specs.declared.step.Infix.TheVariants as infixed
use Rattle.kernel_grammar.specs.declared.step.Extreme.TheVariants.{Min, Max}
use Rattle.kernel_grammar.specs.declared.step.Folding.{Folding}
use Rattle.kernel_grammar.specs.declared.step.Folding.TheVariants as folding
use Rattle.kernel_ir.specs.Mentions.{Allowed, node_allowed, test_allowed, is_allowed, is_allowed_test}
use Rattle.untyped.specs.declared.tree.Untyped.{Untyped}
use Rattle.untyped.specs.declared.tree.Term.TheVariants as term
use Rattle.untyped.specs.Indexes.{one}
use Rattle.untyped.specs.Exprs.{Made, no_expr, no_test, value_made, prefix_made, shift_by, folding_op, infix_expr, joint_test, op_of, joint_of, words_test, index_test, compared, term_made, made_of, expr_of, test_of}
use Rattle.untyped.proofs.Layers.{at-Index, at-Literal, at-Read, at-Use, at-Prefix, at-Infix, at-ShiftLeft, at-ShiftRight, at-Cast, at-Choose, at-Fold}
use Rattle.untyped_parts.specs.Mentions.{Listing, term_listed, vars_in, vars_in_all, without, mentions, bound}
use Rattle.kernel_formed.specs.Sound.{Meant, Permits, IsScoped, term_sound, sound}
use Rattle.kernel_formed.proofs.Scopes.{first_part, second_part, inner_part, inames_new, scoped_as}
use Rattle.kernel_formed.proofs.FormSums.{vars_test, constant_passes}
use Rattle.kernel_formed.proofs.BoundNames.{binding}
use Rattle.kernel_formed.proofs.TreeCases.{each}

-- ---- what is made

combining : (how : Folding) → combines (folding_op how) ≡ true
combining folding.Sum = refl
combining folding.Product = refl
combining (folding.Extreme Min) = refl
combining (folding.Extreme Max) = refl

-- how variables are listed that are mentioned
abbrev pub mentioning : Listing
mentioning = record { index = vars_in; read = vars_in_all; call = λ rule arguments. vars_in_all arguments; fold = without }

abbrev Scoped : Type 0
Scoped = List ℕ → Bool

forms_within : (scope : List ℕ) (fs : List Quasi) → list_all (is_among scope) (vars_in_all fs) ≡ true → list_all (mentions_only scope) fs ≡ true
forms_within scope [] h = refl
forms_within scope (f ∷ fs) h =
    let parts = and_parts _ _ (sym (list_all-append (is_among scope) (vars_in f) (vars_in_all fs)) ∙ h) in
    and_from (mentions_only scope f) (list_all (mentions_only scope) fs) (vars_test (is_among scope) f ∙ parts.0) (forms_within scope fs parts.1)

module _ (m : Meant) (w : Allowed) (may : Permits m w) where
  abbrev nd : Node-F Scoped Scoped Scoped → Scoped
  nd = node_allowed w

  -- both may stand in this scope, and the form mentions only what is in it
  record Stands (scope : List ℕ) (a : Made) : Type 0 where
    expr : is_allowed w a.expr scope ≡ true
    test : is_allowed_test w a.test scope ≡ true
    form : (f : Quasi) → a.form ≡ Some f → mentions_only scope f ≡ true

  at : (scope : List ℕ) (x y : Scoped) → x ≡ y → y scope ≡ true → x scope ≡ true
  at scope x y e h = ap (λ (f : Scoped). f scope) e ∙ h

  module _ (scope : List ℕ) where
    leaf_stands : (f : Quasi) → mentions_only scope f ≡ true → is_allowed w (tree_of (node.Leaf f)) scope ≡ true
    leaf_stands f h = at scope (is_allowed w (tree_of (node.Leaf f))) _ (made-Leaf Scoped Scoped nd test_allowed f) h

    index_stands : (r : Rel) (f g : Quasi) → mentions_only scope f ≡ true → mentions_only scope g ≡ true → is_allowed_test w (test.Index r f g) scope ≡ true
    index_stands r f g h k =
        at scope (is_allowed_test w (test.Index r f g)) _ (made-Index Scoped Scoped nd test_allowed r f g)
        (and_from (mentions_only scope f) (mentions_only scope g) h k)

    no_expr_stands : is_allowed w no_expr scope ≡ true
    no_expr_stands = leaf_stands one (constant_passes (is_among scope) (pos 1))

    no_test_stands : is_allowed_test w no_test scope ≡ true
    no_test_stands = index_stands rel.Equal one one (constant_passes (is_among scope) (pos 1)) (constant_passes (is_among scope) (pos 1))

    value_stands : (e : Expr) (x : Scoped) → is_allowed w e ≡ x → x scope ≡ true → Stands scope (value_made e)
    value_stands e x made h = record { expr = at scope (is_allowed w e) x made h; test = no_test_stands; form = λ f none. absurd (cc) }

    module _ (a b : Made) (h : Stands scope a) (k : Stands scope b) where
      words_stand : (r : Rel) (turned : Bool) → is_allowed_test w (words_test r turned a.expr b.expr) scope ≡ true
      words_stand r true =
          at scope (is_allowed_test w (test.Words r b.expr a.expr)) _ (made-Words Scoped Scoped nd test_allowed r b.expr a.expr)
          (and_from (is_allowed w b.expr scope) (is_allowed w a.expr scope) k.expr h.expr)
      words_stand r false =
          at scope (is_allowed_test w (test.Words r a.expr b.expr)) _ (made-Words Scoped Scoped nd test_allowed r a.expr b.expr)
          (and_from (is_allowed w a.expr scope) (is_allowed w b.expr scope) h.expr k.expr)

      indexes_stand : (r : Rel) (turned : Bool) (f g : Quasi) → mentions_only scope f ≡ true → mentions_only scope g ≡ true
          → is_allowed_test w (index_test r turned f g) scope ≡ true
      indexes_stand r true f g p q = index_stands r g f q p
      indexes_stand r false f g p q = index_stands r f g p q

      compared_stands : (r : Rel) (turned : Bool) (f g : Option Quasi) → a.form ≡ f → b.form ≡ g
          → is_allowed_test w (compared r turned f g a.expr b.expr) scope ≡ true
      compared_stands r turned (Some f) (Some g) e d = indexes_stand r turned f g (h.form f e) (k.form g d)
      compared_stands r turned (Some f) None e d = words_stand r turned
      compared_stands r turned None g e d = words_stand r turned

      joint_stands : (o : Infix) → is_allowed_test w (joint_test (joint_of o) a b) scope ≡ true
      joint_stands infixed.Or =
          at scope (is_allowed_test w (test.Any a.test b.test)) _ (made-Any Scoped Scoped nd test_allowed a.test b.test)
          (and_from (is_allowed_test w a.test scope) (is_allowed_test w b.test scope) h.test k.test)
      joint_stands infixed.And =
          at scope (is_allowed_test w (test.All a.test b.test)) _ (made-All Scoped Scoped nd test_allowed a.test b.test)
          (and_from (is_allowed_test w a.test scope) (is_allowed_test w b.test scope) h.test k.test)
      joint_stands (infixed.Compare relation.LessEqual) = compared_stands rel.LessEqual false a.form b.form refl refl
      joint_stands (infixed.Compare relation.Less) = compared_stands rel.Less false a.form b.form refl refl
      joint_stands (infixed.Compare relation.GreaterEqual) = compared_stands rel.LessEqual true a.form b.form refl refl
      joint_stands (infixed.Compare relation.Greater) = compared_stands rel.Less true a.form b.form refl refl
      joint_stands (infixed.Compare relation.Equal) = compared_stands rel.Equal false a.form b.form refl refl
      joint_stands infixed.NotEqual = compared_stands rel.NotEqual false a.form b.form refl refl
      joint_stands _ = no_test_stands

      operation_stands : (o : Option Op) → is_allowed w (infix_expr o a.expr b.expr) scope ≡ true
      operation_stands None = no_expr_stands
      operation_stands (Some o) =
          at scope (is_allowed w (tree_of (node.Bin o a.expr b.expr))) _ (made-Bin Scoped Scoped nd test_allowed o a.expr b.expr)
          (and_from (is_allowed w a.expr scope) (is_allowed w b.expr scope) h.expr k.expr)

      infix_stands : (o : Infix) → Stands scope (record { expr = infix_expr (op_of o) a.expr b.expr; test = joint_test (joint_of o) a b; form = None })
      infix_stands o = record { expr = operation_stands (op_of o); test = joint_stands o; form = λ f none. absurd (cc) }

    prefix_stands : (o : Prefix) (a : Made) → Stands scope a → Stands scope (prefix_made o a)
    prefix_stands Not a h =
        let denied = at scope (is_allowed_test w (test.Not a.test)) _ (made-Not Scoped Scoped nd test_allowed a.test) h.test in
        record { expr = no_expr_stands; test = denied; form = λ f none. absurd (cc) }
    prefix_stands Negate a h = value_stands (tree_of (node.Neg a.expr)) _ (made-Neg Scoped Scoped nd test_allowed a.expr) h.expr
    prefix_stands Invert a h = value_stands (tree_of (node.Inv a.expr)) _ (made-Inv Scoped Scoped nd test_allowed a.expr) h.expr

  -- ---- each expression

  abbrev Fit : Untyped → Type 0
  Fit e = (scope : List ℕ) → sound m e ≡ true → IsScoped scope e → Stands scope (made_of e)

  stands_as : (scope : List ℕ) (a b : Made) → a ≡ b → Stands scope b → Stands scope a
  stands_as scope a b e h = subst (Stands scope) (sym e) h

  mentioned_by : (scope : List ℕ) (e : Untyped) (ms : List ℕ) → mentions e ≡ ms → IsScoped scope e → list_all (is_among scope) ms ≡ true
  mentioned_by scope e ms is s = ap (list_all (is_among scope)) (sym is) ∙ s.mentions

  index_fit : (q : Quasi) (c : Bool) → Fit (record { term = term.Index q c })
  index_fit q c scope h s =
      let only : mentions_only scope q ≡ true = vars_test (is_among scope) q ∙ mentioned_by scope (record { term = term.Index q c }) (vars_in q)
      (at-Index (term_listed mentioning) q c) s in
      stands_as scope (made_of (record { term = term.Index q c })) _ (at-Index term_made q c) (record {
        expr = leaf_stands scope q only;
        test = no_test_stands scope;
        form = λ f e. (let same : q ≡ f = cc in ap (mentions_only scope) (sym same) ∙ only);
      })

  read_fit : (cell : Cell) (place : List Quasi) → Fit (record { term = term.Read cell place })
  read_fit cell place scope h s =
      let parts = and_parts (m.cell cell (length place)) (list_all (each_var m.var) place) (sym (at-Read (term_sound m) cell place) ∙ h) in
      let only = forms_within scope place (mentioned_by scope (record { term = term.Read cell place }) (vars_in_all place)
      (at-Read (term_listed mentioning) cell place) s) in
      stands_as scope (made_of (record { term = term.Read cell place })) _ (at-Read term_made cell place)
      (value_stands scope (tree_of (node.Read cell place)) _ (made-Read Scoped Scoped nd test_allowed cell place)
      (and_from (w.read cell (length place)) (list_all (mentions_only scope) place) (may.read cell (length place) parts.0) only))

  use_fit : (rule : ℕ) (arguments : List Quasi) → Fit (record { term = term.Use rule arguments })
  use_fit rule arguments scope h s =
      let parts = and_parts (m.rule rule) (list_all (each_var m.var) arguments) (sym (at-Use (term_sound m) rule arguments) ∙ h) in
      let only = forms_within scope arguments (mentioned_by scope (record { term = term.Use rule arguments }) (vars_in_all arguments)
      (at-Use (term_listed mentioning) rule arguments) s) in
      stands_as scope (made_of (record { term = term.Use rule arguments })) _ (at-Use term_made rule arguments)
      (value_stands scope (tree_of (node.Call rule arguments)) _ (made-Call Scoped Scoped nd test_allowed rule arguments)
      (and_from (w.call rule (length arguments)) (list_all (mentions_only scope) arguments) (may.call rule (length arguments) parts.0) only))

  one_fit : (scope : List ℕ) (e a : Untyped) → Fit a → sound m e ≡ sound m a → mentions e ≡ mentions a → bound e ≡ bound a → sound m e ≡ true → IsScoped scope e
      → Stands scope (made_of a)
  one_fit scope e a fit same ms bs h s = fit scope (sym same ∙ h) (scoped_as scope (mentions e) (mentions a) (bound e) (bound a) ms bs s)

  prefix_fit : (op : Prefix) (a : Untyped) → Fit a → Fit (record { term = term.Prefix op a })
  prefix_fit op a fit scope h s =
      stands_as scope (made_of (record { term = term.Prefix op a })) _ (at-Prefix term_made op a)
      (prefix_stands scope op (made_of a) (one_fit scope (record { term = term.Prefix op a }) a fit (at-Prefix (term_sound m) op a)
      (at-Prefix (term_listed mentioning) op a) (at-Prefix (term_listed binding) op a) h s))

  left_fit : (a : Untyped) (by : ℕ) → Fit a → Fit (record { term = term.ShiftLeft a by })
  left_fit a by fit scope h s =
      let part = one_fit scope (record { term = term.ShiftLeft a by }) a fit (at-ShiftLeft (term_sound m) a by) (at-ShiftLeft (term_listed mentioning) a by)
      (at-ShiftLeft (term_listed binding) a by) h s in
      stands_as scope (made_of (record { term = term.ShiftLeft a by })) _ (at-ShiftLeft term_made a by)
      (value_stands scope (tree_of (node.Shl (expr_of a) (shift_by by))) _ (made-Shl Scoped Scoped nd test_allowed (expr_of a) (shift_by by)) part.expr)

  right_fit : (a : Untyped) (by : ℕ) → Fit a → Fit (record { term = term.ShiftRight a by })
  right_fit a by fit scope h s =
      let part = one_fit scope (record { term = term.ShiftRight a by }) a fit (at-ShiftRight (term_sound m) a by) (at-ShiftRight (term_listed mentioning) a by)
      (at-ShiftRight (term_listed binding) a by) h s in
      stands_as scope (made_of (record { term = term.ShiftRight a by })) _ (at-ShiftRight term_made a by)
      (value_stands scope (tree_of (node.Shr (expr_of a) (shift_by by))) _ (made-Shr Scoped Scoped nd test_allowed (expr_of a) (shift_by by)) part.expr)

  cast_fit : (kind : Kind) (a : Untyped) → Fit a → Fit (record { term = term.Cast kind a })
  cast_fit kind a fit scope h s =
      let part = one_fit scope (record { term = term.Cast kind a }) a fit (at-Cast (term_sound m) kind a) (at-Cast (term_listed mentioning) kind a)
      (at-Cast (term_listed binding) kind a) h s in
      stands_as scope (made_of (record { term = term.Cast kind a })) _ (at-Cast term_made kind a)
      (value_stands scope (tree_of (node.Cast kind (expr_of a))) _ (made-Cast Scoped Scoped nd test_allowed kind (expr_of a)) part.expr)

  infix_fit : (op : Infix) (a b : Untyped) → Fit a → Fit b → Fit (record { term = term.Infix op a b })
  infix_fit op a b fit second scope h s =
      let parts = and_parts (sound m a) (sound m b) (sym (at-Infix (term_sound m) op a b) ∙ h) in
      let all = scoped_as scope _ (mentions a ++ mentions b) _ (bound a ++ bound b) (at-Infix (term_listed mentioning) op a b)
      (at-Infix (term_listed binding) op a b) s in
      stands_as scope (made_of (record { term = term.Infix op a b })) _ (at-Infix term_made op a b)
      (infix_stands scope (made_of a) (made_of b) (fit scope parts.0 (first_part scope (mentions a) (mentions b) (bound a) (bound b) all))
      (second scope parts.1 (second_part scope (mentions a) (mentions b) (bound a) (bound b) all)) op)

  choose_fit : (t a b : Untyped) → Fit t → Fit a → Fit b → Fit (record { term = term.Choose t a b })
  choose_fit t a b fit second third scope h s =
      let parts = and_parts (sound m t) (sound m a && sound m b) (sym (at-Choose (term_sound m) t a b) ∙ h) in
      let later = and_parts (sound m a) (sound m b) parts.1 in
      let all = scoped_as scope _ (mentions t ++ (mentions a ++ mentions b)) _ (bound t ++ (bound a ++ bound b)) (at-Choose (term_listed mentioning) t a b)
      (at-Choose (term_listed binding) t a b) s in
      let rest = second_part scope (mentions t) (mentions a ++ mentions b) (bound t) (bound a ++ bound b) all in
      let truth = fit scope parts.0 (first_part scope (mentions t) (mentions a ++ mentions b) (bound t) (bound a ++ bound b) all) in
      let first = second scope later.0 (first_part scope (mentions a) (mentions b) (bound a) (bound b) rest) in
      let last = third scope later.1 (second_part scope (mentions a) (mentions b) (bound a) (bound b) rest) in
      stands_as scope (made_of (record { term = term.Choose t a b })) _ (at-Choose term_made t a b)
      (value_stands scope (tree_of (node.Pick (test_of t) (expr_of a) (expr_of b))) _
      (made-Pick Scoped Scoped nd test_allowed (test_of t) (expr_of a) (expr_of b))
      (and_from (is_allowed_test w (test_of t) scope) (is_allowed w (expr_of a) scope && is_allowed w (expr_of b) scope) truth.test
      (and_from (is_allowed w (expr_of a) scope) (is_allowed w (expr_of b) scope) first.expr last.expr)))

  fold_fit : (how : Folding) (inames : List ℕ) (a : Untyped) → Fit a → Fit (record { term = term.Fold how inames a })
  fold_fit how inames a fit scope h s =
      let parts = and_parts (nat_lt 0 (length inames)) (list_all m.iname inames && sound m a) (sym (at-Fold (term_sound m) how inames a) ∙ h) in
      let later = and_parts (list_all m.iname inames) (sound m a) parts.1 in
      let all = scoped_as scope _ (without inames (mentions a)) _ (inames ++ bound a) (at-Fold (term_listed mentioning) how inames a)
      (at-Fold (term_listed binding) how inames a) s in
      let part = fit (scope ++ inames) later.1 (inner_part scope inames (mentions a) (bound a) all) in
      stands_as scope (made_of (record { term = term.Fold how inames a })) _ (at-Fold term_made how inames a)
      (value_stands scope (tree_of (node.Fold (folding_op how) inames (expr_of a))) _
      (made-Fold Scoped Scoped nd test_allowed (folding_op how) inames (expr_of a))
      (and_from (combines (folding_op how)) (w.fold scope inames && is_allowed w (expr_of a) (scope ++ inames)) (combining how)
      (and_from (w.fold scope inames) (is_allowed w (expr_of a) (scope ++ inames))
      (may.fold scope inames parts.0 later.0 (inames_new scope inames (without inames (mentions a)) (bound a) all)) part.expr)))

  fits : (e : Untyped) → Fit e
  fits = each Fit (record {
    index = index_fit;
    literal = λ n scope h s. stands_as scope (made_of (record { term = term.Literal n })) _ (at-Literal term_made n)
        (value_stands scope (tree_of (node.Literal n)) _ (made-Literal Scoped Scoped nd test_allowed n) refl);
    read = read_fit;
    uses = use_fit;
    before = prefix_fit;
    between = infix_fit;
    shift_left = left_fit;
    shift_right = right_fit;
    cast = cast_fit;
    choose = choose_fit;
    fold = fold_fit;
  })

  pub stands_in : (e : Untyped) (scope : List ℕ) → sound m e ≡ true → IsScoped scope e → is_allowed w (expr_of e) scope ≡ true
  stands_in e scope h s = (fits e scope h s).expr

  pub test_stands_in : (e : Untyped) (scope : List ℕ) → sound m e ≡ true → IsScoped scope e → is_allowed_test w (test_of e) scope ≡ true
  test_stands_in e scope h s = (fits e scope h s).test
