-- Where no fault of kinds is found in a tree, the rules that it uses are used in what is made of it.
use Rattle.std.proofs.Common.{◌≡◌, ℕ, Bool, true, false, List, [], ◌∷◌, ◌++◌, length, Option, Some, None, unwrap_or, refl, sym, subst, ⊎_elim}
use Rattle.std.specs.Option.{option_or}
use Rattle.std.proofs.lemmas.Bool.{true≢false}
use Rattle.std.proofs.lemmas.List.{map-append}
use Rattle.wrap_words.specs.declared.kind.Kind.{Kind}
use Rattle.affine_rows.specs.declared.quasi.Quasi.{Quasi}
use Rattle.expr_tree.specs.declared.tree.Expr.{Expr}
use Rattle.expr_tree.specs.declared.tree.Op.{Op}
use Rattle.expr_tree.specs.declared.tree.Op.TheVariants as op
use Rattle.expr_tree.specs.declared.tree.Rel.{Rel}
use Rattle.expr_tree.specs.declared.tree.Rel.TheVariants as rel
use Rattle.expr_tree.specs.declared.tree.Node.TheOpen.{Node-F, Test-F}
use Rattle.expr_tree.specs.declared.tree.Node.TheVariants as node
use Rattle.expr_tree.specs.declared.tree.Test.{Test}
use Rattle.expr_tree.specs.declared.tree.Test.TheVariants as test
use Rattle.expr_tree.specs.Rewritten.{tree_of}
use Rattle.expr_tree.specs.Scenes.{is_among}
use Rattle.expr_tree.proofs.Made.{made-Call, made-Neg, made-Inv, made-Shl, made-Shr, made-Bin, made-Pick, made-Cast, made-Fold, made-Words, made-All, made-Any, made-Not}
use Rattle.kernel_grammar.specs.declared.item.Relation.TheVariants as relation
use Rattle.kernel_grammar.specs.declared.step.Extreme.TheVariants.{Min, Max}
use Rattle.kernel_grammar.specs.declared.step.Infix.{Infix}
use Rattle.kernel_grammar.specs.declared.step.Infix.TheVariants as infixed
use Rattle.kernel_grammar.specs.declared.step.Prefix.{Prefix}
use Rattle.kernel_grammar.specs.declared.step.Prefix.TheVariants.{Not, Negate, Invert}
use Rattle.kernel_ir.specs.Mentions.{listed, listed_in_test, node_listed, test_listed}
use Rattle.kernel_ir.specs.Mentions as mentions
use Rattle.kind_faults.specs.Faults.{kind_fault}
use Rattle.type_infer.proofs.Walks.{among_cases, among_left, among_right, among_single}
use Rattle.untyped.specs.Asked.{Asked, Known, sides, sort_of, infix_first, infix_value, infix_test, prefix_asked, term_asked, asked_of}
use Rattle.untyped.specs.Exprs.{Made, prefix_made, shift_by, folding_op, infix_expr, joint_test, op_of, joint_of, words_test, index_test, compared, term_made, made_of}
use Rattle.untyped.specs.declared.tree.Term.{map-Term}
use Rattle.untyped.specs.declared.tree.Term.TheOpen.{Term-F}
use Rattle.untyped.specs.declared.tree.Untyped.{Untyped}
use Rattle.untyped.proofs.Layers.{Linked, linked}
use Rattle.kernel_kinds.specs.Calls.{calls, rules_in, term_calls}
use Rattle.kernel_kinds.proofs.Faultless.{behind, none_first, none_second, some_fault}

-- of the first list each is in the second one, and called
abbrev pub In : (ℕ → Type 0) → List ℕ → List ℕ → Type 0
In Called us vs = (r : ℕ) → is_among us r ≡ true → (is_among vs r ≡ true) × Called r

abbrev nodes : Node-F (List (ℕ × ℕ)) (List (ℕ × ℕ)) (List (ℕ × ℕ)) → List (ℕ × ℕ)
nodes = node_listed mentions.calls

abbrev tests : Test-F (List (ℕ × ℕ)) (List (ℕ × ℕ)) (List (ℕ × ℕ)) → List (ℕ × ℕ)
tests = test_listed mentions.calls

module _ (w : Known) (Called : ℕ → Type 0) (called : (rule : ℕ) (k : Kind) → (w.call rule).value.fault k ≡ None → Called rule)
    (no_test : (rule : ℕ) (k : Kind) → (w.call rule).test k ≡ None → ⊥) where
  abbrev pub Kept : List (ℕ × ℕ) → List (ℕ × ℕ) → Type 0
  Kept cs ds = In Called (rules_in cs) (rules_in ds)

  pub none_kept : (ds : List (ℕ × ℕ)) → Kept [] ds
  none_kept ds r e = absurd (true≢false (sym e))

  pub both_kept : (cs cs' ds ds' : List (ℕ × ℕ)) → Kept cs ds → Kept cs' ds' → Kept (cs ++ cs') (ds ++ ds')
  both_kept cs cs' ds ds' f g r e =
      let there = subst (λ z. is_among z r ≡ true) (sym (map-append (λ (c : ℕ × ℕ). c.0) ds ds')) in
      ⊎_elim {C = (is_among (rules_in (ds ++ ds')) r ≡ true) × Called r}
      (λ first. (there (among_left (rules_in ds) (rules_in ds') r (f r first).0), (f r first).1))
      (λ second. (there (among_right (rules_in ds) (rules_in ds') r (g r second).0), (g r second).1))
      (among_cases (rules_in cs) (rules_in cs') r (subst (λ z. is_among z r ≡ true) (map-append (λ (c : ℕ × ℕ). c.0) cs cs') e))

  pub turned_kept : (cs cs' ds ds' : List (ℕ × ℕ)) → Kept cs ds → Kept cs' ds' → Kept (cs ++ cs') (ds' ++ ds)
  turned_kept cs cs' ds ds' f g r e =
      let there = subst (λ z. is_among z r ≡ true) (sym (map-append (λ (c : ℕ × ℕ). c.0) ds' ds)) in
      ⊎_elim {C = (is_among (rules_in (ds' ++ ds)) r ≡ true) × Called r}
      (λ first. (there (among_right (rules_in ds') (rules_in ds) r (f r first).0), (f r first).1))
      (λ second. (there (among_left (rules_in ds') (rules_in ds) r (g r second).0), (g r second).1))
      (among_cases (rules_in cs) (rules_in cs') r (subst (λ z. is_among z r ≡ true) (map-append (λ (c : ℕ × ℕ). c.0) cs cs') e))

  use_kept : (rule n : ℕ) → Called rule → Kept ((rule, n) ∷ []) ((rule, n) ∷ [])
  use_kept rule n is r among = (among, subst Called (among_single rule r among) is)

  made_as : (cs ds ds' : List (ℕ × ℕ)) → ds ≡ ds' → Kept cs ds' → Kept cs ds
  made_as cs ds ds' e f = subst (Kept cs) (sym e) f

  abbrev pub of_expr : Expr → List (ℕ × ℕ)
  of_expr = listed mentions.calls

  abbrev pub of_test : Test → List (ℕ × ℕ)
  of_test = listed_in_test mentions.calls

  -- what is made of a tree keeps its uses, where there is no fault
  pub record Keeps (m : Made) (j : Asked) (cs : List (ℕ × ℕ)) : Type 0 where
    pub value : (k : Kind) → j.value.fault k ≡ None → Kept cs (of_expr m.expr)
    pub test : (k : Kind) → j.test k ≡ None → Kept cs (of_test m.test)
    pub index : (f : Quasi) → m.form ≡ Some f → cs ≡ []

  module _ (a b : Made) (i j : Asked) (cs ds : List (ℕ × ℕ)) (h : Keeps a i cs) (l : Keeps b j ds) where
    words_kept : (o : Op) (k : Kind) → option_or (i.value.fault k) (j.value.fault k) ≡ None → Kept (cs ++ ds) (of_expr (tree_of (node.Bin o a.expr b.expr)))
    words_kept o k e = made_as (cs ++ ds) _ _ (made-Bin _ _ nodes tests o a.expr b.expr)
        (both_kept cs ds (of_expr a.expr) (of_expr b.expr) (h.value k (none_first (i.value.fault k) (j.value.fault k) e))
        (l.value k (none_second (i.value.fault k) (j.value.fault k) e)))

    sides_kept : (r : Rel) (turned : Bool) (s : Kind) → option_or (i.value.fault s) (j.value.fault s) ≡ None
        → Kept (cs ++ ds) (of_test (words_test r turned a.expr b.expr))
    sides_kept r false s e = made_as (cs ++ ds) _ _ (made-Words _ _ nodes tests r a.expr b.expr)
        (both_kept cs ds (of_expr a.expr) (of_expr b.expr) (h.value s (none_first (i.value.fault s) (j.value.fault s) e))
        (l.value s (none_second (i.value.fault s) (j.value.fault s) e)))
    sides_kept r true s e = made_as (cs ++ ds) _ _ (made-Words _ _ nodes tests r b.expr a.expr)
        (turned_kept cs ds (of_expr a.expr) (of_expr b.expr) (h.value s (none_first (i.value.fault s) (j.value.fault s) e))
        (l.value s (none_second (i.value.fault s) (j.value.fault s) e)))

    index_kept : (f g : Option Quasi) (r : Rel) (turned : Bool) → a.form ≡ f → b.form ≡ g → Kept (cs ++ ds) (of_test (words_test r turned a.expr b.expr))
        → Kept (cs ++ ds) (of_test (compared r turned f g a.expr b.expr))
    index_kept (Some f) (Some g) r turned is so e =
        subst (λ z. Kept (z ++ ds) (of_test (index_test r turned f g))) (sym (h.index f is))
        (subst (λ z. Kept z (of_test (index_test r turned f g))) (sym (l.index g so)) (none_kept _))
    index_kept (Some f) None r turned is so e = e
    index_kept None g r turned is so e = e

    compared_kept : (r : Rel) (turned : Bool) (k : Kind) → option_or (i.value.fault (sides i j k)) (j.value.fault (sides i j k)) ≡ None
        → Kept (cs ++ ds) (of_test (compared r turned a.form b.form a.expr b.expr))
    compared_kept r turned k e = index_kept a.form b.form r turned refl refl (sides_kept r turned (sides i j k) e)

    all_kept : (k : Kind) → option_or (i.test k) (j.test k) ≡ None → Kept (cs ++ ds) (of_test (test.All a.test b.test))
    all_kept k e = made_as (cs ++ ds) _ _ (made-All _ _ nodes tests a.test b.test)
        (both_kept cs ds (of_test a.test) (of_test b.test) (h.test k (none_first (i.test k) (j.test k) e)) (l.test k (none_second (i.test k) (j.test k) e)))

    any_kept : (k : Kind) → option_or (i.test k) (j.test k) ≡ None → Kept (cs ++ ds) (of_test (test.Any a.test b.test))
    any_kept k e = made_as (cs ++ ds) _ _ (made-Any _ _ nodes tests a.test b.test)
        (both_kept cs ds (of_test a.test) (of_test b.test) (h.test k (none_first (i.test k) (j.test k) e)) (l.test k (none_second (i.test k) (j.test k) e)))

    infix_kept : (o : Infix) → Keeps (record { expr = infix_expr (op_of o) a.expr b.expr; test = joint_test (joint_of o) a b; form = None })
        (record { value = record { first = infix_first (sort_of o) i j; fault = infix_value (sort_of o) i j }; test = infix_test (sort_of o) i j }) (cs ++ ds)
    infix_kept infixed.Or = record { value = λ k e. absurd (behind (i.test k) _ e); test = any_kept; index = λ f e. absurd cc }
    infix_kept infixed.And = record { value = λ k e. absurd (behind (i.test k) _ e); test = all_kept; index = λ f e. absurd cc }
    infix_kept (infixed.Compare relation.LessEqual) =
        record { value = λ k e. absurd (behind (i.value.fault (sides i j k)) _ e); test = compared_kept rel.LessEqual false; index = λ f e. absurd cc }
    infix_kept (infixed.Compare relation.Less) =
        record { value = λ k e. absurd (behind (i.value.fault (sides i j k)) _ e); test = compared_kept rel.Less false; index = λ f e. absurd cc }
    infix_kept (infixed.Compare relation.GreaterEqual) =
        record { value = λ k e. absurd (behind (i.value.fault (sides i j k)) _ e); test = compared_kept rel.LessEqual true; index = λ f e. absurd cc }
    infix_kept (infixed.Compare relation.Greater) =
        record { value = λ k e. absurd (behind (i.value.fault (sides i j k)) _ e); test = compared_kept rel.Less true; index = λ f e. absurd cc }
    infix_kept (infixed.Compare relation.Equal) =
        record { value = λ k e. absurd (behind (i.value.fault (sides i j k)) _ e); test = compared_kept rel.Equal false; index = λ f e. absurd cc }
    infix_kept infixed.NotEqual = record {
      value = λ k e. absurd (behind (i.value.fault (sides i j k)) _ e);
      test = compared_kept rel.NotEqual false;
      index =
          λ f e. absurd cc;
    }
    infix_kept infixed.Divide = record {
      value = λ k e. absurd (behind (i.value.fault k) _ e);
      test = λ k e. absurd (behind (i.value.fault k) _ e);
      index =
          λ f e. absurd cc;
    }
    infix_kept infixed.Remainder = record {
      value = λ k e. absurd (behind (i.value.fault k) _ e);
      test = λ k e. absurd (behind (i.value.fault k) _ e);
      index =
          λ f e. absurd cc;
    }
    infix_kept infixed.Add = record { value = λ k e. words_kept op.Add k e; test = λ k e. absurd (behind (i.value.fault k) _ e); index = λ f e. absurd cc }
    infix_kept infixed.Subtract = record { value = λ k e. words_kept op.Sub k e; test = λ k e. absurd (behind (i.value.fault k) _ e); index = λ f e. absurd cc }
    infix_kept infixed.Multiply = record { value = λ k e. words_kept op.Mul k e; test = λ k e. absurd (behind (i.value.fault k) _ e); index = λ f e. absurd cc }
    infix_kept infixed.BitOr = record { value = λ k e. words_kept op.Or k e; test = λ k e. absurd (behind (i.value.fault k) _ e); index = λ f e. absurd cc }
    infix_kept infixed.BitXor = record { value = λ k e. words_kept op.Xor k e; test = λ k e. absurd (behind (i.value.fault k) _ e); index = λ f e. absurd cc }
    infix_kept infixed.BitAnd = record { value = λ k e. words_kept op.And k e; test = λ k e. absurd (behind (i.value.fault k) _ e); index = λ f e. absurd cc }
    infix_kept (infixed.Extreme Min) = record { value = λ k e. words_kept op.Min k e; test = λ k e. absurd (some_fault _ e); index = λ f e. absurd cc }
    infix_kept (infixed.Extreme Max) = record { value = λ k e. words_kept op.Max k e; test = λ k e. absurd (some_fault _ e); index = λ f e. absurd cc }

  prefix_kept : (o : Prefix) (a : Made) (i : Asked) (cs : List (ℕ × ℕ)) → Keeps a i cs → Keeps (prefix_made o a) (prefix_asked o i) cs
  prefix_kept Not a i cs h = record {
    value = λ k e. absurd (some_fault _ e);
    test = λ k e. made_as cs _ _ (made-Not _ _ nodes tests a.test) (h.test k e);
    index = λ f e. absurd cc;
  }
  prefix_kept Negate a i cs h = record {
    value = λ k e. made_as cs _ _ (made-Neg _ _ nodes tests a.expr) (h.value k e);
    test = λ k e. absurd (some_fault _ e);
    index = λ f e. absurd cc;
  }
  prefix_kept Invert a i cs h = record {
    value = λ k e. made_as cs _ _ (made-Inv _ _ nodes tests a.expr) (h.value k e);
    test = λ k e. absurd (some_fault _ e);
    index = λ f e. absurd cc;
  }

  abbrev Part : Type 0
  Part = Linked term_made (term_asked w) term_calls Keeps

  step : (y : Term-F Part Part) → Keeps (term_made (map-Term _ _ _ _ (λ p. p.a) (λ p. p.a) y)) (term_asked w (map-Term _ _ _ _ (λ p. p.b) (λ p. p.b) y))
      (term_calls (map-Term _ _ _ _ (λ p. p.c) (λ p. p.c) y))
  step (Term-F.Index form constant) = record { value = λ k e. none_kept _; test = λ k e. none_kept _; index = λ f e. refl }
  step (Term-F.Literal n) = record { value = λ k e. none_kept _; test = λ k e. none_kept _; index = λ f e. absurd cc }
  step (Term-F.Read cell place) = record { value = λ k e. none_kept _; test = λ k e. none_kept _; index = λ f e. absurd cc }
  step (Term-F.Use rule arguments) = record {
    value = λ k e. made_as ((rule, length arguments) ∷ []) _ ((rule, length arguments) ∷ []) (made-Call _ _ nodes tests rule arguments)
        (use_kept rule (length arguments) (called rule k e));
    test = λ k e. absurd (no_test rule k e);
    index = λ f e. absurd cc;
  }
  step (Term-F.Prefix o p) = prefix_kept o p.a p.b p.c p.is
  step (Term-F.Infix o p q) = infix_kept p.a q.a p.b q.b p.c q.c p.is q.is o
  step (Term-F.ShiftLeft p by) = record {
    value = λ k e. made_as p.c _ _ (made-Shl _ _ nodes tests p.a.expr (shift_by by)) (p.is.value k (none_first (p.b.value.fault k) _ e));
    test = λ k e. absurd (behind (p.b.value.fault k) _ e);
    index = λ f e. absurd cc;
  }
  step (Term-F.ShiftRight p by) = record {
    value = λ k e. made_as p.c _ _ (made-Shr _ _ nodes tests p.a.expr (shift_by by)) (p.is.value k (none_first (p.b.value.fault k) _ e));
    test = λ k e. absurd (behind (p.b.value.fault k) _ e);
    index = λ f e. absurd cc;
  }
  step (Term-F.Cast to p) = record {
    value = λ k e. let from : Kind = unwrap_or p.b.value.first to in made_as p.c _ _ (made-Cast _ _ nodes tests to p.a.expr)
        (p.is.value from (none_second (kind_fault to k) (p.b.value.fault from) e));
    test = λ k e. absurd (some_fault _ e);
    index = λ f e. absurd cc;
  }
  step (Term-F.Choose t p q) = record {
    value = λ k e.
        let later = none_second (t.b.test k) (option_or (p.b.value.fault k) (q.b.value.fault k)) e in
        made_as (t.c ++ (p.c ++ q.c)) _ _ (made-Pick _ _ nodes tests t.a.test p.a.expr q.a.expr)
        (both_kept t.c (p.c ++ q.c) (of_test t.a.test) (of_expr p.a.expr ++ of_expr q.a.expr)
        (t.is.test k (none_first (t.b.test k) (option_or (p.b.value.fault k) (q.b.value.fault k)) e))
        (both_kept p.c q.c (of_expr p.a.expr) (of_expr q.a.expr) (p.is.value k (none_first (p.b.value.fault k) (q.b.value.fault k) later))
        (q.is.value k (none_second (p.b.value.fault k) (q.b.value.fault k) later))));
    test = λ k e. absurd (some_fault _ e);
    index = λ f e. absurd cc;
  }
  step (Term-F.Fold how inames p) = record {
    value = λ k e. made_as p.c _ _ (made-Fold _ _ nodes tests (folding_op how) inames p.a.expr) (p.is.value k e);
    test = λ k e. absurd (some_fault _ e);
    index = λ f e. absurd cc;
  }

  pub keeps : (e : Untyped) → Keeps (made_of e) (asked_of w e) (calls e)
  keeps = linked term_made (term_asked w) term_calls Keeps step
