-- What a fold makes of an expression that is made by its root.
use Rattle.std.specs.Prelude.{◌≡◌, ℕ, Bool, List}
use Rattle.std.proofs.Common.{rules, sym, subst}
use Rattle.wrap_words.specs.declared.kind.Kind.{Kind}
use Rattle.affine_rows.specs.declared.quasi.Quasi.{Quasi}
use Rattle.expr_tree.specs.declared.tree.Cell.{Cell}
use Rattle.kernel_grammar.specs.declared.step.Prefix.{Prefix}
use Rattle.kernel_grammar.specs.declared.step.Infix.{Infix}
use Rattle.kernel_grammar.specs.declared.step.Folding.{Folding}
use Rattle.untyped.specs.declared.tree.Term.{Term, the_lemmas, fold-Term, roll-Term, map-Term, fold-roll-Term}
use Rattle.untyped.specs.declared.tree.Term.TheOpen.{Term-F, Untyped-F}
use Rattle.untyped.specs.declared.tree.Term.TheVariants as term
use Rattle.untyped.specs.declared.tree.Untyped.{Untyped, fold-Untyped, roll-Untyped, map-Untyped, ind-Untyped, fold-roll-Untyped}

module _ {A : Type 0} (f : Term-F A A → A) where
  abbrev pub of_tree : Untyped → A
  of_tree = fold-Untyped A A f (λ e. e.term)

  abbrev pub of_part : Term → A
  of_part = fold-Term A A f (λ e. e.term)

  pub at-tree : (t : Term) → of_tree (record { term = t }) ≡ of_part t
  at-tree t = search (rules, the_lemmas)

  pub at-Index : (q : Quasi) (c : Bool) → of_tree (record { term = term.Index q c }) ≡ f (Term-F.Index q c)
  at-Index q c = search (rules, the_lemmas)

  pub at-Literal : (n : ℕ) → of_tree (record { term = term.Literal n }) ≡ f (Term-F.Literal n)
  at-Literal n = search (rules, the_lemmas)

  pub at-Read : (cell : Cell) (place : List Quasi) → of_tree (record { term = term.Read cell place }) ≡ f (Term-F.Read cell place)
  at-Read cell place = search (rules, the_lemmas)

  pub at-Use : (rule : ℕ) (arguments : List Quasi) → of_tree (record { term = term.Use rule arguments }) ≡ f (Term-F.Use rule arguments)
  at-Use rule arguments = search (rules, the_lemmas)

  pub at-Prefix : (op : Prefix) (a : Untyped) → of_tree (record { term = term.Prefix op a }) ≡ f (Term-F.Prefix op (of_tree a))
  at-Prefix op a = search (rules, the_lemmas)

  pub at-Infix : (op : Infix) (a b : Untyped) → of_tree (record { term = term.Infix op a b }) ≡ f (Term-F.Infix op (of_tree a) (of_tree b))
  at-Infix op a b = search (rules, the_lemmas)

  pub at-ShiftLeft : (a : Untyped) (by : ℕ) → of_tree (record { term = term.ShiftLeft a by }) ≡ f (Term-F.ShiftLeft (of_tree a) by)
  at-ShiftLeft a by = search (rules, the_lemmas)

  pub at-ShiftRight : (a : Untyped) (by : ℕ) → of_tree (record { term = term.ShiftRight a by }) ≡ f (Term-F.ShiftRight (of_tree a) by)
  at-ShiftRight a by = search (rules, the_lemmas)

  pub at-Cast : (kind : Kind) (a : Untyped) → of_tree (record { term = term.Cast kind a }) ≡ f (Term-F.Cast kind (of_tree a))
  at-Cast kind a = search (rules, the_lemmas)

  pub at-Choose : (t a b : Untyped) → of_tree (record { term = term.Choose t a b }) ≡ f (Term-F.Choose (of_tree t) (of_tree a) (of_tree b))
  at-Choose t a b = search (rules, the_lemmas)

  pub at-Fold : (how : Folding) (inames : List ℕ) (a : Untyped) → of_tree (record { term = term.Fold how inames a }) ≡ f (Term-F.Fold how inames (of_tree a))
  at-Fold how inames a = search (rules, the_lemmas)

-- ---- three folds over one tree

module _ {A B C : Type 0} (f : Term-F A A → A) (g : Term-F B B → B) (h : Term-F C C → C) (R : A → B → C → Type 0) where
  -- what the folds make of one part, where it is related
  pub record Linked : Type 0 where
    pub a : A
    pub b : B
    pub c : C
    pub is : R a b c

  abbrev AtTerm : Term → Type 0
  AtTerm t = R (of_part f t) (of_part g t) (of_part h t)

  abbrev AtTree : Untyped → Type 0
  AtTree e = R (of_tree f e) (of_tree g e) (of_tree h e)

  abbrev link : (e : Untyped) × AtTree e → Linked
  link e = record { a = of_tree f e.0; b = of_tree g e.0; c = of_tree h e.0; is = e.1 }

  rolled : (n : Term-F Term Untyped)
      → R (f (map-Term _ _ _ _ (of_part f) (of_tree f) n)) (g (map-Term _ _ _ _ (of_part g) (of_tree g) n)) (h (map-Term _ _ _ _ (of_part h) (of_tree h) n))
      → AtTerm (roll-Term n)
  rolled n r =
      subst (λ z. R z (of_part g (roll-Term n)) (of_part h (roll-Term n))) (sym (fold-roll-Term A A f (λ e. e.term) n))
      (subst (λ z. R (f (map-Term _ _ _ _ (of_part f) (of_tree f) n)) z (of_part h (roll-Term n))) (sym (fold-roll-Term B B g (λ e. e.term) n))
      (subst (λ z. R (f (map-Term _ _ _ _ (of_part f) (of_tree f) n)) (g (map-Term _ _ _ _ (of_part g) (of_tree g) n)) z) (sym (fold-roll-Term C C h (λ e. e.term) n)) r))

  -- Where each term is related whose parts are, each tree is.
  module _ (step : (y : Term-F Linked Linked) → R (f (map-Term _ _ _ _ (λ p. p.a) (λ p. p.a) y)) (g (map-Term _ _ _ _ (λ p. p.b) (λ p. p.b) y)) (h (map-Term _ _ _ _ (λ p. p.c) (λ p. p.c) y))) where
    term_case : (y : Term-F ((t : Term) × AtTerm t) ((e : Untyped) × AtTree e)) → AtTerm (roll-Term (map-Term _ _ _ _ (λ e. e.0) (λ e. e.0) y))
    term_case (Term-F.Index q c) = rolled (Term-F.Index q c) (step (Term-F.Index q c))
    term_case (Term-F.Literal n) = rolled (Term-F.Literal n) (step (Term-F.Literal n))
    term_case (Term-F.Read cell place) = rolled (Term-F.Read cell place) (step (Term-F.Read cell place))
    term_case (Term-F.Use rule arguments) = rolled (Term-F.Use rule arguments) (step (Term-F.Use rule arguments))
    term_case (Term-F.Prefix op x) = rolled (Term-F.Prefix op x.0) (step (Term-F.Prefix op (link x)))
    term_case (Term-F.Infix op x y) = rolled (Term-F.Infix op x.0 y.0) (step (Term-F.Infix op (link x) (link y)))
    term_case (Term-F.ShiftLeft x by) = rolled (Term-F.ShiftLeft x.0 by) (step (Term-F.ShiftLeft (link x) by))
    term_case (Term-F.ShiftRight x by) = rolled (Term-F.ShiftRight x.0 by) (step (Term-F.ShiftRight (link x) by))
    term_case (Term-F.Cast kind x) = rolled (Term-F.Cast kind x.0) (step (Term-F.Cast kind (link x)))
    term_case (Term-F.Choose t x y) = rolled (Term-F.Choose t.0 x.0 y.0) (step (Term-F.Choose (link t) (link x) (link y)))
    term_case (Term-F.Fold how inames x) = rolled (Term-F.Fold how inames x.0) (step (Term-F.Fold how inames (link x)))

    tree_case : (e : Untyped-F Term Untyped) → AtTerm e.term → AtTree (roll-Untyped e)
    tree_case e r =
        subst (λ z. R z (of_tree g (roll-Untyped e)) (of_tree h (roll-Untyped e))) (sym (fold-roll-Untyped A A f (λ e. e.term) e))
        (subst (λ z. R (of_part f e.term) z (of_tree h (roll-Untyped e))) (sym (fold-roll-Untyped B B g (λ e. e.term) e))
        (subst (λ z. R (of_part f e.term) (of_part g e.term) z) (sym (fold-roll-Untyped C C h (λ e. e.term) e)) r))

    pub linked : (e : Untyped) → AtTree e
    linked = ind-Untyped AtTerm AtTree
        (λ n y is. subst (λ z. AtTerm (roll-Term z)) is (term_case y))
        (λ e y is. subst (λ z. AtTree (roll-Untyped z)) is (tree_case (map-Untyped _ _ _ _ (λ e. e.0) (λ e. e.0) y) y.term.1))
