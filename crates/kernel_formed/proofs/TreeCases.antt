-- A fact of every expression, shown term by term.
use Rattle.std.specs.Prelude.{◌≡◌, ℕ, Bool, List}
use Rattle.std.proofs.Common.{sym, subst}
use Rattle.wrap_words.specs.declared.kind.Kind.{Kind}
use Rattle.affine_rows.specs.declared.quasi.Quasi.{Quasi}
use Rattle.expr_tree.specs.declared.tree.Cell.{Cell}
use Rattle.kernel_grammar.specs.declared.step.Prefix.{Prefix}
use Rattle.kernel_grammar.specs.declared.step.Infix.{Infix}
use Rattle.kernel_grammar.specs.declared.step.Folding.{Folding}
use Rattle.untyped.specs.declared.tree.Term.{Term, roll-Term, map-Term}
use Rattle.untyped.specs.declared.tree.Term.TheOpen.{Term-F, Untyped-F}
use Rattle.untyped.specs.declared.tree.Term.TheVariants as term
use Rattle.untyped.specs.declared.tree.Untyped.{Untyped, roll-Untyped, map-Untyped, ind-Untyped}

-- The fact holds of each term whose parts it holds of.
pub record Cases (P : Untyped → Type 0) : Type 0 where
  pub index : (form : Quasi) (constant : Bool) → P (record { term = term.Index form constant })
  pub literal : (n : ℕ) → P (record { term = term.Literal n })
  pub read : (cell : Cell) (place : List Quasi) → P (record { term = term.Read cell place })
  pub uses : (rule : ℕ) (arguments : List Quasi) → P (record { term = term.Use rule arguments })
  pub before : (op : Prefix) (a : Untyped) → P a → P (record { term = term.Prefix op a })
  pub between : (op : Infix) (a b : Untyped) → P a → P b → P (record { term = term.Infix op a b })
  pub shift_left : (a : Untyped) (by : ℕ) → P a → P (record { term = term.ShiftLeft a by })
  pub shift_right : (a : Untyped) (by : ℕ) → P a → P (record { term = term.ShiftRight a by })
  pub cast : (kind : Kind) (a : Untyped) → P a → P (record { term = term.Cast kind a })
  pub choose : (t a b : Untyped) → P t → P a → P b → P (record { term = term.Choose t a b })
  pub fold : (how : Folding) (inames : List ℕ) (a : Untyped) → P a → P (record { term = term.Fold how inames a })

module _ (P : Untyped → Type 0) (s : Cases P) where
  abbrev AtTerm : Term → Type 0
  AtTerm t = P (record { term = t })

  rolled : (n : Term-F Term Untyped) (t : Term) → roll-Term n ≡ t → AtTerm t → AtTerm (roll-Term n)
  rolled n t e h = subst AtTerm (sym e) h

  term_case : (y : Term-F ((t : Term) × AtTerm t) ((e : Untyped) × P e)) → AtTerm (roll-Term (map-Term _ _ _ _ (λ e. e.0) (λ e. e.0) y))
  term_case (Term-F.Index q c) = rolled _ _ (term.rolls-Index q c) (s.index q c)
  term_case (Term-F.Literal n) = rolled _ _ (term.rolls-Literal n) (s.literal n)
  term_case (Term-F.Read cell place) = rolled _ _ (term.rolls-Read cell place) (s.read cell place)
  term_case (Term-F.Use rule arguments) = rolled _ _ (term.rolls-Use rule arguments) (s.uses rule arguments)
  term_case (Term-F.Prefix op a) = rolled _ _ (term.rolls-Prefix op a.0) (s.before op a.0 a.1)
  term_case (Term-F.Infix op a b) = rolled _ _ (term.rolls-Infix op a.0 b.0) (s.between op a.0 b.0 a.1 b.1)
  term_case (Term-F.ShiftLeft a by) = rolled _ _ (term.rolls-ShiftLeft a.0 by) (s.shift_left a.0 by a.1)
  term_case (Term-F.ShiftRight a by) = rolled _ _ (term.rolls-ShiftRight a.0 by) (s.shift_right a.0 by a.1)
  term_case (Term-F.Cast kind a) = rolled _ _ (term.rolls-Cast kind a.0) (s.cast kind a.0 a.1)
  term_case (Term-F.Choose t a b) = rolled _ _ (term.rolls-Choose t.0 a.0 b.0) (s.choose t.0 a.0 b.0 t.1 a.1 b.1)
  term_case (Term-F.Fold how inames a) = rolled _ _ (term.rolls-Fold how inames a.0) (s.fold how inames a.0 a.1)

  tree_case : (e : Untyped-F Term Untyped) → AtTerm e.term → P (roll-Untyped e)
  tree_case e h = h

  pub each : (e : Untyped) → P e
  each = ind-Untyped AtTerm P
      (λ n y is. subst (λ z. AtTerm (roll-Term z)) is (term_case y))
      (λ e y is. subst (λ z. P (roll-Untyped z)) is (tree_case (map-Untyped _ _ _ _ (λ e. e.0) (λ e. e.0) y) y.term.1))
