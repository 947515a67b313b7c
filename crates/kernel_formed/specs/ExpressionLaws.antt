-- What is proved of the expressions of a file.
use Rattle.std.specs.Prelude.{◌≡◌, ℕ, Bool, true, List, [], Some, None}
use Rattle.std.specs.List.{list_all}
use Rattle.affine_rows.specs.declared.quasi.Quasi.{Quasi}
use Rattle.expr_tree.specs.Scenes.{is_among, mentions_only, each_var}
use Rattle.kernel_grammar.specs.declared.step.Step.{Step}
use Rattle.kernel_grammar.specs.Lexicals.{Lexical}
use Rattle.kernel_grammar.specs.Steps.{IsExpression}
use Rattle.kernel_ir.specs.Mentions.{Allowed, is_allowed, is_allowed_test, listed, listed_in_test, folded}
use Rattle.untyped.specs.declared.tree.Untyped.{Untyped}
use Rattle.untyped.specs.declared.reading.Part.{Part}
use Rattle.untyped.specs.declared.reading.Part.TheVariants as part
use Rattle.untyped.specs.Readings.{Roles, tree_of, untyped_of}
use Rattle.untyped.specs.Exprs.{expr_of, test_of}
use Rattle.untyped_parts.specs.Mentions.{mentions, bound}
use Rattle.untyped_parts.specs.Conjuncts.{split_of}
use Rattle.kernel_formed.specs.Shapes.{is_whole}
use Rattle.kernel_formed.specs.Sound.{Meant, FitsRoles, IsFine, Permits, IsScoped, sound}
use Rattle.kernel_formed.specs.Taken.{IsTakenFrom}

-- It may stand where a value and where a test is wanted, and it binds no other inames, and none more often.
pub record StandsIn (w : Allowed) (scope : List ℕ) (e : Untyped) : Type 0 where
  pub value : is_allowed w (expr_of e) scope ≡ true
  pub test : is_allowed_test w (test_of e) scope ≡ true
  pub value_binds : IsTakenFrom (listed folded (expr_of e)) (bound e)
  pub test_binds : IsTakenFrom (listed_in_test folded (test_of e)) (bound e)

-- It is sound, as an index form too, and it stands wherever it is scoped and what may be meant may stand.
pub record IsUsable (m : Meant) (p : Part) : Type 0 where
  pub tree : sound m (tree_of p) ≡ true
  pub form : (f : Quasi) (constant : Bool) → p ≡ part.Index f constant → each_var m.var f ≡ true
  pub stands : (w : Allowed) (scope : List ℕ) → Permits m w → IsScoped scope (tree_of p) → StandsIn w scope (tree_of p)

-- What steps say that leave one part and have nothing at fault.
abbrev pub ExpressionsAreAllowed : Type 0
ExpressionsAreAllowed = (roles : Roles) (m : Meant) (steps : List Step) → FitsRoles roles m → is_whole steps ≡ true
    → IsFine (untyped_of roles steps).faults → IsUsable m (untyped_of roles steps).part

-- The steps of an expression leave one part.
abbrev pub StepsAreWhole : Type 0
StepsAreWhole = (text : List Lexical) (steps : List Step) → IsExpression text steps → is_whole steps ≡ true

-- What is left of a predicate is sound, mentions no other variables and binds the same inames.
pub record IsRest (m : Meant) (e r : Untyped) : Type 0 where
  pub sound : sound m r ≡ true
  pub mentions : (test : ℕ → Bool) → list_all test (mentions e) ≡ true → list_all test (mentions r) ≡ true
  pub bound : bound r ≡ bound e

-- The rows of a sound predicate over a scope are over it, and its rest is sound, over it, and binds all that is bound.
pub record IsSplit (m : Meant) (scope : List ℕ) (e : Untyped) : Type 0 where
  pub rows : list_all (λ r. mentions_only scope r.form) (split_of e).rows ≡ true
  pub rest : (r : Untyped) → (split_of e).rest ≡ Some r → IsRest m e r
  pub none : (split_of e).rest ≡ None → bound e ≡ []

abbrev pub PredicatesSplit : Type 0
PredicatesSplit = (m : Meant) (scope : List ℕ) (e : Untyped) → sound m e ≡ true → list_all (is_among scope) (mentions e) ≡ true
    → IsSplit m scope e
