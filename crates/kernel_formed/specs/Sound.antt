-- Expressions of which each name stands for what it may stand for.
use Rattle.std.specs.Prelude.{◌≡◌, ℕ, Bool, true, false, not, ◌&&◌, nat_eq, nat_lt, List, length, None}
use Rattle.std.specs.List.{list_all}
use Rattle.expr_tree.specs.declared.tree.Cell.{Cell}
use Rattle.expr_tree.specs.Scenes.{is_among, each_var}
use Rattle.kernel_ir.specs.NameSpace.{all_differ}
use Rattle.kernel_ir.specs.Mentions.{Allowed}
use Rattle.untyped.specs.declared.tree.Term.TheOpen.{Term-F, Untyped-F}
use Rattle.untyped.specs.declared.tree.Untyped.{Untyped, fold-Untyped}
use Rattle.untyped.specs.declared.scope.Role.TheVariants as role
use Rattle.untyped.specs.declared.faults.Faults.{Faults}
use Rattle.untyped.specs.Readings.{Roles}
use Rattle.untyped_parts.specs.Mentions.{mentions, bound}

-- What may be meant: by a variable, by a read at so many subscripts, by a use of a rule, and by an iname of a reduction.
pub record Meant : Type 0 where
  pub var : ℕ → Bool
  pub cell : Cell → ℕ → Bool
  pub rule : ℕ → Bool
  pub iname : ℕ → Bool

-- One term, with whether each part is sound in its place; a reduction is over one iname or more.
abbrev pub term_sound : Meant → Term-F Bool Bool → Bool
term_sound m (Term-F.Index form constant) = each_var m.var form
term_sound m (Term-F.Literal n) = true
term_sound m (Term-F.Read cell place) = m.cell cell (length place) && list_all (each_var m.var) place
term_sound m (Term-F.Use rule arguments) = m.rule rule && list_all (each_var m.var) arguments
term_sound m (Term-F.Prefix op a) = a
term_sound m (Term-F.Infix op a b) = a && b
term_sound m (Term-F.ShiftLeft a by) = a
term_sound m (Term-F.ShiftRight a by) = a
term_sound m (Term-F.Cast kind a) = a
term_sound m (Term-F.Choose t a b) = t && (a && b)
term_sound m (Term-F.Fold how inames a) = nat_lt 0 (length inames) && (list_all m.iname inames && a)

abbrev pub tree_sound : Untyped-F Bool Bool → Bool
tree_sound e = e.term

-- each name in the expression stands for what may be meant there
abbrev pub sound : Meant → Untyped → Bool
sound m = fold-Untyped Bool Bool (term_sound m) tree_sound

-- Whatever a name stands for may be meant.
pub record FitsRoles (roles : Roles) (m : Meant) : Type 0 where
  pub parameter : (name : List ℕ) (v : ℕ) → roles name ≡ role.Parameter v → m.var v ≡ true
  pub iname_var : (name : List ℕ) (v : ℕ) → roles name ≡ role.Iname v → m.var v ≡ true
  pub iname : (name : List ℕ) (v : ℕ) → roles name ≡ role.Iname v → m.iname v ≡ true
  pub cell : (name : List ℕ) (c : Cell) (n : ℕ) → roles name ≡ role.Cell c n → m.cell c n ≡ true
  pub rule : (name : List ℕ) (r : ℕ) → roles name ≡ role.Rule r → m.rule r ≡ true

-- Nothing is wrong; a number may be large.
pub record IsFine (f : Faults) : Type 0 where
  pub wide : f.wide ≡ false
  pub number : f.number ≡ false
  pub depth : f.depth ≡ false
  pub form : f.form ≡ false
  pub unknown : f.unknown ≡ None
  pub shape : f.shape ≡ None

-- none of the variables is among the others
abbrev pub are_new : List ℕ → List ℕ → Bool
are_new scope vs = list_all (λ v. not (is_among scope v)) vs

-- What may be meant may stand in an expression.
pub record Permits (m : Meant) (w : Allowed) : Type 0 where
  pub read : (c : Cell) (n : ℕ) → m.cell c n ≡ true → w.read c n ≡ true
  pub call : (r n : ℕ) → m.rule r ≡ true → w.call r n ≡ true
  pub fold : (scope inames : List ℕ) → nat_lt 0 (length inames) ≡ true → list_all m.iname inames ≡ true → are_new scope inames ≡ true
      → w.fold scope inames ≡ true

-- What is mentioned is in scope, and the inames that are bound differ and are not in scope.
pub record AreScoped (scope mentioned inames : List ℕ) : Type 0 where
  pub mentions : list_all (is_among scope) mentioned ≡ true
  pub differ : all_differ nat_eq inames ≡ true
  pub new : are_new scope inames ≡ true

-- the same of what an expression mentions and binds
abbrev pub IsScoped : List ℕ → Untyped → Type 0
IsScoped scope e = AreScoped scope (mentions e) (bound e)
