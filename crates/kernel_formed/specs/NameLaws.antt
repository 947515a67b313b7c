-- The names of a kernel whose lines say no name that is taken.
use Rattle.std.specs.Prelude.{◌≡◌, ℕ, true, nat_lt, nat_eq, bytes_eq, List, ◌++◌, map, length, None, All}
use Rattle.std.specs.List.{list_all}
use Rattle.expr_tree.specs.declared.tree.Cell.{Cell}
use Rattle.expr_tree.specs.Scenes.{is_among}
use Rattle.quasi_forms.specs.Alike.{distinct}
use Rattle.kernel_ir.specs.declared.kernel.Kernel.{Kernel}
use Rattle.kernel_ir.specs.NameSpace.{HasNames, is_identifier, all_differ, iname_vars}
use Rattle.kernel_ir.specs.Mentions.{has_cell}
use Rattle.kernel_ir.specs.Valid as ir
use Rattle.kernel_grammar.specs.declared.file.Entry.{Entry}
use Rattle.untyped.specs.declared.scope.Role.TheVariants as role
use Rattle.untyped.specs.Readings.{Roles}
use Rattle.kernel_names.specs.declared.declarations.Declarations.{Declarations}
use Rattle.kernel_names.specs.Said.{said_by, own_in}
use Rattle.kernel_names.specs.Roles.{declarations_of, kernel_roles, parameter_roles, body_roles, may_store, number_of, parameters_of, inames_of}
use Rattle.kernel_names.specs.Lines.{faults_of}
use Rattle.kernel_lines.specs.Lines.{no_parts, parts_behind}

-- no line says a name that is taken, and no rule one of its own parameters twice
abbrev pub NoneTaken : List Entry → Type 0
NoneTaken entries = All (λ f. f.taken ≡ None) (faults_of entries)

-- each name that a line says is an identifier
abbrev pub AreIdentifiers : List Entry → Type 0
AreIdentifiers entries = list_all (λ s. is_identifier s.name) (said_by entries) ≡ true

-- ---- a kernel of these lines

-- The names and variables of the lines, and the arrays, temporaries and rules that they say, in order.
pub record IsOfLines (K : Kernel) (entries : List Entry) : Type 0 where
  pub names : K.names ≡ (declarations_of entries).names
  pub params : K.params ≡ parameters_of (declarations_of entries)
  pub inames : iname_vars K ≡ inames_of (declarations_of entries)
  pub arrays : K.arrays ≡ (parts_behind (declarations_of entries) no_parts entries).arrays
  pub temps : K.temps ≡ (parts_behind (declarations_of entries) no_parts entries).temps
  pub rules : K.rules ≡ (parts_behind (declarations_of entries) no_parts entries).rules

-- ---- what names stand for is there

-- Parameters are in this scope, inames are the kernel's, cells and rules are there.
pub record IsThere (K : Kernel) (scope : List ℕ) (roles : Roles) : Type 0 where
  pub parameter : (name : List ℕ) (v : ℕ) → roles name ≡ role.Parameter v → is_among scope v ≡ true
  pub iname : (name : List ℕ) (v : ℕ) → roles name ≡ role.Iname v → is_among (iname_vars K) v ≡ true
  pub cell : (name : List ℕ) (c : Cell) (n : ℕ) → roles name ≡ role.Cell c n → has_cell K c n ≡ true
  pub rule : (name : List ℕ) (r : ℕ) → roles name ≡ role.Rule r → nat_lt r (length K.rules) ≡ true

-- no name is an iname
abbrev pub HasNoInames : Roles → Type 0
HasNoInames roles = (name : List ℕ) (v : ℕ) → roles name ≡ role.Iname v → ⊥

-- Names of a rule's own are variables, and different ones.
pub record AreVariables (D : Declarations) (own : List (List ℕ)) : Type 0 where
  pub within : list_all (λ v. nat_lt v (length D.names)) (map (number_of D) own) ≡ true
  pub differ : all_differ nat_eq (map (number_of D) own) ≡ true

-- The kernel has its names, and whatever a name stands for in instructions and domains, in assumptions and shapes, and in bodies of rules.
pub record NamesAreThere (K : Kernel) (D : Declarations) (entries : List Entry) : Type 0 where
  pub names : HasNames K
  pub variables : all_differ nat_eq (K.params ++ iname_vars K) ≡ true
  pub kernel : IsThere K K.params (kernel_roles D)
  pub parameters : IsThere K K.params (parameter_roles D)
  pub parameters_alone : HasNoInames (parameter_roles D)
  pub body : (own : List (List ℕ)) → IsThere K (map (number_of D) own ++ K.params) (body_roles D (distinct bytes_eq own))
  pub body_alone : (own : List (List ℕ)) → HasNoInames (body_roles D own)
  pub stored : (c : Cell) → may_store D c ≡ true → ir.may_store K c ≡ true
  pub own : All (λ e. AreVariables D (own_in e.item)) entries

-- Where nothing is taken and all names are identifiers, a kernel of the lines is such.
abbrev pub NamesAreDeclared : Type 0
NamesAreDeclared =
    (K : Kernel) (entries : List Entry) → IsOfLines K entries → NoneTaken entries → AreIdentifiers entries
    → NamesAreThere K (declarations_of entries) entries
