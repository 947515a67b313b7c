-- What the steps of an expression mean: each takes its operands off the parts that are read so far, the last one first.
use Rattle.std.specs.Prelude.{ℕ, ◌+◌, ◌-◌, max, pos, Bool, true, false, ◌&&◌, ◌||◌, nat_le, nat_lt, nat_eq, if◌then◌else◌, List, [], ◌∷◌, ◌++◌, length, take, drop, slice_index_or, Option, Some, None}
use Rattle.std.specs.List.{list_all}
use Rattle.std.specs.Option.{option_or}
use Rattle.wrap_words.specs.declared.kind.Kind.{Kind}
use Rattle.affine_rows.specs.declared.quasi.Quasi.{Quasi}
use Rattle.affine_rows.specs.Forms.{affine}
use Rattle.expr_tree.specs.declared.tree.Cell.{Cell}
use Rattle.kernel_grammar.specs.declared.step.Step.{Step}
use Rattle.kernel_grammar.specs.declared.step.Step.TheVariants as step
use Rattle.kernel_grammar.specs.declared.step.Prefix.{Prefix}
use Rattle.kernel_grammar.specs.declared.step.Prefix.TheVariants.{Negate}
use Rattle.kernel_grammar.specs.declared.step.Infix.{Infix}
use Rattle.kernel_grammar.specs.declared.step.Infix.TheVariants as infixed
use Rattle.kernel_grammar.specs.declared.step.Extreme.{Extreme}
use Rattle.kernel_grammar.specs.declared.step.Folding.{Folding}
use Rattle.kernel_grammar.specs.declared.step.Folding.TheVariants as folding
use Rattle.quasi_forms.specs.Collected.{constant_form}
use Rattle.untyped.specs.declared.tree.Untyped.{Untyped}
use Rattle.untyped.specs.declared.tree.Term.{Term}
use Rattle.untyped.specs.declared.tree.Term.TheVariants as term
use Rattle.untyped.specs.declared.scope.Role.{Role}
use Rattle.untyped.specs.declared.scope.Role.TheVariants as role
use Rattle.untyped.specs.declared.index.Collected.{Collected}
use Rattle.untyped.specs.declared.faults.Faults.{Faults}
use Rattle.untyped.specs.declared.reading.Part.{Part}
use Rattle.untyped.specs.declared.reading.Part.TheVariants as part
use Rattle.untyped.specs.declared.reading.Reading.{Reading}
use Rattle.untyped.specs.Indexes.{one, operated, negated}

-- what names stand for
abbrev pub Roles : Type 0
Roles = List ℕ → Role

-- ---- faults

abbrev pub no_faults : Faults
no_faults = record { wide = false; large = false; number = false; depth = false; form = false; unknown = None; shape = None }

-- the faults of one part and then of another
abbrev pub joined : Faults → Faults → Faults
joined a b = record {
  wide = a.wide || b.wide;
  large = a.large || b.large;
  number = a.number || b.number;
  depth = a.depth || b.depth;
  form = a.form || b.form;
  unknown = option_or a.unknown b.unknown;
  shape = option_or a.shape b.shape;
}

-- a name that stands for something else, before other faults
abbrev pub unknown_first : List ℕ → Faults → Faults
unknown_first name f = record f { unknown = Some name }

abbrev pub unknown_unless : Bool → List ℕ → Faults → Faults
unknown_unless fine name f = if fine then f else unknown_first name f

-- ---- parts

abbrev pub is_index : Part → Bool
is_index (part.Index form constant) = true
is_index (part.Tree tree) = false

-- an index expression as a tree
abbrev pub tree_of : Part → Untyped
tree_of (part.Index form constant) = record { term = term.Index form constant }
tree_of (part.Tree tree) = tree

-- an index expression over parts with these faults
abbrev pub index_reading : Collected → Faults → Reading
index_reading c f = record { part = part.Index c.form c.constant; depth = 1; faults = record f { form = f.form || c.over } }

-- what stands for an expression that is refused
abbrev pub refused_reading : Faults → Reading
refused_reading f = record { part = part.Index one false; depth = 1; faults = f }

-- a term over parts of this depth; nothing is deeper than 64
abbrev pub tree_reading : ℕ → Term → Faults → Reading
tree_reading below t f =
    if nat_lt below 64 then record { part = part.Tree (record { term = t }); depth = below + 1; faults = f }
    else refused_reading (record f { depth = true })

-- an index expression where there is one, and else a term
abbrev pub index_or_tree : Option Collected → ℕ → Term → Faults → Reading
index_or_tree None below t f = tree_reading below t f
index_or_tree (Some c) below t f = index_reading c f

-- ---- numbers and names

abbrev pub small_reading : ℕ → Reading
small_reading n =
    if nat_le n 1048576 then record { part = part.Index (constant_form (pos n)) true; depth = 1; faults = no_faults }
    else record { part = part.Tree (record { term = term.Literal n }); depth = 1; faults = record no_faults { large = true } }

-- a number past 2^64 - 1 has no value
abbrev pub number_reading : Option ℕ → Reading
number_reading None = refused_reading (record no_faults { wide = true; large = true })
number_reading (Some n) = small_reading n

abbrev pub variable_reading : ℕ → Reading
variable_reading v = record { part = part.Index (affine (pos 0) ((v, pos 1) ∷ [])) false; depth = 1; faults = no_faults }

-- a read of a cell, at as many subscripts as it has places
abbrev pub read_reading : List ℕ → Cell → Bool → List Quasi → Faults → Reading
read_reading name cell fits place f =
    record { part = part.Tree (record { term = term.Read cell place }); depth = 1; faults = unknown_unless fits name f }

-- a name without subscripts
abbrev pub name_reading : Role → List ℕ → Reading
name_reading (role.Parameter v) name = variable_reading v
name_reading (role.Iname v) name = variable_reading v
name_reading (role.Cell cell places) name = read_reading name cell (nat_eq places 0) [] no_faults
name_reading (role.Rule r) name = refused_reading (unknown_first name no_faults)
name_reading role.Unknown name = refused_reading (unknown_first name no_faults)

-- ---- subscripts and arguments

abbrev pub form_in : Part → List Quasi
form_in (part.Index form constant) = form ∷ []
form_in (part.Tree tree) = []

-- the index forms among operands
abbrev pub forms_in : List Reading → List Quasi
forms_in [] = []
forms_in (r ∷ rs) = form_in r.part ++ forms_in rs

-- the faults of operands, behind others
abbrev pub faults_behind : Faults → List Reading → Faults
faults_behind f [] = f
faults_behind f (r ∷ rs) = faults_behind (joined f r.faults) rs

-- the faults of operands of a name that have to be index expressions
abbrev pub place_faults : List ℕ → List Reading → Faults
place_faults name rs =
    let f = faults_behind no_faults rs in
    record f { number = f.number || f.large; shape = if list_all (λ r. is_index r.part) rs then f.shape else Some name }

abbrev pub place_reading : Role → List ℕ → ℕ → List Reading → Reading
place_reading (role.Cell cell places) name n rs = read_reading name cell (nat_eq places n) (forms_in rs) (place_faults name rs)
place_reading _ name n rs = refused_reading (unknown_first name (place_faults name rs))

abbrev pub use_reading : Role → List ℕ → List Reading → Reading
use_reading (role.Rule r) name rs =
    record { part = part.Tree (record { term = term.Use r (forms_in rs) }); depth = 1; faults = place_faults name rs }
use_reading _ name rs = refused_reading (unknown_first name (place_faults name rs))

-- ---- operators

abbrev pub negated_part : Prefix → Part → Option Collected
negated_part Negate (part.Index form constant) = Some (negated form constant)
negated_part _ _ = None

abbrev pub prefix_reading : Prefix → Reading → Reading
prefix_reading p a = index_or_tree (negated_part p a.part) a.depth (term.Prefix p (tree_of a.part)) a.faults

abbrev pub operated_parts : Infix → Part → Part → Option Collected
operated_parts op (part.Index f c) (part.Index g d) = operated op f c g d
operated_parts op (part.Index f c) (part.Tree b) = None
operated_parts op (part.Tree a) b = None

abbrev pub is_comparison : Infix → Bool
is_comparison (infixed.Compare relation) = true
is_comparison infixed.NotEqual = true
is_comparison _ = false

-- how deep the parts of an operation are; a comparison of index expressions has none
abbrev pub below_of : Infix → Reading → Reading → ℕ
below_of op a b = if is_comparison op && (is_index a.part && is_index b.part) then 0 else max a.depth b.depth

abbrev pub infix_reading : Infix → Reading → Reading → Reading
infix_reading op a b =
    index_or_tree (operated_parts op a.part b.part) (below_of op a b) (term.Infix op (tree_of a.part) (tree_of b.part)) (joined a.faults b.faults)

-- what stands for a shift by such a number
abbrev pub wide_reading : Faults → Reading
wide_reading f = refused_reading (record f { wide = true })

abbrev pub shift_left_reading : Option ℕ → Reading → Reading
shift_left_reading None a = wide_reading a.faults
shift_left_reading (Some by) a = tree_reading a.depth (term.ShiftLeft (tree_of a.part) by) a.faults

abbrev pub shift_right_reading : Option ℕ → Reading → Reading
shift_right_reading None a = wide_reading a.faults
shift_right_reading (Some by) a = tree_reading a.depth (term.ShiftRight (tree_of a.part) by) a.faults

abbrev pub cast_reading : Kind → Reading → Reading
cast_reading kind a = tree_reading a.depth (term.Cast kind (tree_of a.part)) a.faults

abbrev pub choose_reading : Reading → Reading → Reading → Reading
choose_reading a b c =
    tree_reading (max a.depth (max b.depth c.depth)) (term.Choose (tree_of a.part) (tree_of b.part) (tree_of c.part))
    (joined a.faults (joined b.faults c.faults))

-- ---- reductions

abbrev pub iname_in : Role → List ℕ
iname_in (role.Iname v) = v ∷ []
iname_in _ = []

-- the inames among names
abbrev pub inames_in : Roles → List (List ℕ) → List ℕ
inames_in roles [] = []
inames_in roles (name ∷ names) = iname_in (roles name) ++ inames_in roles names

abbrev pub unless_iname : Role → List ℕ → Option (List ℕ)
unless_iname (role.Iname v) name = None
unless_iname _ name = Some name

-- the first of the names that is no iname
abbrev pub no_iname_in : Roles → List (List ℕ) → Option (List ℕ)
no_iname_in roles [] = None
no_iname_in roles (name ∷ names) = option_or (unless_iname (roles name) name) (no_iname_in roles names)

abbrev pub fold_reading : Folding → List ℕ → Option (List ℕ) → Reading → Reading
fold_reading how inames unknown a =
    tree_reading a.depth (term.Fold how inames (tree_of a.part)) (record a.faults { unknown = option_or unknown a.faults.unknown })

-- over a name if it is an iname, and else of two values
abbrev pub extreme_reading : Role → Extreme → List ℕ → Reading → Reading
extreme_reading (role.Iname v) which name b = fold_reading (folding.Extreme which) (v ∷ []) None b
extreme_reading r which name b = infix_reading (infixed.Extreme which) (name_reading r name) b

-- ---- steps

-- the last part that is read, and those before it
abbrev pub top : List Reading → Reading
top rs = slice_index_or rs (length rs - 1) (refused_reading no_faults)

abbrev pub under : List Reading → List Reading
under rs = take (length rs - 1) rs

-- so many parts behind, and those before them
abbrev pub last_parts : ℕ → List Reading → List Reading
last_parts n rs = drop (length rs - n) rs

abbrev pub before_last : ℕ → List Reading → List Reading
before_last n rs = take (length rs - n) rs

abbrev pub step_read : Roles → Step → List Reading → List Reading
step_read roles (step.Number n) rs = rs ++ number_reading n ∷ []
step_read roles (step.Name name) rs = rs ++ name_reading (roles name) name ∷ []
step_read roles (step.Index name places) rs = before_last places rs ++ place_reading (roles name) name places (last_parts places rs) ∷ []
step_read roles (step.Call name places) rs = before_last places rs ++ use_reading (roles name) name (last_parts places rs) ∷ []
step_read roles (step.Prefix p) rs = under rs ++ prefix_reading p (top rs) ∷ []
step_read roles (step.Infix op) rs = under (under rs) ++ infix_reading op (top (under rs)) (top rs) ∷ []
step_read roles (step.ShiftLeft by) rs = under rs ++ shift_left_reading by (top rs) ∷ []
step_read roles (step.ShiftRight by) rs = under rs ++ shift_right_reading by (top rs) ∷ []
step_read roles (step.Cast kind) rs = under rs ++ cast_reading kind (top rs) ∷ []
step_read roles step.Choose rs = under (under (under rs)) ++ choose_reading (top (under (under rs))) (top (under rs)) (top rs) ∷ []
step_read roles (step.Fold how names) rs = under rs ++ fold_reading how (inames_in roles names) (no_iname_in roles names) (top rs) ∷ []
step_read roles (step.ExtremeOf which name) rs = under rs ++ extreme_reading (roles name) which name (top rs) ∷ []

-- the parts that steps leave
abbrev pub steps_read : Roles → List Step → List Reading → List Reading
steps_read roles [] rs = rs
steps_read roles (s ∷ ss) rs = steps_read roles ss (step_read roles s rs)

-- what the steps of an expression mean
abbrev pub untyped_of : Roles → List Step → Reading
untyped_of roles steps = top (steps_read roles steps [])
