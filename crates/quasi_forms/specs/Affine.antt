-- Which trees are index expressions, and of which form.
use Rattle.std.specs.Prelude.{◌≡◌, MatchOption, ℤ, pos, neg_ℤ, Bool, true, false, ◌&&◌, nat_le, if◌then◌else◌, List, [], ◌∷◌, ◌++◌, Option, Some, None}
use Rattle.std.specs.List.{AllByRecursion}
use Rattle.wrap_words.specs.declared.kind.Kind.{Kind}
use Rattle.wrap_words.specs.Words.{word_of}
use Rattle.affine_rows.specs.declared.quasi.Quasi.{Quasi}
use Rattle.affine_rows.specs.Forms.{form_at}
use Rattle.expr_tree.specs.declared.tree.Op.{Op}
use Rattle.expr_tree.specs.declared.tree.Op.TheVariants.{Add, Mul, Sub}
use Rattle.expr_tree.specs.declared.tree.Node.TheOpen.{Node-F, Test-F, Expr-F}
use Rattle.expr_tree.specs.declared.tree.Expr.{Expr, fold-Expr}
use Rattle.expr_tree.specs.Scenes.{each_var, Scene}
use Rattle.expr_tree.specs.Meaning.{World, meaning_of}
use Rattle.quasi_forms.specs.Collected.{constant_form, sum_form}
use Rattle.quasi_forms.specs.Limits.{IsWithin}

-- an index expression: its form, whether no variable is written in it, and each form that is collected on the way, itself the last
pub record Part : Type 0 where
  pub form : Quasi
  pub constant : Bool
  pub steps : List Quasi

-- no variable occurs in the form
abbrev pub is_constant : Quasi → Bool
is_constant = each_var (λ v. false)

-- the number of a form without variables
abbrev pub number_of_form : Quasi → ℤ
number_of_form = form_at (λ v. pos 0)

abbrev pub collected_part : Bool → List Quasi → Quasi → Part
collected_part constant steps form = record { form = form; constant = constant; steps = steps ++ form ∷ [] }

abbrev pub number_part : ℤ → Part
number_part c = collected_part true [] (constant_form c)

-- one index expression plus a multiple of another
abbrev pub sum_part : Part → ℤ → Part → Part
sum_part a times b = collected_part (a.constant && b.constant) (a.steps ++ b.steps) (sum_form a.form times b.form)

abbrev pub sum_of_parts : Option Part → ℤ → Option Part → Option Part
sum_of_parts None times b = None
sum_of_parts (Some a) times None = None
sum_of_parts (Some a) times (Some b) = Some (sum_part a times b)

-- the multiple of a form by the number of a form without variables
abbrev pub times_form : Quasi → Quasi → Quasi
times_form number f = sum_form (constant_form (pos 0)) (number_of_form number) f

-- the multiple of an index expression by a number that is written as one
abbrev pub multiple_part : Part → Part → Part
multiple_part number a = collected_part (number.constant && a.constant) (number.steps ++ a.steps) (times_form number.form a.form)

-- a product of which one side is a number
abbrev pub product_of_parts : Option Part → Option Part → Option Part
product_of_parts None b = None
product_of_parts (Some a) None = None
product_of_parts (Some a) (Some b) = if a.constant then Some (multiple_part a b) else if b.constant then Some (multiple_part b a) else None

abbrev pub operation_part : Op → Option Part → Option Part → Option Part
operation_part Add a b = sum_of_parts a (pos 1) b
operation_part Sub a b = sum_of_parts a (neg_ℤ (pos 1)) b
operation_part Mul a b = product_of_parts a b
operation_part _ a b = None

-- One node, with what each child is as an index expression in its place: numbers up to 1048576, forms, sums, differences, and products with a number.
abbrev pub affine_node : Node-F (Option Part) (Unit {0}) (Option Part) → Option Part
affine_node (Node-F.Literal n) = if nat_le n 1048576 then Some (number_part (pos n)) else None
affine_node (Node-F.Leaf form) = Some (collected_part (is_constant form) [] form)
affine_node (Node-F.Neg a) = sum_of_parts (Some (number_part (pos 0))) (neg_ℤ (pos 1)) a
affine_node (Node-F.Bin op a b) = operation_part op a b
affine_node _ = None

abbrev pub affine_test : Test-F (Option Part) (Unit {0}) (Option Part) → Unit {0}
affine_test t = tt

abbrev pub affine_expr : Expr-F (Option Part) (Unit {0}) (Option Part) → Option Part
affine_expr e = e.node

-- the tree as an index expression, if it is one
abbrev pub affine_part : Expr → Option Part
affine_part = fold-Expr (Option Part) (Unit {0}) (Option Part) affine_node affine_test affine_expr

-- whether no variable is written in it, if it is one
abbrev pub constant_of : Option Part → Option Bool
constant_of None = None
constant_of (Some p) = Some p.constant

-- the form is that of the index expression, and each form on the way is within the limits
abbrev pub IsFormOf : Option Part → Quasi → Type 0
IsFormOf part f = MatchOption part ⊥ (λ p. (f ≡ p.form) × AllByRecursion IsWithin p.steps)

-- the form and what is written in it are those of the index expression, and each form on the way is within the limits
pub record IsMade (p : Part) (constant : Bool) (f : Quasi) : Type 0 where
  pub form : f ≡ p.form
  pub written : constant ≡ p.constant
  pub within : AllByRecursion IsWithin p.steps

-- the same of a tree that is an index expression
abbrev pub IsMadeOf : Option Part → Bool → Quasi → Type 0
IsMadeOf part constant f = MatchOption part ⊥ (λ p. IsMade p constant f)

-- the fact of any two index expressions that are made so
abbrev pub OfBoth : Bool → Quasi → Bool → Quasi → (Part → Part → Type 0) → Type 0
OfBoth c f d g P = (p q : Part) → IsMade p c f → IsMade q d g → P p q

-- a form on the way is not within the limits
abbrev pub PassesLimit : Option Part → Type 0
PassesLimit part = MatchOption part ⊥ (λ p. AllByRecursion IsWithin p.steps → ⊥)

-- if it is an index expression, a form on the way is not within the limits
abbrev pub CannotBeMade : Option Part → Type 0
CannotBeMade part = MatchOption part (Unit {0}) (λ p. AllByRecursion IsWithin p.steps → ⊥)

-- the tree has a value in every world and scene and at each kind: the word of the form's number
abbrev pub Means : Expr → Quasi → Type 0
Means e f = (w : World) (at : Scene) (k : Kind) → ((meaning_of w e at).has k ≡ true) × ((meaning_of w e at).at k ≡ word_of k (form_at at.env f))
