-- Arrays, temporaries and rules of a kernel.
use Rattle.std.specs.Prelude.{ℕ, ◌^◌, ◌-◌, min, Bool, false, ◌&&◌, not, nat_le, List, map, length, Option, bytes_eq, unwrap_or, codes}
use Rattle.wrap_words.specs.declared.kind.Kind.{Kind}
use Rattle.affine_rows.specs.declared.quasi.Quasi.{Quasi}
use Rattle.quasi_forms.specs.Alike.{distinct}
use Rattle.kernel_grammar.specs.declared.step.Step.{Step}
use Rattle.kernel_ir.specs.declared.kernel.Array as array
use Rattle.kernel_ir.specs.declared.kernel.Temp as temp
use Rattle.kernel_ir.specs.declared.kernel.SubstRule.{SubstRule}
use Rattle.kernel_names.specs.declared.declarations.Declarations.{Declarations}
use Rattle.kernel_names.specs.declared.limit.LineFaults.{LineFaults}
use Rattle.kernel_limits.specs.Asked.{fits_size}
use Rattle.kernel_names.specs.Lines.{first_faults}
use Rattle.kernel_names.specs.Roles.{parameter_roles, body_roles, number_of}
use Rattle.untyped.specs.Readings.{Roles, tree_of, untyped_of}
use Rattle.untyped.specs.Exprs.{expr_of}
use Rattle.untyped_parts.specs.declared.trees.RuleTree.{RuleTree}
use Rattle.kernel_lines.specs.Conditions.{form_faults}
use Rattle.kernel_lines.specs.Places.{value_faults, forms_of, forms_faults}

-- an array; its shape is over parameters
abbrev pub array_of : Declarations → List ℕ → Kind → List (List Step) → Bool → array.Array
array_of D name kind shape stored = record { name = name; kind = kind; shape = forms_of (parameter_roles D) shape; stored = stored }

-- whether the row that says that it has at most 2^31-1 cells passes a limit; a shape of more than 8 places is refused for that
abbrev pub size_faults : List Quasi → LineFaults
size_faults shape = form_faults (nat_le (length shape) 8 && not (fits_size shape))

-- what is wrong in its shape, and then with its size
abbrev pub array_faults : Declarations → List (List Step) → LineFaults
array_faults D shape = first_faults (forms_faults (parameter_roles D) (codes "shape") shape) (size_faults (forms_of (parameter_roles D) shape))

-- a temporary; a number of its shape is at most 1048576 where the line is not refused
abbrev pub temp_of : List ℕ → Option Kind → List (Option ℕ) → temp.Temp
temp_of name kind shape = record { name = name; kind = kind; shape = map (λ entry. min (unwrap_or entry 0) (2 ^ 32 - 1)) shape; local = false }

-- a rule
abbrev pub roles_in_body : Declarations → List (List ℕ) → Roles
roles_in_body D params = body_roles D (distinct bytes_eq params)

abbrev pub rule_of : Declarations → List ℕ → List (List ℕ) → List Step → SubstRule
rule_of D name params body = record {
  name = name;
  params = map (number_of D) params;
  body = expr_of (tree_of (untyped_of (roles_in_body D params) body).part);
}

-- its body, before its kinds are asked
abbrev pub rule_tree : Declarations → ℕ → List (List ℕ) → List Step → RuleTree
rule_tree D line params body = record { line = line; body = tree_of (untyped_of (roles_in_body D params) body).part }

abbrev pub rule_faults : Declarations → List (List ℕ) → List Step → LineFaults
rule_faults D params body = value_faults (untyped_of (roles_in_body D params) body).faults
