-- What is kept of the declarations of the lines that are read.
use Rattle.std.specs.Prelude.{◌≡◌, ℕ, ◌+◌, List}
use Rattle.expr_tree.specs.declared.tree.Cell.TheVariants as cell
use Rattle.untyped.specs.declared.scope.Role.{Role}
use Rattle.untyped.specs.declared.scope.Role.TheVariants as role
use Rattle.kernel_names.specs.declared.said.Sort.{Sort}
use Rattle.kernel_names.specs.declared.said.Sort.TheVariants as sort
use Rattle.kernel_names.specs.declared.said.Said.{Said}
use Rattle.kernel_names.specs.declared.table.Counts.{Counts}
use Rattle.kernel_names.specs.declared.table.Table.{Table}
use Rattle.kernel_names.specs.Said.{declarations_in, names_declared}
use Rattle.kernel_names.specs.Roles.{is_parameter, is_array, is_temp, is_rule, count_as, roles_declared, stored_declared}

abbrev pub counts_of : List Said → Counts
counts_of ds = record { parameters = count_as is_parameter ds; arrays = count_as is_array ds; temps = count_as is_temp ds; rules = count_as is_rule ds }

abbrev pub counts_with : Counts → Sort → Counts
counts_with c sort.Parameter = record c { parameters = c.parameters + 1 }
counts_with c sort.Iname = c
counts_with c (sort.Array places stored) = record c { arrays = c.arrays + 1 }
counts_with c (sort.Temp places) = record c { temps = c.temps + 1 }
counts_with c sort.Rule = record c { rules = c.rules + 1 }
counts_with c sort.Own = c

-- what the next declaration stands for, where there are so many names
abbrev pub role_with : ℕ → Counts → Sort → Role
role_with names c sort.Parameter = role.Parameter names
role_with names c sort.Iname = role.Iname names
role_with names c (sort.Array places stored) = role.Cell (cell.Array c.arrays) places
role_with names c (sort.Temp places) = role.Cell (cell.Temp c.temps) places
role_with names c sort.Rule = role.Rule c.rules
role_with names c sort.Own = role.Unknown

-- The table is that of the declarations among what is said.
pub record IsTable (t : Table) (said : List Said) : Type 0 where
  pub names : t.names ≡ names_declared said
  pub roles : t.roles ≡ roles_declared said
  pub stored : t.stored ≡ stored_declared said
  pub counts : t.counts ≡ counts_of (declarations_in said)
