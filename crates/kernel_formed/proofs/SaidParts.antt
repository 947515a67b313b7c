-- A kernel's arrays, temporaries and rules as lines say them.
use Rattle.std.specs.Prelude.{◌≡◌, List, map, filter, length}
use Rattle.kernel_ir.specs.declared.kernel.Kernel.{Kernel}
use Rattle.kernel_ir.specs.declared.kernel.Array as array
use Rattle.kernel_ir.specs.declared.kernel.Temp as temp
use Rattle.kernel_ir.specs.declared.kernel.SubstRule.{SubstRule}
use Rattle.kernel_ir.specs.NameSpace.{iname_vars}
use Rattle.kernel_grammar.specs.declared.file.Entry.{Entry}
use Rattle.kernel_names.specs.declared.said.Sort.TheVariants as sort
use Rattle.kernel_names.specs.declared.said.Said.{Said}
use Rattle.kernel_names.specs.Said.{said_by}
use Rattle.kernel_names.specs.Roles.{is_array, is_temp, is_rule, declarations_of, parameters_of, inames_of}

-- an array, a temporary and a rule, as a line says them
abbrev pub array_said : array.Array → Said
array_said a = record { sort = sort.Array (length a.shape) a.stored; name = a.name }

abbrev pub temp_said : temp.Temp → Said
temp_said t = record { sort = sort.Temp (length t.shape); name = t.name }

abbrev pub rule_said : SubstRule → Said
rule_said r = record { sort = sort.Rule; name = r.name }

-- The names and variables of the lines, and the arrays, temporaries and rules that they say, in order.
pub record HasNamesOf (K : Kernel) (entries : List Entry) : Type 0 where
  pub names : K.names ≡ (declarations_of entries).names
  pub params : K.params ≡ parameters_of (declarations_of entries)
  pub inames : iname_vars K ≡ inames_of (declarations_of entries)
  pub arrays : map array_said K.arrays ≡ filter (λ s. is_array s.sort) (said_by entries)
  pub temps : map temp_said K.temps ≡ filter (λ s. is_temp s.sort) (said_by entries)
  pub rules : map rule_said K.rules ≡ filter (λ s. is_rule s.sort) (said_by entries)
