-- What is kept of the lines that are read.
use Rattle.std.specs.Prelude.{◌≡◌, List, map, bytes_eq}
use Rattle.quasi_forms.specs.Alike.{distinct}
use Rattle.kernel_names.specs.declared.said.Said.{Said}
use Rattle.kernel_names.specs.declared.lines.Reading.{Reading}
use Rattle.kernel_names.specs.Tables.{IsTable}

-- The table of what is said, and its names, each once.
pub record IsRead (r : Reading) (said : List Said) : Type 0 where
  pub table : IsTable r.table said
  pub names : r.said ≡ distinct bytes_eq (map (λ s. s.name) said)
