-- The value and the predicate of an instruction.
use Rattle.std.specs.Prelude.{ℕ, Bool, true, false, ◌&&◌, ◌||◌, nat_le}
use Rattle.kernel_grammar.specs.declared.item.Stored.{Stored}
use Rattle.kernel_grammar.specs.declared.item.Stored.TheVariants.{Plain, Update}
use Rattle.kernel_names.specs.declared.limit.LineFaults.{LineFaults}
use Rattle.untyped.specs.declared.reading.Reading.{Reading}
use Rattle.kernel_lines.specs.Places.{value_faults}

abbrev pub is_update : Stored → Bool
is_update Plain = false
is_update (Update folding) = true

-- the value of an update counts one deeper, and nothing is deeper than 64
abbrev pub stored_faults : Stored → Reading → LineFaults
stored_faults stored r = value_faults (record r.faults { depth = r.faults.depth || (is_update stored && nat_le 64 r.depth) })
