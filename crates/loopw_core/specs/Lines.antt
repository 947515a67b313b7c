-- The lines that are written on err.
use Rattle.std.specs.Prelude.{ℕ, pos, List, [], ◌∷◌, ◌++◌, codes}
use Rattle.kernel_ir.specs.declared.fault.Site.{Site}
use Rattle.kernel_ir.specs.declared.fault.Refusal.{Refusal}
use Rattle.kernel_ir.specs.Refusals.{passed_limit}

abbrev pub newline : List ℕ
newline = codes "\n"

unfoldable pub usage_line : List ℕ
usage_line = codes "usage: loopw write c|opencl KERNEL SCRIPT, show KERNEL SCRIPT, eval KERNEL ARGS, run CODE ARGS SCHEDULE, gen NUMBER" ++ newline

-- the line of a file that could not be opened or read
unfoldable pub read_fault_line : List ℕ → List ℕ
read_fault_line name = codes "read fault: " ++ name ++ newline

-- rule 3: the file has more bytes than that
abbrev pub too_long : Site → Refusal
too_long site = passed_limit site (codes "bytes") (pos 1048576)
