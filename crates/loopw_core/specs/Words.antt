-- The words of a call: what they ask, and which files they name.
use Rattle.std.specs.Prelude.{◌≡◌, ℕ, ◌+◌, ◌-◌, ◌*◌, Bool, true, false, ◌&&◌, nat_le, bytes_eq, if◌then◌else◌, List, [], ◌∷◌, map, codes, slice_get, unwrap_or, Option, Some, None, String, string_bytes}
use Rattle.std.specs.declared.alloc.Global.{Global}
use Rattle.code_tree.specs.declared.code.Target.{Target}
use Rattle.code_tree.specs.declared.code.Target.TheVariants.{C, OpenCl}
use Rattle.kernel_ir.specs.declared.fault.Site.TheVariants as site
use Rattle.loopw_core.specs.declared.words.Form.{Form}
use Rattle.loopw_core.specs.declared.words.Form.TheVariants.{Write, Show, Eval, Run, Gen}
use Rattle.loopw_core.specs.declared.words.Source.{Source}

-- the bytes of each word
abbrev pub bytes_of_words : List (String Global) → List (List ℕ)
bytes_of_words words = map string_bytes words

abbrev pub target_of : List ℕ → Option Target
target_of word = if bytes_eq word (codes "c") then Some C else if bytes_eq word (codes "opencl") then Some OpenCl else None

abbrev pub is_digit : ℕ → ℕ → Bool
is_digit least byte = nat_le least byte && nat_le byte 57

-- a number from 1 to 64 without sign or leading zero
abbrev pub count_of : List ℕ → Option ℕ
count_of (ones ∷ []) = if is_digit 49 ones then Some (ones - 48) else None
count_of (tens ∷ ones ∷ []) = if is_digit 49 tens && is_digit 48 ones && nat_le (10 * (tens - 48) + (ones - 48)) 64 then Some (10 * (tens - 48) + (ones - 48)) else None
count_of _ = None

abbrev pub write_form : Option Target → Option Form
write_form None = None
write_form (Some target) = Some (Write target)

abbrev pub gen_form : Option ℕ → Option Form
gen_form None = None
gen_form (Some count) = Some (Gen count)

abbrev pub two_words : List ℕ → List ℕ → Option Form
two_words command number = if bytes_eq command (codes "gen") then gen_form (count_of number) else None

abbrev pub three_words : List ℕ → Option Form
three_words command = if bytes_eq command (codes "show") then Some Show else if bytes_eq command (codes "eval") then Some Eval else None

abbrev pub four_words : List ℕ → List ℕ → Option Form
four_words command target =
    if bytes_eq command (codes "write") then write_form (target_of target) else if bytes_eq command (codes "run") then Some Run else None

-- the words one after the other: a command alone is of no form, nor are more than four words
abbrev pub with_third : List ℕ → List ℕ → List (List ℕ) → Option Form
with_third command target [] = four_words command target
with_third command target (fourth ∷ words) = None

abbrev pub with_second : List ℕ → List ℕ → List (List ℕ) → Option Form
with_second command target [] = three_words command
with_second command target (third ∷ words) = with_third command target words

abbrev pub with_first : List ℕ → List ℕ → List (List ℕ) → Option Form
with_first command first [] = two_words command first
with_first command first (second ∷ words) = with_second command first words

abbrev pub with_command : List ℕ → List (List ℕ) → Option Form
with_command command [] = None
with_command command (first ∷ words) = with_first command first words

-- what the words ask, where they are of a form: `write c|opencl KERNEL SCRIPT`, `show KERNEL SCRIPT`, `eval KERNEL ARGS`, `run CODE ARGS SCHEDULE`, `gen NUMBER`
abbrev pub form_of : List (List ℕ) → Option Form
form_of [] = None
form_of (command ∷ words) = with_command command words

-- ---- files

abbrev pub word_at : List (List ℕ) → ℕ → List ℕ
word_at words at = unwrap_or (slice_get words at) []

-- the script `-` is no file
abbrev pub script_sources : List ℕ → List Source
script_sources word = if bytes_eq word (codes "-") then [] else record { site = site.Script; path = word } ∷ []

-- the files that are read, in their order
abbrev pub sources_of : Form → List (List ℕ) → List Source
sources_of (Write target) words = record { site = site.Kernel; path = word_at words 2 } ∷ script_sources (word_at words 3)
sources_of Show words = record { site = site.Kernel; path = word_at words 1 } ∷ script_sources (word_at words 2)
sources_of Eval words = record { site = site.Kernel; path = word_at words 1 } ∷ record { site = site.Args; path = word_at words 2 } ∷ []
sources_of Run words = record { site = site.Code; path = word_at words 1 } ∷ record { site = site.Args; path = word_at words 2 } ∷ record { site = site.Schedule; path = word_at words 3 } ∷ []
sources_of (Gen count) words = []
