-- Refusals, and which answers are refused.
use Rattle.std.specs.Prelude.{◌≡◌, ℕ, ℤ, pos, List, [], ◌∷◌, Bool, if◌then◌else◌, nat_le, length, bytes_eq, Option, Some, None, Result, Ok, Err, codes}
use Rattle.std.specs.List.{list_any}
use Rattle.kernel_ir.specs.declared.fault.Site.{Site}
use Rattle.kernel_ir.specs.declared.fault.Site.TheVariants.{Kernel}
use Rattle.kernel_ir.specs.declared.fault.Refusal.{Refusal}
use Rattle.kernel_ir.specs.declared.fault.Fault.{Fault}
use Rattle.kernel_ir.specs.declared.fault.Fault.TheVariants.{OutOfMemory, Rule}

-- a refusal where no line is at fault and no point shows why
abbrev pub refusal : Site → ℕ → List (List ℕ) → List ℤ → Refusal
refusal site number names numbers = record { site = site; line = 0; number = number; names = names; numbers = numbers; point = None }

-- the name is unknown
abbrev pub unknown_name : Site → List ℕ → Refusal
unknown_name site name = refusal site 1 (name ∷ []) []

-- the name is taken
abbrev pub taken_name : Site → List ℕ → Refusal
taken_name site name = refusal site 2 (name ∷ []) []

-- there are more of these than the limit
abbrev pub passed_limit : Site → List ℕ → ℤ → Refusal
passed_limit site what limit = refusal site 3 (what ∷ []) (limit ∷ [])

-- the fault is this refusal, or want of memory
abbrev pub IsFault : Option Refusal → Fault → Type 0
IsFault expected OutOfMemory = Unit {0}
IsFault expected (Rule given) = expected ≡ Some given

-- a call refuses where there is a refusal, with that one, and answers only where there is none; it may want memory
abbrev pub Refuses : {T : Type 0} → Option Refusal → Result T Fault → Type 0
Refuses expected (Ok answer) = expected ≡ None
Refuses expected (Err fault) = IsFault expected fault

-- ---- names of a kernel

-- whether the name is among them
abbrev pub is_name : List (List ℕ) → List ℕ → Bool
is_name names name = list_any (bytes_eq name) names

-- looking up a name is refused where it is unknown
abbrev pub find_refusal : List (List ℕ) → List ℕ → Option Refusal
find_refusal names name = if is_name names name then None else Some (unknown_name Kernel name)

-- at 65536 names there is no room for one more
abbrev pub room_refusal : List (List ℕ) → Option Refusal
room_refusal names = if nat_le 65536 (length names) then Some (passed_limit Kernel (codes "names") (pos 65536)) else None

-- adding a name is refused where it is taken, or else where there is no room
abbrev pub fresh_refusal : List (List ℕ) → List ℕ → Option Refusal
fresh_refusal names name = if is_name names name then Some (taken_name Kernel name) else room_refusal names
