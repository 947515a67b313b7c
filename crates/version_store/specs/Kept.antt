-- Kept versions of a kernel.
use Rattle.std.specs.Prelude.{ℕ, pos, nat_le, Bool, if◌then◌else◌, List, [], ◌∷◌, ◌++◌, length, find, bytes_eq, Option, Some, None, codes}
use Rattle.std.specs.List.{list_any}
use Rattle.kernel_ir.specs.declared.fault.Refusal.{Refusal}
use Rattle.kernel_ir.specs.declared.fault.Site.TheVariants.{Script}
use Rattle.kernel_ir.specs.Refusals.{passed_limit, taken_name, unknown_name}
use Rattle.version_store.specs.declared.versions.Kept as declared
use Rattle.version_store.specs.declared.versions.Versions.{Versions}

-- whether a version is kept under the name
abbrev pub is_kept : List declared.Kept → List ℕ → Bool
is_kept kept name = list_any (λ k. bytes_eq k.name name) kept

-- the version that is kept under the name
abbrev pub kept_under : List declared.Kept → List ℕ → Option declared.Kept
kept_under kept name = find (λ k. bytes_eq k.name name) kept

-- the current kernel is kept under the name, behind those that were kept before
abbrev pub with_kept : Versions → List ℕ → Versions
with_kept versions name = record versions { kept = versions.kept ++ record { name = name; sound = versions.current } ∷ [] }

-- at 16 versions there is no room for one more
abbrev pub room_refusal : List declared.Kept → Option Refusal
room_refusal kept = if nat_le 16 (length kept) then Some (passed_limit Script (codes "versions") (pos 16)) else None

-- keeping is refused where the name is taken, or else where there is no room
abbrev pub keep_refusal : List declared.Kept → List ℕ → Option Refusal
keep_refusal kept name = if is_kept kept name then Some (taken_name Script name) else room_refusal kept

-- going back is refused where nothing is kept under the name
abbrev pub unkept_refusal : Option declared.Kept → List ℕ → Option Refusal
unkept_refusal None name = Some (unknown_name Script name)
unkept_refusal (Some version) name = None

abbrev pub back_refusal : List declared.Kept → List ℕ → Option Refusal
back_refusal kept name = unkept_refusal (kept_under kept name) name
