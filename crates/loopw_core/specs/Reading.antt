-- How files are read one after the other.
use Rattle.std.specs.Prelude.{◌≡◌, ◌⊎◌, ℕ, ◌+◌, ◌^◌, ◌≤◌, List, [], ◌∷◌, ◌++◌, length}
use Rattle.host_io.specs.Told.{Told, Rose, IsFile, IsLongerThan, OpenMayFail, ReadsAtMost}
use Rattle.loopw_core.specs.declared.words.Source.{Source}
use Rattle.loopw_core.specs.declared.stop.Stop.{Stop}
use Rattle.loopw_core.specs.declared.stop.Stop.TheVariants.{OutOfMemory, Unread, Refused}
use Rattle.loopw_core.specs.Lines.{too_long}

-- The file was opened, and at most one byte more than a file may have was read, without a fault.
pub record ReadsOne (old new : Told) (path : List ℕ) : Type 0 where
  pub reads : ReadsAtMost old new path (2 ^ 20 + 1)
  pub no_fault : new.read_faults ≡ old.read_faults

-- It was read to its end, and these are its bytes, where files are told.
pub record ReadsWhole (old new : Told) (path bytes : List ℕ) : Type 0 where
  pub one : ReadsOne old new path
  pub file : IsFile old path bytes
  pub short : length bytes ≤ 2 ^ 20

-- all files were read, one after the other
abbrev pub ReadsAll : Told → Told → List Source → List (List ℕ) → Type 0
ReadsAll old new [] [] = new ≡ old
ReadsAll old new [] (bytes ∷ files) = ⊥
ReadsAll old new (source ∷ sources) [] = ⊥
ReadsAll old new (source ∷ sources) (bytes ∷ files) = (between : Told) × ReadsWhole old between source.path bytes × ReadsAll between new sources files

-- Memory was wanting; the file may have been read in part, and a read may have failed before.
pub record WantsIn (old new : Told) (path : List ℕ) : Type 0 where
  pub reads : ReadsAtMost old new path (2 ^ 20 + 1)
  pub later : old.read_faults ≤ new.read_faults

-- The file could not be opened or read.
pub record FailsIn (old new : Told) (path : List ℕ) : Type 0 where
  pub reads : ReadsAtMost old new path (2 ^ 20 + 1)
  pub rose : Rose old.read_faults new.read_faults
  pub later : old.read_faults ≤ new.read_faults
  pub cause : OpenMayFail old path

-- The file has too many bytes.
pub record LongIn (old new : Told) (path : List ℕ) : Type 0 where
  pub one : ReadsOne old new path
  pub longer : IsLongerThan old path (2 ^ 20)

-- the refusal of a file that is too long, or want of memory for it
abbrev pub IsLongStop : Source → Stop → Type 0
IsLongStop source OutOfMemory = Unit {0}
IsLongStop source (Unread name) = ⊥
IsLongStop source (Refused refusal word) = (refusal ≡ too_long source.site) × (word ≡ [])

-- a file that could not be opened or read, or want of memory for its name
abbrev pub IsUnreadStop : Source → Stop → Type 0
IsUnreadStop source OutOfMemory = Unit {0}
IsUnreadStop source (Unread name) = name ≡ source.path
IsUnreadStop source (Refused refusal word) = ⊥

-- why reading a file stops
abbrev pub StopsIn : Told → Told → Source → Stop → Type 0
StopsIn old new source OutOfMemory = WantsIn old new source.path
StopsIn old new source (Unread name) = (name ≡ source.path) × FailsIn old new source.path
StopsIn old new source (Refused refusal word) = (refusal ≡ too_long source.site) × ((word ≡ []) × LongIn old new source.path)

-- files were read one after the other until one stopped
abbrev pub StopsAt : Told → Told → List Source → Stop → Type 0
StopsAt old new [] stop = ⊥
StopsAt old new (source ∷ sources) stop = StopsIn old new source stop ⊎ ((between : Told) × (bytes : List ℕ) × ReadsWhole old between source.path bytes × StopsAt between new sources stop)

-- the files that were read stand behind others
pub record ReadsMore (old new : Told) (sources : List Source) (before after : List (List ℕ)) : Type 0 where
  pub files : List (List ℕ)
  pub added : after ≡ before ++ files
  pub read : ReadsAll old new sources files
