-- What a host tells: the files that can be opened, what is left to read of each open file, what was written, and the
-- counts of its faults. A host may keep the content to itself, which is then `None`.
use Rattle.std.specs.Prelude.{find, ◌≡◌, ◌⊎◌, ◌≢◌, ℕ, ◌+◌, ◌-◌, ◌^◌, ◌<◌, ◌≤◌, min, List, [], ◌∷◌, ◌++◌, length, Bool, false, not, ◌||◌, nat_le, Option, Some, None, is_some, IsSome, IfSome, IsSomeAnd, IsTrue, MatchOption, Contains}
use Rattle.std.specs.Option.{option_map}
use Rattle.std.specs.Str.{bytes_eq}
use Rattle.std.specs.Io.KnownBytes.{append_known, prepend_known}

-- the bytes under a name, of which the first entry counts
abbrev pub bytes_of : List (List ℕ × List ℕ) → List ℕ → Option (List ℕ)
bytes_of files name = option_map (λ file. file.1) (find (λ file. bytes_eq file.0 name) files)

pub record Told : Type 0 where
  pub files : Option (List (List ℕ × List ℕ))
  -- the numbers of the open files
  pub numbers : List ℕ
  -- the bytes not yet read, by file number
  pub unread : ℕ → Option (List ℕ)
  pub out : Option (List ℕ)
  pub err : Option (List ℕ)
  -- told by a host whose calls fail for no reason but a missing name, four open files or want of room: the bytes that
  -- out and err can hold together
  pub sure_room : Option ℕ
  pub read_faults : ℕ
  pub out_faults : ℕ
  pub err_faults : ℕ

-- whether a file has the name
abbrev pub is_there : Option (List (List ℕ × List ℕ)) → List ℕ → Bool
is_there None name = false
is_there (Some files) name = is_some (bytes_of files name)

abbrev pub known_length : Option (List ℕ) → ℕ
known_length None = 0
known_length (Some bytes) = length bytes

-- how many bytes out and err hold together
abbrev pub held : Told → ℕ
held told = known_length told.out + known_length told.err

-- an open can fail: the host is not sure, four files are open, or no file has the name
abbrev pub OpenMayFail : Told → List ℕ → Type 0
OpenMayFail told name = IfSome told.sure_room (λ _. IsTrue (nat_le 4 (length told.numbers) || not (is_there told.files name)))

-- so many more bytes may find no room: the host is not sure, or they are more than are left
abbrev pub LacksRoom : Told → ℕ → Type 0
LacksRoom told more = IfSome told.sure_room (λ room. room < held told + more)

-- a count after one more, which stays at its last value
abbrev pub next_count : ℕ → ℕ
next_count count = min (count + 1) (2 ^ 64 - 1)

-- a count grew, or stands at its last value
abbrev pub Rose : ℕ → ℕ → Type 0
Rose before now = next_count before ≤ now

-- a call that opens or reads failed: only its count changed, and did not fall
pub record FailsRead (old new : Told) : Type 0 where
  pub rose : Rose old.read_faults new.read_faults
  pub later : old.read_faults ≤ new.read_faults
  pub rest : new ≡ record old { read_faults = new.read_faults }

pub record FailsOut (old new : Told) : Type 0 where
  pub rose : Rose old.out_faults new.out_faults
  pub later : old.out_faults ≤ new.out_faults
  pub rest : new ≡ record old { out_faults = new.out_faults }

pub record FailsErr (old new : Told) : Type 0 where
  pub rose : Rose old.err_faults new.err_faults
  pub later : old.err_faults ≤ new.err_faults
  pub rest : new ≡ record old { err_faults = new.err_faults }

-- a file was opened under this number: where the files are told, the whole of it is unread
pub record Opens (old new : Told) (name : List ℕ) (file : ℕ) : Type 0 where
  pub fresh : ¬ Contains old.numbers file
  pub whole : MatchOption old.files (Unit {0}) (λ files. IsSome (bytes_of files name) × (new.unread file ≡ bytes_of files name))
  pub others : (other : ℕ) → other ≢ file → new.unread other ≡ old.unread other
  pub rest : new ≡ record old { numbers = old.numbers ++ file ∷ []; unread = new.unread }

-- these bytes were taken from an open file
pub record Takes (old new : Told) (file : ℕ) (taken : List ℕ) : Type 0 where
  pub bytes : old.unread file ≡ prepend_known taken (new.unread file)
  pub others : (other : ℕ) → other ≢ file → new.unread other ≡ old.unread other
  pub rest : new ≡ record old { unread = new.unread }

-- bytes were appended to out, and nothing else changed
abbrev pub after_out : Told → List ℕ → Told
after_out told bytes = record told { out = append_known told.out bytes }

abbrev pub after_err : Told → List ℕ → Told
after_err told bytes = record told { err = append_known told.err bytes }

-- a write of these bytes failed on the way: out has grown by a front of them, and else only its count changed
pub record FailsOutAfter (old new : Told) (bytes : List ℕ) : Type 0 where
  pub front : List ℕ
  pub rest : List ℕ
  pub parts : front ++ rest ≡ bytes
  pub lacks_room : LacksRoom old (length bytes)
  pub fails : FailsOut (after_out old front) new

pub record FailsErrAfter (old new : Told) (bytes : List ℕ) : Type 0 where
  pub front : List ℕ
  pub rest : List ℕ
  pub parts : front ++ rest ≡ bytes
  pub lacks_room : LacksRoom old (length bytes)
  pub fails : FailsErr (after_err old front) new

-- the file with this name, where the files are told, is these bytes
abbrev pub IsFile : Told → List ℕ → List ℕ → Type 0
IsFile told name bytes = MatchOption told.files (Unit {0}) (λ files. bytes_of files name ≡ Some bytes)

-- the file with this name, where the files are told, has more bytes than that
abbrev pub IsLongerThan : Told → List ℕ → ℕ → Type 0
IsLongerThan told name most = MatchOption told.files (Unit {0}) (λ files. IsSomeAnd (bytes_of files name) (λ bytes. most < length bytes))

-- a file was opened under this number and these bytes, its first ones, were taken from it; besides, only the count of
-- failed reads may have changed
pub record Reads (old new : Told) (name : List ℕ) (file : ℕ) (taken : List ℕ) : Type 0 where
  pub fresh : ¬ Contains old.numbers file
  pub front : MatchOption old.files (Unit {0}) (λ files. IsSome (bytes_of files name) × (bytes_of files name ≡ prepend_known taken (new.unread file)))
  pub others : (other : ℕ) → other ≢ file → new.unread other ≡ old.unread other
  pub rest : new ≡ record old { numbers = old.numbers ++ file ∷ []; unread = new.unread; read_faults = new.read_faults }

-- the file could not be opened, or it was, and at most so many bytes were taken
abbrev pub ReadsAtMost : Told → Told → List ℕ → ℕ → Type 0
ReadsAtMost old new name most = (new ≡ record old { read_faults = new.read_faults }) ⊎ ((file : ℕ) × (taken : List ℕ) × (length taken ≤ most) × Reads old new name file taken)
