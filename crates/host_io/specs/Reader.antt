-- Readers of files in memory: the place of a file, and how far it is read.
use Rattle.std.specs.Prelude.{ℕ, List, [], Option, None, if◌then◌else◌, nat_lt, drop, slice_get}
use Rattle.std.specs.Option.{option_map, unwrap_or}
use Rattle.host_io.specs.Files.{NamedFile}
use Rattle.host_io.specs.declared.memory.Reader.{Reader}

-- the bytes of the file at a place
abbrev pub bytes_at : List NamedFile → ℕ → List ℕ
bytes_at files place = unwrap_or (option_map (λ file. file.1.items) (slice_get files place)) []

-- what a reader has left of its file
abbrev pub left_of : List NamedFile → Reader → List ℕ
left_of files reader = drop reader.position (bytes_at files reader.place)

-- what is left of the file that is open under a number
abbrev pub unread_of : List NamedFile → List Reader → ℕ → ℕ → Option (List ℕ)
unread_of files readers opened number = if nat_lt number opened then option_map (left_of files) (slice_get readers number) else None
