-- How a host in memory is set up, and when and how far its calls go by that.
use Rattle.std.specs.Prelude.{ℕ, List, [], length, Bool, not, ◌||◌, nat_eq, nat_le, Option, Some, None}
use Rattle.std.specs.List.{list_any}
use Rattle.host_io.specs.Told.{Told, is_there, held, next_count}

pub record Setup : Type 0 where
  -- the most bytes that a call takes or gives
  pub piece : ℕ
  -- the bytes that out and err can hold together
  pub room : ℕ
  -- the numbers of the calls that fail, counted from 1; both write calls count as one sort
  pub fail_open : List ℕ
  pub fail_read : List ℕ
  pub fail_write : List ℕ
  -- how many calls of each sort were made
  pub opens : ℕ
  pub reads : ℕ
  pub writes : ℕ

abbrev pub after_open : Setup → Setup
after_open setup = record setup { opens = next_count setup.opens }

abbrev pub after_read : Setup → Setup
after_read setup = record setup { reads = next_count setup.reads }

abbrev pub after_write : Setup → Setup
after_write setup = record setup { writes = next_count setup.writes }

-- the room of a host whose lists are empty, which fails for no reason of its own
abbrev pub sure_room_of : List ℕ → List ℕ → List ℕ → ℕ → Option ℕ
sure_room_of [] [] [] room = Some room
sure_room_of fail_open fail_read fail_write room = None

-- whether a number stands in a list
abbrev pub is_listed : List ℕ → ℕ → Bool
is_listed listed number = list_any (λ other. nat_eq other number) listed

-- the next open fails: its number is listed, four files are open, or no file has the name
abbrev pub open_fails : Setup → Told → List ℕ → Bool
open_fails setup told name = (is_listed setup.fail_open (next_count setup.opens) || nat_le 4 (length told.numbers)) || not (is_there told.files name)

-- the next read fails: its number is listed
abbrev pub read_fails : Setup → Bool
read_fails setup = is_listed setup.fail_read (next_count setup.reads)

-- the next write fails: its number is listed, or no room is left
abbrev pub write_fails : Setup → Told → Bool
write_fails setup told = is_listed setup.fail_write (next_count setup.writes) || nat_le setup.room (held told)
