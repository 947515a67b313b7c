-- What a host in memory tells, which is everything, and how it is set up.
use Rattle.std.specs.Prelude.{ℕ, List, [], Some, None}
use Rattle.host_io.specs.Told.{Told}
use Rattle.host_io.specs.Setup.{Setup, sure_room_of}
use Rattle.host_io.specs.Files.{NamedFile, entries, numbers_below}
use Rattle.host_io.specs.Reader.{unread_of}
use Rattle.host_io.specs.declared.memory.MemoryHost.{MemoryHost}

abbrev pub told_by : MemoryHost → Told
told_by host = record {
  files = Some (entries host.files.items);
  numbers = numbers_below host.opened;
  unread = unread_of host.files.items host.readers host.opened;
  out = Some host.out.items;
  err = Some host.err.items;
  sure_room = sure_room_of host.fail_open.items host.fail_read.items host.fail_write.items host.room;
  read_faults = host.read_faults;
  out_faults = host.out_faults;
  err_faults = host.err_faults;
}

abbrev pub setup_of : MemoryHost → Setup
setup_of host = record {
  piece = host.piece;
  room = host.room;
  fail_open = host.fail_open.items;
  fail_read = host.fail_read.items;
  fail_write = host.fail_write.items;
  opens = host.opens;
  reads = host.reads;
  writes = host.writes;
}

-- what a new host tells
abbrev pub new_told : List NamedFile → ℕ → List ℕ → List ℕ → List ℕ → Told
new_told files room fail_open fail_read fail_write = record {
  files = Some (entries files);
  numbers = [];
  unread = λ _. None;
  out = Some [];
  err = Some [];
  sure_room = sure_room_of fail_open fail_read fail_write room;
  read_faults = 0;
  out_faults = 0;
  err_faults = 0;
}

-- how a new host is set up: no call was made
abbrev pub new_setup : ℕ → ℕ → List ℕ → List ℕ → List ℕ → Setup
new_setup piece room fail_open fail_read fail_write = record {
  piece = piece;
  room = room;
  fail_open = fail_open;
  fail_read = fail_read;
  fail_write = fail_write;
  opens = 0;
  reads = 0;
  writes = 0;
}
