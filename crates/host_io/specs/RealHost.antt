-- What the real host tells: which files are open, and the counts of its faults, and no content.
use Rattle.std.specs.Prelude.{ℕ, None}
use Rattle.host_io.specs.Files.{numbers_below}
use Rattle.host_io.specs.Told.{Told}

abbrev pub counts_told : ℕ → ℕ → ℕ → ℕ → Told
counts_told opened read_faults out_faults err_faults = record {
  files = None;
  numbers = numbers_below opened;
  unread = λ _. None;
  out = None;
  err = None;
  sure_room = None;
  read_faults = read_faults;
  out_faults = out_faults;
  err_faults = err_faults;
}
