-- Names that have numbers.
use Rattle.std.specs.Prelude.{ℕ, ◌^◌, ◌<◌, List, length, bytes_eq}
use Rattle.std.specs.List.{IsDistinct}

-- they differ, and there are fewer than 2^32
pub record IsNumbered (names : List (List ℕ)) : Type 0 where
  pub distinct : IsDistinct bytes_eq names
  pub few : length names < 2 ^ 32
