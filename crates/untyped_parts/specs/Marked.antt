-- Variables that are marked by their numbers.
use Rattle.std.specs.Prelude.{◌≡◌, ℕ, Bool, false, List, slice_get, unwrap_or}
use Rattle.expr_tree.specs.Scenes.{is_among}

-- whether the mark of this number is set; what has no mark is not marked
abbrev pub is_set : List Bool → ℕ → Bool
is_set marks var = unwrap_or (slice_get marks var) false

-- exactly the marks of these variables are set
abbrev pub AreMarks : List Bool → List ℕ → Type 0
AreMarks marks vars = (v : ℕ) → is_set marks v ≡ is_among vars v
