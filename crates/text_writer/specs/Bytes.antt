-- Texts made of texts.
use Rattle.std.specs.Prelude.{ℕ, zero, suc, Bool, true, false, List, [], ◌∷◌, ◌++◌, codes}

-- the bytes of a text
abbrev pub Bytes : Type 0
Bytes = List ℕ

abbrev pub in_round : Bytes → Bytes
in_round text = codes "(" ++ text ++ codes ")"

abbrev pub in_square : Bytes → Bytes
in_square text = codes "[" ++ text ++ codes "]"

-- a text so many times
abbrev pub repeated : Bytes → ℕ → Bytes
repeated text zero = []
repeated text (suc n) = text ++ repeated text n

-- what stands before an entry of a list; nothing stands before the first
abbrev pub gap_text : Bool → Bytes → Bytes
gap_text true gap = []
gap_text false gap = gap

-- the entries of a list with a gap between them; `first` says that none stands before them
abbrev pub separated : Bool → Bytes → List Bytes → Bytes
separated first gap [] = []
separated first gap (entry ∷ entries) = gap_text first gap ++ entry ++ separated false gap entries
