-- The signs of each form.
use Rattle.std.specs.Prelude.{ℕ, Bool, false, ◌==◌, ◌&&◌, List, [], ◌∷◌, codes}
use Rattle.std.specs.List.{list_any}
use Rattle.text_reader.specs.declared.form.Form.{Form}
use Rattle.text_reader.specs.declared.form.Form.TheVariants.{Kernel, Fortran, Words}

-- the signs of one byte
abbrev pub singles : Form → List ℕ
singles Kernel = codes "[]{}(),:=<>+-*%|^&~"
singles Fortran = codes "(),=<>+-*"
singles Words = []

-- the signs of two bytes
abbrev pub pairs : Form → List (List ℕ)
pairs Kernel = codes ":=" ∷ codes "==" ∷ codes "+=" ∷ codes "*=" ∷ codes "<=" ∷ codes ">=" ∷ codes "!=" ∷ codes "->" ∷ codes ">>" ∷ codes "<<" ∷ codes "//" ∷ []
pairs Fortran = codes "==" ∷ codes "<=" ∷ codes ">=" ∷ codes "/=" ∷ codes "::" ∷ []
pairs Words = []

-- the text begins with the byte
abbrev pub is_first : ℕ → List ℕ → Bool
is_first c [] = false
is_first c (d ∷ ds) = c == d

-- the text is the two bytes
abbrev pub is_the_pair : ℕ → ℕ → List ℕ → Bool
is_the_pair c d (a ∷ b ∷ []) = (c == a) && (d == b)
is_the_pair c d _ = false

-- the byte is a sign
abbrev pub is_single : Form → ℕ → Bool
is_single form c = list_any (λ sign. c == sign) (singles form)

-- the two bytes are a sign
abbrev pub is_pair : Form → ℕ → ℕ → Bool
is_pair form c d = list_any (is_the_pair c d) (pairs form)

-- whether a sign of two bytes begins with the byte
abbrev pub begins_pair : Form → ℕ → Bool
begins_pair form c = list_any (is_first c) (pairs form)
