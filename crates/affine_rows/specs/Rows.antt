-- What a row says of the numbers of its variables.
use Rattle.std.specs.Prelude.{◌≡◌, ℕ, ◌^◌, ◌≤◌, ◌<◌, ℤ, pos, ◌+ℤ◌, ◌*ℤ◌, List, [], ◌∷◌, map, unsigned_abs, slice_index_or, All, ◌≤ℤ◌, MatchBool}
use Rattle.std.specs.List.Sorted.{IsStrictlyIncreasing}
use Rattle.affine_rows.specs.declared.row.Row.{Row}

-- the number of each variable
abbrev pub Env : Type 0
Env = ℕ → ℤ

-- the numbers of a list, by their places, and 0 past its end
abbrev pub env_of : List ℤ → Env
env_of at v = slice_index_or at v (pos 0)

-- a term's number
abbrev pub term_at : Env → ℕ × ℤ → ℤ
term_at env t = t.1 *ℤ env t.0

-- the sum of the terms
abbrev pub terms_at : Env → List (ℕ × ℤ) → ℤ
terms_at env [] = pos 0
terms_at env (t ∷ ts) = term_at env t +ℤ terms_at env ts

-- a row's value
abbrev pub row_at : Env → Row → ℤ
row_at env r = r.constant +ℤ terms_at env r.terms

-- what the row says
abbrev pub Holds : Env → Row → Type 0
Holds env r = MatchBool r.equal (row_at env r ≡ pos 0) (pos 0 ≤ℤ row_at env r)

-- an entry is no larger than 2^62
abbrev pub IsEntry : ℤ → Type 0
IsEntry z = unsigned_abs z ≤ 2 ^ 62

-- the term's variable is below the width, and its factor is an entry and not 0
pub record IsTerm (width : ℕ) (t : ℕ × ℤ) : Type 0 where
  pub var : t.0 < width
  pub entry : IsEntry t.1
  pub nonzero : 0 < unsigned_abs t.1

-- a row over `width` variables
pub record IsRow (width : ℕ) (r : Row) : Type 0 where
  pub constant : IsEntry r.constant
  pub terms : All (IsTerm width) r.terms
  pub rising : IsStrictlyIncreasing (map (λ t. t.0) r.terms)
