-- Where an expression stands: the inames in scope, and the number of each variable.
use Rattle.std.specs.Prelude.{ℕ, zero, suc, ◌^◌, ℤ, pos, ◌+ℤ◌, neg_ℤ, Bool, ◌&&◌, not, nat_eq, int_le, if◌then◌else◌, List, [], ◌∷◌, ◌++◌, map, flat_map, filter}
use Rattle.std.specs.Ordering.{int_eq}
use Rattle.std.specs.List.{list_all, list_any}
use Rattle.affine_rows.specs.declared.quasi.Quasi.{Quasi, fold-Quasi}
use Rattle.affine_rows.specs.Rows.{Env}
use Rattle.affine_rows.specs.Forms.{form_at}
use Rattle.expr_tree.specs.declared.row.QuasiRow.{QuasiRow}

-- the numbers put for the variables, the first for the first, and so on
abbrev pub given : List ℕ → List ℤ → Env → Env
given [] numbers env v = env v
given (u ∷ us) [] env v = env v
given (u ∷ us) (z ∷ zs) env v = if nat_eq u v then z else given us zs env v

abbrev pub is_among : List ℕ → ℕ → Bool
is_among us v = list_any (λ u. nat_eq u v) us

-- the row's form is at least 0, or equals 0
abbrev pub row_holds : Env → QuasiRow → Bool
row_holds env r = if r.equal then int_eq (form_at env r.form) (pos 0) else int_le (pos 0) (form_at env r.form)

abbrev pub rows_hold : Env → List QuasiRow → Bool
rows_hold env rows = list_all (row_holds env) rows

-- each variable of the form, under floors too, passes the test
abbrev pub each_var : (ℕ → Bool) → Quasi → Bool
each_var test = fold-Quasi Bool Bool (λ f. f.inner) (λ q. list_all (λ t. test t.0) q.terms && list_all (λ b. b) q.floors)

-- the form has no variable but these
abbrev pub mentions_only : List ℕ → Quasi → Bool
mentions_only vars = each_var (is_among vars)

-- the form has one of the variables
abbrev pub mentions_one : List ℕ → Quasi → Bool
mentions_one vars q = not (each_var (λ v. not (is_among vars v)) q)

pub record Scene : Type 0 where
  pub scope : List ℕ
  pub env : Env

-- n numbers, from the least on
abbrev pub numbers_from : ℤ → ℕ → List ℤ
numbers_from least zero = []
numbers_from least (suc n) = least ∷ numbers_from (least +ℤ pos 1) n

-- all numbers that an iname may have
unfoldable pub every_number : List ℤ
every_number = numbers_from (neg_ℤ (pos (2 ^ 31))) (2 ^ 32)

-- each list of one of these numbers for each of the inames, the last one varying fastest
abbrev pub choices : List ℤ → List ℕ → List (List ℤ)
choices numbers [] = [] ∷ []
choices numbers (i ∷ is) = flat_map (λ z. map (λ zs. z ∷ zs) (choices numbers is)) numbers

-- the scene with a number for each of the inames
abbrev pub widened : Scene → List ℕ → List ℤ → Scene
widened at inames numbers = record { scope = at.scope ++ inames; env = given inames numbers at.env }

-- the domain rows that mention one of the inames, and otherwise only what is in scope
abbrev pub rows_over : List ℕ → List QuasiRow → List ℕ → List ℕ → List QuasiRow
rows_over params rows scope inames = filter (λ r. mentions_one inames r.form && mentions_only (params ++ scope ++ inames) r.form) rows

-- the scenes of a reduction over the inames: one for each choice of numbers at which its rows hold
abbrev pub points_among : List ℤ → List ℕ → List QuasiRow → List ℕ → Scene → List Scene
points_among numbers params rows inames at =
    map (widened at inames)
    (filter (λ zs. rows_hold (widened at inames zs).env (rows_over params rows at.scope inames)) (choices numbers inames))
