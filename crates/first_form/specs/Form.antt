-- The one form of kernel files, line by line.
use Rattle.std.specs.Prelude.{◌≡◌, ℕ, ◌≤◌, Bool, true, not, ◌&&◌, List, [], ◌∷◌, ◌++◌, take, codes, bytes_eq}
use Rattle.std.specs.Fmt.{decimal}
use Rattle.std.specs.List.{list_all, list_any, concat}
use Rattle.first_form.specs.declared.form.FirstForm.{FirstForm}
use Rattle.first_form.specs.Names.{is_name}

-- a line feed
abbrev pub newline : List ℕ
newline = codes "\n"

abbrev pub domain_line : List ℕ → List ℕ → List ℕ
domain_line param iname = codes "domain [" ++ param ++ codes "] -> { [" ++ iname ++ codes "] : 0 <= " ++ iname ++ codes " < " ++ param ++ codes " }" ++ newline

abbrev pub array_line : List ℕ → List ℕ → List ℕ → List ℕ
array_line role name param = role ++ codes " " ++ name ++ codes ": int32[" ++ param ++ codes "]" ++ newline

abbrev pub store_line : List ℕ → List ℕ → List ℕ → ℕ → List ℕ
store_line output input iname factor = output ++ codes "[" ++ iname ++ codes "] = " ++ decimal factor ++ codes "*" ++ input ++ codes "[" ++ iname ++ codes "]" ++ newline

-- the lines of the file
abbrev pub lines_of : FirstForm → List (List ℕ)
lines_of f =
    (codes "kernel 1" ++ newline)
    ∷ domain_line f.param f.iname
    ∷ array_line (codes "input") f.input f.param
    ∷ array_line (codes "output") f.output f.param
    ∷ store_line f.output f.input f.iname f.factor
    ∷ []

-- the names that each line declares
abbrev pub declared_by : FirstForm → List (List (List ℕ))
declared_by f = [] ∷ (f.param ∷ f.iname ∷ []) ∷ (f.input ∷ []) ∷ (f.output ∷ []) ∷ [] ∷ []

abbrev pub joined : List (List (List ℕ)) → List (List ℕ)
joined [] = []
joined (names ∷ more) = names ++ joined more

abbrev pub are_different : List (List ℕ) → Bool
are_different [] = true
are_different (name ∷ names) = not (list_any (bytes_eq name) names) && are_different names

-- names, each once
abbrev pub are_names : List (List ℕ) → Bool
are_names names = list_all is_name names && are_different names

-- The bytes begin with the first lines of the form, so many of them, with these names and this factor; what follows is the rest.
pub record Begins (count : ℕ) (f : FirstForm) (bytes rest : List ℕ) : Type 0 where
  pub text : bytes ≡ concat (take count (lines_of f)) ++ rest
  pub names : are_names (joined (take count (declared_by f))) ≡ true
  pub factor : count ≡ 5 → f.factor ≤ 1048576

-- The bytes are a file of the form.
abbrev pub IsFile : List ℕ → FirstForm → Type 0
IsFile bytes f = Begins 5 f bytes []
