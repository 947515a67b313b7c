-- Lines of the form at the front of bytes.
use Rattle.std.specs.Prelude.{◌≡◌, ℕ, ◌≤◌, true, List, [], ◌∷◌, ◌++◌}
use Rattle.first_form.specs.Form.{domain_line, array_line, store_line, are_names}

-- A domain line that declares two names, and then the rest.
pub record IsDomainLine (bytes param iname rest : List ℕ) : Type 0 where
  pub is : bytes ≡ domain_line param iname ++ rest
  pub names : are_names (param ∷ iname ∷ []) ≡ true

-- A line of an array whose name differs from those that are declared, and then the rest.
pub record IsArrayLine (role param : List ℕ) (declared : List (List ℕ)) (bytes name rest : List ℕ) : Type 0 where
  pub is : bytes ≡ array_line role name param ++ rest
  pub names : are_names (declared ++ (name ∷ [])) ≡ true

-- A store line of a factor within its limit, and then the rest.
pub record IsStoreLine (output input iname bytes : List ℕ) (factor : ℕ) (rest : List ℕ) : Type 0 where
  pub is : bytes ≡ store_line output input iname factor ++ rest
  pub small : factor ≤ 1048576
