-- What a kernel declares, by name.
use Rattle.std.specs.Prelude.{◌≡◌, ℕ, Bool, true, false, ◌&&◌, ◌||◌, nat_le, nat_lt, nat_eq, bytes_eq, if◌then◌else◌, List, [], ◌∷◌, ◌++◌, map, length, slice_get, Option, Some, None}
use Rattle.std.specs.List.{list_all, list_any}
use Rattle.kernel_ir.specs.declared.kernel.Kernel.{Kernel}

-- a letter of ASCII, or `_`
abbrev pub is_letter : ℕ → Bool
is_letter c = (nat_le 65 c && nat_le c 90) || ((nat_le 97 c && nat_le c 122) || nat_eq c 95)

-- a letter or a digit
abbrev pub is_letter_or_digit : ℕ → Bool
is_letter_or_digit c = is_letter c || (nat_le 48 c && nat_le c 57)

-- a letter or `_`, and then letters, digits or `_`
abbrev pub is_identifier : List ℕ → Bool
is_identifier [] = false
is_identifier (c ∷ cs) = is_letter c && list_all is_letter_or_digit cs

-- no element is the same as a later one
abbrev pub all_differ : {X : Type 0} → (X → X → Bool) → List X → Bool
all_differ same [] = true
all_differ same (x ∷ xs) = list_all (λ y. if same x y then false else true) xs && all_differ same xs

-- the name of a variable, empty where the number is none
abbrev pub name_or_empty : Option (List ℕ) → List ℕ
name_or_empty None = []
name_or_empty (Some n) = n

abbrev pub name_of : Kernel → ℕ → List ℕ
name_of K v = name_or_empty (slice_get K.names v)

abbrev pub iname_vars : Kernel → List ℕ
iname_vars K = map (λ i. i.var) K.inames

-- the names in the one name space, in the order of their declaration
abbrev pub declared_names : Kernel → List (List ℕ)
declared_names K =
    map (name_of K) (K.params ++ iname_vars K) ++ (map (λ a. a.name) K.arrays ++ (map (λ t. t.name) K.temps ++ map (λ r. r.name) K.rules))

-- the names differ, each variable is a number into them, and each declared name is a different one of them
pub record HasNames (K : Kernel) : Type 0 where
  pub distinct : all_differ bytes_eq K.names ≡ true
  pub identifiers : list_all is_identifier K.names ≡ true
  pub params : list_all (λ v. nat_lt v (length K.names)) K.params ≡ true
  pub inames : list_all (λ v. nat_lt v (length K.names)) (iname_vars K) ≡ true
  pub known : list_all (λ n. list_any (bytes_eq n) K.names) (declared_names K) ≡ true
  pub differ : all_differ bytes_eq (declared_names K) ≡ true
