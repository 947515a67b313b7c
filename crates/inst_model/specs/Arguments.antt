-- Arguments, and when they meet a kernel.
use Rattle.std.specs.Prelude.{◌≡◌, ◌^◌, ℤ, pos, ◌*ℤ◌, ◌≤ℤ◌, ◌<ℤ◌, neg_ℤ, true, List, [], ◌∷◌, map, length, All, slice_get, Option, Some, None, unwrap_or}
use Rattle.wrap_words.specs.declared.kind.Kind.{Kind}
use Rattle.wrap_words.specs.declared.kind.Kind.TheVariants.{I32}
use Rattle.wrap_words.specs.declared.kind.Word.{Word}
use Rattle.wrap_words.specs.Words.{IsWord}
use Rattle.affine_rows.specs.Rows.{Env}
use Rattle.affine_rows.specs.Forms.{form_at}
use Rattle.expr_tree.specs.declared.tree.Cell.{Cell}
use Rattle.expr_tree.specs.declared.tree.Cell.TheVariants.{Array, Temp}
use Rattle.kernel_ir.specs.declared.kernel.Kernel.{Kernel}
use Rattle.kernel_ir.specs.declared.kernel.Array as array
use Rattle.kernel_ir.specs.declared.kernel.Temp as temp
use Rattle.expr_tree.specs.Scenes.{given, rows_hold}

-- a number for each parameter, and a list of words for each array, in the kernel's order
pub record Arguments : Type 0 where
  pub numbers : List ℤ
  pub lists : List (List Word)

-- the parameters' numbers
abbrev pub params_at : Kernel → Arguments → Env
params_at K a = given K.params a.numbers (λ v. pos 0)

abbrev pub product : List ℤ → ℤ
product [] = pos 1
product (z ∷ zs) = z *ℤ product zs

-- the list has the array's words
pub record IsList (env : Env) (shaped : array.Array) (words : List Word) : Type 0 where
  pub entries : All (λ q. pos 0 ≤ℤ form_at env q) shaped.shape
  pub small : product (map (form_at env) shaped.shape) <ℤ pos (2 ^ 31)
  pub length_is : pos (length words) ≡ product (map (form_at env) shaped.shape)
  pub words_are : All (IsWord shaped.kind) words

-- a list for each array
abbrev pub AreLists : Env → List array.Array → List (List Word) → Type 0
AreLists env [] [] = Unit {0}
AreLists env (one ∷ more) (words ∷ lists) = IsList env one words × AreLists env more lists
AreLists env _ _ = ⊥

-- The arguments meet the kernel.
pub record Meets (K : Kernel) (a : Arguments) : Type 0 where
  pub numbers : length a.numbers ≡ length K.params
  pub range : All (λ z. (neg_ℤ (pos (2 ^ 31)) ≤ℤ z) × (z <ℤ pos (2 ^ 31))) a.numbers
  pub assumptions : rows_hold (params_at K a) K.assumptions ≡ true
  pub lists : AreLists (params_at K a) K.arrays a.lists

-- the extents of an array or temporary
abbrev pub shape_of : Env → Option array.Array → List ℤ
shape_of env None = []
shape_of env (Some one) = map (form_at env) one.shape

abbrev pub temp_shape_of : Option temp.Temp → List ℤ
temp_shape_of None = []
temp_shape_of (Some t) = map (λ n. pos n) t.shape

abbrev pub extents : Kernel → Arguments → Cell → List ℤ
extents K a (Array n) = shape_of (params_at K a) (slice_get K.arrays n)
extents K a (Temp n) = temp_shape_of (slice_get K.temps n)

-- its kind
abbrev pub array_kind : Option array.Array → Kind
array_kind None = I32
array_kind (Some one) = one.kind

abbrev pub temp_kind : Option temp.Temp → Kind
temp_kind None = I32
temp_kind (Some t) = unwrap_or t.kind I32

abbrev pub kind_of : Kernel → Cell → Kind
kind_of K (Array n) = array_kind (slice_get K.arrays n)
kind_of K (Temp n) = temp_kind (slice_get K.temps n)
