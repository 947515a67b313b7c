-- A signature with entries, and one without.
use Rattle.std.proofs.Common.{◌≡◌, ◌+◌, ◌<◌, List, [], ◌∷◌, ◌++◌, length, map, true, codes, refl, arith}
use Rattle.code_tree.specs.declared.code.Code.{Code}
use Rattle.text_writer.specs.Bytes.{Bytes, separated}
use Rattle.code_text.specs.SignatureText.{list_of, entries_of, arguments_text, param_text, array_text}

void_list : {A B : Type 0} (f : A → Bytes) (g : B → Bytes) (xs : List A) (ys : List B) → length xs + length ys ≡ 0 → list_of (map f xs ++ map g ys) ≡ codes "void"
void_list f g [] [] e = refl
void_list f g [] (y ∷ ys) e = absurd (omega arith)
void_list f g (x ∷ xs) ys e = absurd (omega arith)

some_list : {A B : Type 0} (f : A → Bytes) (g : B → Bytes) (xs : List A) (ys : List B) → 0 < length xs + length ys
    → list_of (map f xs ++ map g ys) ≡ separated true (codes ", ") (map f xs ++ map g ys)
some_list f g [] [] e = absurd (omega arith)
some_list f g [] (y ∷ ys) e = refl
some_list f g (x ∷ xs) ys e = refl

pub void_entries : (code : Code) → length code.params + length code.arrays ≡ 0 → arguments_text code ≡ codes "void"
void_entries code e = void_list (param_text code) (array_text code.target) code.params code.arrays e

pub some_entries : (code : Code) → 0 < length code.params + length code.arrays → arguments_text code ≡ separated true (codes ", ") (entries_of code)
some_entries code e = some_list (param_text code) (array_text code.target) code.params code.arrays e
