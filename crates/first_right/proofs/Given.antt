-- Arguments that meet a kernel of the one form: one number from 0 on, and two lists of so many words.
use Rattle.std.specs.Prelude.{◌≡◌, ℕ, zero, suc, ◌^◌, ◌<◌, ◌≤◌, ℤ, pos, negsuc, ◌+ℤ◌, ◌*ℤ◌, ◌≤ℤ◌, ◌<ℤ◌, Bool, true, false, ◌&&◌, int_le, List, [], ◌∷◌, length, map, All}
use Rattle.std.proofs.Common.{refl, sym, ap, ◌∙◌, rules, arith, subst, true≢false}
use Rattle.std.proofs.lemmas.Int.{ints}
use Rattle.std.proofs.lemmas.List.Elements.{recursion_from_All}
use Rattle.wrap_words.specs.declared.kind.Word.{Word}
use Rattle.affine_rows.specs.declared.quasi.Quasi.{Quasi, roll-Quasi, fold-roll-Quasi}
use Rattle.affine_rows.specs.Rows.{Env, terms_at}
use Rattle.affine_rows.specs.Forms.{affine, form_at}
use Rattle.expr_tree.specs.Scenes.{given}
use Rattle.inst_model.specs.Arguments.{Arguments, Meets, IsList, params_at, product}
use Rattle.first_form.specs.declared.form.FirstForm.{FirstForm}
use Rattle.first_form.specs.Kernels.{param_form, kernel_of}

pub form_is : (env : Env) (c : ℤ) (terms : List (ℕ × ℤ)) → form_at env (affine c terms) ≡ c +ℤ (terms_at env terms +ℤ pos 0)
form_is env c terms = simp fold-roll-Quasi refl

-- a variable's form is its number
pub variable_is : (env : Env) (v : ℕ) (z : ℤ) → env v ≡ z → form_at env (affine (pos 0) ((v, pos 1) ∷ [])) ≡ z
variable_is env v z e = form_is env (pos 0) ((v, pos 1) ∷ []) ∙ omega (arith, ints, e)

abbrev pub arguments_of : ℤ → List Word → List Word → Arguments
arguments_of z words outs = record { numbers = z ∷ []; lists = words ∷ outs ∷ [] }

pub record Given (a : Arguments) : Type 0 where
  pub count : ℕ
  pub words : List Word
  pub outs : List Word
  pub are : a ≡ arguments_of (pos count) words outs
  pub small : count < 2 ^ 31
  pub input : length words ≡ count
  pub output : length outs ≡ count

pub param_is : (f : FirstForm) (z : ℤ) (words outs : List Word) → form_at (params_at (kernel_of f) (arguments_of z words outs)) param_form ≡ z
param_is f z words outs = variable_is (params_at (kernel_of f) (arguments_of z words outs)) 0 z refl

negative : (n : ℕ) (z : ℤ) → z ≡ negsuc n → pos 0 ≤ℤ z → ⊥
negative n z e h = omega (arith, ints, e, h)

counted : (n l : ℕ) (z : ℤ) → z ≡ pos n → pos l ≡ z *ℤ pos 1 → l ≡ n
counted n l z e h = omega (arith, ints, e, h)

bounded : (n : ℕ) (z : ℤ) → z ≡ pos n → (z *ℤ pos 1) <ℤ pos (2 ^ 31) → n < 2 ^ 31
bounded n z e h = omega (arith, ints, e, h)

given_from : (f : FirstForm) (numbers : List ℤ) (lists : List (List Word)) → Meets (kernel_of f) (record { numbers = numbers; lists = lists }) → Given (record { numbers = numbers; lists = lists })
given_from f [] lists m = let no : 0 ≡ 1 = m.numbers in absurd (omega (arith, no))
given_from f (z ∷ y ∷ zs) lists m = let no : suc (suc (length zs)) ≡ 1 = m.numbers in absurd (omega (arith, no))
given_from f (z ∷ []) [] m = absurd m.lists
given_from f (z ∷ []) (words ∷ []) m = absurd m.lists.1
given_from f (z ∷ []) (words ∷ outs ∷ more ∷ rest) m = absurd m.lists.1.1
given_from f (negsuc n ∷ []) (words ∷ outs ∷ []) m =
    absurd (negative n _ (param_is f (negsuc n) words outs) (recursion_from_All (λ q. pos 0 ≤ℤ form_at (params_at (kernel_of f) (arguments_of (negsuc n) words outs)) q) (param_form ∷ []) m.lists.0.entries).0)
given_from f (pos n ∷ []) (words ∷ outs ∷ []) m = record {
  count = n;
  words = words;
  outs = outs;
  are = refl;
  small = bounded n _ (param_is f (pos n) words outs) m.lists.0.small;
  input = counted n (length words) _ (param_is f (pos n) words outs) m.lists.0.length_is;
  output = counted n (length outs) _ (param_is f (pos n) words outs) m.lists.1.0.length_is;
}

pub given_of : (f : FirstForm) (a : Arguments) → Meets (kernel_of f) a → Given a
given_of f a m = given_from f a.numbers a.lists m
