-- Arguments that meet a kernel.
use Rattle.std.specs.Prelude.{◌≡◌, ℕ, ◌^◌, ◌<◌, ℤ, pos, neg_ℤ, ◌*ℤ◌, ◌≤ℤ◌, ◌<ℤ◌, Bool, List, [], ◌∷◌, length, All}
use Rattle.std.proofs.Common.{arith}
use Rattle.std.proofs.lemmas.Int.{ints}
use Rattle.std.proofs.lemmas.List.Elements.{All-cons, All-nil}
use Rattle.wrap_words.specs.declared.kind.Kind.TheVariants.{I32}
use Rattle.wrap_words.specs.Words.{IsWord, word_of}
use Rattle.wrap_words.proofs.Fitting.{words_are_residues}
use Rattle.affine_rows.specs.declared.quasi.Quasi.{Quasi}
use Rattle.affine_rows.specs.Rows.{Env}
use Rattle.affine_rows.specs.Forms.{form_at}
use Rattle.inst_model.specs.Arguments.{IsList}
use Rattle.worked_rows.specs.Parts.{int32s, int32_array}

-- a small parameter is in range
pub in_range : (n : ℕ) → n < 2 ^ 31 → All (λ z. (neg_ℤ (pos (2 ^ 31)) ≤ℤ z) × (z <ℤ pos (2 ^ 31))) (pos n ∷ [])
in_range n h = All-cons (λ z. (neg_ℤ (pos (2 ^ 31)) ≤ℤ z) × (z <ℤ pos (2 ^ 31))) (pos n) [] (omega (arith, ints), omega (arith, ints, h)) (All-nil (λ z. (neg_ℤ (pos (2 ^ 31)) ≤ℤ z) × (z <ℤ pos (2 ^ 31))))

words_are : (zs : List ℤ) → All (IsWord I32) (int32s zs)
words_are [] = All-nil (IsWord I32)
words_are (z ∷ zs) = All-cons (IsWord I32) (word_of I32 z) (int32s zs) ((words_are_residues I32).word z) (words_are zs)

not_negative : (z : ℤ) (n : ℕ) → z ≡ pos n → pos 0 ≤ℤ z
not_negative z n e = omega (arith, ints, e)

below_limit : (z : ℤ) (n : ℕ) → z ≡ pos n → n < 2 ^ 31 → (z *ℤ pos 1) <ℤ pos (2 ^ 31)
below_limit z n e h = omega (arith, ints, e, h)

one_extent : (z : ℤ) (n l : ℕ) → z ≡ pos n → l ≡ n → pos l ≡ z *ℤ pos 1
one_extent z n l e g = omega (arith, ints, e, g)

-- a list of so many words is one of an array of that size
pub is_list : (env : Env) (stored : Bool) (name : List ℕ) (size : Quasi) (n : ℕ) (zs : List ℤ) → form_at env size ≡ pos n → n < 2 ^ 31 → length (int32s zs) ≡ n → IsList env (int32_array stored name size) (int32s zs)
is_list env stored name size n zs e small long = record {
  entries = All-cons (λ q. pos 0 ≤ℤ form_at env q) size [] (not_negative (form_at env size) n e) (All-nil (λ q. pos 0 ≤ℤ form_at env q));
  small = below_limit (form_at env size) n e small;
  length_is = one_extent (form_at env size) n (length (int32s zs)) e long;
  words_are = words_are zs;
}
