-- What a kernel of the one form stores, in every respecting order.
use Rattle.std.specs.Prelude.{◌≡◌, ◌⊎◌, ℕ, zero, suc, ◌+◌, ◌%◌, ◌^◌, ◌<◌, ◌≤◌, ℤ, pos, negsuc, ◌+ℤ◌, ◌*ℤ◌, Bool, true, false, List, [], ◌∷◌, ◌++◌, length, map, flat_map, slice_index_or, unsigned_abs}
use Rattle.std.proofs.Common.{refl, sym, ap, ap₂, ◌∙◌, rules, arith, subst, inl, inr}
use Rattle.std.proofs.lemmas.Int.{ints}
use Rattle.wrap_words.specs.declared.kind.Kind.TheVariants.{I32}
use Rattle.wrap_words.specs.declared.kind.Word.{Word}
use Rattle.wrap_words.specs.Words.{word_of, residue, modulus_of}
use Rattle.affine_rows.specs.Forms.{form_at}
use Rattle.expr_tree.specs.declared.tree.Cell.{Cell}
use Rattle.expr_tree.specs.declared.tree.Cell.TheVariants.{Array}
use Rattle.expr_tree.specs.Scenes.{numbers_from}
use Rattle.kernel_ir.specs.declared.kernel.Kernel.{Kernel}
use Rattle.step_orders.specs.Orders.{Has, Once}
use Rattle.inst_model.specs.Arguments.{Arguments, extents, params_at}
use Rattle.inst_model.specs.Instances.{Instance, IsInstance, IsRespectingOrder}
use Rattle.inst_model.specs.Memory.{Spot, Memory, low_bits, places_of, flat_index}
use Rattle.inst_model.specs.Running.{stored, steps_of, memory_after, opening, stored_spot, read_spots}
use Rattle.wrap_words.proofs.Products.{product_bits}
use Rattle.inst_model.proofs.Kernels.{are_steps}
use Rattle.inst_model.proofs.Swaps.{low_bits-same}
use Rattle.inst_model.proofs.Written.{written_once}
use Rattle.first_form.specs.declared.form.FirstForm.{FirstForm}
use Rattle.first_form.specs.Kernels.{kernel_of}
use Rattle.first_right.specs.Product.{multiplied}
use Rattle.first_right.proofs.Given.{arguments_of, param_is}
use Rattle.first_right.proofs.Instances.{at, instance_is, is_instance}
use Rattle.first_right.proofs.Steps.{read_spot, out_spot, stored_is, reads_are, changed_is}

abbrev zero_word : Word
zero_word = record { bits = 0 }

less : (b : ℕ) → b % 2 ^ 32 < 2 ^ 32
less b = omega arith

-- a product keeps its low bits
low_product : (factor : ℕ) (w : Word) → low_bits I32 (multiplied factor w) ≡ multiplied factor w
low_product factor w = low_bits-same I32 (multiplied factor w) (subst (λ (b : ℕ). b < modulus_of I32) (product_bits I32 (word_of I32 (pos factor)) w) (less _))

same_number : (y z : ℤ) → out_spot y ≡ out_spot z → y ≡ z
same_number y z e = let places : y ∷ [] ≡ z ∷ [] = ap (λ (s : Spot). s.place) e in cc

two_apart : (i j : ℕ) → Array i ≡ Array j → i < j → ⊥
two_apart i j e h = let same : i ≡ j = cc in omega arith

apart : (y z : ℤ) → read_spot y ≡ out_spot z → ⊥
apart y z e = two_apart 0 1 (ap (λ (s : Spot). s.cell) e) (omega arith)

flat_is : (e : ℤ) (k : ℕ) → flat_index (e ∷ []) (pos k ∷ []) ≡ k
flat_is e k = omega (arith, ints)

no_more : (s : ℕ) → s ≡ s + 0
no_more s = omega arith

from_zero : (i : ℕ) → 0 + i ≡ i
from_zero i = omega arith

one_on : (s i : ℕ) → suc s + i ≡ s + suc i
one_on s i = omega arith

positive : (n : ℕ) → 0 < suc n
positive n = omega arith

one_further : (i n : ℕ) → i < n → suc i < suc n
one_further i n h = omega arith

next_is : (z : ℤ) (s : ℕ) → z ≡ pos s → z +ℤ pos 1 ≡ pos (suc s)
next_is z s e = omega (arith, ints, e)

module _ (f : FirstForm) (n : ℕ) (words outs : List Word) where
  abbrev K : Kernel
  K = kernel_of f

  abbrev a : Arguments
  a = arguments_of (pos n) words outs

  opening_is : (k : ℕ) → opening K a (read_spot (pos k)) ≡ slice_index_or words k zero_word
  opening_is k = ap (λ (i : ℕ). slice_index_or words i zero_word) (flat_is (form_at (params_at K a) _) k)

  module _ (xs : List Instance) (order : IsRespectingOrder K a xs) where
    -- each of the instances stores to a cell of its own, which none reads
    alone : (k : ℕ) (y : Instance) → Has xs y → stored_spot K a y ≡ stored_spot K a (at f.factor (pos k)) → y ≡ at f.factor (pos k)
    alone k y h e =
        let one = instance_is f n words outs y (order.only y h) in
        one.2 ∙ ap (at f.factor) (same_number (pos one.0) (pos k) (sym (ap (stored_spot K a) one.2 ∙ stored_is f a (pos one.0)) ∙ e ∙ stored_is f a (pos k)))

    unread_in : (k : ℕ) (reads : List Spot) (y : Instance) → reads ≡ read_spot (pos k) ∷ [] → Has xs y → Has reads (stored_spot K a y) → ⊥
    unread_in k reads y r h g =
        let one = instance_is f n words outs y (order.only y h) in
        let there = subst (λ (rs : List Spot). Has rs (out_spot (pos one.0))) r (subst (λ (s : Spot). Has reads s) (ap (stored_spot K a) one.2 ∙ stored_is f a (pos one.0)) g) in
        elim there [ inl e ↦ apart (pos k) (pos one.0) e | inr other ↦ absurd other ]

    -- the word at a number below the count
    pub word_is : (k : ℕ) → k < n → memory_after K a xs (out_spot (pos k)) ≡ multiplied f.factor (slice_index_or words k zero_word)
    word_is k h =
        ap (memory_after K a xs) (sym (stored_is f a (pos k)))
        ∙ written_once (steps_of K a) (are_steps K a) xs (opening K a) (at f.factor (pos k)) order.once (order.all (at f.factor (pos k)) (is_instance f n words outs k h))
        (λ y g e. alone k y g e) (λ y g r. unread_in k (read_spots K a (at f.factor (pos k))) y (reads_are f a (pos k)) g r)
        ∙ changed_is f a (pos k) (opening K a) (opening K a (stored_spot K a (at f.factor (pos k))))
        ∙ low_product f.factor (opening K a (read_spot (pos k)))
        ∙ ap (multiplied f.factor) (opening_is k)

  words_along : (m : Memory) (least : ℤ) (start : ℕ) (ws : List Word) → least ≡ pos start
      → ((i : ℕ) → i < length ws → m (out_spot (pos (start + i))) ≡ multiplied f.factor (slice_index_or ws i zero_word))
      → map (λ place. m (record { cell = Array 1; home = []; place = place })) (flat_map (λ z. map (λ zs. z ∷ zs) ([] ∷ [])) (numbers_from least (length ws))) ≡ map (multiplied f.factor) ws
  words_along m least start [] e h = refl
  words_along m least start (w ∷ ws) e h =
      ap₂ (λ (v : Word) (vs : List Word). v ∷ vs)
      (ap (λ (z : ℤ). m (out_spot z)) (e ∙ ap pos (no_more start)) ∙ h 0 (positive (length ws)))
      (words_along m (least +ℤ pos 1) (suc start) ws (next_is least start e) (λ i l. ap (λ (k : ℕ). m (out_spot (pos k))) (one_on start i) ∙ h (suc i) (one_further i (length ws) l)))

  -- The kernel stores the products of the factor and the input's words, in every respecting order.
  pub stores_products : length words ≡ n → (xs : List Instance) → IsRespectingOrder K a xs → stored K a xs ≡ map (multiplied f.factor) words ∷ []
  stores_products l xs order =
      ap (λ (e : ℤ). map (λ place. memory_after K a xs (record { cell = Array 1; home = []; place = place })) (places_of (e ∷ [])) ∷ []) (param_is f (pos n) words outs)
      ∙ ap (λ (k : ℕ). map (λ place. memory_after K a xs (record { cell = Array 1; home = []; place = place })) (flat_map (λ z. map (λ zs. z ∷ zs) ([] ∷ [])) (numbers_from (pos 0) k)) ∷ []) (sym l)
      ∙ ap (λ (ws : List Word). ws ∷ []) (words_along (memory_after K a xs) (pos 0) 0 words refl (λ i h. ap (λ (k : ℕ). memory_after K a xs (out_spot (pos k))) (from_zero i) ∙ word_is xs order i (subst (λ (k : ℕ). i < k) l h)))
