-- Two updates by one operator may be done in either order.
use Rattle.std.specs.Prelude.{◌≡◌, ℕ, ◌+◌, ◌*◌, ◌%◌, ◌<◌, ℤ, pos, ◌+ℤ◌, ◌-ℤ◌, Bool, true, false, if◌then◌else◌, nat_lt, int_lt}
use Rattle.std.proofs.Common.{refl, sym, ap, ◌∙◌, subst, arith, mod-lt, mod-eq_of_lt, true≢false}
use Rattle.std.proofs.lemmas.Int.{ints}
use Rattle.std.proofs.lemmas.Nat.{mul-mod_first}
use Rattle.std.proofs.Math.Nat.{add-mod, mod-mod}
use Rattle.wrap_words.specs.declared.kind.Kind.{Kind}
use Rattle.wrap_words.specs.declared.kind.Kind.TheVariants.{I32, I64, U32, U64}
use Rattle.wrap_words.specs.declared.kind.Word.{Word}
use Rattle.wrap_words.specs.Words.{IsWord, modulus_of, first_negative, number_of, residue}
use Rattle.wrap_words.proofs.Products.{product_bits, residue_is}
use Rattle.expr_tree.specs.declared.tree.Op.{Op}
use Rattle.expr_tree.specs.declared.tree.Op.TheVariants.{Add, Mul, Min, Max, Sub, And, Or, Xor}
use Rattle.expr_tree.specs.Value.{apply}
use Rattle.kernel_ir.specs.declared.kernel.Storing.{Storing}
use Rattle.kernel_ir.specs.declared.kernel.Storing.TheVariants.{Plain, Update}
use Rattle.inst_model.specs.Memory.{put_word, low_bits}
use Rattle.inst_model.specs.Sound.{same_operator, update_alike}

abbrev signed : Bool → ℕ → ℕ → ℤ
signed low a n = if low then pos a else pos a -ℤ pos n

modulus_positive : (k : Kind) → 0 < modulus_of k
modulus_positive I32 = omega arith
modulus_positive I64 = omega arith
modulus_positive U32 = omega arith
modulus_positive U64 = omega arith

-- sums and products of words, on their bits
residue_sum : (s t : Bool) (a b n : ℕ) → 0 < n → residue (signed s a n +ℤ signed t b n) n ≡ (a + b) % n
residue_sum true true a b n p = residue_is (pos a +ℤ pos b) n 0 (a + b) p (omega (arith, ints))
residue_sum true false a b n p = residue_is (pos a +ℤ (pos b -ℤ pos n)) n 1 (a + b) p (omega (arith, ints))
residue_sum false true a b n p = residue_is ((pos a -ℤ pos n) +ℤ pos b) n 1 (a + b) p (omega (arith, ints))
residue_sum false false a b n p = residue_is ((pos a -ℤ pos n) +ℤ (pos b -ℤ pos n)) n 2 (a + b) p (omega (arith, ints))

abbrev of_bits : ℕ → Word
of_bits b = record { bits = b }

sum_is : (k : Kind) (a b : Word) → apply Add k a b ≡ of_bits ((a.bits + b.bits) % modulus_of k)
sum_is k a b = ap of_bits (residue_sum (nat_lt a.bits (first_negative k)) (nat_lt b.bits (first_negative k)) a.bits b.bits (modulus_of k) (modulus_positive k))

product_is : (k : Kind) (a b : Word) → apply Mul k a b ≡ of_bits (a.bits * b.bits % modulus_of k)
product_is k a b = ap of_bits (sym (product_bits k a b))

add_first : (a b m : ℕ) → (a % m + b) % m ≡ (a + b) % m
add_first a b m = add-mod (a % m) b m ∙ (ap (λ z. (z + b % m) % m) (mod-mod a m) ∙ sym (add-mod a b m))

sums_swap : (k : Kind) (w u v : Word) → apply Add k (apply Add k w v) u ≡ of_bits ((w.bits + v.bits + u.bits) % modulus_of k)
sums_swap k w u v = ap (λ (z : Word). apply Add k z u) (sum_is k w v) ∙ (sum_is k (of_bits ((w.bits + v.bits) % modulus_of k)) u ∙ ap of_bits (add_first (w.bits + v.bits) u.bits (modulus_of k)))

products_swap : (k : Kind) (w u v : Word) → apply Mul k (apply Mul k w v) u ≡ of_bits (w.bits * v.bits * u.bits % modulus_of k)
products_swap k w u v = ap (λ (z : Word). apply Mul k z u) (product_is k w v) ∙ (product_is k (of_bits (w.bits * v.bits % modulus_of k)) u ∙ ap of_bits (mul-mod_first (w.bits * v.bits) u.bits (modulus_of k)))

-- words with one number are equal
signed_equal : (s t : Bool) (a b n : ℕ) → a < n → b < n → signed s a n ≡ signed t b n → a ≡ b
signed_equal true true a b n p q e = omega (arith, ints)
signed_equal true false a b n p q e = omega (arith, ints)
signed_equal false true a b n p q e = omega (arith, ints)
signed_equal false false a b n p q e = omega (arith, ints)

numbers_equal : (k : Kind) (u v : Word) → IsWord k u → IsWord k v → number_of k u ≡ number_of k v → u ≡ v
numbers_equal k u v is_u is_v e = ap of_bits (signed_equal (nat_lt u.bits (first_negative k)) (nat_lt v.bits (first_negative k)) u.bits v.bits (modulus_of k) is_u is_v e)

-- the better one of two words, the first on a tie
abbrev pick : (ℤ → ℤ → Bool) → (Word → ℤ) → Word → Word → Word
pick better number a b = if better (number b) (number a) then b else a

record IsOrdering (better : ℤ → ℤ → Bool) : Type 0 where
  pub tie : (x y : ℤ) → better x y ≡ false → better y x ≡ false → x ≡ y
  pub step : (x y z : ℤ) → better x y ≡ true → better y z ≡ true → better x z ≡ false → ⊥

pushed : (better : ℤ → ℤ → Bool) (number : Word → ℤ) (p : Bool) (a b c : Word) → pick better number (if p then b else a) c ≡ (if p then pick better number b c else pick better number a c)
pushed better number true a b c = refl
pushed better number false a b c = refl

picked : (w u v : Word) (p q r t : Bool) → (r ≡ false → t ≡ false → u ≡ v) → (r ≡ true → t ≡ true → u ≡ v) → (r ≡ true → p ≡ true → q ≡ false → ⊥) → (t ≡ true → q ≡ true → p ≡ false → ⊥)
    → (if p then (if r then u else v) else (if q then u else w)) ≡ (if q then (if t then v else u) else (if p then v else w))
picked w u v true true true true tie both one two = both refl refl
picked w u v true true true false tie both one two = refl
picked w u v true true false true tie both one two = refl
picked w u v true true false false tie both one two = sym (tie refl refl)
picked w u v true false true t tie both one two = absurd (one refl refl refl)
picked w u v true false false t tie both one two = refl
picked w u v false true r true tie both one two = absurd (two refl refl refl)
picked w u v false true r false tie both one two = refl
picked w u v false false r t tie both one two = refl

record IsStrict (better : ℤ → ℤ → Bool) : Type 0 where
  pub order : IsOrdering better
  pub one_way : (x y : ℤ) → better x y ≡ true → better y x ≡ true → ⊥

picks_swap : (better : ℤ → ℤ → Bool) → IsStrict better → (k : Kind) (w u v : Word) → IsWord k u → IsWord k v
    → pick better (number_of k) (pick better (number_of k) w v) u ≡ pick better (number_of k) (pick better (number_of k) w u) v
picks_swap better is k w u v is_u is_v =
    let p = better (number_of k v) (number_of k w) in
    let q = better (number_of k u) (number_of k w) in
    let r = better (number_of k u) (number_of k v) in
    let t = better (number_of k v) (number_of k u) in
    pushed better (number_of k) p w v u
    ∙ (picked w u v p q r t
    (λ e f. numbers_equal k u v is_u is_v (is.order.tie (number_of k u) (number_of k v) e f))
    (λ e f. absurd (is.one_way (number_of k u) (number_of k v) e f))
    (λ e f g. is.order.step (number_of k u) (number_of k v) (number_of k w) e f g)
    (λ e f g. is.order.step (number_of k v) (number_of k u) (number_of k w) e f g)
    ∙ sym (pushed better (number_of k) q w u v))

less_strict : IsStrict int_lt
less_strict = record {
  order = record { tie = λ x y e f. grind (arith, ints); step = λ x y z e f g. grind (arith, ints) };
  one_way = λ x y e f. grind (arith, ints);
}

more_strict : IsStrict (λ x y. int_lt y x)
more_strict = record {
  order = record { tie = λ x y e f. less_strict.order.tie x y f e; step = λ x y z e f g. less_strict.order.step z y x f e g };
  one_way = λ x y e f. less_strict.one_way y x e f;
}

op_swap : (f : Op) → same_operator f f ≡ true → (k : Kind) (w u v : Word) → IsWord k u → IsWord k v → apply f k (apply f k w v) u ≡ apply f k (apply f k w u) v
op_swap Add alike k w u v is_u is_v = sums_swap k w u v ∙ (ap (λ z. of_bits (z % modulus_of k)) (omega arith) ∙ sym (sums_swap k w v u))
op_swap Mul alike k w u v is_u is_v = products_swap k w u v ∙ (ap (λ z. of_bits (z % modulus_of k)) (omega arith) ∙ sym (products_swap k w v u))
op_swap Min alike k w u v is_u is_v = picks_swap int_lt less_strict k w u v is_u is_v
op_swap Max alike k w u v is_u is_v = picks_swap (λ x y. int_lt y x) more_strict k w u v is_u is_v
op_swap Sub alike k w u v is_u is_v = absurd (true≢false (sym alike))
op_swap And alike k w u v is_u is_v = absurd (true≢false (sym alike))
op_swap Or alike k w u v is_u is_v = absurd (true≢false (sym alike))
op_swap Xor alike k w u v is_u is_v = absurd (true≢false (sym alike))

ops_swap : (f g : Op) → same_operator f g ≡ true → (k : Kind) (w u v : Word) → IsWord k u → IsWord k v → apply f k (apply g k w v) u ≡ apply g k (apply f k w u) v
ops_swap Add Add alike = op_swap Add refl
ops_swap Mul Mul alike = op_swap Mul refl
ops_swap Min Min alike = op_swap Min refl
ops_swap Max Max alike = op_swap Max refl
ops_swap _ _ alike = λ k w u v is_u is_v. absurd (true≢false (sym alike))

-- each update done or not
tested_swap : (p q : Bool) (f g : Op) → same_operator f g ≡ true → (k : Kind) (w u v : Word) → IsWord k u → IsWord k v
    → (if p then apply f k (if q then apply g k w v else w) u else (if q then apply g k w v else w)) ≡ (if q then apply g k (if p then apply f k w u else w) v else (if p then apply f k w u else w))
tested_swap true true f g alike k w u v is_u is_v = ops_swap f g alike k w u v is_u is_v
tested_swap true false f g alike k w u v is_u is_v = refl
tested_swap false true f g alike k w u v is_u is_v = refl
tested_swap false false f g alike k w u v is_u is_v = refl

low_is_word : (k : Kind) (w : Word) → IsWord k (low_bits k w)
low_is_word k w = mod-lt w.bits (modulus_positive k)

-- a word of the kind keeps all its bits
pub low_bits-same : (k : Kind) (w : Word) → IsWord k w → low_bits k w ≡ w
low_bits-same k w is = ap of_bits (mod-eq_of_lt is)

pub puts_swap : (r s : Storing) → update_alike r s ≡ true → (p q : Bool) (k l : Kind) → k ≡ l → (w u v : Word)
    → (if p then put_word r k (if q then put_word s l w (low_bits l v) else w) (low_bits k u) else (if q then put_word s l w (low_bits l v) else w))
    ≡ (if q then put_word s l (if p then put_word r k w (low_bits k u) else w) (low_bits l v) else (if p then put_word r k w (low_bits k u) else w))
puts_swap (Update f) (Update g) alike p q k l e w u v =
    subst (λ l. (if p then apply f k (if q then apply g l w (low_bits l v) else w) (low_bits k u) else (if q then apply g l w (low_bits l v) else w)) ≡ (if q then apply g l (if p then apply f k w (low_bits k u) else w) (low_bits l v) else (if p then apply f k w (low_bits k u) else w)))
    e (tested_swap p q f g alike k w (low_bits k u) (low_bits k v) (low_is_word k u) (low_is_word k v))
puts_swap Plain s alike p q k l e w u v = absurd (true≢false (sym alike))
puts_swap (Update f) Plain alike p q k l e w u v = absurd (true≢false (sym alike))
