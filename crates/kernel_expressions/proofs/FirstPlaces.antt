-- What stands in the first place of `min` and `max`.
use Rattle.std.proofs.Common.{◌≡◌, ◌≤◌, ◌+◌, ◌-◌, ℕ, List, [], ◌∷◌, ◌++◌, drop, length, ap, sym, refl, ◌∙◌, subst, arith, length-append, length-drop}
use Rattle.kernel_grammar.specs.Lexicals.{Lexical, word, number, sign, line_end}
use Rattle.kernel_expressions.specs.declared.first_place.FirstPlace.{FirstPlace}
use Rattle.kernel_expressions.specs.FirstPlaces.{IsValue, HasPlace}
use Rattle.kernel_expressions.specs.Reads.{Next}

-- a text that is neither of one token nor of three is a value
value_text : (text : List Lexical) → (length text ≡ 1 → ⊥) → (length text ≡ 3 → ⊥) → IsValue text
value_text [] h k = record { steps = λ which a b. refl }
value_text (word w ∷ []) h k = absurd (h refl)
value_text (word w ∷ y ∷ ys) h k = record { steps = λ which a b. refl }
value_text (number d ∷ ys) h k = record { steps = λ which a b. refl }
value_text (line_end ∷ ys) h k = record { steps = λ which a b. refl }
value_text (sign s ∷ []) h k = record { steps = λ which a b. refl }
value_text (sign s ∷ number d ∷ ys) h k = record { steps = λ which a b. refl }
value_text (sign s ∷ sign t ∷ ys) h k = record { steps = λ which a b. refl }
value_text (sign s ∷ line_end ∷ ys) h k = record { steps = λ which a b. refl }
value_text (sign s ∷ word w ∷ []) h k = record { steps = λ which a b. refl }
value_text (sign s ∷ word w ∷ z ∷ []) h k = absurd (k refl)
value_text (sign s ∷ word w ∷ word v ∷ z ∷ zs) h k = record { steps = λ which a b. refl }
value_text (sign s ∷ word w ∷ number d ∷ z ∷ zs) h k = record { steps = λ which a b. refl }
value_text (sign s ∷ word w ∷ sign t ∷ z ∷ zs) h k = record { steps = λ which a b. refl }
value_text (sign s ∷ word w ∷ line_end ∷ z ∷ zs) h k = record { steps = λ which a b. refl }

apart : (all text : List Lexical) (start at : ℕ) → drop start all ≡ text ++ drop at all → start ≤ at → at ≤ length all → length text ≡ at - start
apart all text start at e h k = omega (arith, h, k, ap length e, length-append text (drop at all), length-drop start all, length-drop at all)

pub place_other : (all : List Lexical) (start at n : ℕ) → n ≡ at - start → (n ≡ 1 → ⊥) → (n ≡ 3 → ⊥) → (text : List Lexical) → drop start all ≡ text ++ drop at all → start ≤ at → at ≤ length all → IsValue text
place_other all start at n q one three text e h k = value_text text (λ f. one (q ∙ sym (apart all text start at e h k) ∙ f)) (λ f. three (q ∙ sym (apart all text start at e h k) ∙ f))

one_is : (text rest others : List Lexical) (x : Lexical) → length text ≡ 1 → x ∷ others ≡ text ++ rest → text ≡ x ∷ []
one_is [] rest others x n e = absurd (omega (arith, n))
one_is (y ∷ []) rest others x n e = cc
one_is (y ∷ z ∷ text) rest others x n e = absurd (omega (arith, n))

three_is : (text rest others : List Lexical) (x y z : Lexical) → length text ≡ 3 → x ∷ y ∷ z ∷ others ≡ text ++ rest → text ≡ x ∷ y ∷ z ∷ []
three_is [] rest others x y z n e = absurd (omega (arith, n))
three_is (a ∷ []) rest others x y z n e = absurd (omega (arith, n))
three_is (a ∷ b ∷ []) rest others x y z n e = absurd (omega (arith, n))
three_is (a ∷ b ∷ c ∷ []) rest others x y z n e = cc
three_is (a ∷ b ∷ c ∷ d ∷ text) rest others x y z n e = absurd (omega (arith, n))

pub place_one : (all : List Lexical) (start at n : ℕ) (x : Lexical) (r : FirstPlace) → n ≡ at - start → n ≡ 1 → Next all start x → HasPlace r (x ∷ []) → (text : List Lexical) → drop start all ≡ text ++ drop at all → start ≤ at → at ≤ length all → HasPlace r text
place_one all start at n x r q one p has text e h k = subst (HasPlace r) (sym (one_is text (drop at all) (drop (start + 1) all) x (apart all text start at e h k ∙ sym q ∙ one) (sym p.here ∙ e))) has

pub place_three : (all : List Lexical) (start at n : ℕ) (x y z : Lexical) (r : FirstPlace) → n ≡ at - start → n ≡ 3 → Next all start x → Next all (start + 1) y → Next all (start + 2) z → HasPlace r (x ∷ y ∷ z ∷ []) → (text : List Lexical) → drop start all ≡ text ++ drop at all → start ≤ at → at ≤ length all → HasPlace r text
place_three all start at n x y z r q three f g l has text e h k =
    let two : drop ((start + 1) + 1) all ≡ drop (start + 2) all = ap (λ (m : ℕ). drop m all) (let w : (start + 1) + 1 ≡ start + 2 = omega arith in w) in
    subst (HasPlace r) (sym (three_is text (drop at all) (drop ((start + 2) + 1) all) x y z (apart all text start at e h k ∙ sym q ∙ three)
    (ap (λ xs. x ∷ y ∷ xs) (sym l.here) ∙ ap (λ xs. x ∷ y ∷ xs) (sym two) ∙ ap (λ xs. x ∷ xs) (sym g.here) ∙ sym f.here ∙ e))) has
