-- Texts that are written turn by turn.
use Rattle.std.proofs.Common.{◌≡◌, ℕ, zero, suc, ◌+◌, ◌-◌, ◌*◌, ◌<◌, ◌++◌, length, refl, sym, ap, ◌∙◌, append_assoc, length-append, arith}
use Rattle.text_writer.specs.Bytes.{Bytes, repeated}

-- what is written goes on by a part of what was left
pub advance : (o p t r q x : Bytes) → o ++ r ≡ x → r ≡ t ++ q → p ≡ o ++ t → p ++ q ≡ x
advance o p t r q x h e w = rw w (append_assoc o t q ∙ ap (λ (z : Bytes). o ++ z) (sym e) ∙ h)

-- one turn of `put_repeated`
pub repeated_step : (text : Bytes) (n i : ℕ) → i < n → repeated text (n - i) ≡ text ++ repeated text (n - (i + 1))
repeated_step text n i l = let e : n - i ≡ suc (n - (i + 1)) = omega arith in rw e refl

-- blanks that were written are few
pub length-repeated : (text : Bytes) (n : ℕ) → length (repeated text n) ≡ n * length text
length-repeated text zero = omega arith
length-repeated text (suc n) = omega (arith, length-append text (repeated text n), length-repeated text n)
