-- A loop that adds up the terms that are left.
use Rattle.std.proofs.Common.{◌≡◌, ℕ, ◌+◌, ◌<◌, ℤ, ◌+ℤ◌, ◌*ℤ◌, List, length, drop, get_or, arith, refl, ap}
use Rattle.std.proofs.lemmas.Int.{ints}
use Rattle.std.proofs.lemmas.List.{drop_more}
use Rattle.affine_rows.specs.Rows.{Env, term_at, terms_at}

terms_at-drop_more : (env : Env) (ts : List (ℕ × ℤ)) (i : ℕ) (d : ℕ × ℤ) → i < length ts → terms_at env (drop i ts) ≡ term_at env (get_or ts i d) +ℤ terms_at env (drop (i + 1) ts)
terms_at-drop_more env ts i d h = ap (terms_at env) (drop_more ts i d h)

-- one turn
pub turn_left : (env : Env) (sum result term f n : ℤ) (ts : List (ℕ × ℤ)) (i : ℕ) (d : ℕ × ℤ) → i < length ts → sum +ℤ terms_at env (drop i ts) ≡ terms_at env ts → f ≡ (get_or ts i d).1 → n ≡ env (get_or ts i d).0 → term ≡ f *ℤ n → result ≡ sum +ℤ term → result +ℤ terms_at env (drop (i + 1) ts) ≡ terms_at env ts
turn_left env sum result term f n ts i d h s p q r e =
    let product : f *ℤ n ≡ term_at env (get_or ts i d) = rw (p, q) refl in
    omega (arith, ints, terms_at-drop_more env ts i d h, product)
