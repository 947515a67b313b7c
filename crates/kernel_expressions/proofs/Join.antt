-- Texts one after the other.
use Rattle.std.proofs.Common.{◌≡◌, ◌≤◌, ◌+◌, ℕ, List, [], ◌∷◌, ◌++◌, drop, length, ap, sym, refl, ◌∙◌, subst, append_assoc, arith, length-append, length-drop}
use Rattle.kernel_grammar.specs.Lexicals.{Lexical}
use Rattle.kernel_expressions.specs.Reads.{Next, Reads}

-- a text behind another
pub behind : (all : List Lexical) (a b c : ℕ) (P Q R : List Lexical → Type 0) → Reads all a b P → Reads all b c Q → ((t u : List Lexical) → P t → Q u → R (t ++ u)) → Reads all a c R
behind all a b c P Q R h k made = record {
  text = h.text ++ k.text;
  ahead = h.ahead ∙ ap (λ (xs : List Lexical). h.text ++ xs) k.ahead ∙ sym (append_assoc h.text k.text (drop c all));
  on = omega (arith, h.on, k.on);
  within = k.within;
  is = made h.text k.text h.is k.is;
}

-- one token
pub one : (all : List Lexical) (a : ℕ) (x : Lexical) → Next all a x → Reads all a (a + 1) (λ t. t ≡ x ∷ [])
one all a x h = record {
  text = x ∷ [];
  ahead = h.here;
  on = omega arith;
  within = omega (arith, h.within);
  is = refl;
}

-- a token behind a text
pub and_token : (all : List Lexical) (a b : ℕ) (x : Lexical) (P R : List Lexical → Type 0) → Reads all a b P → Next all b x → ((t : List Lexical) → P t → R (t ++ x ∷ [])) → Reads all a (b + 1) R
and_token all a b x P R h k made = behind all a b (b + 1) P (λ t. t ≡ x ∷ []) R h (one all b x k)
    (λ t u p e. subst (λ (v : List Lexical). R (t ++ v)) (sym e) (made t p))

-- a text behind a token
pub token_and : (all : List Lexical) (a c : ℕ) (x : Lexical) (Q R : List Lexical → Type 0) → Next all a x → Reads all (a + 1) c Q → ((u : List Lexical) → Q u → R (x ∷ u)) → Reads all a c R
token_and all a c x Q R h k made = behind all a (a + 1) c (λ t. t ≡ x ∷ []) Q R (one all a x h) k
    (λ t u e q. subst (λ (v : List Lexical). R (v ++ u)) (sym e) (made u q))

-- what a text is
pub as_well : (all : List Lexical) (a b : ℕ) (P R : List Lexical → Type 0) → Reads all a b P → ((t : List Lexical) → P t → R t) → Reads all a b R
as_well all a b P R h made = record {
  text = h.text;
  ahead = h.ahead;
  on = h.on;
  within = h.within;
  is = made h.text h.is;
}

-- no text
pub nothing : (all : List Lexical) (a : ℕ) (P : List Lexical → Type 0) → a ≤ length all → P [] → Reads all a a P
nothing all a P within is = record {
  text = [];
  ahead = refl;
  on = omega arith;
  within = within;
  is = is;
}

-- a text, a token and a text
pub around : (all : List Lexical) (a b c : ℕ) (x : Lexical) (P Q R : List Lexical → Type 0) → Reads all a b P → Next all b x → Reads all (b + 1) c Q → ((t u : List Lexical) → P t → Q u → R (t ++ x ∷ u)) → Reads all a c R
around all a b c x P Q R h n k made = behind all a b c P (λ u. (v : List Lexical) × (u ≡ x ∷ v) × Q v) R h
    (token_and all b c x Q (λ u. (v : List Lexical) × (u ≡ x ∷ v) × Q v) n k (λ u q. (u, refl, q)))
    (λ t u p q. subst (λ (w : List Lexical). R (t ++ w)) (sym q.1) (made t q.0 p q.2))

-- two texts and a token
pub two_and_token : (all : List Lexical) (a b c next : ℕ) (x : Lexical) (P Q R : List Lexical → Type 0) → (h : Reads all a b P) → (k : Reads all b c Q) → next ≡ c + 1 → Next all c x → R (h.text ++ k.text ++ x ∷ []) → Reads all a next R
two_and_token all a b c next x P Q R h k e n made = record {
  text = h.text ++ k.text ++ x ∷ [];
  ahead = h.ahead ∙ ap (λ (xs : List Lexical). h.text ++ xs) (k.ahead ∙ ap (λ (xs : List Lexical). k.text ++ xs) (n.here ∙ ap (λ (m : ℕ). x ∷ drop m all) (sym e)))
      ∙ sym (append_assoc h.text k.text (x ∷ drop next all)) ∙ sym (append_assoc (h.text ++ k.text) (x ∷ []) (drop next all));
  on = omega (arith, h.on, k.on, e);
  within = omega (arith, n.within, e);
  is = made;
}

-- a text is as long as the places are apart
pub text_length : (all : List Lexical) (a b : ℕ) (P : List Lexical → Type 0) → (h : Reads all a b P) → length h.text + a ≡ b
text_length all a b P h = omega (arith, h.on, h.within, ap length h.ahead, length-append h.text (drop b all), length-drop a all, length-drop b all)

pub two_short : (all : List Lexical) (a b c : ℕ) (P Q : List Lexical → Type 0) → (h : Reads all a b P) → (k : Reads all b c Q) → length h.text + length k.text ≤ length all
two_short all a b c P Q h k = omega (arith, text_length all a b P h, text_length all b c Q k, k.within)
