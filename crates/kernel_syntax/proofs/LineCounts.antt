-- The line and the bytes of it, byte by byte; spaces behind a place.
use Rattle.std.proofs.Common.{◌≡◌, ◌+◌, ◌≤◌, ◌<◌, ℕ, zero, Bool, true, false, not, ◌==◌, List, [], ◌∷◌, ◌++◌, length, take, drop, get_or, drop-cons, suc, add-one, sym, ap, ◌∙◌, refl, subst, append_assoc, length-append, arith}
use Rattle.std.specs.List.{list_all}
use Rattle.std.proofs.lemmas.Bool.{false≢true, and_parts, and_from}
use Rattle.std.proofs.lemmas.Bool.Decides.{nat_tests}
use Rattle.std.proofs.lemmas.List.{take_more, append-nil}
use Rattle.kernel_syntax.specs.Refused.{is_space, IsBlankTo}
use Rattle.text_reader.specs.Faults.{feeds, is_lines, EndsIn}

feeds_append : (xs ys : List ℕ) → feeds (xs ++ ys) ≡ feeds xs + feeds ys
feeds_append [] ys = omega arith
feeds_append (x ∷ xs) ys = omega (arith, feeds_append xs ys)

no_feed : (x : ℕ) (xs : List ℕ) (b : Bool) → (x == 10) ≡ b → not b ≡ true → feeds xs ≡ 0 → feeds (x ∷ xs) ≡ 0
no_feed x xs true e h k = absurd (false≢true h)
no_feed x xs false e h k = rw e (omega arith)

feeds_none : (xs : List ℕ) → list_all (λ c. not (c == 10)) xs ≡ true → feeds xs ≡ 0
feeds_none [] h = refl
feeds_none (x ∷ xs) h =
    let parts = and_parts (not (x == 10)) (list_all (λ c. not (c == 10)) xs) h in
    no_feed x xs (x == 10) refl parts.0 (feeds_none xs parts.1)

lines_end : (xs : List ℕ) → is_lines (xs ++ 10 ∷ []) ≡ true
lines_end [] = refl
lines_end (x ∷ []) = refl
lines_end (x ∷ y ∷ xs) = lines_end (y ∷ xs)

all_more : (xs : List ℕ) (c : ℕ) → list_all (λ d. not (d == 10)) xs ≡ true → (c == 10) ≡ false → list_all (λ d. not (d == 10)) (xs ++ c ∷ []) ≡ true
all_more [] c h e = rw e refl
all_more (x ∷ xs) c h e =
    let parts = and_parts (not (x == 10)) (list_all (λ d. not (d == 10)) xs) h in
    and_from (not (x == 10)) (list_all (λ d. not (d == 10)) (xs ++ c ∷ [])) parts.0 (all_more xs c parts.1 e)

-- The bytes up to the place end in the line, after so many bytes of it.
pub record IsCounted (bytes : List ℕ) (at line count : ℕ) : Type 0 where
  pub ends : EndsIn line count (take at bytes)
  pub lines : line ≤ 1 + at
  pub counts : count ≤ at

pub counted_none : (bytes : List ℕ) → IsCounted bytes 0 1 0
counted_none bytes = record { ends = record { lines = []; part = []; text = refl; whole = refl; within = refl; numbered = refl; counted = refl }; lines = omega arith; counts = omega arith }

counted_feed : (bytes : List ℕ) (at line count c : ℕ) → take (at + 1) bytes ≡ take at bytes ++ c ∷ [] → c ≡ 10 → IsCounted bytes at line count → IsCounted bytes (at + 1) (line + 1) 0
counted_feed bytes at line count c e is h =
    let front = take at bytes in
    let all : feeds (front ++ 10 ∷ []) ≡ feeds front + 1 = feeds_append front (10 ∷ []) in
    let own : feeds front ≡ feeds h.ends.lines + feeds h.ends.part = ap feeds h.ends.text ∙ feeds_append h.ends.lines h.ends.part in
    record {
      ends = record { lines = front ++ 10 ∷ []; part = []; text = e ∙ ap (λ (x : ℕ). front ++ x ∷ []) is ∙ sym (append-nil (front ++ 10 ∷ [])); whole = lines_end front; within = refl; numbered = omega (arith, all, own, feeds_none h.ends.part h.ends.within, h.ends.numbered); counted = refl };
      lines = omega (arith, h.lines);
      counts = omega arith;
    }

counted_byte : (bytes : List ℕ) (at line count c : ℕ) → take (at + 1) bytes ≡ take at bytes ++ c ∷ [] → (c == 10) ≡ false → IsCounted bytes at line count → IsCounted bytes (at + 1) line (count + 1)
counted_byte bytes at line count c e t h = record {
  ends = record { lines = h.ends.lines; part = h.ends.part ++ c ∷ []; text = e ∙ ap (λ (z : List ℕ). z ++ c ∷ []) h.ends.text ∙ append_assoc h.ends.lines h.ends.part (c ∷ []); whole = h.ends.whole; within = all_more h.ends.part c h.ends.within t; numbered = h.ends.numbered; counted = omega (arith, h.ends.counted, length-append h.ends.part (c ∷ [])) };
  lines = omega (arith, h.lines);
  counts = omega (arith, h.counts);
}

-- a line feed
pub counts_feed : (bytes : List ℕ) (at line count to counted : ℕ) → at < length bytes → get_or bytes at 0 ≡ 10 → to ≡ line + 1 → counted ≡ 0 → IsCounted bytes at line count → IsCounted bytes (at + 1) to counted
counts_feed bytes at line count to counted short is a b h = rw (a, b) (counted_feed bytes at line count (get_or bytes at 0) (take_more bytes at 0 short) is h)

-- another byte
pub counts_byte : (bytes : List ℕ) (at line count to counted : ℕ) → at < length bytes → (get_or bytes at 0 ≡ 10 → ⊥) → to ≡ line → counted ≡ count + 1 → IsCounted bytes at line count → IsCounted bytes (at + 1) to counted
counts_byte bytes at line count to counted short is a b h = rw (a, b) (counted_byte bytes at line count (get_or bytes at 0) (take_more bytes at 0 short) (grind (arith, nat_tests)) h)

pub same_take : (at end : ℕ) (xs : List ℕ) → at ≤ end → (at < end → length xs ≤ at) → take at xs ≡ take end xs
same_take zero zero xs h e = refl
same_take zero (suc n) [] h e = refl
same_take zero (suc n) (x ∷ xs) h e = absurd (let k = e (omega arith) in omega (arith, k))
same_take (suc m) zero xs h e = absurd (omega (arith, h))
same_take (suc m) (suc n) [] h e = refl
same_take (suc m) (suc n) (x ∷ xs) h e = ap (λ (z : List ℕ). x ∷ z) (same_take m n xs (omega (arith, h)) (λ k. let l = e (omega (arith, k)) in omega (arith, l)))

pub counted_to : (bytes : List ℕ) (at line count end : ℕ) → IsCounted bytes at line count → at ≤ end → (at < end → length bytes ≤ at) → EndsIn line count (take end bytes)
counted_to bytes at line count end h short e = subst (EndsIn line count) (same_take at end bytes short e) h.ends

all_space : (xs : List ℕ) (c : ℕ) → list_all is_space xs ≡ true → is_space c ≡ true → list_all is_space (xs ++ c ∷ []) ≡ true
all_space [] c h e = rw e refl
all_space (x ∷ xs) c h e =
    let parts = and_parts (is_space x) (list_all is_space xs) h in
    and_from (is_space x) (list_all is_space (xs ++ c ∷ [])) parts.0 (all_space xs c parts.1 e)

pub blank_more : (bytes : List ℕ) (from at : ℕ) → at < length bytes → is_space (get_or bytes at 0) ≡ true → IsBlankTo bytes from at → IsBlankTo bytes from (at + 1)
blank_more bytes from at short t h = let c = get_or bytes at 0 in let e : drop at bytes ≡ c ∷ drop (at + 1) bytes = rw add-one (drop-cons bytes at 0 short) in record {
  spaces = h.spaces ++ c ∷ [];
  are = all_space h.spaces c h.are t;
  split = h.split ∙ ap (λ (z : List ℕ). h.spaces ++ z) e ∙ sym (append_assoc h.spaces (c ∷ []) (drop (at + 1) bytes));
  long = omega (arith, h.long, length-append h.spaces (c ∷ []));
}
