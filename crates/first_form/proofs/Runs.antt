-- A run is as long as bytes of its class go on, so there is one.
use Rattle.std.proofs.Common.{◌≡◌, ℕ, suc, ◌+◌, Bool, true, false, cond, not, List, [], ◌∷◌, ◌++◌, length, take, drop, sym, ap, ◌∙◌, refl, arith}
use Rattle.std.proofs.lemmas.Grind.{common_steps}
use Rattle.std.proofs.lemmas.List.{take_at, drop_at, take-append-drop}
use Rattle.std.proofs.lemmas.List.Folds.{length-prefix_len}
use Rattle.std.specs.List.{list_all, prefix_len, take_while}
use Rattle.first_form.specs.Scans.{ends, IsRun}

pub run_length : (test : ℕ → Bool) (front rest : List ℕ) → list_all test front ≡ true → ends test rest ≡ true → prefix_len test (front ++ rest) ≡ length front
run_length test [] [] p e = refl
run_length test [] (c ∷ rest) p e = grind (arith, common_steps)
run_length test (c ∷ front) rest p e = grind (arith, common_steps, run_length test front rest)

passes_more : (test : ℕ → Bool) (x : ℕ) (xs : List ℕ) (n : ℕ) (b : Bool) → test x ≡ b → list_all test (take n xs) ≡ true → list_all test (take (cond b (1 + n) 0) (x ∷ xs)) ≡ true
passes_more test x xs n false e h = refl
passes_more test x xs n true e h = let more : 1 + n ≡ suc n = omega arith in rw (more, e) h

pub passes_front : (test : ℕ → Bool) (xs : List ℕ) → list_all test (take (prefix_len test xs) xs) ≡ true
passes_front test [] = refl
passes_front test (x ∷ xs) = passes_more test x xs (prefix_len test xs) (test x) refl (passes_front test xs)

ends_more : (test : ℕ → Bool) (x : ℕ) (xs : List ℕ) (n : ℕ) (b : Bool) → test x ≡ b → ends test (drop n xs) ≡ true → ends test (drop (cond b (1 + n) 0) (x ∷ xs)) ≡ true
ends_more test x xs n false e h = ap not e
ends_more test x xs n true e h = let more : 1 + n ≡ suc n = omega arith in rw more h

pub ends_rest : (test : ℕ → Bool) (xs : List ℕ) → ends test (drop (prefix_len test xs) xs) ≡ true
ends_rest test [] = refl
ends_rest test (x ∷ xs) = ends_more test x xs (prefix_len test xs) (test x) refl (ends_rest test xs)

pub run_is : (test : ℕ → Bool) (xs front rest : List ℕ) (n : ℕ) → n ≡ length (take_while test xs) → front ≡ take n xs → rest ≡ drop n xs → IsRun test xs front rest
run_is test xs front rest n is f r =
    let e : n ≡ prefix_len test xs = is ∙ length-prefix_len test xs in
    record {
      text = rw (f, r) (sym (take-append-drop n xs));
      passes = rw (f, e) (passes_front test xs);
      ended = rw (r, e) (ends_rest test xs);
    }

pub run_front : (test : ℕ → Bool) (bytes front rest : List ℕ) → IsRun test bytes front rest → take_while test bytes ≡ front
run_front test bytes front rest h =
    let n = run_length test front rest h.passes h.ended in
    rw (h.text, n) (take_at front rest (length front) refl)

pub run_rest : (test : ℕ → Bool) (bytes front rest : List ℕ) → IsRun test bytes front rest → drop (length (take_while test bytes)) bytes ≡ rest
run_rest test bytes front rest h =
    rw (run_front test bytes front rest h, h.text) (drop_at front rest (length front) refl)
