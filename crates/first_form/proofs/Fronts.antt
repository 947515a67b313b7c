-- Texts at the front of bytes, and names after them.
use Rattle.std.proofs.Common.{◌≡◌, ◌≢◌, ℕ, ◌<◌, Bool, true, false, not, ◌&&◌, ◌||◌, List, [], ◌∷◌, ◌++◌, length, drop, get_or, sym, ap, ◌∙◌, refl, arith, subst, append_assoc, Option, None}
use Rattle.std.proofs.lemmas.List.{append_cancel_left}
use Rattle.std.proofs.lemmas.Bool.{and_parts, both_ways}
use Rattle.std.specs.Option.{MatchOption}
use Rattle.std.specs.List.{list_all}
use Rattle.first_form.specs.Names.{is_name, is_word, is_word_byte, begins_word, is_kept, is_reserved}
use Rattle.first_form.specs.Scans.{IsRun, IsNameAfter}
use Rattle.first_form.proofs.Runs.{run_front, run_rest}

-- what is left of the texts is at the front of the rest as the whole is at the front of the bytes
pub record GoesOn (bytes whole rest left : List ℕ) : Type 0 where
  pub to : (r : List ℕ) → rest ≡ left ++ r → bytes ≡ whole ++ r
  pub from : (r : List ℕ) → bytes ≡ whole ++ r → rest ≡ left ++ r

pub goes_none : (bytes whole : List ℕ) → GoesOn bytes whole bytes whole
goes_none bytes whole = record {
  to = λ r h. h;
  from = λ r h. h;
}

pub goes_more : (bytes whole rest text left next : List ℕ) → GoesOn bytes whole rest (text ++ left) → rest ≡ text ++ next → GoesOn bytes whole next left
goes_more bytes whole rest text left next h e = record {
  to = λ r f. h.to r (e ∙ ap (λ (z : List ℕ). text ++ z) f ∙ sym (append_assoc text left r));
  from = λ r f. append_cancel_left text next (left ++ r) (sym e ∙ h.from r f ∙ append_assoc text left r);
}

pub goes_not : (bytes whole rest text left : List ℕ) → GoesOn bytes whole rest (text ++ left) → ((r : List ℕ) → rest ≢ text ++ r) → (r : List ℕ) → bytes ≢ whole ++ r
goes_not bytes whole rest text left h missing r f = missing (left ++ r) (h.from r f ∙ append_assoc text left r)

pub at_none : {A : Type 0} (P : Type 0) (Q : A → Type 0) (r : Option A) → r ≡ None → P → MatchOption r P Q
at_none P Q r e p = subst (λ (o : Option _). MatchOption o P Q) (sym e) p

pub is_word-first : (word : List ℕ) → 0 < length word → is_word word ≡ (begins_word (get_or word 0 0) && list_all is_word_byte (drop 1 word))
is_word-first [] h = absurd (omega arith)
is_word-first (c ∷ cs) h = refl

begins_all : (a b d : Bool) → (a && b) ≡ true → ((a || d) && b) ≡ true
begins_all true b d h = h
begins_all false true d h = absurd (let k : false ≡ true = h in cc)
begins_all false false d h = absurd (let k : false ≡ true = h in cc)

pub word_passes : (word : List ℕ) → is_word word ≡ true → list_all is_word_byte word ≡ true
word_passes [] h = refl
word_passes (c ∷ cs) h = begins_all (begins_word c) (list_all is_word_byte cs) _ h

pub name_passes : (word : List ℕ) → is_name word ≡ true → list_all is_word_byte word ≡ true
name_passes word h = word_passes word (and_parts (is_word word) (not (is_kept word) && not (is_reserved word)) h).0

pub name_run : (text bytes rest name after : List ℕ) → bytes ≡ text ++ rest → IsNameAfter text bytes name after → IsRun is_word_byte rest name after
name_run text bytes rest name after e h = record {
  text = append_cancel_left text rest (name ++ after) (sym e ∙ h.is);
  passes = name_passes name h.named;
  ended = h.ended;
}

pub record Same (name after other rest : List ℕ) : Type 0 where
  pub names : name ≡ other
  pub rests : after ≡ rest

pub run_same : (test : ℕ → Bool) (bytes name after other rest : List ℕ) → IsRun test bytes name after → IsRun test bytes other rest → Same name after other rest
run_same test bytes name after other rest h k = record {
  names = sym (run_front test bytes name after h) ∙ run_front test bytes other rest k;
  rests = sym (run_rest test bytes name after h) ∙ run_rest test bytes other rest k;
}

pub name_same : (text bytes name after other rest : List ℕ) → IsNameAfter text bytes name after → IsNameAfter text bytes other rest → Same name after other rest
name_same text bytes name after other rest h k =
    run_same is_word_byte (name ++ after) name after other rest (name_run text bytes (name ++ after) name after h.is h) (name_run text bytes (name ++ after) other rest h.is k)

pub is_name_not : (text bytes front behind rest : List ℕ) → bytes ≡ text ++ rest → IsRun is_word_byte rest front behind → is_name front ≡ false → (name after : List ℕ) → IsNameAfter text bytes name after → ⊥
is_name_not text bytes front behind rest e r is name after h =
    let same = run_same is_word_byte rest name after front behind (name_run text bytes rest name after e h) r in
    let named : is_name front ≡ true = subst (λ (z : List ℕ). is_name z ≡ true) same.names h.named in
    both_ways (is_name front) is named
