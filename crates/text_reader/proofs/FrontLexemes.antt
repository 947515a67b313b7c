-- The lexeme at the front of bytes, by the tests of its bytes.
use Rattle.std.proofs.Common.{◌≡◌, ◌≢◌, ◌-◌, ℕ, Bool, true, false, List, [], ◌∷◌, length, take, drop, get_or, sym, ap, ◌∙◌, arith, Some, inl, inr, ◌⊎◌}
use Rattle.std.proofs.lemmas.Bool.{false≢true, not-false}
use Rattle.text_reader.specs.declared.form.Form.{Form}
use Rattle.text_reader.specs.declared.token.Class.TheVariants.{Sign}
use Rattle.text_reader.specs.declared.lexeme.Piece.TheVariants.{Token}
use Rattle.text_reader.specs.Bytes.{is_feed, kind_at}
use Rattle.text_reader.specs.Signs.{is_single, is_pair, begins_pair}
use Rattle.text_reader.specs.Lexemes.{kind_of, lacks_pair, IsLexeme}
use Rattle.text_reader.specs.Progress.{IsStuck}
use Rattle.text_reader.proofs.Runs.{to_end}
use Rattle.text_reader.proofs.Stuck.{sign_none, sign_one}

-- whether no sign of two bytes stands at the front
front_is : (form : Form) (c : ℕ) (cs : List ℕ) (lacks b : Bool) → lacks ≡ lacks_pair form c (take (length (c ∷ cs) - 1) (drop 1 (c ∷ cs))) → lacks ≡ b → lacks_pair form c cs ≡ b
front_is form c cs lacks b is e = sym (is ∙ ap (lacks_pair form c) (to_end (c ∷ cs) 1)) ∙ e

pub two_bytes : (form : Form) (bytes : List ℕ) (lacks : Bool) → kind_of form bytes ≡ Some (Token Sign) → lacks ≡ lacks_pair form (get_or bytes 0 0) (take (length bytes - 1) (drop 1 bytes)) → lacks ≡ false → IsLexeme form (Token Sign) (take 2 bytes) (drop 2 bytes)
two_bytes form [] lacks kind is e = absurd (cc)
two_bytes form (c ∷ []) lacks kind is e = absurd (false≢true (sym (front_is form c [] lacks false is e)))
two_bytes form (c ∷ d ∷ cs) lacks kind is e = record { some = omega arith; kind = kind; whole = not-false (is_pair form c d) (front_is form c (d ∷ cs) lacks false is e) }

pub one_byte_short : (form : Form) (bytes : List ℕ) (lacks single pair : Bool) → kind_of form bytes ≡ Some (Token Sign) → lacks ≡ lacks_pair form (get_or bytes 0 0) (take (length bytes - 1) (drop 1 bytes)) → lacks ≡ true → single ≡ is_single form (get_or bytes 0 0) → single ≡ false → pair ≡ begins_pair form (get_or bytes 0 0) → (pair ≡ true) ⊎ ((pair ≡ false) × (get_or bytes 0 0 ≡ 13)) → IsStuck form bytes 1
one_byte_short form [] lacks single pair kind is e s f p either = absurd (cc)
one_byte_short form (c ∷ cs) lacks single pair kind is e s f p (inl begun) = let here : kind_at form c (is_feed cs) ≡ Token Sign = cc in sign_one form c cs here (sym s ∙ f) (front_is form c cs lacks true is e) (inl (sym p ∙ begun))
one_byte_short form (c ∷ cs) lacks single pair kind is e s f p (inr return) = let here : kind_at form c (is_feed cs) ≡ Token Sign = cc in sign_one form c cs here (sym s ∙ f) (front_is form c cs lacks true is e) (inr return.1)

pub no_byte : (form : Form) (bytes : List ℕ) (single pair : Bool) → kind_of form bytes ≡ Some (Token Sign) → single ≡ is_single form (get_or bytes 0 0) → single ≡ false → pair ≡ begins_pair form (get_or bytes 0 0) → (pair ≡ false) × (get_or bytes 0 0 ≢ 13) → IsStuck form bytes 0
no_byte form [] single pair kind s f p neither = absurd (cc)
no_byte form (c ∷ cs) single pair kind s f p neither = let here : kind_at form c (is_feed cs) ≡ Token Sign = cc in sign_none form c cs here (sym s ∙ f) (sym p ∙ neither.0) neither.1
