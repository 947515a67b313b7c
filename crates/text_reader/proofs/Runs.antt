-- A run is as long as its bytes go on, so there is one.
use Rattle.std.proofs.Common.{◌≡◌, ◌<◌, ◌≤◌, ◌+◌, ◌-◌, length-drop, ℕ, suc, Bool, true, false, List, [], ◌∷◌, length, take, drop, get_or, sym, ap, ◌∙◌, add-one, drop-cons, arith}
use Rattle.std.proofs.lemmas.List.{take-append-drop, take_all}
use Rattle.std.proofs.lemmas.Bool.{false≢true, and_from, not-false}
use Rattle.text_reader.specs.declared.form.Form.{Form}
use Rattle.text_reader.specs.declared.lexeme.Piece.{Piece}
use Rattle.text_reader.specs.Bytes.{is_feed, goes_on}
use Rattle.text_reader.specs.Lexemes.{ends, is_run}

-- what a run from a place on would be is a run from the front
abbrev pub GoesTo : Form → Piece → List ℕ → ℕ → Type 0
GoesTo form piece bytes i = (n : ℕ) → is_run form piece (take n (drop i bytes)) (drop n (drop i bytes)) ≡ true → is_run form piece (take (i + n) bytes) (drop (i + n) bytes) ≡ true

pub begins : (form : Form) (piece : Piece) (bytes : List ℕ) → GoesTo form piece bytes 0
begins form piece bytes n h = let z : 0 + n ≡ n = omega arith in rw z h

run_more : (form : Form) (piece : Piece) (c : ℕ) (cs : List ℕ) (n : ℕ) → ends form piece (c ∷ cs) ≡ false → is_run form piece (take n cs) (drop n cs) ≡ true → is_run form piece (c ∷ take n cs) (drop n cs) ≡ true
run_more form piece c cs n e h = rw (take-append-drop n cs) (and_from (goes_on form piece c (is_feed cs)) (is_run form piece (take n cs) (drop n cs)) (not-false (goes_on form piece c (is_feed cs)) e) h)

pub goes_more : (form : Form) (piece : Piece) (bytes : List ℕ) (i : ℕ) → i < length bytes → ends form piece (drop i bytes) ≡ false → GoesTo form piece bytes i → GoesTo form piece bytes (i + 1)
goes_more form piece bytes i w e g n h =
    let d : drop i bytes ≡ get_or bytes i 0 ∷ drop (i + 1) bytes = rw add-one (drop-cons bytes i 0 w) in
    let s : i + 1 + n ≡ i + suc n = omega arith in
    let m = run_more form piece (get_or bytes i 0) (drop (i + 1) bytes) n (ap (ends form piece) (sym d) ∙ e) h in
    rw s (g (suc n) (rw d m))

pub goes_end : (form : Form) (piece : Piece) (bytes : List ℕ) (i : ℕ) → ends form piece (drop i bytes) ≡ true → GoesTo form piece bytes i → is_run form piece (take i bytes) (drop i bytes) ≡ true
goes_end form piece bytes i e g =
    let s : i + 0 ≡ i = omega arith in
    rw s at (g 0 e)

-- the whole of what is left
pub to_end : (bytes : List ℕ) (i : ℕ) → take (length bytes - i) (drop i bytes) ≡ drop i bytes
to_end bytes i = take_all (length bytes - i) (drop i bytes) (omega (arith, length-drop i bytes))

some_left : (form : Form) (piece : Piece) (bytes : List ℕ) → ends form piece bytes ≡ false → 0 < length bytes
some_left form piece [] e = absurd (false≢true (sym e))
some_left form piece (c ∷ cs) e = omega arith

pub runs_on : (form : Form) (piece : Piece) (bytes : List ℕ) (i : ℕ) (ended : Bool) → ended ≡ ends form piece (take (length bytes - i) (drop i bytes)) → ended ≡ false → GoesTo form piece bytes i → (i + 1 ≤ length bytes) × GoesTo form piece bytes (i + 1)
runs_on form piece bytes i ended is e g =
    let f : ends form piece (drop i bytes) ≡ false = rw to_end at (sym is ∙ e) in
    let w : i < length bytes = omega (arith, some_left form piece (drop i bytes) f, length-drop i bytes) in
    (omega arith, goes_more form piece bytes i w f g)

pub runs_to : (form : Form) (piece : Piece) (bytes : List ℕ) (i : ℕ) (ended : Bool) → ended ≡ ends form piece (take (length bytes - i) (drop i bytes)) → ended ≡ true → GoesTo form piece bytes i → is_run form piece (take i bytes) (drop i bytes) ≡ true
runs_to form piece bytes i ended is e g = let f : ends form piece (drop i bytes) ≡ true = rw to_end at (sym is ∙ e) in goes_end form piece bytes i f g
