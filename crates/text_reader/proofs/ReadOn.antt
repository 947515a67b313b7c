-- Reading goes on by one lexeme, to the end or to a fault.
use Rattle.std.proofs.Common.{◌≡◌, ◌<◌, ℕ, List, [], ◌∷◌, ◌++◌, length, sym, ap, ◌∙◌, refl, subst, append_assoc, length-append, arith}
use Rattle.std.proofs.lemmas.List.{append-nil}
use Rattle.text_reader.specs.declared.form.Form.{Form}
use Rattle.text_reader.specs.declared.token.Token.{Token}
use Rattle.text_reader.specs.declared.lexeme.Piece.{Piece}
use Rattle.text_reader.specs.declared.place.Place.{Place}
use Rattle.text_reader.specs.Lexemes.{Lexed, IsLexeme, text_of, AreLexemes}
use Rattle.text_reader.specs.Tokens.{origin, behind, behind_all, token_of, tokens_of, last_end, IsTokensOf}
use Rattle.text_reader.specs.Faults.{BeginsText, EndsIn, IsFaultAt}
use Rattle.text_reader.specs.Progress.{IsReadTo, IsStuck, Continues, LacksLexeme}
use Rattle.text_reader.specs.Laws.{HasOneList}
use Rattle.text_reader.proofs.OneLexeme.{begin_so}
use Rattle.text_reader.proofs.Followers.{follow_all}

text_append : (xs ys : List Lexed) → text_of (xs ++ ys) ≡ text_of xs ++ text_of ys
text_append [] ys = refl
text_append (x ∷ xs) ys = ap (λ (z : List ℕ). x.text ++ z) (text_append xs ys) ∙ sym (append_assoc x.text (text_of xs) (text_of ys))

are_append : (form : Form) (xs ys : List Lexed) (rest : List ℕ) → AreLexemes form xs (text_of ys ++ rest) → AreLexemes form ys rest → AreLexemes form (xs ++ ys) rest
are_append form [] ys rest h k = k
are_append form (x ∷ xs) ys rest h k =
    let same : text_of xs ++ (text_of ys ++ rest) ≡ text_of (xs ++ ys) ++ rest = sym (append_assoc (text_of xs) (text_of ys) rest) ∙ ap (λ (z : List ℕ). z ++ rest) (sym (text_append xs ys)) in
    (subst (λ (z : List ℕ). IsLexeme form x.piece x.text z) same h.0, are_append form xs ys rest h.1 k)

behind_append : (p : Place) (xs : List Lexed) (x : Lexed) → behind_all p (xs ++ x ∷ []) ≡ behind (behind_all p xs) x.piece (length x.text)
behind_append p [] x = refl
behind_append p (y ∷ xs) x = behind_append (behind p y.piece (length y.text)) xs x

tokens_append : (p : Place) (xs : List Lexed) (x : Lexed) → tokens_of p (xs ++ x ∷ []) ≡ tokens_of p xs ++ token_of (behind_all p xs) x.piece (length x.text)
tokens_append p [] x = append-nil (token_of p x.piece (length x.text))
tokens_append p (y ∷ xs) x =
    let next = behind p y.piece (length y.text) in
    ap (λ (z : List Token). token_of p y.piece (length y.text) ++ z) (tokens_append next xs x)
    ∙ sym (append_assoc (token_of p y.piece (length y.text)) (tokens_of next xs) (token_of (behind_all next xs) x.piece (length x.text)))

pub read_more : (form : Form) (bytes rest : List ℕ) (place : Place) (tokens : List Token) (piece : Piece) (text more : List ℕ) → IsReadTo form bytes rest place tokens → IsLexeme form piece text more → text ++ more ≡ rest → IsReadTo form bytes more (behind place piece (length text)) (tokens ++ token_of place piece (length text))
read_more form bytes rest place tokens piece text more h k e =
    let x : Lexed = record { piece = piece; text = text } in
    let one : text_of (x ∷ []) ++ more ≡ rest = ap (λ (z : List ℕ). z ++ more) (append-nil text) ∙ e in
    let last : text ++ more ≡ text ++ ([] ++ more) = refl in
    record {
      lexemes = h.lexemes ++ x ∷ [];
      text = ap (λ (z : List ℕ). z ++ more) (text_append h.lexemes (x ∷ [])) ∙ append_assoc (text_of h.lexemes) (text_of (x ∷ [])) more ∙ ap (λ (z : List ℕ). text_of h.lexemes ++ z) one ∙ h.text;
      are = are_append form h.lexemes (x ∷ []) more (subst (λ (z : List ℕ). AreLexemes form h.lexemes z) (sym one) h.are) (k, tt);
      stands = ap (λ (p : Place). behind p piece (length text)) h.stands ∙ sym (behind_append origin h.lexemes x);
      listed = ap (λ (z : List Token). z ++ token_of place piece (length text)) h.listed ∙ ap (λ (p : Place). tokens_of origin h.lexemes ++ token_of p piece (length text)) h.stands ∙ sym (tokens_append origin h.lexemes x);
    }

pub read_end : (form : Form) (bytes : List ℕ) (place : Place) (tokens : List Token) → IsReadTo form bytes [] place tokens → IsTokensOf form bytes (tokens ++ last_end place)
read_end form bytes place tokens h = record {
  lexemes = h.lexemes;
  text = sym (append-nil (text_of h.lexemes)) ∙ h.text;
  are = h.are;
  listed = ap (λ (z : List Token). z ++ last_end place) h.listed ∙ ap (λ (p : Place). tokens_of origin h.lexemes ++ last_end p) h.stands;
}

no_lexemes : (form : Form) (bytes : List ℕ) (xs : List Lexed) → LacksLexeme form bytes → 0 < length bytes → AreLexemes form xs [] → text_of xs ≡ bytes → ⊥
no_lexemes form bytes [] lacks some are e = let none = ap length e in omega arith
no_lexemes form bytes (x ∷ xs) lacks some are e = lacks x.piece x.text (text_of xs ++ []) (ap (λ (z : List ℕ). x.text ++ z) (append-nil (text_of xs)) ∙ e) are.0

-- no text goes on from lexemes with bytes at whose front none stands
no_text : (form : Form) (xs : List Lexed) (rest bytes : List ℕ) (tokens : List Token) → AreLexemes form xs rest → LacksLexeme form rest → 0 < length rest → text_of xs ++ rest ≡ bytes → IsTokensOf form bytes tokens → ⊥
no_text form xs rest bytes tokens are lacks some e h =
    let begun = begin_so form xs rest h.lexemes are h.are (e ∙ sym h.text) in
    no_lexemes form rest begun.more lacks some begun.are begun.text

pub begins_text : (form : Form) (xs ys : List Lexed) (rest front more : List ℕ) → AreLexemes form xs rest → Continues form rest (text_of ys) → AreLexemes form ys [] → text_of ys ≡ front ++ more → BeginsText form (text_of xs ++ front)
begins_text form xs ys rest front more are follows behind e =
    let all = follow_all form xs rest (text_of ys) follows are in
    let joined = subst (λ (z : List ℕ). AreLexemes form xs z) (sym (append-nil (text_of ys))) all in
    record {
      more = more;
      tokens = tokens_of origin (xs ++ ys) ++ last_end (behind_all origin (xs ++ ys));
      are = record {
        lexemes = xs ++ ys;
        text = text_append xs ys ∙ ap (λ (z : List ℕ). text_of xs ++ z) e ∙ sym (append_assoc (text_of xs) front more);
        are = are_append form xs ys [] joined behind;
        listed = refl;
      };
    }

no_longer : (form : Form) (xs : List Lexed) (rest front : List ℕ) (c : ℕ) → AreLexemes form xs rest → ((other : List ℕ) → Continues form rest (front ++ c ∷ other) × LacksLexeme form (front ++ c ∷ other)) → BeginsText form ((text_of xs ++ front) ++ c ∷ []) → ⊥
no_longer form xs rest front c are longest h =
    let l = longest h.more in
    let e : text_of xs ++ (front ++ c ∷ h.more) ≡ ((text_of xs ++ front) ++ c ∷ []) ++ h.more = sym (append_assoc (text_of xs) front (c ∷ h.more)) ∙ sym (append_assoc (text_of xs ++ front) (c ∷ []) h.more) in
    no_text form xs (front ++ c ∷ h.more) (((text_of xs ++ front) ++ c ∷ []) ++ h.more) h.tokens (follow_all form xs rest (front ++ c ∷ h.more) l.0 are) l.1 (omega (arith, length-append front (c ∷ h.more))) e h.are

pub stuck_there : (form : Form) (bytes rest : List ℕ) (place : Place) (tokens : List Token) (count line column : ℕ) (h : IsReadTo form bytes rest place tokens) (k : IsStuck form rest count) → 0 < length rest → EndsIn line column (text_of h.lexemes ++ k.front) → IsFaultAt form bytes line column
stuck_there form bytes rest place tokens count line column h k some ends = record {
  front = text_of h.lexemes ++ k.front;
  rest = k.rest;
  text = sym h.text ∙ ap (λ (z : List ℕ). text_of h.lexemes ++ z) k.text ∙ sym (append_assoc (text_of h.lexemes) k.front k.rest);
  place = ends;
  begins = begins_text form h.lexemes k.lexemes rest k.front k.more h.are k.follows k.are k.completed;
  longest = λ c more is begun. no_longer form h.lexemes rest k.front c h.are (λ other. k.longest c more other is) begun;
  none = λ other is. no_text form h.lexemes rest bytes other h.are k.none some h.text is;
}

no_more : (form : Form) (xs : List Lexed) → AreLexemes form xs [] → text_of xs ≡ [] → xs ≡ []
no_more form [] are e = refl
no_more form (x ∷ xs) are e = let none = ap length e in absurd (omega (arith, are.0.some, simp length-append at none))

pub one_list : HasOneList
one_list form bytes tokens others h k =
    let begun = begin_so form h.lexemes [] k.lexemes h.are k.are (append-nil (text_of h.lexemes) ∙ h.text ∙ sym k.text) in
    let none : begun.more ≡ [] = no_more form begun.more begun.are begun.text in
    let same : k.lexemes ≡ h.lexemes = begun.split ∙ ap (λ (z : List Lexed). h.lexemes ++ z) none ∙ append-nil h.lexemes in
    h.listed ∙ ap (λ (z : List Lexed). tokens_of origin z ++ last_end (behind_all origin z)) (sym same) ∙ sym k.listed
