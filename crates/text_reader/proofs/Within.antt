-- The bytes of tokens are bytes of the text.
use Rattle.std.proofs.Common.{◌≡◌, ◌<◌, ◌≤◌, ◌+◌, ℕ, Bool, true, false, List, [], ◌∷◌, ◌++◌, length, drop, sym, ap, subst, length-append, arith, if◌then◌else◌, nat_lt}
use Rattle.std.specs.List.{All}
use Rattle.std.proofs.lemmas.List.{drop_all}
use Rattle.std.proofs.lemmas.List.Elements.{All-nil, All-append, All-cons}
use Rattle.text_reader.specs.declared.form.Form.{Form}
use Rattle.text_reader.specs.declared.token.Token as declared
use Rattle.text_reader.specs.declared.token.Class.TheVariants.{LineEnd}
use Rattle.text_reader.specs.declared.lexeme.Piece.{Piece}
use Rattle.text_reader.specs.declared.lexeme.Piece.TheVariants.{Blank, Comment, Token}
use Rattle.text_reader.specs.declared.place.Place.{Place}
use Rattle.text_reader.specs.Lexemes.{Lexed, text_of, AreLexemes}
use Rattle.text_reader.specs.Tokens.{origin, behind, behind_all, token_of, tokens_of, last_end, IsWithin, IsTokensOf}
use Rattle.text_reader.specs.Progress.{IsReadTo}
use Rattle.text_reader.specs.Laws.{HasFewTokens}
use Rattle.text_reader.proofs.ReadOn.{read_end}
use Rattle.text_reader.proofs.ReadSteps.{behind_at}

all_at : (p : Place) (xs : List Lexed) → (behind_all p xs).at ≡ p.at + length (text_of xs)
all_at p [] = omega arith
all_at p (x ∷ xs) = omega (arith, all_at (behind p x.piece (length x.text)) xs, behind_at p x.piece (length x.text), length-append x.text (text_of xs))

one_within : (bytes : List ℕ) (p : Place) (piece : Piece) (n : ℕ) → p.at + n ≤ length bytes → All (IsWithin bytes) (token_of p piece n)
one_within bytes p Blank n h = All-nil (IsWithin bytes)
one_within bytes p Comment n h = All-nil (IsWithin bytes)
one_within bytes p (Token class) n h = All-cons (IsWithin bytes) _ [] (record { ordered = omega arith; inside = h }) (All-nil (IsWithin bytes))

all_within : (bytes : List ℕ) (p : Place) (xs : List Lexed) → p.at + length (text_of xs) ≤ length bytes → All (IsWithin bytes) (tokens_of p xs)
all_within bytes p [] h = All-nil (IsWithin bytes)
all_within bytes p (x ∷ xs) h =
    let next = behind p x.piece (length x.text) in
    All-append (IsWithin bytes) (token_of p x.piece (length x.text)) (tokens_of next xs)
    (one_within bytes p x.piece (length x.text) (omega (arith, length-append x.text (text_of xs))))
    (all_within bytes next xs (omega (arith, behind_at p x.piece (length x.text), length-append x.text (text_of xs))))

end_within : (bytes : List ℕ) (p : Place) (b : Bool) → p.at ≤ length bytes → All (IsWithin bytes) (if b then record { line = p.line; from = p.at; to = p.at; class = LineEnd } ∷ [] else [])
end_within bytes p true h = All-cons (IsWithin bytes) _ [] (record { ordered = omega arith; inside = h }) (All-nil (IsWithin bytes))
end_within bytes p false h = All-nil (IsWithin bytes)

pub read_within : (form : Form) (bytes rest : List ℕ) (place : Place) (tokens : List declared.Token) → IsReadTo form bytes rest place tokens → All (IsWithin bytes) tokens
read_within form bytes rest place tokens h =
    let long : length (text_of h.lexemes ++ rest) ≡ length bytes = ap length h.text in
    subst (λ (ts : List declared.Token). All (IsWithin bytes) ts) (sym h.listed)
    (all_within bytes origin h.lexemes (omega (arith, length-append (text_of h.lexemes) rest)))

tokens_within : (form : Form) (bytes : List ℕ) (tokens : List declared.Token) → IsTokensOf form bytes tokens → All (IsWithin bytes) tokens
tokens_within form bytes tokens h =
    let p = behind_all origin h.lexemes in
    let long : length (text_of h.lexemes) ≡ length bytes = ap length h.text in
    let at : p.at ≤ length bytes = omega (arith, all_at origin h.lexemes) in
    subst (λ (ts : List declared.Token). All (IsWithin bytes) ts) (sym h.listed)
    (All-append (IsWithin bytes) (tokens_of origin h.lexemes) (last_end p) (all_within bytes origin h.lexemes (omega arith)) (end_within bytes p (nat_lt p.start p.at) at))

pub whole_within : (form : Form) (bytes : List ℕ) (place : Place) (tokens new : List declared.Token) → IsReadTo form bytes (drop place.at bytes) place tokens → length bytes ≤ place.at → new ≡ tokens ++ last_end place → All (IsWithin bytes) new
whole_within form bytes place tokens new h all is =
    let read = subst (λ (z : List ℕ). IsReadTo form bytes z place tokens) (drop_all place.at bytes all) h in
    subst (λ (ts : List declared.Token). All (IsWithin bytes) ts) (sym is) (tokens_within form bytes (tokens ++ last_end place) (read_end form bytes place tokens read))

one_few : (p : Place) (piece : Piece) (n : ℕ) → 0 < n → length (token_of p piece n) ≤ n
one_few p Blank n h = omega arith
one_few p Comment n h = omega arith
one_few p (Token class) n h = omega arith

all_few : (form : Form) (p : Place) (xs : List Lexed) (rest : List ℕ) → AreLexemes form xs rest → length (tokens_of p xs) ≤ length (text_of xs)
all_few form p [] rest h = omega arith
all_few form p (x ∷ xs) rest h =
    let next = behind p x.piece (length x.text) in
    omega (arith, one_few p x.piece (length x.text) h.0.some, all_few form next xs rest h.1, length-append x.text (text_of xs), length-append (token_of p x.piece (length x.text)) (tokens_of next xs))

abbrev end_if : Place → Bool → List declared.Token
end_if p b = if b then record { line = p.line; from = p.at; to = p.at; class = LineEnd } ∷ [] else []

end_few : (p : Place) (b : Bool) → length (end_if p b) ≤ 1
end_few p true = omega arith
end_few p false = omega arith

pub few_tokens : HasFewTokens
few_tokens form bytes tokens h =
    let p = behind_all origin h.lexemes in
    let long : length (text_of h.lexemes) ≡ length bytes = ap length h.text in
    let all : length tokens ≡ length (tokens_of origin h.lexemes ++ last_end p) = ap length h.listed in
    omega (arith, long, all, all_few form origin h.lexemes [] h.are, end_few p (nat_lt p.start p.at), length-append (tokens_of origin h.lexemes) (last_end p))
