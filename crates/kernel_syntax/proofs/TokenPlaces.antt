-- The bytes before a token, and its own.
use Rattle.std.proofs.Common.{◌≡◌, ◌+◌, ◌-◌, ℕ, zero, suc, Bool, true, false, List, [], ◌∷◌, ◌++◌, length, take, drop, not, ◌&&◌, ◌==◌, sym, ap, ◌∙◌, refl, subst, append_assoc, length-append, arith, Some}
use Rattle.std.specs.List.{All, list_all}
use Rattle.std.proofs.lemmas.List.{append-nil}
use Rattle.std.proofs.lemmas.List.Elements.{All-head, All-tail}
use Rattle.std.proofs.lemmas.Bool.{and_parts, or_left}
use Rattle.std.proofs.lemmas.Bool.Decides.{nat_tests}
use Rattle.text_reader.specs.declared.form.Form.TheVariants.{Kernel}
use Rattle.text_reader.specs.declared.token.Token as declared
use Rattle.text_reader.specs.declared.token.Class.{Class}
use Rattle.text_reader.specs.declared.token.Class.TheVariants.{Word, Number, Sign, LineEnd}
use Rattle.text_reader.specs.declared.lexeme.Piece.{Piece}
use Rattle.text_reader.specs.declared.lexeme.Piece.TheVariants.{Blank, Comment, Token}
use Rattle.text_reader.specs.declared.place.Place.{Place}
use Rattle.text_reader.specs.Lexemes.{Lexed, IsLexeme, text_of, AreLexemes}
use Rattle.text_reader.specs.Bytes.{is_feed, kind_at}
use Rattle.text_reader.specs.Spelling.{IsSpelled, IsSpelledIn}
use Rattle.text_reader.specs.Limits.{bytes_of}
use Rattle.text_reader.specs.Tokens.{origin, behind, behind_all, token_of, tokens_of, last_end, IsTokensOf}
use Rattle.text_reader.specs.Progress.{IsReadTo}
use Rattle.text_reader.proofs.ReadSteps.{behind_at}
use Rattle.text_reader.proofs.ReadOn.{one_list}
use Rattle.text_reader.proofs.SpelledTokens.{spelled_tokens, front_spelled}
use Rattle.kernel_grammar.specs.Lexicals.{Lexical, lexical, lexicals}
use Rattle.kernel_syntax.specs.Refused.{is_space}
use Rattle.kernel_syntax.specs.TokenTexts.{IsTextOf, lexical_of, lexicals_of, IsFrontOf, TakesBlank, ends_in_token, IsWell, AreWell}
use Rattle.kernel_syntax.proofs.TokenTexts.{front_lexicals, part_is}
use Rattle.kernel_syntax.proofs.TextFronts.{lexicals_joined, text_joined, are_more}

-- ---- the tokens of bytes are well spelled

well_one : (class : Class) (bytes : List ℕ) → IsSpelled Kernel class bytes → IsWell (lexical class bytes)
well_one Word bytes h = h
well_one Number bytes h = h
well_one Sign bytes h = h
well_one LineEnd bytes h = tt

pub well_tokens : (bytes : List ℕ) (tokens : List declared.Token) → All (IsSpelledIn Kernel bytes) tokens → AreWell (lexicals bytes tokens)
well_tokens bytes [] h = tt
well_tokens bytes (x ∷ xs) h = (well_one x.class (bytes_of bytes x) (All-head (IsSpelledIn Kernel bytes) x xs h), well_tokens bytes xs (All-tail (IsSpelledIn Kernel bytes) x xs h))

pub well_text : (bytes : List ℕ) (text : List Lexical) → IsTextOf bytes text → AreWell text
well_text bytes text h = subst AreWell h.spelled (well_tokens bytes h.tokens (spelled_tokens Kernel bytes h.tokens h.are))

pub read_of : (front rest : List ℕ) (text : List Lexical) → (h : IsFrontOf front rest text) → IsReadTo Kernel (front ++ rest) rest (behind_all origin h.lexemes) (tokens_of origin h.lexemes)
read_of front rest text h = record {
  lexemes = h.lexemes;
  text = ap (λ (z : List ℕ). z ++ rest) h.whole;
  are = h.are;
  stands = refl;
  listed = refl;
}

pub well_front : (front rest : List ℕ) (text : List Lexical) → IsFrontOf front rest text → AreWell text
unfolding read_of
well_front front rest text h =
    let read = read_of front rest text h in
    let bytes = front ++ rest in
    let place = behind_all origin h.lexemes in
    let tokens = tokens_of origin h.lexemes in
    subst AreWell (front_lexicals bytes rest place tokens read ∙ sym h.listed) (well_tokens bytes tokens (front_spelled Kernel bytes rest place tokens read))

-- ---- a token between others

-- a token of lexemes
abbrev the_lexed : Class → List ℕ → Lexed
the_lexed class text = record { piece = Token class; text = text }

-- The lexemes are those before the token at the place, this one and those behind it.
record LexedCut (p : Place) (xs : List Lexed) (at : ℕ) (token : declared.Token) : Type 0 where
  before : List Lexed
  text : List ℕ
  after : List Lexed
  split : xs ≡ before ++ the_lexed token.class text ∷ after
  counted : lexicals_of before ≡ take at (lexicals_of xs)
  from : token.from ≡ p.at + length (text_of before)
  to : token.to ≡ token.from + length text

-- a lexeme more before, which is no token or the token before
more_cut : (p : Place) (x : Lexed) (xs : List Lexed) (at before : ℕ) (token : declared.Token) → ((text : List Lexical) → lexical_of x.piece x.text ++ take at text ≡ take before (lexical_of x.piece x.text ++ text)) → LexedCut (behind p x.piece (length x.text)) xs at token → LexedCut p (x ∷ xs) before token
more_cut p x xs at before token e h = record {
  before = x ∷ h.before;
  text = h.text;
  after = h.after;
  split = ap (λ (z : List Lexed). x ∷ z) h.split;
  counted = ap (λ (z : List Lexical). lexical_of x.piece x.text ++ z) h.counted ∙ e (lexicals_of xs);
  from = omega (arith, h.from, behind_at p x.piece (length x.text), length-append x.text (text_of h.before));
  to = h.to;
}

pub no_token : (at : ℕ) (token : declared.Token) (more : List declared.Token) → drop at [] ≡ token ∷ more → ⊥
no_token zero token more e = cc
no_token (suc at) token more e = cc

-- the first lexeme, and what is found behind it
cut_one : (p : Place) (piece : Piece) (text : List ℕ) (xs : List Lexed) (at : ℕ) (token : declared.Token) (more : List declared.Token)
    → ((n : ℕ) → drop n (tokens_of (behind p piece (length text)) xs) ≡ token ∷ more → LexedCut (behind p piece (length text)) xs n token)
    → drop at (token_of p piece (length text) ++ tokens_of (behind p piece (length text)) xs) ≡ token ∷ more → LexedCut p (record { piece = piece; text = text } ∷ xs) at token
cut_one p Blank text xs at token more below e = more_cut p (record { piece = Blank; text = text }) xs at at token (λ t. refl) (below at e)
cut_one p Comment text xs at token more below e = more_cut p (record { piece = Comment; text = text }) xs at at token (λ t. refl) (below at e)
cut_one p (Token class) text xs zero token more below e =
    let first : record { line = p.line; from = p.at; to = p.at + length text; class = class } ≡ token = cc in
    subst (λ (t : declared.Token). LexedCut p (the_lexed class text ∷ xs) 0 t) first (record { before = []; text = text; after = xs; split = refl; counted = refl; from = omega arith; to = refl })
cut_one p (Token class) text xs (suc at) token more below e = more_cut p (the_lexed class text) xs at (suc at) token (λ t. refl) (below at e)

cut_at : (p : Place) (xs : List Lexed) (at : ℕ) (token : declared.Token) (more : List declared.Token) → drop at (tokens_of p xs) ≡ token ∷ more → LexedCut p xs at token
cut_at p [] at token more e = absurd (no_token at token more e)
cut_at p (x ∷ xs) at token more e = cut_one p x.piece x.text xs at token more (λ n k. cut_at (behind p x.piece (length x.text)) xs n token more k) e

are_front : (xs ys : List Lexed) (rest : List ℕ) → AreLexemes Kernel (xs ++ ys) rest → AreLexemes Kernel xs (text_of ys ++ rest) × AreLexemes Kernel ys rest
are_front [] ys rest h = (tt, h)
are_front (x ∷ xs) ys rest h =
    let below = are_front xs ys rest h.1 in
    let same : text_of (xs ++ ys) ++ rest ≡ text_of xs ++ (text_of ys ++ rest) = ap (λ (z : List ℕ). z ++ rest) (text_joined xs ys) ∙ append_assoc (text_of xs) (text_of ys) rest in
    ((subst (λ (z : List ℕ). IsLexeme Kernel x.piece x.text z) same h.0, below.0), below.1)

-- The bytes are those before the token at the place, its own, and those behind it.
pub record IsCutAt (bytes : List ℕ) (all : List Lexical) (token : declared.Token) (at : ℕ) : Type 0 where
  pub front : List ℕ
  pub text : List ℕ
  pub rest : List ℕ
  pub whole : bytes ≡ front ++ (text ++ rest)
  pub from : token.from ≡ length front
  pub to : token.to ≡ length (front ++ text)
  pub own : bytes_of bytes token ≡ text
  pub before : IsFrontOf front (text ++ rest) (take at all)
  pub is : IsLexeme Kernel (Token token.class) text rest
  pub behind : TakesBlank (front ++ text) rest (take at all ++ lexical token.class text ∷ [])

last_token : (xs : List Lexed) (class : Class) (text : List ℕ) → ends_in_token (xs ++ the_lexed class text ∷ []) ≡ true
last_token [] class text = refl
last_token (x ∷ []) class text = refl
last_token (x ∷ y ∷ xs) class text = last_token (y ∷ xs) class text

-- the token at a place of those that are read
pub token_cut : (bytes rest : List ℕ) (place : Place) (tokens : List declared.Token) (at : ℕ) (token : declared.Token) (more : List declared.Token) → IsReadTo Kernel bytes rest place tokens → drop at tokens ≡ token ∷ more → IsCutAt bytes (lexicals bytes tokens) token at
token_cut bytes rest place tokens at token more h e =
    let c = cut_at origin h.lexemes at token more (ap (drop at) (sym h.listed) ∙ e) in
    let x = the_lexed token.class c.text in
    let are : AreLexemes Kernel (c.before ++ x ∷ c.after) rest = subst (λ (z : List Lexed). AreLexemes Kernel z rest) c.split h.are in
    let parts = are_front c.before (x ∷ c.after) rest are in
    let left = text_of c.after ++ rest in
    let here : AreLexemes Kernel c.before (c.text ++ left) = subst (λ (z : List ℕ). AreLexemes Kernel c.before z) (append_assoc c.text (text_of c.after) rest) parts.0 in
    let alone : text_of (x ∷ []) ≡ c.text = append-nil c.text in
    let all : take at (lexicals bytes tokens) ≡ lexicals_of c.before = ap (take at) (front_lexicals bytes rest place tokens h) ∙ sym c.counted in
    let whole : bytes ≡ text_of c.before ++ (c.text ++ left) = sym h.text ∙ ap (λ (z : List Lexed). text_of z ++ rest) c.split ∙ ap (λ (z : List ℕ). z ++ rest) (text_joined c.before (x ∷ c.after)) ∙ append_assoc (text_of c.before) (text_of (x ∷ c.after)) rest ∙ ap (λ (z : List ℕ). text_of c.before ++ z) (append_assoc c.text (text_of c.after) rest) in
    let from : token.from ≡ length (text_of c.before) = c.from ∙ omega arith in
    record {
      front = text_of c.before;
      text = c.text;
      rest = left;
      whole = whole;
      from = from;
      own = ap (λ (n : ℕ). take (n - token.from) (drop token.from bytes)) c.to ∙ part_is (text_of c.before) c.text left bytes token.from (sym whole) from;
      to = omega (arith, c.to, c.from, length-append (text_of c.before) c.text);
      before = record { lexemes = c.before; whole = refl; are = here; listed = all };
      is = parts.1.0;
      behind = record {
        is = record {
          lexemes = c.before ++ x ∷ [];
          whole = text_joined c.before (x ∷ []) ∙ ap (λ (z : List ℕ). text_of c.before ++ z) alone;
          are = are_more c.before (x ∷ []) left (subst (λ (z : List ℕ). AreLexemes Kernel c.before (z ++ left)) (sym alone) here) (parts.1.0, tt);
          listed = ap (λ (z : List Lexical). z ++ lexical token.class c.text ∷ []) all ∙ sym (lexicals_joined c.before (x ∷ []));
        };
        last = last_token c.before token.class c.text;
      };
    }

-- ---- blanks behind a token

-- nothing stands before a text
pub no_front : (rest : List ℕ) → TakesBlank [] rest []
no_front rest = record { is = record { lexemes = []; whole = refl; are = tt; listed = refl }; last = refl }

last_space : (xs : List Lexed) (c : ℕ) → (c == 13) ≡ false → ends_in_token (xs ++ record { piece = Blank; text = c ∷ [] } ∷ []) ≡ true
last_space [] c e = ap not e
last_space (x ∷ []) c e = ap not e
last_space (x ∷ y ∷ xs) c e = last_space (y ∷ xs) c e

space_kind : (c : ℕ) (feed : Bool) → is_space c ≡ true → kind_at Kernel c feed ≡ Blank
space_kind c feed h = rw (or_left (is_space c) ((c == 13) && feed) h) refl

space_on : (front : List ℕ) (c : ℕ) (rest : List ℕ) (text : List Lexical) → is_space c ≡ true → IsFrontOf front (c ∷ rest) text → TakesBlank (front ++ c ∷ []) rest text
space_on front c rest text e h =
    let x : Lexed = record { piece = Blank; text = c ∷ [] } in
    record {
      is = record {
        lexemes = h.lexemes ++ x ∷ [];
        whole = text_joined h.lexemes (x ∷ []) ∙ ap (λ (z : List ℕ). z ++ c ∷ []) h.whole;
        are = are_more h.lexemes (x ∷ []) rest h.are (record { some = omega arith; kind = ap (λ (p : Piece). Some p) (space_kind c (is_feed rest) e); whole = refl }, tt);
        listed = h.listed ∙ sym (append-nil (lexicals_of h.lexemes)) ∙ sym (lexicals_joined h.lexemes (x ∷ []));
      };
      last = last_space h.lexemes c (grind (arith, nat_tests));
    }

-- spaces and tabs behind a front
pub spaces_on : (front spaces rest : List ℕ) (text : List Lexical) → list_all is_space spaces ≡ true → TakesBlank front (spaces ++ rest) text → TakesBlank (front ++ spaces) rest text
spaces_on front [] rest text e h = subst (λ (z : List ℕ). TakesBlank z rest text) (sym (append-nil front)) h
spaces_on front (c ∷ spaces) rest text e h =
    let parts = and_parts (is_space c) (list_all is_space spaces) e in
    subst (λ (z : List ℕ). TakesBlank z rest text) (append_assoc front (c ∷ []) spaces)
    (spaces_on (front ++ c ∷ []) spaces rest text parts.1 (space_on front c (spaces ++ rest) text parts.0 h.is))

-- ---- whole texts

-- bytes are a text of one list of tokens
pub same_text : (bytes : List ℕ) (text other : List Lexical) → IsTextOf bytes text → IsTextOf bytes other → text ≡ other
same_text bytes text other h k = sym h.spelled ∙ ap (lexicals bytes) (one_list Kernel bytes h.tokens k.tokens h.are k.are) ∙ k.spelled

-- All tokens of the bytes are read; the end of a last line without a line feed may follow them.
pub record IsReadWhole (bytes : List ℕ) (tokens : List declared.Token) : Type 0 where
  pub place : Place
  pub tokens_read : List declared.Token
  pub is : IsReadTo Kernel bytes [] place tokens_read
  pub split : tokens ≡ tokens_read ++ last_end place

pub whole_read : (bytes : List ℕ) (tokens : List declared.Token) → IsTokensOf Kernel bytes tokens → IsReadWhole bytes tokens
whole_read bytes tokens h = record {
  place = behind_all origin h.lexemes;
  tokens_read = tokens_of origin h.lexemes;
  is = record { lexemes = h.lexemes; text = append-nil (text_of h.lexemes) ∙ h.text; are = h.are; stands = refl; listed = refl };
  split = h.listed;
}
