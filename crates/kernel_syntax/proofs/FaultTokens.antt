-- The token at a place of the tokens of bytes, and those before it.
use Rattle.std.proofs.Common.{◌≡◌, ◌⊎◌, ◌≤◌, ◌<◌, ℕ, zero, suc, Bool, true, false, nat_lt, List, [], ◌∷◌, ◌++◌, if◌then◌else◌, length, take, drop, get_or, drop-cons, slice_get, Some, None, sym, ap, ◌∙◌, refl, subst, inl, inr}
use Rattle.std.proofs.lemmas.Option.{slice_get_cases}
use Rattle.text_reader.specs.declared.form.Form.TheVariants.{Kernel}
use Rattle.text_reader.specs.declared.token.Token as declared
use Rattle.text_reader.specs.declared.token.Class.TheVariants.{LineEnd}
use Rattle.text_reader.specs.declared.place.Place.{Place}
use Rattle.text_reader.specs.Limits.{bytes_of}
use Rattle.text_reader.specs.Tokens.{last_end, IsTokensOf}
use Rattle.text_reader.specs.Progress.{IsReadTo}
use Rattle.kernel_grammar.specs.Lexicals.{Lexical, lexical, lexicals}
use Rattle.kernel_syntax.specs.TokenTexts.{IsFrontOf, TakesBlank}
use Rattle.kernel_syntax.proofs.TokenPlaces.{IsCutAt, no_token, token_cut, whole_read}

by_cases : (tokens : List declared.Token) (at : ℕ) (token : declared.Token) → slice_get tokens at ≡ Some token → ((x : declared.Token) × (at < length tokens) × (slice_get tokens at ≡ Some x) × (get_or tokens at x ≡ x)) ⊎ ((length tokens ≤ at) × (slice_get tokens at ≡ None)) → drop at tokens ≡ token ∷ drop (suc at) tokens
by_cases tokens at token h (inl k) =
    let found = k.2 in
    let same : k.0 ≡ token = cc in
    drop-cons tokens at k.0 k.1 ∙ ap (λ (t : declared.Token). t ∷ drop (suc at) tokens) (k.3 ∙ same)
by_cases tokens at token h (inr k) = absurd (let none = k.1 in cc)

by_none : (tokens : List declared.Token) (at : ℕ) → slice_get tokens at ≡ None → ((x : declared.Token) × (at < length tokens) × (slice_get tokens at ≡ Some x) × (get_or tokens at x ≡ x)) ⊎ ((length tokens ≤ at) × (slice_get tokens at ≡ None)) → length tokens ≤ at
by_none tokens at h (inl k) = absurd (let found = k.2 in cc)
by_none tokens at h (inr k) = k.0

-- the token at a place, and those behind it
pub token_at : (tokens : List declared.Token) (at : ℕ) (token : declared.Token) → slice_get tokens at ≡ Some token → drop at tokens ≡ token ∷ drop (suc at) tokens
token_at tokens at token h = by_cases tokens at token h (slice_get_cases tokens at).1

pub no_more : (tokens : List declared.Token) (at : ℕ) → slice_get tokens at ≡ None → length tokens ≤ at
no_more tokens at h = by_none tokens at h (slice_get_cases tokens at).1

pub split_at : (bytes : List ℕ) (tokens : List declared.Token) (at : ℕ) (token : declared.Token) (more : List declared.Token) → drop at tokens ≡ token ∷ more → lexicals bytes tokens ≡ take at (lexicals bytes tokens) ++ lexical token.class (bytes_of bytes token) ∷ lexicals bytes more
split_at bytes tokens zero token more e = ap (lexicals bytes) e
split_at bytes [] (suc at) token more e = absurd (no_token (suc at) token more e)
split_at bytes (x ∷ tokens) (suc at) token more e = ap (λ (z : List Lexical). lexical x.class (bytes_of bytes x) ∷ z) (split_at bytes tokens at token more e)

pub place_at : (bytes : List ℕ) (tokens : List declared.Token) (at : ℕ) (token : declared.Token) (more : List declared.Token) → drop at tokens ≡ token ∷ more → at ≡ length (take at (lexicals bytes tokens))
place_at bytes tokens zero token more e = refl
place_at bytes [] (suc at) token more e = absurd (no_token (suc at) token more e)
place_at bytes (x ∷ tokens) (suc at) token more e = ap suc (place_at bytes tokens at token more e)

pub before_next : (bytes : List ℕ) (tokens : List declared.Token) (at : ℕ) (token : declared.Token) (more : List declared.Token) → drop at tokens ≡ token ∷ more → take (suc at) (lexicals bytes tokens) ≡ take at (lexicals bytes tokens) ++ lexical token.class (bytes_of bytes token) ∷ []
before_next bytes tokens zero token more e = ap (λ (z : List declared.Token). take 1 (lexicals bytes z)) e
before_next bytes [] (suc at) token more e = absurd (no_token (suc at) token more e)
before_next bytes (x ∷ tokens) (suc at) token more e = ap (λ (z : List Lexical). lexical x.class (bytes_of bytes x) ∷ z) (before_next bytes tokens at token more e)

-- ---- tokens that are read, and the end of a last line

drop_joined : (xs ys : List declared.Token) (at : ℕ) (token : declared.Token) (more : List declared.Token) → drop at (xs ++ ys) ≡ token ∷ more → ((rest : List declared.Token) × (drop at xs ≡ token ∷ rest)) ⊎ ((n : ℕ) × (drop n ys ≡ token ∷ more))
drop_joined [] ys at token more e = inr (at, e)
drop_joined (x ∷ xs) ys zero token more e = let same : x ≡ token = cc in inl (xs, ap (λ (t : declared.Token). t ∷ xs) same)
drop_joined (x ∷ xs) ys (suc at) token more e = drop_joined xs ys at token more e

take_joined : (bytes : List ℕ) (xs ys : List declared.Token) (at : ℕ) (token : declared.Token) (rest : List declared.Token) → drop at xs ≡ token ∷ rest → take at (lexicals bytes (xs ++ ys)) ≡ take at (lexicals bytes xs)
take_joined bytes xs ys zero token rest e = refl
take_joined bytes [] ys (suc at) token rest e = absurd (no_token (suc at) token rest e)
take_joined bytes (x ∷ xs) ys (suc at) token rest e = ap (λ (z : List Lexical). lexical x.class (bytes_of bytes x) ∷ z) (take_joined bytes xs ys at token rest e)

-- the end of a last line is a line's end, and no token stands behind it
last_by : (b : Bool) (x : declared.Token) (n : ℕ) (token : declared.Token) (more : List declared.Token) → drop n (if b then x ∷ [] else []) ≡ token ∷ more → (token ≡ x) × (more ≡ [])
last_by true x zero token more e = (cc, cc)
last_by true x (suc n) token more e = absurd (no_token n token more e)
last_by false x n token more e = absurd (no_token n token more e)

pub last_at : (place : Place) (n : ℕ) (token : declared.Token) (more : List declared.Token) → drop n (last_end place) ≡ token ∷ more → (token.class ≡ LineEnd) × (more ≡ [])
last_at place n token more e =
    let k = last_by (nat_lt place.start place.at) (record { line = place.line; from = place.at; to = place.at; class = LineEnd }) n token more e in
    (ap (λ (t : declared.Token). t.class) k.0, k.1)

cut_joined : (bytes : List ℕ) (read last tokens : List declared.Token) (at : ℕ) (token : declared.Token) (more : List declared.Token) (place : Place) → IsReadTo Kernel bytes [] place read → tokens ≡ read ++ last_end place → ((token.class ≡ LineEnd) × (more ≡ []) → ⊥)
    → ((rest : List declared.Token) × (drop at read ≡ token ∷ rest)) ⊎ ((n : ℕ) × (drop n (last_end place) ≡ token ∷ more)) → IsCutAt bytes (lexicals bytes tokens) token at
cut_joined bytes read last tokens at token more place h e other (inl k) =
    let c = token_cut bytes [] place read at token k.0 h k.1 in
    let same : take at (lexicals bytes read) ≡ take at (lexicals bytes tokens) = sym (take_joined bytes read (last_end place) at token k.0 k.1) ∙ ap (λ (z : List declared.Token). take at (lexicals bytes z)) (sym e) in
    record {
      front = c.front;
      text = c.text;
      rest = c.rest;
      whole = c.whole;
      from = c.from;
      to = c.to;
      own = c.own;
      before = subst (λ (z : List Lexical). IsFrontOf c.front (c.text ++ c.rest) z) same c.before;
      is = c.is;
      behind = subst (λ (z : List Lexical). TakesBlank (c.front ++ c.text) c.rest (z ++ lexical token.class c.text ∷ [])) same c.behind;
    }
cut_joined bytes read last tokens at token more place h e other (inr k) = absurd (other (last_at place k.0 token more k.1))

-- a token of a whole text, other than the end of its last line
pub whole_cut : (bytes : List ℕ) (tokens : List declared.Token) (at : ℕ) (token : declared.Token) (more : List declared.Token) → IsTokensOf Kernel bytes tokens → drop at tokens ≡ token ∷ more → ((token.class ≡ LineEnd) × (more ≡ []) → ⊥) → IsCutAt bytes (lexicals bytes tokens) token at
whole_cut bytes tokens at token more h e other =
    let w = whole_read bytes tokens h in
    let last = last_end w.place in
    cut_joined bytes w.tokens_read last tokens at token more w.place w.is w.split other (drop_joined w.tokens_read last at token more (ap (drop at) (sym w.split) ∙ e))
