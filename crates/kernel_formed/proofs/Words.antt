-- The words of a kernel file are identifiers.
use Rattle.std.proofs.Common.{◌≡◌, ℕ, Bool, true, false, ◌||◌, ◌==◌, List, [], ◌∷◌, ◌++◌, arith, refl, sym, ap, ◌∙◌}
use Rattle.std.specs.List.{list_all, AllByRecursion}
use Rattle.std.proofs.lemmas.Bool.{and_parts, and_from}
use Rattle.std.proofs.lemmas.List.Elements.{recursion_from_All}
use Rattle.std.proofs.lemmas.List.Folds.{list_all-append}
use Rattle.text_reader.specs.declared.form.Form.TheVariants.{Kernel}
use Rattle.text_reader.specs.declared.token.Class.{Class}
use Rattle.text_reader.specs.declared.token.Class.TheVariants as class
use Rattle.text_reader.specs.declared.token.Token.{Token}
use Rattle.text_reader.specs.Bytes.{begins_word, is_word_byte}
use Rattle.std.specs.Char.{is_ascii_digit}
use Rattle.std.specs.Int.{is_in_range}
use Rattle.text_reader.specs.Limits.{bytes_of}
use Rattle.text_reader.specs.Spelling.{is_of_word, IsWord, IsSpelled, IsSpelledIn}
use Rattle.text_reader.specs.Tokens.{IsTokensOf}
use Rattle.text_reader.proofs.SpelledTokens.{spelled_tokens}
use Rattle.kernel_grammar.specs.Lexicals.{Lexical, lexical, lexicals}
use Rattle.kernel_ir.specs.NameSpace.{is_letter, is_letter_or_digit, is_identifier}
use Rattle.kernel_formed.specs.Written.{word_fits}

-- each word of a text is an identifier
abbrev pub WordsFit : List Lexical → Type 0
WordsFit text = list_all word_fits text ≡ true

pub first_fits : (a b : List Lexical) → WordsFit (a ++ b) → WordsFit a
first_fits a b h = (and_parts (list_all word_fits a) (list_all word_fits b) (sym (list_all-append word_fits a b) ∙ h)).0

pub second_fits : (a b : List Lexical) → WordsFit (a ++ b) → WordsFit b
second_fits a b h = (and_parts (list_all word_fits a) (list_all word_fits b) (sym (list_all-append word_fits a b) ∙ h)).1

or_joined : (a b c : Bool) → ((a || b) || c) ≡ (a || (b || c))
or_joined true b c = refl
or_joined false b c = refl

letter_is : (c : ℕ) → begins_word c ≡ is_letter c
letter_is c = or_joined (is_in_range 65 90 c) (is_in_range 97 122 c) (c == 95)

word_byte_is : (c : ℕ) → is_word_byte c ≡ is_letter_or_digit c
word_byte_is c = ap (λ (b : Bool). b || is_ascii_digit c) (letter_is c)

bytes_fit : (text : List ℕ) → list_all (is_of_word Kernel) text ≡ true → list_all is_letter_or_digit text ≡ true
bytes_fit [] h = refl
bytes_fit (c ∷ cs) h =
    let parts = and_parts (is_word_byte c) (list_all (is_of_word Kernel) cs) h in
    and_from (is_letter_or_digit c) (list_all is_letter_or_digit cs) (sym (word_byte_is c) ∙ parts.0) (bytes_fit cs parts.1)

one_word_fits : (text : List ℕ) → IsWord Kernel text → is_identifier text ≡ true
one_word_fits [] h = let some = h.some in absurd (omega (arith, some))
one_word_fits (c ∷ cs) h =
    let parts = and_parts (is_word_byte c) (list_all (is_of_word Kernel) cs) h.bytes in
    and_from (is_letter c) (list_all is_letter_or_digit cs) (sym (letter_is c) ∙ h.begins) (bytes_fit cs parts.1)

one_fits : (c : Class) (text : List ℕ) → IsSpelled Kernel c text → word_fits (lexical c text) ≡ true
one_fits class.Word text h = one_word_fits text h
one_fits class.Number text h = refl
one_fits class.Sign text h = refl
one_fits class.LineEnd text h = refl

all_fit : (bytes : List ℕ) (tokens : List Token) → AllByRecursion (IsSpelledIn Kernel bytes) tokens → WordsFit (lexicals bytes tokens)
all_fit bytes [] h = refl
all_fit bytes (token ∷ tokens) h =
    and_from (word_fits (lexical token.class (bytes_of bytes token))) (list_all word_fits (lexicals bytes tokens))
    (one_fits token.class (bytes_of bytes token) h.0) (all_fit bytes tokens h.1)

pub words_fit : (bytes : List ℕ) (tokens : List Token) → IsTokensOf Kernel bytes tokens → WordsFit (lexicals bytes tokens)
words_fit bytes tokens h = all_fit bytes tokens (recursion_from_All (IsSpelledIn Kernel bytes) tokens (spelled_tokens Kernel bytes tokens h))
