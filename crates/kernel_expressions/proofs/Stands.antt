-- The token at a place.
use Rattle.std.proofs.Common.{◌≤◌, Bool, true, false, nat_le, ◌≡◌, ◌<◌, ◌+◌, ℕ, List, ◌∷◌, drop, length, ap, sym, refl, ◌∙◌, Option, Some, None, get_or, arith}
use Rattle.std.specs.List.{slice_get}
use Rattle.std.specs.Option.{option_map, MatchOption}
use Rattle.std.proofs.lemmas.List.{drop_more}
use Rattle.std.proofs.lemmas.Bool.Decides.{nat_tests}
use Rattle.std.proofs.lemmas.Option.{slice_get-get_or, none-some, slice_get-map, slice_get_within, get_or_from_slice_get}
use Rattle.kernel_grammar.specs.Lexicals.{Lexical, line_end}
use Rattle.kernel_expressions.specs.declared.lexeme.Lexeme.{Lexeme}
use Rattle.kernel_expressions.specs.Texts.{text_of, texts}
use Rattle.kernel_expressions.specs.Reads.{Next}

there : (all : List Lexical) (at : ℕ) (x : Lexical) → slice_get all at ≡ Some x → Next all at x
there all at x e = let within : at < length all = slice_get_within all at x e in record {
  here = drop_more all at line_end within ∙ ap (λ (y : Lexical). y ∷ drop (at + 1) all) (get_or_from_slice_get all at x line_end e);
  within = within;
}

pub stands : (lexemes : List Lexeme) (at : ℕ) (x : Lexeme) → slice_get lexemes at ≡ Some x → Next (texts lexemes) at (text_of x)
stands lexemes at x e = there (texts lexemes) at (text_of x) (slice_get-map text_of lexemes at ∙ ap (option_map text_of) e)

past_if : (all : List Lexical) (at : ℕ) (b : Bool) → nat_le (length all) at ≡ b → slice_get all at ≡ None → length all ≤ at
past_if all at true t e = grind (arith, nat_tests, t)
past_if all at false t e = let within : at < length all = grind (arith, nat_tests, t) in absurd (none-some (get_or all at line_end) (sym e ∙ slice_get-get_or all at line_end within))

past : (all : List Lexical) (at : ℕ) → slice_get all at ≡ None → length all ≤ at
past all at e = past_if all at (nat_le (length all) at) refl e

pub stands_if : (lexemes : List Lexeme) (at : ℕ) (r : Option Lexeme) → r ≡ slice_get lexemes at → MatchOption r (length (texts lexemes) ≤ at) (λ x. Next (texts lexemes) at (text_of x))
stands_if lexemes at None e = past (texts lexemes) at (slice_get-map text_of lexemes at ∙ ap (option_map text_of) (sym e))
stands_if lexemes at (Some x) e = stands lexemes at x (sym e)
