-- Signs that are no operators.
use Rattle.std.proofs.Common.{◌≡◌, true, false, inl, inr, refl}
use Rattle.kernel_grammar.specs.Lexicals.{sign}
use Rattle.kernel_grammar.specs.Trees.{Rel, at_most, less, at_least, more, equal, equals}
use Rattle.kernel_grammar.specs.Spelling.{rel_text}
use Rattle.kernel_expressions.specs.declared.sign.Sign.{Sign}
use Rattle.kernel_expressions.specs.declared.sign.Sign.TheVariants.{OpenBracket, CloseBracket, OpenBrace, CloseBrace, OpenParenthesis, CloseParenthesis, Comma, Colon, Equal, Less, Greater, Plus, Minus, Star, Percent, Bar, Caret, Ampersand, Tilde, ColonEqual, EqualEqual, PlusEqual, StarEqual, LessEqual, GreaterEqual, NotEqual, Arrow, ShiftRight, ShiftLeft, SlashSlash}
use Rattle.kernel_expressions.specs.Signs.{sign_text}
use Rattle.kernel_expressions.specs.Settled.{IsNoInfix}

-- The sign is none of the operators but comparisons.
pub record NoneOf (s : Sign) : Type 0 where
  pub unequal : s ≡ NotEqual → ⊥
  pub bar : s ≡ Bar → ⊥
  pub caret : s ≡ Caret → ⊥
  pub ampersand : s ≡ Ampersand → ⊥
  pub plus : s ≡ Plus → ⊥
  pub minus : s ≡ Minus → ⊥
  pub star : s ≡ Star → ⊥
  pub slashes : s ≡ SlashSlash → ⊥
  pub percent : s ≡ Percent → ⊥

pub no_sign : (s : Sign) → NoneOf s → ((rel : Rel) → rel_text rel ≡ sign (sign_text s) → ⊥) → IsNoInfix (sign (sign_text s))
no_sign NotEqual h k = absurd (h.unequal refl)
no_sign Bar h k = absurd (h.bar refl)
no_sign Caret h k = absurd (h.caret refl)
no_sign Ampersand h k = absurd (h.ampersand refl)
no_sign Plus h k = absurd (h.plus refl)
no_sign Minus h k = absurd (h.minus refl)
no_sign Star h k = absurd (h.star refl)
no_sign SlashSlash h k = absurd (h.slashes refl)
no_sign Percent h k = absurd (h.percent refl)
no_sign Equal h k = absurd (k equal refl)
no_sign EqualEqual h k = absurd (k equals refl)
no_sign Less h k = absurd (k less refl)
no_sign LessEqual h k = absurd (k at_most refl)
no_sign Greater h k = absurd (k more refl)
no_sign GreaterEqual h k = absurd (k at_least refl)
no_sign ShiftLeft h k = inr (true, refl)
no_sign ShiftRight h k = inr (false, refl)
no_sign OpenBracket h k = inl refl
no_sign CloseBracket h k = inl refl
no_sign OpenBrace h k = inl refl
no_sign CloseBrace h k = inl refl
no_sign OpenParenthesis h k = inl refl
no_sign CloseParenthesis h k = inl refl
no_sign Comma h k = inl refl
no_sign Colon h k = inl refl
no_sign Tilde h k = inl refl
no_sign ColonEqual h k = inl refl
no_sign PlusEqual h k = inl refl
no_sign StarEqual h k = inl refl
no_sign Arrow h k = inl refl
