-- The bytes of the signs.
use Rattle.std.specs.Prelude.{ℕ, List, codes}
use Rattle.kernel_expressions.specs.declared.sign.Sign.{Sign}
use Rattle.kernel_expressions.specs.declared.sign.Sign.TheVariants.{OpenBracket, CloseBracket, OpenBrace, CloseBrace, OpenParenthesis, CloseParenthesis, Comma, Colon, Equal, Less, Greater, Plus, Minus, Star, Percent, Bar, Caret, Ampersand, Tilde, ColonEqual, EqualEqual, PlusEqual, StarEqual, LessEqual, GreaterEqual, NotEqual, Arrow, ShiftRight, ShiftLeft, SlashSlash}

-- the bytes of a sign
abbrev pub sign_text : Sign → List ℕ
sign_text OpenBracket = codes "["
sign_text CloseBracket = codes "]"
sign_text OpenBrace = codes "{"
sign_text CloseBrace = codes "}"
sign_text OpenParenthesis = codes "("
sign_text CloseParenthesis = codes ")"
sign_text Comma = codes ","
sign_text Colon = codes ":"
sign_text Equal = codes "="
sign_text Less = codes "<"
sign_text Greater = codes ">"
sign_text Plus = codes "+"
sign_text Minus = codes "-"
sign_text Star = codes "*"
sign_text Percent = codes "%"
sign_text Bar = codes "|"
sign_text Caret = codes "^"
sign_text Ampersand = codes "&"
sign_text Tilde = codes "~"
sign_text ColonEqual = codes ":="
sign_text EqualEqual = codes "=="
sign_text PlusEqual = codes "+="
sign_text StarEqual = codes "*="
sign_text LessEqual = codes "<="
sign_text GreaterEqual = codes ">="
sign_text NotEqual = codes "!="
sign_text Arrow = codes "->"
sign_text ShiftRight = codes ">>"
sign_text ShiftLeft = codes "<<"
sign_text SlashSlash = codes "//"
