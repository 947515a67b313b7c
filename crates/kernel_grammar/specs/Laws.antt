-- What small texts say.
use Rattle.std.specs.Prelude.{◌≡◌, ℕ, true, false, Some, List, [], ◌∷◌, codes}
use Rattle.kernel_grammar.specs.declared.item.Relation.TheVariants.{LessEqual, Less}
use Rattle.std.specs.List.{list_all}
use Rattle.kernel_grammar.specs.declared.item.Item.{Item}
use Rattle.kernel_grammar.specs.declared.item.Item.TheVariants.{Assume, Temp, Rule, Insn}
use Rattle.kernel_grammar.specs.declared.step.Step.TheVariants.{Number, Name, Index, Prefix, Infix, ShiftLeft, Fold, ExtremeOf}
use Rattle.kernel_grammar.specs.declared.item.InsnOption.TheVariants.{Id, Dep, Inames, If}
use Rattle.kernel_grammar.specs.declared.item.Declared.TheVariants.{Of}
use Rattle.kernel_grammar.specs.declared.item.Stored.TheVariants.{Update}
use Rattle.wrap_words.specs.declared.kind.Kind.TheVariants.{I64, U32}
use Rattle.kernel_grammar.specs.declared.step.Prefix.TheVariants as prefix
use Rattle.kernel_grammar.specs.declared.step.Infix.TheVariants as infixed
use Rattle.kernel_grammar.specs.declared.step.Extreme.TheVariants.{Min}
use Rattle.kernel_grammar.specs.declared.step.Folding.TheVariants as folding
use Rattle.kernel_grammar.specs.declared.step.Step.{Step}
use Rattle.kernel_grammar.specs.Lexicals.{Lexical, word, sign, is_inner}
use Rattle.kernel_grammar.specs.Steps.{IsExpression}
use Rattle.kernel_grammar.specs.Syntax.{IsLine}
use Rattle.kernel_grammar.specs.Files.{IsFile}
use Rattle.kernel_grammar.specs.Samples.{spaced, name, doubling_text, doubling}

-- A sign before a name binds tightest, a shift loosest.
abbrev pub ShiftsAreLoose : Type 0
ShiftsAreLoose = IsExpression (spaced "- x * y << 2") (name "x" ∷ Prefix prefix.Negate ∷ name "y" ∷ Infix infixed.Multiply ∷ ShiftLeft (Some 2) ∷ [])

-- Equal operators group to the left.
abbrev pub SumsGroupToTheLeft : Type 0
SumsGroupToTheLeft = IsExpression (spaced "a - b - c") (name "a" ∷ name "b" ∷ Infix infixed.Subtract ∷ name "c" ∷ Infix infixed.Subtract ∷ [])

-- A comparison.
abbrev pub NamesAreCompared : Type 0
NamesAreCompared = IsExpression (spaced "a < b") (name "a" ∷ name "b" ∷ Infix (infixed.Compare Less) ∷ [])

-- A number before a name is their product.
abbrev pub NumbersMultiply : Type 0
NumbersMultiply = IsExpression (spaced "2 n") (Number (Some 2) ∷ name "n" ∷ Infix infixed.Multiply ∷ [])

-- A bare name in the first place of `min` is kept as a name.
abbrev pub BareFirst : Type 0
BareFirst = IsExpression (spaced "min ( i , a [ i ] )") (name "i" ∷ Index (codes "a") 1 ∷ ExtremeOf Min (codes "i") ∷ [])

-- A name in parentheses is a list of one iname.
abbrev pub ListedFirst : Type 0
ListedFirst = IsExpression (spaced "min ( ( i ) , a [ i ] )") (name "i" ∷ Index (codes "a") 1 ∷ Fold (folding.Extreme Min) (codes "i" ∷ []) ∷ [])

-- Two names are a list of inames.
abbrev pub TwoListedFirst : Type 0
TwoListedFirst = IsExpression (spaced "min ( ( i , j ) , i )") (name "i" ∷ Fold (folding.Extreme Min) (codes "i" ∷ codes "j" ∷ []) ∷ [])

-- Anything else is a value.
abbrev pub ValueFirst : Type 0
ValueFirst = IsExpression (spaced "min ( i + 1 , 2 )") (name "i" ∷ Number (Some 1) ∷ Infix infixed.Add ∷ Number (Some 2) ∷ Infix (infixed.Extreme Min) ∷ [])

-- Each list is compared with the next.
abbrev pub ListsAreCompared : Type 0
ListsAreCompared = IsLine (spaced "assume 0 <= i , j < n") (Assume (record {
  first = (Number (Some 0) ∷ []) ∷ [];
  rest = (LessEqual, (name "i" ∷ []) ∷ (name "j" ∷ []) ∷ []) ∷ (Less, (name "n" ∷ []) ∷ []) ∷ [];
} ∷ []))

-- A temporary with a shape.
abbrev pub ShapesAreNumbers : Type 0
ShapesAreNumbers = IsLine (spaced "temp t : uint32 [ 4 , 2 ]") (Temp (codes "t") U32 (Some 4 ∷ Some 2 ∷ []))

-- A substitution rule.
abbrev pub RulesHaveParameters : Type 0
RulesHaveParameters = IsLine (spaced "f ( x ) := x") (Rule (codes "f") (codes "x" ∷ []) (name "x" ∷ []))

-- An instruction with all that may stand in one.
abbrev pub OptionsAreRead : Type 0
OptionsAreRead = IsLine (spaced "< int64 > t min = 2 { id = w , dep = * u : v , inames = i , if = i < 3 }")
    (Insn (Of I64) (codes "t") [] (Update (folding.Extreme Min)) (Number (Some 2) ∷ [])
    (Id (codes "w") ∷ Dep false (codes "u" ∷ codes "v" ∷ []) ∷ Inames (codes "i" ∷ []) ∷ If (name "i" ∷ Number (Some 3) ∷ Infix (infixed.Compare Less) ∷ []) ∷ []))

-- The smallest kernel is a file.
abbrev pub DoublingIsAFile : Type 0
DoublingIsAFile = IsFile doubling_text doubling

-- An expression that is one word is that name.
abbrev pub LoneWordsAreNames : Type 0
LoneWordsAreNames = (w : List ℕ) (steps : List Step) → IsExpression (word w ∷ []) steps → steps ≡ Name w ∷ []

-- So is one that is a word between two signs.
abbrev pub WordsInSignsAreNames : Type 0
WordsInSignsAreNames = (s w t : List ℕ) (steps : List Step) → IsExpression (sign s ∷ word w ∷ sign t ∷ []) steps → steps ≡ Name w ∷ []

-- No line end stands inside a line.
abbrev pub LinesHoldNoEnds : Type 0
LinesHoldNoEnds = (text : List Lexical) (syntax : Item) → IsLine text syntax → list_all is_inner text ≡ true
