-- How far an expression is read.
use Rattle.std.specs.Prelude.{◌≡◌, ℕ, Option, Bool, true, false, ◌<◌, ◌≤◌, List, [], ◌∷◌, ◌++◌, length}
use Rattle.kernel_grammar.specs.declared.step.Step.{Step}
use Rattle.kernel_grammar.specs.declared.step.Step.TheVariants as step
use Rattle.kernel_grammar.specs.Lexicals.{Lexical, key, mark}
use Rattle.kernel_grammar.specs.declared.step.Folding as folding
use Rattle.kernel_grammar.specs.declared.step.Folding.TheVariants.{Sum, Product}
use Rattle.kernel_grammar.specs.Spelling.{names_text, over_text, in_parentheses}
use Rattle.kernel_grammar.specs.Steps.{inames_of}
use Rattle.kernel_grammar.specs.Words.{Name, words_of}
use Rattle.kernel_expressions.specs.declared.frame.Frame.{Frame}
use Rattle.kernel_expressions.specs.declared.partial.Turn as turn
use Rattle.kernel_expressions.specs.declared.partial.Turn.TheVariants.{Operand, Operator, End}
use Rattle.kernel_expressions.specs.declared.lexeme.Lexeme.{Lexeme}
use Rattle.kernel_expressions.specs.declared.partial.Partial.{Partial}
use Rattle.kernel_expressions.specs.Texts.{texts, IsFit}
use Rattle.kernel_expressions.specs.Reads.{Reads, IsItem}
use Rattle.kernel_expressions.specs.Levels.{Tree}
use Rattle.kernel_expressions.specs.Frames.{wanted_level, Opened}

-- Nothing is read yet.
pub record Begins (S : Type 0) (all : List Lexical) (from : ℕ) (done : List Step) (at : ℕ) : Type 0 where
  pub at_front : at ≡ from
  pub nothing : S → done ≡ []

-- Between the places stand open parts, the innermost first, with these steps.
abbrev pub IsOpen : (S : Type 0) (all : List Lexical) (least from : ℕ) → List Frame → List Step → ℕ → Type 0
IsOpen S all least from [] = Begins S all from
IsOpen S all least from (frame ∷ frames) = Opened S all (IsOpen S all least from frames) (wanted_level least frames) frame

-- Open parts and then an operand of the level stand there.
pub record IsBehind (S : Type 0) (all : List Lexical) (least from : ℕ) (frames : List Frame) (level : ℕ) (done : List Step) (at : ℕ) : Type 0 where
  pub mid : ℕ
  pub before : List Step
  pub made : List Step
  pub under : IsOpen S all least from frames before mid
  pub operand : Reads all mid at (Tree S level made)
  pub fits : wanted_level least frames ≤ level
  pub steps : S → done ≡ before ++ made

-- The expression is read up to here.
abbrev pub IsTurn : (S : Type 0) (all : List Lexical) (least from : ℕ) → List Frame → List Step → turn.Turn → Type 0
IsTurn S all least from frames done (Operand at) = IsOpen S all least from frames done at
IsTurn S all least from frames done (Operator at level) = IsBehind S all least from frames level done at
IsTurn S all least from frames done (End at) = Reads all from at (Tree S least done)

-- The turn is the last, or stands behind the place.
abbrev pub Passes : (all : List Lexical) (at : ℕ) → turn.Turn → Type 0
Passes all at (Operand next) = (at < next) × (next ≤ length all)
Passes all at (Operator next level) = (at < next) × (next ≤ length all)
Passes all at (End next) = Unit {0}

-- What was read up to the place is read on, in an expression of a level.
abbrev pub MovesAt : List Lexeme → (least : ℕ) → Partial → (at : ℕ) → Partial → turn.Turn → Type 0
MovesAt lexemes least old at new next = (from : ℕ) → least ≤ 11 → IsOpen (IsFit (texts lexemes)) (texts lexemes) least from old.frames old.steps.items at
    → IsTurn (IsFit (texts lexemes)) (texts lexemes) least from new.frames new.steps.items next

-- What was read up to the place is read on.
abbrev pub Moves : List Lexeme → Partial → (at : ℕ) → Partial → turn.Turn → Type 0
Moves lexemes old at new next = (least : ℕ) → MovesAt lexemes least old at new next

-- What was read up to the place, an operand of the level being the last, is read on.
abbrev pub MovesBehind : List Lexeme → (least : ℕ) → Partial → (level at : ℕ) → Partial → turn.Turn → Type 0
MovesBehind lexemes least old level at new next = (from : ℕ) → least ≤ 11 → IsBehind (IsFit (texts lexemes)) (texts lexemes) least from old.frames level old.steps.items at
    → IsTurn (IsFit (texts lexemes)) (texts lexemes) least from new.frames new.steps.items next

-- A part is opened.
pub record OpensPart (old : Partial) (frame : Frame) (at : ℕ) (new : Partial) (next : turn.Turn) : Type 0 where
  pub frames : new.frames ≡ frame ∷ old.frames
  pub steps : new.steps.items ≡ old.steps.items
  pub next_is : next ≡ Operand at

-- The text is that of the inames of a reduction.
abbrev pub IsOver : (S : Type 0) → List (List ℕ) → List Lexical → Type 0
IsOver S = IsItem S over_text inames_of

-- The text is that of inames in parentheses.
pub record InParens (S : Type 0) (list : List (List ℕ)) (t : List Lexical) : Type 0 where
  pub first : Name
  pub more : List Name
  pub spelled : in_parentheses (names_text (first ∷ more)) ≡ t
  pub means : S → words_of (first ∷ more) ≡ list

-- names in parentheses
abbrev pub parens_text : Name × List Name → List Lexical
parens_text list = in_parentheses (names_text (list.0 ∷ list.1))

-- names in parentheses and a comma
abbrev pub inames_text : Name × List Name → List Lexical
inames_text list = parens_text list ++ mark "," ∷ []

-- The text is that of inames in parentheses and a comma.
abbrev pub AreInames : (S : Type 0) → List (List ℕ) → List Lexical → Type 0
AreInames S = IsItem S inames_text (λ (list : Name × List Name). words_of (list.0 ∷ list.1))

-- the word of a sum or a product
abbrev pub fold_text : Bool → Lexical
fold_text true = key "sum"
fold_text false = key "product"

-- how a sum or a product combines values
abbrev pub folding_of : Bool → folding.Folding
folding_of true = Sum
folding_of false = Product

-- the sign of a shift
abbrev pub shift_text : Bool → Lexical
shift_text true = mark "<<"
shift_text false = mark ">>"

-- the step of a shift
abbrev pub shift_step : Bool → Option ℕ → Step
shift_step true count = step.ShiftLeft count
shift_step false count = step.ShiftRight count

-- What was read up to the place, an operand of the frame being the last, is read on.
abbrev pub MovesOut : List Lexeme → Frame → Partial → (at : ℕ) → Partial → turn.Turn → Type 0
MovesOut lexemes frame old at new next = (least level from : ℕ) → least ≤ 11 → IsBehind (IsFit (texts lexemes)) (texts lexemes) least from (frame ∷ old.frames) level old.steps.items at
    → IsTurn (IsFit (texts lexemes)) (texts lexemes) least from new.frames new.steps.items next
