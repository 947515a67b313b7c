-- What may stand behind an operand.
use Rattle.std.specs.Prelude.{◌≡◌, ℕ, ◌+◌, ◌≤◌, Bool, List, [], ◌∷◌, ◌++◌}
use Rattle.kernel_grammar.specs.declared.step.Infix.{Infix}
use Rattle.kernel_grammar.specs.Lexicals.{Lexical, number, mark}
use Rattle.kernel_expressions.specs.declared.frame.Frame.{Frame}
use Rattle.kernel_expressions.specs.declared.frame.Frame.TheVariants.{Infix as open_infix, Prefix, Group, Body, Places, First, Test, Then}
use Rattle.kernel_expressions.specs.Levels.{level, first_level, IsInfix, Tree}
use Rattle.kernel_expressions.specs.Frames.{inner_level, made_level, wanted_level, closing}
use Rattle.kernel_expressions.specs.Turns.{shift_text}

-- The text is an expression of the level.
abbrev pub IsText : ℕ → List Lexical → Type 0
IsText l = Tree ⊥ l []

-- an operator with its right operand, or a shifted
pub data Link : Type 0 where
  applied : Infix → (x : Lexical) (operand : List Lexical) → Link
  shifted : (is_left : Bool) (digits : List ℕ) → Link

-- the text of links
abbrev pub tail_text : List Link → List Lexical
tail_text [] = []
tail_text (applied op x operand ∷ links) = x ∷ operand ++ tail_text links
tail_text (shifted is_left digits ∷ links) = shift_text is_left ∷ number digits ∷ tail_text links

-- An operand of the first level and then the links are an expression of the second level.
abbrev pub Extends : (from to : ℕ) → List Link → Type 0
Extends from to [] = to ≤ from
Extends from to (applied op x operand ∷ links) = IsInfix op x × (first_level op ≤ from) × IsText (level op + 1) operand × Extends (level op) to links
Extends from to (shifted is_left digits ∷ links) = (8 ≤ from) × Extends 8 to links

-- expressions, each behind a comma, and the token behind them
abbrev pub more_places : List (List Lexical) → Lexical → List Lexical
more_places [] close = close ∷ []
more_places (text ∷ texts) close = mark "," ∷ text ++ more_places texts close

-- The texts are sums.
abbrev pub AreSums : List (List Lexical) → Type 0
AreSums [] = Unit {0}
AreSums (text ∷ texts) = IsText 9 text × AreSums texts

-- Behind its operand the text closes what is open.
abbrev pub Closing : Frame → List Lexical → Type 0
Closing (open_infix op) text = text ≡ []
Closing (Prefix op) text = text ≡ []
Closing Group text = text ≡ mark ")" ∷ []
Closing (Body last) text = text ≡ mark ")" ∷ []
Closing (Places name b count) text = (texts : List (List Lexical)) × AreSums texts × (text ≡ more_places texts (closing b))
Closing (First which start) text = (second : List Lexical) × IsText 1 second × (text ≡ mark "," ∷ second ++ mark ")" ∷ [])
Closing Test text = (second : List Lexical) × (third : List Lexical) × IsText 1 second × IsText 1 third × (text ≡ mark "," ∷ second ++ mark "," ∷ third ++ mark ")" ∷ [])
Closing Then text = (third : List Lexical) × IsText 1 third × (text ≡ mark "," ∷ third ++ mark ")" ∷ [])

-- Behind an operand of the level the text closes all that is open, and makes an expression of the least level.
abbrev pub ClosesAll : (least : ℕ) → List Frame → (level : ℕ) → List Lexical → Type 0
ClosesAll least [] l text = (links : List Link) × Extends l least links × (text ≡ tail_text links)
ClosesAll least (frame ∷ frames) l text =
    (links : List Link) × (close : List Lexical) × (rest : List Lexical) × Extends l (inner_level frame) links × Closing frame close × ClosesAll least frames (made_level frame) rest × (text ≡ tail_text links ++ close ++ rest)

-- The text is an operand and closes all that is open, and makes an expression of the least level.
pub record IsWanted (least : ℕ) (frames : List Frame) (text : List Lexical) : Type 0 where
  pub operand : List Lexical
  pub rest : List Lexical
  pub is : IsText (wanted_level least frames) operand
  pub closes : ClosesAll least frames (wanted_level least frames) rest
  pub whole : text ≡ operand ++ rest
