-- What is open in an expression.
use Rattle.std.specs.Prelude.{◌≡◌, ℕ, ◌+◌, ◌<◌, ◌≤◌, List, [], ◌∷◌, ◌++◌, length}
use Rattle.kernel_grammar.specs.declared.step.Extreme.{Extreme}
use Rattle.kernel_grammar.specs.declared.step.Step.{Step}
use Rattle.kernel_grammar.specs.declared.step.Step.TheVariants as step
use Rattle.kernel_grammar.specs.Lexicals.{Lexical, mark}
use Rattle.kernel_grammar.specs.Trees.{Sums}
use Rattle.kernel_grammar.specs.Spelling.{extreme_text, sums_text}
use Rattle.kernel_grammar.specs.Steps.{joined, sums_steps}
use Rattle.kernel_expressions.specs.declared.frame.Bracket as bracket
use Rattle.kernel_expressions.specs.declared.frame.Bracket.TheVariants.{Index, Call}
use Rattle.kernel_expressions.specs.declared.frame.Frame.{Frame}
use Rattle.kernel_expressions.specs.declared.frame.Frame.TheVariants.{Infix, Prefix, Group, Body, Places, First, Test, Then}
use Rattle.kernel_expressions.specs.Levels.{level, prefix_level, Tree}
use Rattle.kernel_expressions.specs.Reads.{Reads}

-- the level of what may follow the frame
abbrev pub inner_level : Frame → ℕ
inner_level (Infix op) = level op + 1
inner_level (Prefix op) = prefix_level op
inner_level Group = 1
inner_level (Body s) = 1
inner_level (Places name b count) = 9
inner_level (First which start) = 1
inner_level Test = 1
inner_level Then = 1

-- the level of an open operator, and 0 of anything else
abbrev pub own_level : Frame → ℕ
own_level (Infix op) = level op
own_level (Prefix op) = prefix_level op
own_level Group = 0
own_level (Body s) = 0
own_level (Places name b count) = 0
own_level (First which start) = 0
own_level Test = 0
own_level Then = 0

-- the level of what may follow, where an expression of this level is wanted
abbrev pub wanted_level : ℕ → List Frame → ℕ
wanted_level least [] = least
wanted_level least (frame ∷ frames) = inner_level frame

-- the level of the innermost part, if it is an operator, else 0
abbrev pub innermost_level : List Frame → ℕ
innermost_level [] = 0
innermost_level (frame ∷ frames) = own_level frame

-- the step behind places
abbrev pub place_step : bracket.Bracket → List ℕ → ℕ → Step
place_step Index name count = step.Index name count
place_step Call name count = step.Call name count

-- the sign behind places
abbrev pub closing : bracket.Bracket → Lexical
closing Index = mark "]"
closing Call = mark ")"

-- What is open ends with an expression, a parenthesis and a step.
pub record Closes (S : Type 0) (last made : List Step) (text : List Lexical) : Type 0 where
  pub ends : (steps : List Step) (t : List Lexical) → Tree S 1 steps t → Tree S 11 (made ++ steps ++ last) (text ++ t ++ mark ")" ∷ [])

-- What is open goes on with an expression and a comma.
pub record GoesOn (S : Type 0) (P : List Step → List Lexical → Type 0) (made : List Step) (text : List Lexical) : Type 0 where
  pub on : (steps : List Step) (t : List Lexical) → Tree S 1 steps t → P (made ++ steps) (text ++ t ++ mark "," ∷ [])

-- What is open ends with an operand of this level, and is then of that level.
pub record Operates (S : Type 0) (inner outer : ℕ) (last made : List Step) (text : List Lexical) : Type 0 where
  pub ends : (steps : List Step) (t : List Lexical) → Tree S inner steps t → Tree S outer (made ++ steps ++ last) (text ++ t)

-- What is open ends with places and a sign.
pub record HasPlaces (S : Type 0) (name : List ℕ) (b : bracket.Bracket) (count : ℕ) (made : List Step) (text : List Lexical) : Type 0 where
  pub counted : count < length text
  pub ends : (rest : Sums) (steps : List Step) → (S → joined (sums_steps rest) ≡ steps)
      → Tree S 11 (made ++ steps ++ place_step b name (count + length (sums_steps rest)) ∷ []) (text ++ sums_text rest ++ closing b ∷ [])

-- `min` or `max` and a parenthesis
pub record BeginsExtreme (S : Type 0) (which : Extreme) (made : List Step) (text : List Lexical) : Type 0 where
  pub begins : text ≡ extreme_text which ∷ mark "(" ∷ []
  pub nothing : made ≡ []

-- The text is that of the frame, and these are its steps.
abbrev pub Part : Type 0 → Frame → List Step → List Lexical → Type 0
Part S (Infix op) = Operates S (level op + 1) (level op) (step.Infix op ∷ [])
Part S (Prefix op) = Operates S (prefix_level op) (prefix_level op) (step.Prefix op ∷ [])
Part S Group = Closes S []
Part S (Body last) = Closes S (last ∷ [])
Part S (Places name b count) = HasPlaces S name b count
Part S (First which start) = BeginsExtreme S which
Part S Test = GoesOn S (GoesOn S (Closes S (step.Choose ∷ [])))
Part S Then = GoesOn S (Closes S (step.Choose ∷ []))

-- The frame's first place begins at the place, if the frame keeps where it does.
abbrev pub StartsAt : Frame → ℕ → Type 0
StartsAt (Infix op) at = Unit {0}
StartsAt (Prefix op) at = Unit {0}
StartsAt Group at = Unit {0}
StartsAt (Body last) at = Unit {0}
StartsAt (Places name b count) at = Unit {0}
StartsAt (First which start) at = start ≡ at
StartsAt Test at = Unit {0}
StartsAt Then at = Unit {0}

-- the level of what the frame is once it is closed
abbrev pub made_level : Frame → ℕ
made_level (Infix op) = level op
made_level (Prefix op) = prefix_level op
made_level Group = 11
made_level (Body last) = 11
made_level (Places name b count) = 11
made_level (First which start) = 11
made_level Test = 11
made_level Then = 11

-- A part is open up to the place within what is open up to an earlier one.
pub record Opened (S : Type 0) (all : List Lexical) (Outer : List Step → ℕ → Type 0) (outer : ℕ) (frame : Frame) (done : List Step) (at : ℕ) : Type 0 where
  pub mid : ℕ
  pub before : List Step
  pub made : List Step
  pub under : Outer before mid
  pub part : Reads all mid at (Part S frame made)
  pub starts : StartsAt frame at
  pub fits : outer ≤ made_level frame
  pub steps : S → done ≡ before ++ made
