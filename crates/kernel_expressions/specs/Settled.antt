-- Where a text ends, or why none stands there.
use Rattle.std.specs.Prelude.{◌≡◌, ◌⊎◌, ℕ, ◌+◌, ◌≤◌, Bool, true, false, not, ◌&&◌, ◌||◌, nat_lt, bytes_eq, codes, if◌then◌else◌, List, [], ◌∷◌, ◌++◌, map, take, drop, length}
use Rattle.kernel_grammar.specs.Lexicals.{Lexical, word, number, sign, line_end, listed}
use Rattle.kernel_grammar.specs.Words.{is_reserved}
use Rattle.kernel_expressions.specs.Reads.{Next}
use Rattle.kernel_expressions.specs.Turns.{shift_text}
use Rattle.kernel_expressions.specs.declared.stop.Stop.{Stop}
use Rattle.kernel_expressions.specs.declared.stop.Stop.TheVariants.{OutOfMemory, Refused}

-- The text is that of a tree.
pub record Spells {X : Type 0} (spell : X → List Lexical) (text : List Lexical) : Type 0 where
  pub tree : X
  pub spelled : spell tree ≡ text

-- The text is that of one tree or more, with a sign between each two.
pub record SpellsList {X : Type 0} (spell : X → List Lexical) (between : Lexical) (text : List Lexical) : Type 0 where
  pub first : X
  pub more : List X
  pub spelled : listed between (map spell (first ∷ more)) ≡ text

-- The lists have the same tokens before the place and at it.
abbrev pub SameTo : List Lexical → List Lexical → ℕ → Type 0
SameTo all others at = take (at + 1) others ≡ take (at + 1) all

-- At the place stands a text of the sort, with such a rest behind it.
pub record Stands (P E : List Lexical → Type 0) (all : List Lexical) (at : ℕ) (rest : List Lexical) : Type 0 where
  pub text : List Lexical
  pub here : drop at all ≡ text ++ rest
  pub is : P text
  pub behind : E rest

-- A text of the sort ends at the next place, in each list with the same tokens up to that place.
pub record Ends (all : List Lexical) (P E : List Lexical → Type 0) (at next : ℕ) : Type 0 where
  pub ends : (others rest : List Lexical) → SameTo all others next → Stands P E others at rest → drop next others ≡ rest

-- The front goes on to be a text of the sort.
pub record Begins (P : List Lexical → Type 0) (front : List Lexical) : Type 0 where
  pub more : List Lexical
  pub is : P (front ++ more)

-- In no list with the same tokens up to the last place and at it stands a text of the sort, but the tokens before that place begin one.
pub record Stops (all : List Lexical) (P E : List Lexical → Type 0) (at last : ℕ) : Type 0 where
  pub on : at ≤ last
  pub within : last ≤ length all
  pub none : (others rest : List Lexical) → SameTo all others last → Stands P E others at rest → ⊥
  pub begun : Begins P (drop at (take last all))

-- The token at the place is none of the sort.
pub record NoneNext (all : List Lexical) (at : ℕ) (Q : Lexical → Type 0) (last : ℕ) : Type 0 where
  pub same : last ≡ at
  pub none : (x : Lexical) → Next all at x → Q x → ⊥

-- If a token is refused, its place is such a one.
abbrev pub Halts : (ℕ → Type 0) → Stop → Type 0
Halts P OutOfMemory = Unit {0}
Halts P (Refused at) = P at

-- ---- what may stand behind a text

-- nothing, or first a token of the sort
abbrev pub Behind : (Lexical → Bool) → List Lexical → Type 0
Behind f [] = Unit {0}
Behind f (x ∷ xs) = f x ≡ true

-- the token goes on with a number or a name: a name, `[` or `(`
abbrev pub glues : Lexical → Bool
glues (word w) = not (is_reserved w)
glues (number d) = false
glues (sign s) = bytes_eq s (codes "[") || bytes_eq s (codes "(")
glues line_end = false

-- the level of the operator or the shift that the token writes, 0 where it writes none
abbrev pub level_at : Lexical → ℕ
level_at (word w) = if bytes_eq w (codes "or") then 1 else if bytes_eq w (codes "and") then 2 else 0
level_at (number d) = 0
level_at line_end = 0
level_at (sign s) =
    if bytes_eq s (codes "|") then 5 else if bytes_eq s (codes "^") then 6 else if bytes_eq s (codes "&") then 7
    else if bytes_eq s (codes "<<") then 8 else if bytes_eq s (codes ">>") then 8
    else if bytes_eq s (codes "+") then 9 else if bytes_eq s (codes "-") then 9
    else if bytes_eq s (codes "*") then 10 else if bytes_eq s (codes "//") then 10 else if bytes_eq s (codes "%") then 10
    else if bytes_eq s (codes "!=") then 4 else if bytes_eq s (codes "<") then 4 else if bytes_eq s (codes "<=") then 4 else if bytes_eq s (codes ">") then 4
    else if bytes_eq s (codes ">=") then 4 else if bytes_eq s (codes "=") then 4 else if bytes_eq s (codes "==") then 4 else 0

-- The token writes no operator, but may write a shift.
abbrev pub IsNoInfix : Lexical → Type 0
IsNoInfix x = (level_at x ≡ 0) ⊎ (is_left : Bool) × (x ≡ shift_text is_left)

-- the token ends an expression of the level
abbrev pub ends_level : ℕ → Lexical → Bool
ends_level l x = not (glues x) && nat_lt (level_at x) l

-- the token is the sign
abbrev pub is_mark : List ℕ → Lexical → Bool
is_mark text (word w) = false
is_mark text (number d) = false
is_mark text (sign s) = bytes_eq s text
is_mark text line_end = false

-- the token ends a list of sums
abbrev pub ends_sums : Lexical → Bool
ends_sums x = ends_level 9 x && not (is_mark (codes ",") x)

-- any rest
abbrev pub AnyRest : List Lexical → Type 0
AnyRest rest = Unit {0}
