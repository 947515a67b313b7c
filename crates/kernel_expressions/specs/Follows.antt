-- What may be left of an expression at a turn of its reader.
use Rattle.std.specs.Prelude.{◌≡◌, ℕ, zero, suc, ◌+◌, ◌<◌, ◌≤◌, Bool, true, false, bytes_eq, codes, if◌then◌else◌, List, [], ◌∷◌, ◌++◌}
use Rattle.wrap_words.specs.declared.kind.Kind.{Kind}
use Rattle.kind_faults.specs.Words.{kind_word}
use Rattle.kernel_grammar.specs.declared.step.Extreme.{Extreme}
use Rattle.kernel_grammar.specs.declared.step.Prefix.TheVariants as prefix
use Rattle.kernel_grammar.specs.declared.step.Step.{Step}
use Rattle.kernel_grammar.specs.Lexicals.{Lexical, word, number, sign, line_end, mark}
use Rattle.kernel_grammar.specs.Words.{Name, is_reserved}
use Rattle.kernel_expressions.specs.declared.frame.Bracket.TheVariants as brackets
use Rattle.kernel_expressions.specs.declared.frame.Frame.{Frame}
use Rattle.kernel_expressions.specs.declared.frame.Frame.TheVariants as frame
use Rattle.kernel_expressions.specs.declared.partial.Turn as turn
use Rattle.kernel_expressions.specs.declared.partial.Turn.TheVariants.{Operand, Operator, End}
use Rattle.kernel_expressions.specs.declared.lexeme.Lexeme.{Lexeme}
use Rattle.kernel_expressions.specs.declared.partial.Partial.{Partial}
use Rattle.kernel_expressions.specs.Texts.{texts}
use Rattle.kernel_expressions.specs.Reads.{Next}
use Rattle.kernel_expressions.specs.Frames.{made_level, wanted_level}
use Rattle.kernel_expressions.specs.Turns.{IsOver, inames_text}
use Rattle.kernel_expressions.specs.Settled.{SameTo, Stands, Behind, ends_level, level_at}
use Rattle.kernel_expressions.specs.Tails.{Closing, ClosesAll, IsWanted}

-- ---- texts between places of lists with the same tokens

-- In each list with the same tokens up to the next place and at it, where a text of the first sort stands, one of the second sort is left there.
pub record Leads (all : List Lexical) (E : List Lexical → Type 0) (at : ℕ) (P : List Lexical → Type 0) (next : ℕ) (Q : List Lexical → Type 0) : Type 0 where
  pub on : at ≤ next
  pub left : (others rest : List Lexical) → SameTo all others next → Stands P E others at rest → Stands Q E others next rest

-- In no list with the same tokens up to the last place and at it stands a text of the sort.
pub record Never (all : List Lexical) (E : List Lexical → Type 0) (at : ℕ) (P : List Lexical → Type 0) (last : ℕ) : Type 0 where
  pub on : at ≤ last
  pub none : (others rest : List Lexical) → SameTo all others last → Stands P E others at rest → ⊥

-- First stands the token, and then a text of the sort.
pub record Past (x : Lexical) (Q : List Lexical → Type 0) (text : List Lexical) : Type 0 where
  pub left : List Lexical
  pub is : text ≡ x ∷ left
  pub ends : Q left

-- First stands a token of the sort, and then a text of the sort.
pub record PastSome (S : Lexical → Type 0) (Q : List Lexical → Type 0) (text : List Lexical) : Type 0 where
  pub first : Lexical
  pub left : List Lexical
  pub is : text ≡ first ∷ left
  pub sort : S first
  pub ends : Q left

-- First stands a text of the first sort, and then one of the second.
pub record Joins (P Q : List Lexical → Type 0) (text : List Lexical) : Type 0 where
  pub front : List Lexical
  pub left : List Lexical
  pub is : text ≡ front ++ left
  pub begins : P front
  pub ends : Q left

-- ---- what is left where an operand is wanted

-- what a token begins, where an operand is wanted: 0 nothing, 1 a number, 2 a name, 3 and more a sign or a word of the grammar
abbrev pub word_start : List ℕ → Bool → ℕ
word_start w false = 2
word_start w true = if bytes_eq w (codes "not") then 6 else if bytes_eq w (codes "sum") then 7 else if bytes_eq w (codes "product") then 8
    else if bytes_eq w (codes "min") then 9 else if bytes_eq w (codes "max") then 10 else if bytes_eq w (codes "cast") then 11 else if bytes_eq w (codes "if") then 12 else 0

abbrev pub start : Lexical → ℕ
start (word w) = word_start w (is_reserved w)
start (number d) = 1
start (sign s) = if bytes_eq s (codes "-") then 3 else if bytes_eq s (codes "~") then 4 else if bytes_eq s (codes "(") then 5 else 0
start line_end = 0

-- an operand and then what closes a parenthesis with a step behind it
abbrev pub WantsBody : ℕ → List Frame → List Lexical → Type 0
WantsBody least frames text = (last : Step) → IsWanted least (frame.Body last ∷ frames) text

-- what is left behind a number
pub data NumberLeft : ℕ → List Frame → List Lexical → Type 0 where
  lone : {least : ℕ} {frames : List Frame} {text : List Lexical} → ClosesAll least frames 11 text → NumberLeft least frames text
  times : {least : ℕ} {frames : List Frame} {text : List Lexical} (name : Name) → Past (word name.word) (ClosesAll least frames 11) text → NumberLeft least frames text

-- what is left behind a name
pub data NameLeft : ℕ → List Frame → List Lexical → Type 0 where
  alone : {least : ℕ} {frames : List Frame} {text : List Lexical} → ClosesAll least frames 11 text → NameLeft least frames text
  at_places : {least : ℕ} {frames : List Frame} {text : List Lexical} → Past (mark "[") (λ left. (name : List ℕ) (count : ℕ) → IsWanted least (frame.Places name brackets.Index count ∷ frames) left) text → NameLeft least frames text
  of_none : {least : ℕ} {frames : List Frame} {text : List Lexical} → Past (mark "(") (Past (mark ")") (ClosesAll least frames 11)) text → NameLeft least frames text
  of_places : {least : ℕ} {frames : List Frame} {text : List Lexical} → Past (mark "(") (λ left. (name : List ℕ) (count : ℕ) → IsWanted least (frame.Places name brackets.Call count ∷ frames) left) text → NameLeft least frames text

-- two names or more in parentheses, and a comma
pub record ManyInames (text : List Lexical) : Type 0 where
  pub first : Name
  pub second : Name
  pub more : List Name
  pub is : inames_text (first, second ∷ more) ≡ text

-- what is left behind `min` or `max` and a parenthesis
pub data ExtremeLeft : ℕ → List Frame → List Lexical → Type 0 where
  of_two : {least : ℕ} {frames : List Frame} {text : List Lexical} → ((which : Extreme) (at : ℕ) → IsWanted least (frame.First which at ∷ frames) text) → ExtremeLeft least frames text
  over_names : {least : ℕ} {frames : List Frame} {text : List Lexical} → Joins ManyInames (WantsBody least frames) text → ExtremeLeft least frames text

-- what is left behind `cast` and a parenthesis
abbrev pub CastLeft : ℕ → List Frame → List Lexical → Type 0
CastLeft least frames = PastSome (λ x. (kind : Kind) × (x ≡ word (kind_word kind))) (Past (mark ",") (WantsBody least frames))

-- what is left behind a token that begins this
abbrev pub Shape : ℕ → ℕ → List Frame → Lexical → List Lexical → Type 0
Shape zero least frames x text = ⊥
Shape (suc zero) least frames x text = ((d : List ℕ) × (x ≡ number d)) × NumberLeft least frames text
Shape (suc (suc zero)) least frames x text = ((name : Name) × (x ≡ word name.word)) × NameLeft least frames text
Shape (suc (suc (suc zero))) least frames x text = IsWanted least (frame.Prefix prefix.Negate ∷ frames) text
Shape (suc (suc (suc (suc zero)))) least frames x text = IsWanted least (frame.Prefix prefix.Invert ∷ frames) text
Shape (suc (suc (suc (suc (suc zero))))) least frames x text = IsWanted least (frame.Group ∷ frames) text
Shape (suc (suc (suc (suc (suc (suc zero)))))) least frames x text = (wanted_level least frames ≤ 3) × IsWanted least (frame.Prefix prefix.Not ∷ frames) text
Shape (suc (suc (suc (suc (suc (suc (suc zero))))))) least frames x text = Past (mark "(") (Joins (IsOver ⊥ []) (Past (mark ",") (WantsBody least frames))) text
Shape (suc (suc (suc (suc (suc (suc (suc (suc zero)))))))) least frames x text = Past (mark "(") (Joins (IsOver ⊥ []) (Past (mark ",") (WantsBody least frames))) text
Shape (suc (suc (suc (suc (suc (suc (suc (suc (suc zero))))))))) least frames x text = Past (mark "(") (ExtremeLeft least frames) text
Shape (suc (suc (suc (suc (suc (suc (suc (suc (suc (suc zero)))))))))) least frames x text = Past (mark "(") (ExtremeLeft least frames) text
Shape (suc (suc (suc (suc (suc (suc (suc (suc (suc (suc (suc zero))))))))))) least frames x text = Past (mark "(") (CastLeft least frames) text
Shape (suc (suc (suc (suc (suc (suc (suc (suc (suc (suc (suc (suc zero)))))))))))) least frames x text = Past (mark "(") (IsWanted least (frame.Test ∷ frames)) text
Shape (suc (suc (suc (suc (suc (suc (suc (suc (suc (suc (suc (suc (suc n))))))))))))) least frames x text = ⊥

-- The text begins with a token that begins this, and closes all that is open.
pub record Shaped (least : ℕ) (frames : List Frame) (n : ℕ) (text : List Lexical) : Type 0 where
  pub first : Lexical
  pub left : List Lexical
  pub is : text ≡ first ∷ left
  pub shape : Shape n least frames first left

-- A parenthesis, a name and a comma stand at the place.
pub record BeginsInames (all : List Lexical) (at : ℕ) : Type 0 where
  pub name : Name
  pub open_first : Next all at (mark "(")
  pub named : Next all (at + 1) (word name.word)
  pub comma : Next all (at + 1 + 1) (mark ",")

-- The text begins as inames do, but the tokens do not.
pub record FirstOfInames (all : List Lexical) (at : ℕ) (text : List Lexical) : Type 0 where
  pub name : Name
  pub more : List Lexical
  pub is : text ≡ mark "(" ∷ word name.word ∷ mark "," ∷ more
  pub none : BeginsInames all at → ⊥

-- Behind a parenthesis the text goes on as inames do, but the tokens do not.
pub record SecondOfInames (all : List Lexical) (at : ℕ) (text : List Lexical) : Type 0 where
  pub begun : ℕ
  pub next_is : at ≡ begun + 1
  pub open_first : Next all begun (mark "(")
  pub name : Name
  pub more : List Lexical
  pub is : text ≡ word name.word ∷ mark "," ∷ more
  pub none : BeginsInames all begun → ⊥

-- what may be left where an operand is wanted
pub data OperandLeft : List Lexical → ℕ → List Frame → ℕ → List Lexical → Type 0 where
  wanted : {all : List Lexical} {least : ℕ} {frames : List Frame} {at : ℕ} {text : List Lexical} → IsWanted least frames text → OperandLeft all least frames at text
  first_iname : {all : List Lexical} {least : ℕ} {frames : List Frame} {at : ℕ} {text : List Lexical} → FirstOfInames all at text → OperandLeft all least frames at text
  second_iname : {all : List Lexical} {least : ℕ} {frames : List Frame} {at : ℕ} {text : List Lexical} → SecondOfInames all at text → OperandLeft all least frames at text

-- what may be left at a name, or at a sign
pub data NamedLeft : List Lexical → ℕ → List Frame → ℕ → List Lexical → Type 0 where
  shaped_name : {all : List Lexical} {least : ℕ} {frames : List Frame} {at : ℕ} {text : List Lexical} → Shaped least frames 2 text → NamedLeft all least frames at text
  of_iname : {all : List Lexical} {least : ℕ} {frames : List Frame} {at : ℕ} {text : List Lexical} → SecondOfInames all at text → NamedLeft all least frames at text

pub data SignedLeft : ℕ → List Lexical → ℕ → List Frame → ℕ → List Lexical → Type 0 where
  shaped_sign : {n : ℕ} {all : List Lexical} {least : ℕ} {frames : List Frame} {at : ℕ} {text : List Lexical} → Shaped least frames n text → SignedLeft n all least frames at text
  of_inames : {n : ℕ} {all : List Lexical} {least : ℕ} {frames : List Frame} {at : ℕ} {text : List Lexical} → n ≡ 5 → FirstOfInames all at text → SignedLeft n all least frames at text

-- ---- what is left behind an operand

-- The text closes the part and all that is open round it.
pub record Shuts (least : ℕ) (f : Frame) (frames : List Frame) (text : List Lexical) : Type 0 where
  pub close : List Lexical
  pub left : List Lexical
  pub closing : Closing f close
  pub closes : ClosesAll least frames (made_level f) left
  pub is : text ≡ close ++ left

-- No operator goes on, and the text closes all that is open.
pub record Stopped (least : ℕ) (frames : List Frame) (level : ℕ) (text : List Lexical) : Type 0 where
  pub none : (x : Lexical) (xs : List Lexical) → text ≡ x ∷ xs → level_at x ≡ 0
  pub closes : ClosesAll least frames level text

-- ---- turns

-- What stands behind an expression of the level does not go on with it.
abbrev pub Looser : ℕ → List Lexical → Type 0
Looser least = Behind (ends_level least)

-- the place of the turn
abbrev pub place_of : turn.Turn → ℕ
place_of (Operand at) = at
place_of (Operator at level) = at
place_of (End at) = at

-- what may be left at the turn
abbrev pub TurnLeft : List Lexical → ℕ → List Frame → turn.Turn → List Lexical → Type 0
TurnLeft all least frames (Operand at) = OperandLeft all least frames at
TurnLeft all least frames (Operator at level) = ClosesAll least frames level
TurnLeft all least frames (End at) = λ text. text ≡ []

-- From such a text at the place the turn goes on with what is left.
abbrev pub Goes : List Lexical → (least at : ℕ) → (List Lexical → Type 0) → List Frame → turn.Turn → Type 0
Goes all least at P frames next = 0 < least → least ≤ 11 → Leads all (Looser least) at P (place_of next) (TurnLeft all least frames next)

-- No such text stands at the place, by the tokens up to the last.
abbrev pub Halted : List Lexical → (least at : ℕ) → (List Lexical → Type 0) → (last : ℕ) → Type 0
Halted all least at P last = 0 < least → least ≤ 11 → Never all (Looser least) at P last

-- Behind an operand of the frame, which is no longer open, the turn goes on with what is left.
abbrev pub GoesOut : List Lexeme → Frame → Partial → (at : ℕ) → Partial → turn.Turn → Type 0
GoesOut lexemes f old at new next = (least : ℕ) → Goes (texts lexemes) least at (Shuts least f old.frames) new.frames next

-- Nothing closes the frame there, by the tokens up to the last.
abbrev pub HaltsOut : List Lexeme → Frame → Partial → (at : ℕ) → (last : ℕ) → Type 0
HaltsOut lexemes f old at last = (least : ℕ) → Halted (texts lexemes) least at (Shuts least f old.frames) last

-- Where a token that begins this stands, the turn goes on with what is left.
abbrev pub GoesShaped : List Lexeme → (n : ℕ) → Partial → (at : ℕ) → Partial → turn.Turn → Type 0
GoesShaped lexemes n old at new next = (least : ℕ) → Goes (texts lexemes) least at (Shaped least old.frames n) new.frames next

-- Nothing that a token of this sort begins stands there, by the tokens up to the last.
abbrev pub HaltsShaped : List Lexeme → (n : ℕ) → Partial → (at : ℕ) → (last : ℕ) → Type 0
HaltsShaped lexemes n old at last = (least : ℕ) → Halted (texts lexemes) least at (Shaped least old.frames n) last
