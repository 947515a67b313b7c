-- Whole expressions from turn to turn.
use Rattle.std.proofs.Common.{◌≡◌, ◌<◌, ◌≤◌, ℕ, List, [], sym, refl, subst, arith, Result}
use Rattle.std.specs.Result.{IfOk}
use Rattle.std.proofs.lemmas.List.{append-nil}
use Rattle.kernel_grammar.specs.Lexicals.{Lexical}
use Rattle.kernel_expressions.specs.declared.frame.Frame.{Frame}
use Rattle.kernel_expressions.specs.declared.partial.Turn as turn
use Rattle.kernel_expressions.specs.declared.partial.Turn.TheVariants.{Operand, End}
use Rattle.kernel_expressions.specs.declared.stop.Stop.{Stop}
use Rattle.kernel_expressions.specs.Settled.{Ends}
use Rattle.kernel_expressions.specs.Tails.{IsText, IsWanted}
use Rattle.kernel_expressions.specs.Follows.{Looser, Leads, wanted, OperandLeft, TurnLeft, place_of, Goes, Halted}
use Rattle.kernel_expressions.proofs.Agreeing.{leads_on, leads_never, leads_as, answers_as}
use Rattle.kernel_expressions.proofs.Operands.{ends_there}

text_wanted : (least : ℕ) (t : List Lexical) → IsText least t → IsWanted least [] t
text_wanted least t h = record { operand = t; rest = []; is = h; closes = ([], omega arith, refl); whole = sym (append-nil t) }

-- nothing is read yet
pub begins_goes : (all : List Lexical) (least at : ℕ) (frames : List Frame) → frames ≡ [] → Goes all least at (IsText least) frames (Operand at)
begins_goes all least at frames e some within = subst (λ (fs : List Frame). Leads all (Looser least) at (IsText least) at (OperandLeft all least fs at)) (sym e)
    (leads_as (λ t h. wanted (text_wanted least t h)))

-- a turn is taken
pub turn_goes : (all : List Lexical) (least from : ℕ) (P : List Lexical → Type 0) (old new : List Frame) (before here next : turn.Turn) → Goes all least from P old before → before ≡ here → Goes all least (place_of here) (TurnLeft all least old here) new next → Goes all least from P new next
turn_goes all least from P old new before here next h e k some within =
    leads_on
    (subst (λ (t : turn.Turn). Leads all (Looser least) from P (place_of t) (TurnLeft all least old t)) e (h some within)) (k some within)

-- a turn is refused
pub turn_halts : (all : List Lexical) (least from last : ℕ) (P : List Lexical → Type 0) (old : List Frame) (before here : turn.Turn) → Goes all least from P old before → before ≡ here → Halted all least (place_of here) (TurnLeft all least old here) last → Halted all least from P last
turn_halts all least from last P old before here h e k some within =
    leads_never
    (subst (λ (t : turn.Turn). Leads all (Looser least) from P (place_of t) (TurnLeft all least old t)) e (h some within)) (k some within)

-- the last turn
pub turn_ends : (all : List Lexical) (least from at : ℕ) (P : List Lexical → Type 0) (old : List Frame) (before : turn.Turn) → Goes all least from P old before → before ≡ End at → 0 < least → least ≤ 11 → Ends all P (Looser least) from at
turn_ends all least from at P old before h e some within = ends_there
    (subst (λ (t : turn.Turn). Leads all (Looser least) from P (place_of t) (TurnLeft all least old t)) e (h some within))

-- another sort of text
pub ends_as : {X : Type 0} (all : List Lexical) (P Q E : List Lexical → Type 0) (at : ℕ) (r : Result (X × ℕ) Stop) → ((t : List Lexical) → Q t → P t) → IfOk r (λ read. Ends all P E at read.1) → IfOk r (λ read. Ends all Q E at read.1)
ends_as all P Q E at r made h = answers_as r h (λ read k. record {
  ends = λ others rest same s. k.ends others rest same (record { text = s.text; here = s.here; is = made s.text s.is; behind = s.behind });
})
