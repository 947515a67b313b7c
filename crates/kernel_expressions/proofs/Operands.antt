-- What is left behind the tokens that begin an operand.
use Rattle.std.proofs.Common.{◌≡◌, ◌≤◌, ◌+◌, ℕ, Bool, true, false, List, [], ◌∷◌, ◌++◌, ap, refl, ◌∙◌, append_assoc, Result}
use Rattle.std.specs.Result.{IfOk}
use Rattle.kernel_grammar.specs.declared.step.Step.{Step}
use Rattle.kernel_grammar.specs.declared.step.Prefix.TheVariants.{Not}
use Rattle.kernel_grammar.specs.Lexicals.{Lexical, mark}
use Rattle.kernel_expressions.specs.declared.frame.Frame.{Frame}
use Rattle.kernel_expressions.specs.declared.frame.Frame.TheVariants as frame
use Rattle.kernel_expressions.specs.declared.lexeme.Lexeme.{Lexeme}
use Rattle.kernel_expressions.specs.declared.partial.Partial.{Partial}
use Rattle.kernel_expressions.specs.declared.partial.Turn as turn
use Rattle.kernel_expressions.specs.declared.stop.Stop.{Stop}
use Rattle.kernel_expressions.specs.Texts.{texts}
use Rattle.kernel_expressions.specs.Turns.{OpensPart, IsOver, fold_text}
use Rattle.kernel_expressions.specs.Settled.{Ends, AnyRest}
use Rattle.kernel_expressions.specs.Tails.{IsWanted}
use Rattle.kernel_expressions.specs.Follows.{Looser, Leads, Never, Past, Joins, WantsBody, CastLeft, Shape, Shaped, start, Goes}
use Rattle.kernel_expressions.proofs.Agreeing.{leads_on, leads_never, leads_as, some_on, answers_as}
use Rattle.kernel_expressions.proofs.Shutting.{opens_wanted}

-- a text of a sort is behind
pub joins_on : {all : List Lexical} {E G P F Q : List Lexical → Type 0} {a b c : ℕ} → Leads all E a P b (Joins F Q) → b ≤ c → Ends all F G b c → ((u rest : List Lexical) → Q u → G (u ++ rest)) → Leads all E a P c Q
joins_on {all} {E} {G} {P} {F} {Q} {a} {b} {c} h le k g = leads_on h (record {
  on = le;
  left = λ others rest same s. record {
    text = s.is.left;
    here = k.ends others (s.is.left ++ rest) same (record { text = s.is.front; here = s.here ∙ ap (λ xs. xs ++ rest) s.is.is ∙ append_assoc s.is.front s.is.left rest; is = s.is.begins; behind = g s.is.left rest s.is.ends });
    is = s.is.ends;
    behind = s.behind;
  };
})

-- no text of the sort stands there
pub joins_halts : {all : List Lexical} {E G P F Q : List Lexical → Type 0} {a b last : ℕ} → Leads all E a P b (Joins F Q) → Never all G b F last → ((u rest : List Lexical) → Q u → G (u ++ rest)) → Never all E a P last
joins_halts {all} {E} {G} {P} {F} {Q} {a} {b} {last} h k g = leads_never h (record {
  on = k.on;
  none = λ others rest same s. k.none others (s.is.left ++ rest) same (record { text = s.is.front; here = s.here ∙ ap (λ xs. xs ++ rest) s.is.is ∙ append_assoc s.is.front s.is.left rest; is = s.is.begins; behind = g s.is.left rest s.is.ends });
})

-- nothing is left
pub ends_there : {all : List Lexical} {E P : List Lexical → Type 0} {a next : ℕ} → Leads all E a P next (λ u. u ≡ []) → Ends all P E a next
ends_there {all} {E} {P} {a} {next} h = record { ends = λ others rest same s. let k = h.left others rest same s in k.here ∙ ap (λ xs. xs ++ rest) k.is }

-- the token that tells is behind
pub from_shaped : {all : List Lexical} {E Q : List Lexical → Type 0} {least at n : ℕ} {frames : List Frame} → ((x : Lexical) (left : List Lexical) → Shape n least frames x left → Q left) → Leads all E at (Shaped least frames n) (at + 1) Q
from_shaped {all} {E} {Q} {least} {at} {n} {frames} made = some_on {S = λ x. Unit {0}}
    (leads_as (λ t h. record { first = h.first; left = h.left; is = h.is; sort = tt; ends = made h.first h.left h.shape })) refl

-- a part is opened
pub opens_goes : (lexemes : List Lexeme) (P : ℕ → List Lexical → Type 0) (old new : Partial) (g : Frame) (at next : ℕ) (r : Result turn.Turn Stop) → IfOk r (λ t. OpensPart old g next new t)
    → ((least : ℕ) → Leads (texts lexemes) (Looser least) at (P least) next (IsWanted least (g ∷ old.frames))) → IfOk r (λ t. (least : ℕ) → Goes (texts lexemes) least at (P least) new.frames t)
opens_goes lexemes P old new g at next r o h = answers_as r o (λ t k least some within. opens_wanted (texts lexemes) least at next (P least) old new g t k (h least))

-- a body with a step
pub body_on : {all : List Lexical} {E P : List Lexical → Type 0} {least a b : ℕ} {frames : List Frame} {last : Step} → Leads all E a P b (WantsBody least frames) → Leads all E a P b (IsWanted least (frame.Body last ∷ frames))
body_on {all} {E} {P} {least} {a} {b} {frames} {last} h = leads_on h (leads_as (λ t w. w last))

pub cast_open : {all : List Lexical} {E : List Lexical → Type 0} {least at : ℕ} {frames : List Frame} → Leads all E at (Shaped least frames 11) (at + 1) (Past (mark "(") (CastLeft least frames))
cast_open {all} {E} {least} {at} {frames} = from_shaped (λ x left s. s)

pub choice_open : {all : List Lexical} {E : List Lexical → Type 0} {least at : ℕ} {frames : List Frame} → Leads all E at (Shaped least frames 12) (at + 1) (Past (mark "(") (IsWanted least (frame.Test ∷ frames)))
choice_open {all} {E} {least} {at} {frames} = from_shaped (λ x left s. s)

-- the same, at one level
pub opens_at : (all : List Lexical) (least : ℕ) (P : List Lexical → Type 0) (old new : Partial) (g : Frame) (at next : ℕ) (r : Result turn.Turn Stop) → IfOk r (λ t. OpensPart old g next new t)
    → Leads all (Looser least) at P next (IsWanted least (g ∷ old.frames)) → IfOk r (λ t. Goes all least at P new.frames t)
opens_at all least P old new g at next r o h = answers_as r o (λ t k some within. opens_wanted all least at next P old new g t k h)

pub not_open : {all : List Lexical} {E : List Lexical → Type 0} {least at : ℕ} {frames : List Frame} → Leads all E at (Shaped least frames 6) (at + 1) (IsWanted least (frame.Prefix Not ∷ frames))
not_open {all} {E} {least} {at} {frames} = from_shaped (λ x left s. s.1)

pub fold_open : (is_sum : Bool) (all : List Lexical) (E : List Lexical → Type 0) (least at : ℕ) (frames : List Frame) → Leads all E at (Shaped least frames (start (fold_text is_sum))) (at + 1) (Past (mark "(") (Joins (IsOver ⊥ []) (Past (mark ",") (WantsBody least frames))))
fold_open true all E least at frames = from_shaped (λ x left s. s)
fold_open false all E least at frames = from_shaped (λ x left s. s)

pub any_rest : (Q : List Lexical → Type 0) (u rest : List Lexical) → Q u → AnyRest (u ++ rest)
any_rest Q u rest h = tt
