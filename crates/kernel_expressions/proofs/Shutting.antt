-- What stands behind a whole part.
use Rattle.std.proofs.Common.{◌≡◌, ◌+◌, ℕ, List, [], ◌∷◌, ◌++◌, inl, inr, ◌⊎◌, ap, sym, refl, ◌∙◌, subst, append_assoc, arith}
use Rattle.kernel_grammar.specs.declared.step.Extreme.{Extreme}
use Rattle.kernel_grammar.specs.declared.step.Step.{Step}
use Rattle.kernel_grammar.specs.Lexicals.{Lexical, mark}
use Rattle.kernel_expressions.specs.declared.lexeme.Lexeme.{Lexeme}
use Rattle.kernel_expressions.specs.declared.partial.Partial.{Partial}
use Rattle.std.proofs.Common.{Result}
use Rattle.std.specs.Result.{IfOk}
use Rattle.std.proofs.Common.{codes}
use Rattle.std.proofs.lemmas.Bool.{false≢true}
use Rattle.kernel_expressions.specs.declared.partial.Turn as turn
use Rattle.kernel_expressions.specs.declared.stop.Stop.{Stop}
use Rattle.kernel_expressions.specs.Turns.{OpensPart}
use Rattle.kernel_expressions.specs.declared.frame.Frame.{Frame}
use Rattle.kernel_expressions.specs.declared.frame.Frame.TheVariants as frame
use Rattle.kernel_expressions.specs.declared.frame.Bracket as bracket
use Rattle.kernel_expressions.specs.declared.frame.Bracket.TheVariants as brackets
use Rattle.kernel_expressions.specs.Frames.{closing, inner_level, made_level}
use Rattle.kernel_expressions.specs.Texts.{texts}
use Rattle.kernel_expressions.specs.Reads.{Next}
use Rattle.kernel_expressions.specs.Settled.{NoneNext, is_mark}
use Rattle.kernel_expressions.specs.Tails.{IsText, more_places, AreSums, Closing, ClosesAll, IsWanted}
use Rattle.kernel_expressions.specs.Follows.{Looser, Leads, Past, wanted, OperandLeft, TurnLeft, place_of, WantsBody, Shuts, Halted, GoesOut, HaltsOut}
use Rattle.kernel_expressions.proofs.Agreeing.{Sees, one_token, leads_on, leads_never, leads_as, leads_here, never_here, leads_past, never_past, answers_as}

-- where such a part is shut by a sign and what is left, that sign stands there
pub shut_never : {all : List Lexical} {at last : ℕ} {f : Frame} {frames : List Frame} {x : Lexical} {Q : ℕ → List Lexical → Type 0} → NoneNext all at (λ y. y ≡ x) last
    → ((least : ℕ) (t : List Lexical) → Shuts least f frames t → Past x (Q least) t) → (least : ℕ) → Halted all least at (Shuts least f frames) last
shut_never {all} {at} {last} {f} {frames} {x} {Q} h past least some within = leads_never
    (leads_as (past least)) (never_past h.same (λ n. h.none x n refl))

pub shut_goes : {all : List Lexical} {least at next : ℕ} {f : Frame} {frames : List Frame} {x : Lexical} {Q : List Lexical → Type 0} → next ≡ at + 1
    → ((t : List Lexical) → Shuts least f frames t → Past x Q t) → Leads all (Looser least) at (Shuts least f frames) next Q
shut_goes {all} {least} {at} {next} {f} {frames} {x} {Q} n past = leads_on
    (leads_as past) (leads_past n)

-- an operand is behind, and nothing is opened
pub shut_behind : {all : List Lexical} {least at next : ℕ} {f : Frame} {frames new : List Frame} {x : Lexical} → new ≡ frames → next ≡ at + 1 → ((t : List Lexical) → Shuts least f frames t → Past x (ClosesAll least frames 11) t)
    → Leads all (Looser least) at (Shuts least f frames) next (ClosesAll least new 11)
shut_behind {all} {least} {at} {next} {f} {frames} {new} {x} same n past = subst (λ (fs : List Frame). Leads all (Looser least) at (Shuts least f frames) next (ClosesAll least fs 11)) (sym same) (shut_goes n past)

-- a part is opened
pub opens_left : (all : List Lexical) (least at next : ℕ) (P : List Lexical → Type 0) (old new : Partial) (g : Frame) (t : turn.Turn) → OpensPart old g next new t → Leads all (Looser least) at P next (OperandLeft all least (g ∷ old.frames) next)
    → Leads all (Looser least) at P (place_of t) (TurnLeft all least new.frames t)
opens_left all least at next P old new g t o h = subst (λ (u : turn.Turn). Leads all (Looser least) at P (place_of u) (TurnLeft all least new.frames u)) (sym o.next_is)
    (subst (λ (fs : List Frame). Leads all (Looser least) at P next (OperandLeft all least fs next)) (sym o.frames) h)

-- an operand is wanted in a part that is opened
pub opens_wanted : (all : List Lexical) (least at next : ℕ) (P : List Lexical → Type 0) (old new : Partial) (g : Frame) (t : turn.Turn) → OpensPart old g next new t → Leads all (Looser least) at P next (IsWanted least (g ∷ old.frames))
    → Leads all (Looser least) at P (place_of t) (TurnLeft all least new.frames t)
opens_wanted all least at next P old new g t o h = opens_left all least at next P old new g t o (leads_on h
    (leads_as (λ u w. wanted w)))

pub shut_opens : (lexemes : List Lexeme) (old mid new : Partial) (f g : Frame) (x : Lexical) (at next : ℕ) (r : Result turn.Turn Stop) → IfOk r (λ t. OpensPart mid g next new t) → mid.frames ≡ old.frames → next ≡ at + 1
    → ((least : ℕ) (t : List Lexical) → Shuts least f old.frames t → Past x (IsWanted least (g ∷ old.frames)) t) → IfOk r (λ t. GoesOut lexemes f old at new t)
shut_opens lexemes old mid new f g x at next r o same n past = answers_as r o (λ t k least some within.
    opens_wanted (texts lexemes) least at next (Shuts least f old.frames) mid new g t k
    (shut_goes n (λ u h. subst (λ (fs : List Frame). Past x (IsWanted least (g ∷ fs)) u) (sym same) (past least u h))))

-- the sign that shuts a part, and what it leaves
pub group_past : (least : ℕ) (frames : List Frame) (t : List Lexical) → Shuts least frame.Group frames t → Past (mark ")") (ClosesAll least frames 11) t
group_past least frames t h = record { left = h.left; is = h.is ∙ ap (λ xs. xs ++ h.left) h.closing; ends = h.closes }

pub body_past : (last : Step) (least : ℕ) (frames : List Frame) (t : List Lexical) → Shuts least (frame.Body last) frames t → Past (mark ")") (ClosesAll least frames 11) t
body_past last least frames t h = record { left = h.left; is = h.is ∙ ap (λ xs. xs ++ h.left) h.closing; ends = h.closes }

-- an operand and what shuts a part that is open
pub wanted_in : (least : ℕ) (f : Frame) (frames : List Frame) (operand close left text : List Lexical) → IsText (inner_level f) operand → Closing f close → ClosesAll least frames (made_level f) left → text ≡ operand ++ (close ++ left) → IsWanted least (f ∷ frames) text
wanted_in least f frames operand close left text is shuts closes whole = record { operand = operand; rest = close ++ left; is = is; closes = ([], close, left, omega arith, shuts, closes, refl); whole = whole }

pub test_past : (least : ℕ) (frames : List Frame) (t : List Lexical) → Shuts least frame.Test frames t → Past (mark ",") (IsWanted least (frame.Then ∷ frames)) t
test_past least frames t h = let c = h.closing in record {
  left = ((c.0 ++ mark "," ∷ c.1) ++ mark ")" ∷ []) ++ h.left;
  is = h.is ∙ ap (λ xs. xs ++ h.left) c.4;
  ends = wanted_in least frame.Then frames c.0 (mark "," ∷ c.1 ++ mark ")" ∷ []) h.left _ c.2 (c.1, c.3, refl) h.closes (simp append_assoc);
}

-- the last place and its parenthesis
pub body_in : (least : ℕ) (frames : List Frame) (third left : List Lexical) → IsText 1 third → ClosesAll least frames 11 left → WantsBody least frames ((third ++ mark ")" ∷ []) ++ left)
body_in least frames third left is closes = λ last. wanted_in least (frame.Body last) frames third (mark ")" ∷ []) left _ is refl closes (append_assoc third (mark ")" ∷ []) left)

pub then_past : (least : ℕ) (frames : List Frame) (t : List Lexical) → Shuts least frame.Then frames t → Past (mark ",") (WantsBody least frames) t
then_past least frames t h = let c = h.closing in record { left = (c.0 ++ mark ")" ∷ []) ++ h.left; is = h.is ∙ ap (λ xs. xs ++ h.left) c.2; ends = body_in least frames c.0 h.left c.1 h.closes }

-- the body that stands behind a comma, with any step
pub with_step : (last : Step) (x : Lexical) (least : ℕ) (frames : List Frame) (t : List Lexical) → Past x (WantsBody least frames) t → Past x (IsWanted least (frame.Body last ∷ frames)) t
with_step last x least frames t h = record { left = h.left; is = h.is; ends = h.ends last }

pub first_past : (which : Extreme) (start least : ℕ) (frames : List Frame) (t : List Lexical) → Shuts least (frame.First which start) frames t → Past (mark ",") (WantsBody least frames) t
first_past which start least frames t h = let c = h.closing in record { left = (c.0 ++ mark ")" ∷ []) ++ h.left; is = h.is ∙ ap (λ xs. xs ++ h.left) c.2; ends = body_in least frames c.0 h.left c.1 h.closes }

-- a further place
abbrev pub WantsPlace : bracket.Bracket → ℕ → List Frame → List Lexical → Type 0
WantsPlace b least frames text = (name : List ℕ) (count : ℕ) → IsWanted least (frame.Places name b count ∷ frames) text

places_if : (least : ℕ) (frames : List Frame) (b : bracket.Bracket) (close left t : List Lexical) (texts : List (List Lexical)) → AreSums texts → close ≡ more_places texts (closing b) → ClosesAll least frames 11 left → t ≡ close ++ left
    → Past (closing b) (ClosesAll least frames 11) t ⊎ Past (mark ",") (WantsPlace b least frames) t
places_if least frames b close left t [] are e closes is = inl (record { left = left; is = is ∙ ap (λ xs. xs ++ left) e; ends = closes })
places_if least frames b close left t (text ∷ texts) are e closes is = inr (record {
  left = (text ++ more_places texts (closing b)) ++ left;
  is = is ∙ ap (λ xs. xs ++ left) e;
  ends = λ name count. wanted_in least (frame.Places name b count) frames text (more_places texts (closing b)) left _ are.0 (texts, are.1, refl) closes (append_assoc text (more_places texts (closing b)) left);
})

places_case : (name : List ℕ) (b : bracket.Bracket) (count least : ℕ) (frames : List Frame) (t : List Lexical) → Shuts least (frame.Places name b count) frames t
    → Past (closing b) (ClosesAll least frames 11) t ⊎ Past (mark ",") (WantsPlace b least frames) t
places_case name b count least frames t h = let c = h.closing in places_if least frames b h.close h.left t c.0 c.1 c.2 h.closes h.is

no_comma : (b : bracket.Bracket) → closing b ≡ mark "," → ⊥
no_comma brackets.Index e = false≢true (ap (is_mark (codes ",")) e)
no_comma brackets.Call e = false≢true (ap (is_mark (codes ",")) e)

-- the first of two signs stands there, or the second
pub left_one : (all : List Lexical) (at : ℕ) (x y : Lexical) (P Q : List Lexical → Type 0) (t rest : List Lexical) → Past x P t ⊎ Past y Q t → Sees all at (t ++ rest) → (Next all at y → ⊥) → Past x P t
left_one all at x y P Q t rest (inl h) sees none = h
left_one all at x y P Q t rest (inr h) sees none = absurd (none (sees.token y (h.left ++ rest) (ap (λ xs. xs ++ rest) h.is)))

pub right_one : (all : List Lexical) (at : ℕ) (x y : Lexical) (P Q : List Lexical → Type 0) (t rest : List Lexical) → Past x P t ⊎ Past y Q t → Sees all at (t ++ rest) → (Next all at x → ⊥) → Past y Q t
right_one all at x y P Q t rest (inl h) sees none = absurd (none (sees.token x (h.left ++ rest) (ap (λ xs. xs ++ rest) h.is)))
right_one all at x y P Q t rest (inr h) sees none = h

-- a comma stands there, and a place behind it
pub place_on : (lexemes : List Lexeme) (old new : Partial) (name : List ℕ) (b : bracket.Bracket) (before count at next : ℕ) (r : Result turn.Turn Stop) → IfOk r (λ t. OpensPart old (frame.Places name b count) next new t) → next ≡ at + 1
    → Next (texts lexemes) at (mark ",") → IfOk r (λ t. GoesOut lexemes (frame.Places name b before) old at new t)
place_on lexemes old new name b before count at next r o n comma = answers_as r o (λ t k least some within.
    opens_wanted (texts lexemes) least at next (Shuts least (frame.Places name b before) old.frames) old new (frame.Places name b count) t k
    (leads_on
    (leads_here (λ u rest p e sees.
    let c = right_one (texts lexemes) at (closing b) (mark ",") (ClosesAll least old.frames 11) (WantsPlace b least old.frames) u rest (places_case name b before least old.frames u p) sees (λ m. no_comma b (one_token (texts lexemes) at (closing b) (mark ",") m comma)) in
    record { left = c.left; is = c.is; ends = c.ends name count }))
    (leads_past n)))

-- no comma stands there, so the places are closed
pub place_ended : (lexemes : List Lexeme) (name : List ℕ) (b c : bracket.Bracket) (before at next least : ℕ) (frames new : List Frame) → b ≡ c → new ≡ frames → next ≡ at + 1 → (Next (texts lexemes) at (mark ",") → ⊥)
    → Leads (texts lexemes) (Looser least) at (Shuts least (frame.Places name b before) frames) next (ClosesAll least new 11)
place_ended lexemes name b c before at next least frames new e same n none = subst (λ (fs : List Frame). Leads (texts lexemes) (Looser least) at (Shuts least (frame.Places name b before) frames) next (ClosesAll least fs 11)) (sym same)
    (leads_on
    (leads_here (λ u rest p e sees.
    left_one (texts lexemes) at (closing b) (mark ",") (ClosesAll least frames 11) (WantsPlace b least frames) u rest (places_case name b before least frames u p) sees none))
    (leads_past n))

-- neither stands there
pub place_never : (lexemes : List Lexeme) (old : Partial) (name : List ℕ) (b c : bracket.Bracket) (before at last : ℕ) → b ≡ c → (Next (texts lexemes) at (mark ",") → ⊥) → NoneNext (texts lexemes) at (λ x. x ≡ closing c) last → HaltsOut lexemes (frame.Places name b before) old at last
place_never lexemes old name b c before at last e none h least some within = never_here h.same (λ u rest p q sees.
    let k = left_one (texts lexemes) at (closing b) (mark ",") (ClosesAll least old.frames 11) (WantsPlace b least old.frames) u rest (places_case name b before least old.frames u p) sees none in
    h.none (closing b) (sees.token (closing b) (k.left ++ rest) (ap (λ xs. xs ++ rest) k.is)) (ap closing e))
