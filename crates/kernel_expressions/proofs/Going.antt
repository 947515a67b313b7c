-- What is left behind an operand, where operators are ended.
use Rattle.std.proofs.Common.{◌≡◌, ◌<◌, ◌≤◌, ◌+◌, ℕ, Bool, not, nat_lt, List, [], ◌∷◌, ◌++◌, inl, inr, ap, sym, refl, ◌∙◌, subst, arith, length, Result}
use Rattle.std.specs.Result.{IfOk, IfErr}
use Rattle.std.proofs.lemmas.Bool.{and_parts}
use Rattle.std.proofs.lemmas.Bool.Decides.{nat_tests}
use Rattle.kernel_grammar.specs.declared.step.Infix.{Infix}
use Rattle.kernel_grammar.specs.declared.step.Infix.TheVariants as infixed
use Rattle.kernel_grammar.specs.declared.step.Step.{Step}
use Rattle.kernel_grammar.specs.Lexicals.{Lexical, number}
use Rattle.kernel_expressions.specs.declared.frame.Frame.{Frame}
use Rattle.kernel_expressions.specs.declared.frame.Frame.TheVariants as frame
use Rattle.kernel_expressions.specs.declared.lexeme.Lexeme.{Lexeme}
use Rattle.kernel_expressions.specs.declared.partial.Partial.{Partial}
use Rattle.kernel_expressions.specs.declared.partial.Turn as turn
use Rattle.kernel_expressions.specs.declared.stop.Stop.{Stop}
use Rattle.kernel_expressions.specs.Levels.{level, first_level, IsInfix}
use Rattle.kernel_expressions.specs.Frames.{wanted_level}
use Rattle.kernel_expressions.specs.Turns.{OpensPart, shift_text}
use Rattle.kernel_expressions.specs.Ended.{Held, ended}
use Rattle.kernel_expressions.specs.Texts.{texts}
use Rattle.kernel_expressions.specs.Reads.{Next}
use Rattle.kernel_expressions.specs.Settled.{Halts, NoneNext, IsNoInfix, glues, level_at}
use Rattle.kernel_expressions.specs.Tails.{ClosesAll, IsWanted}
use Rattle.kernel_expressions.specs.Follows.{Looser, Leads, Past, PastSome, Shuts, Stopped, Goes, Halted, GoesOut, HaltsOut}
use Rattle.kernel_expressions.proofs.Closings.{level_is, Opens, ended_opens}
use Rattle.kernel_expressions.proofs.Endings.{ClosesHeld, ended_closes, Whole, ended_whole, Shifts, ended_shifts, shift_level}
use Rattle.kernel_expressions.proofs.Agreeing.{Sees, one_token, leads_on, leads_never, leads_here, leads_past, leads_some, never_some, answers_as, refused_as}
use Rattle.kernel_expressions.proofs.Shutting.{opens_wanted}

-- what is open when all operators are ended
pub stopped_held : (least operand made : ℕ) (frames mid : List Frame) (done steps : List Step) (t : List Lexical) → ended 1 frames done operand ≡ record { frames = mid; done = steps; level = made } → Stopped least frames operand t → ClosesHeld least mid t
stopped_held least operand made frames mid done steps t e h = subst (λ (held : Held). ClosesHeld least held.frames t) e (ended_closes least operand t frames done (record { operator = h.none }) h.closes).is

held_shuts : (least : ℕ) (mid left : List Frame) (f : Frame) (t : List Lexical) → mid ≡ f ∷ left → ClosesHeld least mid t → Shuts least f left t
held_shuts least mid left f t e h = let k = subst (λ (fs : List Frame). ClosesHeld least fs t) e h in record { close = k.1; left = k.2; closing = k.3; closes = k.4; is = k.5 }

-- a part is closed
stopped_shuts : (all : List Lexical) (least operand made at : ℕ) (frames mid left : List Frame) (f : Frame) (done steps : List Step) → ended 1 frames done operand ≡ record { frames = mid; done = steps; level = made } → mid ≡ f ∷ left
    → Leads all (Looser least) at (Stopped least frames operand) at (Shuts least f left)
stopped_shuts all least operand made at frames mid left f done steps e k = leads_here (λ t rest p q s. held_shuts least mid left f t k (stopped_held least operand made frames mid done steps t e p))

pub end_goes : (lexemes : List Lexeme) (old popped new : Partial) (f : Frame) (operand made at : ℕ) (mid : List Frame) (steps : List Step) (r : Result turn.Turn Stop) → IfOk r (λ t. GoesOut lexemes f popped at new t)
    → ended 1 old.frames old.steps.items operand ≡ record { frames = mid; done = steps; level = made } → mid ≡ f ∷ popped.frames → IfOk r (λ t. (least : ℕ) → Goes (texts lexemes) least at (Stopped least old.frames operand) new.frames t)
end_goes lexemes old popped new f operand made at mid steps r h e k = answers_as r h
    (λ t g least some within. leads_on (stopped_shuts (texts lexemes) least operand made at old.frames mid popped.frames f old.steps.items steps e k) (g least some within))

pub end_halts : (lexemes : List Lexeme) (old popped : Partial) (f : Frame) (operand made at : ℕ) (mid : List Frame) (steps : List Step) (r : Result turn.Turn Stop) → IfErr r (Halts (HaltsOut lexemes f popped at))
    → ended 1 old.frames old.steps.items operand ≡ record { frames = mid; done = steps; level = made } → mid ≡ f ∷ popped.frames → IfErr r (Halts (λ last. (least : ℕ) → Halted (texts lexemes) least at (Stopped least old.frames operand) last))
end_halts lexemes old popped f operand made at mid steps r h e k = refused_as r h
    (λ last g least some within. leads_never (stopped_shuts (texts lexemes) least operand made at old.frames mid popped.frames f old.steps.items steps e k) (g least some within))

-- nothing is open
pub end_left : (all : List Lexical) (least operand made at : ℕ) (frames mid : List Frame) (done steps : List Step) → ended 1 frames done operand ≡ record { frames = mid; done = steps; level = made } → mid ≡ []
    → Leads all (Looser least) at (Stopped least frames operand) at (λ t. t ≡ [])
end_left all least operand made at frames mid done steps e k = leads_here (λ t rest p q s. subst (λ (fs : List Frame). ClosesHeld least fs t) k (stopped_held least operand made frames mid done steps t e p))

-- what stands behind an expression of a level is looser
behind_level : (least : ℕ) (x : Lexical) (xs rest : List Lexical) → rest ≡ x ∷ xs → Looser least rest → level_at x < least
behind_level least x xs rest e h = let k = (and_parts (not (glues x)) (nat_lt (level_at x) least) (subst (Looser least) e h)).1 in grind (arith, nat_tests, k)

-- the first operand is at most one level tighter
first_next : (op : Infix) → first_level op ≤ level op + 1
first_next infixed.Or = omega arith
first_next infixed.And = omega arith
first_next (infixed.Compare relation) = omega arith
first_next infixed.NotEqual = omega arith
first_next infixed.BitOr = omega arith
first_next infixed.BitXor = omega arith
first_next infixed.BitAnd = omega arith
first_next infixed.Add = omega arith
first_next infixed.Subtract = omega arith
first_next infixed.Multiply = omega arith
first_next infixed.Divide = omega arith
first_next infixed.Remainder = omega arith
first_next (infixed.Extreme which) = omega arith

-- an operator stands there: it goes on, or no text is left
pub data AtInfix : (least : ℕ) → Infix → Lexical → (mid : List Frame) → (made : ℕ) → List Lexical → Type 0 where
  going : {least : ℕ} {op : Infix} {x : Lexical} {mid : List Frame} {made : ℕ} (left : List Lexical) → first_level op ≤ made → wanted_level least mid ≤ level op → IsWanted least (frame.Infix op ∷ mid) left → AtInfix least op x mid made (x ∷ left)
  past : {least : ℕ} {op : Infix} {x : Lexical} {mid : List Frame} {made : ℕ} → level op < least → mid ≡ [] → least ≤ made → AtInfix least op x mid made []

at_infix : (all : List Lexical) (least at operand made : ℕ) (op : Infix) (x : Lexical) (old mid : List Frame) (done steps : List Step) (t rest : List Lexical) → Next all at x → IsInfix op x
    → ended (first_level op) old done operand ≡ record { frames = mid; done = steps; level = made } → ClosesAll least old operand t → Looser least rest → Sees all at (t ++ rest) → AtInfix least op x mid made t
at_infix all least at operand made op x old mid done steps [] rest n is e p b s =
    let f = s.found x n in
    let l : level op < least = omega (arith, level_is op x is, behind_level least x f.0 rest f.1 b) in
    let w : Whole least operand (record { frames = mid; done = steps; level = made }) = subst (Whole least operand) e (ended_whole least (first_level op) operand old done (omega (arith, l, first_next op)) p) in
    past l w.none w.made
at_infix all least at operand made op x old mid done steps (y ∷ ys) rest n is e p b s =
    let same : y ≡ x = one_token all at y x (s.token y (ys ++ rest) refl) n in
    let o : Opens least op ys (record { frames = mid; done = steps; level = made }) = subst (Opens least op ys) e (ended_opens least operand op x ys old done is (subst (λ (z : Lexical). ClosesAll least old operand (z ∷ ys)) same p)) in
    subst (λ (z : Lexical). AtInfix least op x mid made (z ∷ ys)) (sym same) (going ys o.tight o.loose o.wanted)

infix_past : (least made : ℕ) (op : Infix) (x : Lexical) (mid : List Frame) (t : List Lexical) → wanted_level least mid ≤ level op → AtInfix least op x mid made t → Past x (IsWanted least (frame.Infix op ∷ mid)) t
infix_past least made op x mid _ h (going left tight loose w) = record { left = left; is = refl; ends = w }
infix_past least made op x mid _ h (past l e k) = let z : least ≤ level op = subst (λ (fs : List Frame). wanted_level least fs ≤ level op) e h in absurd (omega (arith, z, l))

infix_none : (least made : ℕ) (op : Infix) (x : Lexical) (mid : List Frame) (t : List Lexical) → (first_level op ≤ made → wanted_level least mid ≤ level op → ⊥) → AtInfix least op x mid made t → Stopped least mid made t
infix_none least made op x mid _ h (going left tight loose w) = absurd (h tight loose)
infix_none least made op x mid _ h (past l e k) = record { none = λ y ys z. absurd (cc); closes = subst (λ (fs : List Frame). ClosesAll least fs made []) (sym e) ([], k, refl) }

-- the operator goes on
pub infix_goes : (lexemes : List Lexeme) (least at next operand made : ℕ) (op : Infix) (old mid new : Partial) (steps : List Step) (r : Result turn.Turn Stop) → IfOk r (λ t. OpensPart mid (frame.Infix op) next new t) → next ≡ at + 1
    → ((x : Lexical) × Next (texts lexemes) at x × IsInfix op x) → ended (first_level op) old.frames old.steps.items operand ≡ record { frames = mid.frames; done = steps; level = made } → wanted_level least mid.frames ≤ level op
    → IfOk r (λ t. Goes (texts lexemes) least at (ClosesAll least old.frames operand) new.frames t)
infix_goes lexemes least at next operand made op old mid new steps r o n x e loose = answers_as r o (λ t k some within.
    opens_wanted (texts lexemes) least at next (ClosesAll least old.frames operand) mid new (frame.Infix op) t k
    (leads_on
    (leads_here (λ u rest p b s.
    infix_past least made op x.0 mid.frames u loose (at_infix (texts lexemes) least at operand made op x.0 old.frames mid.frames old.steps.items steps u rest x.1 x.2 e p b s)))
    (leads_past n)))

-- no operator goes on
pub infix_stopped : (all : List Lexical) (least at operand made : ℕ) (op : Infix) (old mid : List Frame) (done steps : List Step) → ((x : Lexical) × Next all at x × IsInfix op x) → ended (first_level op) old done operand ≡ record { frames = mid; done = steps; level = made }
    → (first_level op ≤ made → wanted_level least mid ≤ level op → ⊥) → Leads all (Looser least) at (ClosesAll least old operand) at (Stopped least mid made)
infix_stopped all least at operand made op old mid done steps x e none = leads_here (λ u rest p b s.
    infix_none least made op x.0 mid u none (at_infix all least at operand made op x.0 old mid done steps u rest x.1 x.2 e p b s))

-- what `end` answers behind them
pub from_stopped : (all : List Lexical) (least at operand made : ℕ) (old mid : List Frame) (new : Partial) (r : Result turn.Turn Stop) → Leads all (Looser least) at (ClosesAll least old operand) at (Stopped least mid made)
    → IfOk r (λ t. (l : ℕ) → Goes all l at (Stopped l mid made) new.frames t) → IfOk r (λ t. Goes all least at (ClosesAll least old operand) new.frames t)
from_stopped all least at operand made old mid new r h g = answers_as r g (λ t k some within. leads_on h (k least some within))

pub halts_stopped : (all : List Lexical) (least at operand made : ℕ) (old mid : List Frame) (r : Result turn.Turn Stop) → Leads all (Looser least) at (ClosesAll least old operand) at (Stopped least mid made)
    → IfErr r (Halts (λ last. (l : ℕ) → Halted all l at (Stopped l mid made) last)) → IfErr r (Halts (Halted all least at (ClosesAll least old operand)))
halts_stopped all least at operand made old mid r h g = refused_as r g (λ last k some within. leads_never h (k least some within))

-- a shift stands there: it goes on, or no text is left
pub data AtShift : (least : ℕ) → Bool → (mid : List Frame) → (made : ℕ) → List Lexical → Type 0 where
  shifting : {least : ℕ} {b : Bool} {mid : List Frame} {made : ℕ} (digits : List ℕ) (left : List Lexical) → 8 ≤ made → wanted_level least mid ≤ 8 → ClosesAll least mid 8 left → AtShift least b mid made (shift_text b ∷ number digits ∷ left)
  done : {least : ℕ} {b : Bool} {mid : List Frame} {made : ℕ} → 8 < least → mid ≡ [] → least ≤ made → AtShift least b mid made []

at_shift : (all : List Lexical) (least at operand made : ℕ) (b : Bool) (old mid : List Frame) (before steps : List Step) (t rest : List Lexical) → Next all at (shift_text b)
    → ended 8 old before operand ≡ record { frames = mid; done = steps; level = made } → ClosesAll least old operand t → Looser least rest → Sees all at (t ++ rest) → AtShift least b mid made t
at_shift all least at operand made b old mid before steps [] rest n e p q s =
    let f = s.found (shift_text b) n in
    let l : 8 < least = omega (arith, shift_level b, behind_level least (shift_text b) f.0 rest f.1 q) in
    let w : Whole least operand (record { frames = mid; done = steps; level = made }) = subst (Whole least operand) e (ended_whole least 8 operand old before (omega (arith, l)) p) in
    done l w.none w.made
at_shift all least at operand made b old mid before steps (y ∷ ys) rest n e p q s =
    let same : y ≡ shift_text b = one_token all at y (shift_text b) (s.token y (ys ++ rest) refl) n in
    let o : Shifts least ys (record { frames = mid; done = steps; level = made }) = subst (Shifts least ys) e (ended_shifts least operand b ys old before (subst (λ (z : Lexical). ClosesAll least old operand (z ∷ ys)) same p)) in
    subst (λ (z : Lexical). AtShift least b mid made (z ∷ ys)) (sym same) (subst (λ (zs : List Lexical). AtShift least b mid made (shift_text b ∷ zs)) (sym o.whole) (shifting o.digits o.left o.tight o.loose o.closes))

-- a number and what is left behind it
abbrev pub DigitsLeft : ℕ → List Frame → List Lexical → Type 0
DigitsLeft least mid = PastSome (λ x. (d : List ℕ) × (x ≡ number d)) (ClosesAll least mid 8)

shift_past : (least made : ℕ) (b : Bool) (mid : List Frame) (t : List Lexical) → wanted_level least mid ≤ 8 → AtShift least b mid made t → Past (shift_text b) (DigitsLeft least mid) t
shift_past least made b mid _ h (shifting digits left tight loose w) = record { left = number digits ∷ left; is = refl; ends = record { first = number digits; left = left; is = refl; sort = (digits, refl); ends = w } }
shift_past least made b mid _ h (done l e k) = let z : least ≤ 8 = subst (λ (fs : List Frame). wanted_level least fs ≤ 8) e h in absurd (omega (arith, z, l))

shift_none : (least made : ℕ) (b : Bool) (mid : List Frame) (t : List Lexical) → (8 ≤ made → wanted_level least mid ≤ 8 → ⊥) → AtShift least b mid made t → Stopped least mid made t
shift_none least made b mid _ h (shifting digits left tight loose w) = absurd (h tight loose)
shift_none least made b mid _ h (done l e k) = record { none = λ y ys z. absurd (cc); closes = subst (λ (fs : List Frame). ClosesAll least fs made []) (sym e) ([], k, refl) }

-- the shift goes on, so a number stands behind it
shift_number : (all : List Lexical) (least at next operand made : ℕ) (b : Bool) (old mid : List Frame) (before steps : List Step) → next ≡ at + 1 → Next all at (shift_text b) → ended 8 old before operand ≡ record { frames = mid; done = steps; level = made }
    → wanted_level least mid ≤ 8 → Leads all (Looser least) at (ClosesAll least old operand) next (DigitsLeft least mid)
shift_number all least at next operand made b old mid before steps m n e loose = leads_on
    (leads_here (λ u rest p q s. shift_past least made b mid u loose (at_shift all least at operand made b old mid before steps u rest n e p q s)))
    (leads_past m)

pub shift_goes : (all : List Lexical) (least at next operand made : ℕ) (b : Bool) (old mid new : List Frame) (before steps : List Step) → Next all at (shift_text b) → ended 8 old before operand ≡ record { frames = mid; done = steps; level = made }
    → wanted_level least mid ≤ 8 → new ≡ mid → next ≡ (at + 1) + 1 → Leads all (Looser least) at (ClosesAll least old operand) next (ClosesAll least new 8)
shift_goes all least at next operand made b old mid new before steps n e loose same m = subst (λ (fs : List Frame). Leads all (Looser least) at (ClosesAll least old operand) next (ClosesAll least fs 8)) (sym same)
    (leads_on (shift_number all least at (at + 1) operand made b old mid before steps refl n e loose)
    (leads_some m))

pub shift_halts : (all : List Lexical) (least at operand made last : ℕ) (b : Bool) (old mid : List Frame) (before steps : List Step) → Next all at (shift_text b) → ended 8 old before operand ≡ record { frames = mid; done = steps; level = made }
    → wanted_level least mid ≤ 8 → NoneNext all (at + 1) (λ x. (d : List ℕ) × (x ≡ number d)) last → Halted all least at (ClosesAll least old operand) last
shift_halts all least at operand made last b old mid before steps n e loose h some within = leads_never (shift_number all least at (at + 1) operand made b old mid before steps refl n e loose)
    (never_some h)

-- no shift goes on
pub shift_stopped : (all : List Lexical) (least at operand made : ℕ) (b : Bool) (old mid : List Frame) (before steps : List Step) → Next all at (shift_text b) → ended 8 old before operand ≡ record { frames = mid; done = steps; level = made }
    → (8 ≤ made → wanted_level least mid ≤ 8 → ⊥) → Leads all (Looser least) at (ClosesAll least old operand) at (Stopped least mid made)
shift_stopped all least at operand made b old mid before steps n e none = leads_here (λ u rest p q s.
    shift_none least made b mid u none (at_shift all least at operand made b old mid before steps u rest n e p q s))

-- no operator and no shift stands there
pub ended_there : {all : List Lexical} {least at operand : ℕ} {frames : List Frame} → length all ≤ at → Leads all (Looser least) at (ClosesAll least frames operand) at (Stopped least frames operand)
ended_there {all} {least} {at} {operand} {frames} h = leads_here (λ t rest p q s.
    record { none = λ y ys e. absurd (omega (arith, h, (s.token y (ys ++ rest) (ap (λ xs. xs ++ rest) e)).within)); closes = p })

none_of : (x : Lexical) → IsNoInfix x → ((b : Bool) → x ≡ shift_text b → ⊥) → level_at x ≡ 0
none_of x (inl e) h = e
none_of x (inr e) h = absurd (h e.0 e.1)

pub none_there : {all : List Lexical} {least at operand : ℕ} {frames : List Frame} {x : Lexical} → Next all at x → IsNoInfix x → ((b : Bool) → x ≡ shift_text b → ⊥) → Leads all (Looser least) at (ClosesAll least frames operand) at (Stopped least frames operand)
none_there {all} {least} {at} {operand} {frames} {x} n h k = leads_here (λ t rest p q s.
    record { none = λ y ys e. ap level_at (one_token all at y x (s.token y (ys ++ rest) (ap (λ xs. xs ++ rest) e)) n) ∙ none_of x h k; closes = p })
